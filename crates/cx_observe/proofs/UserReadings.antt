-- What an access in user mode reads and writes.
use Rattle.std.proofs.Common.{◌≡◌, ℕ, suc, ◌+◌, ◌*◌, ◌/◌, ◌^◌, ◌<◌, ◌≤◌, List, [], ◌∷◌, ◌++◌}
use Rattle.std.proofs.Common.{length, Option, None, Some, Ok, refl, sym, ap, ap₂, subst, ◌∙◌, arith, option_map}
use Rattle.std.specs.Option.{option_or}
use Rattle.cx_exec.specs.Arithmetic.{wrapped}
use Rattle.cx_exec.specs.declared.asks.Need.{Need}
use Rattle.cx_exec.specs.declared.got.Got.TheVariants.{Bytes}
use Rattle.cx_hart.specs.Accesses.{bytes_of, first_write, inner_reading, joined, outer_reading, second_write_of}
use Rattle.cx_hart.specs.Ends.{answered}
use Rattle.cx_hart.specs.Looks.{First, Look, Rest}
use Rattle.cx_hart.specs.Phases.{sees, unseen, ◌>>=◌}
use Rattle.cx_hart.specs.Surroundings.{Surroundings}
use Rattle.cx_hart.specs.Touches.{part_value, touch}
use Rattle.cx_hart.specs.declared.answer.Asked.TheVariants as asked
use Rattle.cx_hart.specs.declared.findings.Part.{Part}
use Rattle.cx_hart.specs.declared.findings.Reading.{Reading}
use Rattle.cx_hart.specs.declared.findings.Target.{Target}
use Rattle.cx_hart.specs.declared.findings.Target.TheVariants.{Memory, Device}
use Rattle.cx_hart.proofs.Keepable.{FitsGiven}
use Rattle.cx_hart.proofs.Telling.{first_after, rest_after}
use Rattle.cx_map.specs.Bytes.{AreBytes}
use Rattle.cx_ram.specs.LittleEndian.{low_bytes}
use Rattle.cx_slices.specs.Bytes.{Byte, Map, Shows, byte_found}
use Rattle.cx_slices.proofs.Bytes.{Shows-from}
use Rattle.cx_observe.specs.Asked.{stored_at}
use Rattle.cx_observe.specs.Observation.{access_seen}
use Rattle.cx_observe.specs.Seeing.{bytes_on, seen_with}
use Rattle.cx_observe.proofs.Given.{length-low_bytes}
use Rattle.cx_observe.proofs.Sights.{Shows-append}
use Rattle.cx_observe.proofs.UserBytes.{BytesRise-bytes_on, bytes_on-append, bytes_on-wrapped, joined_fits, low_bytes-divided, low_bytes-joined, one_seen, part_shows, two_seen, value_fits}
use Rattle.cx_observe.proofs.UserPlaces.{at_place, not_Ok, place_in_page, ram_not_there, same_Ok, user_ram}
use Rattle.cx_observe.proofs.UserTargets.{AreUserParts, IsUserDevice, IsUserTarget, IsUserWhole}

-- ---- what user mode sees: RAM, and elsewhere the word of a device

abbrev pub user_sees : List ℕ → ℕ → List Byte → Map
user_sees memory satp device a = option_or (user_ram memory satp a) (byte_found device a)

pub ram_first : (memory : List ℕ) (satp : ℕ) (device : List Byte) (a b : ℕ) → user_ram memory satp a ≡ Some b
    → user_sees memory satp device a ≡ Some b
ram_first memory satp device a b is = ap (λ (o : Option ℕ). option_or o (byte_found device a)) is

-- What was read: a number, and its bytes, which a map has together with RAM.
pub record HasRead (memory : List ℕ) (satp : ℕ) (n : Need) (reading : Reading) (looks : List Look) : Type 0 where
  pub value : ℕ
  pub got : reading.got ≡ Bytes value
  pub fits : value < 2 ^ (8 * n.len)
  pub seen : access_seen (first_after looks None) (rest_after looks None)
      ≡ Some (seen_with n.va (low_bytes n.len value))
  pub device : List Byte
  pub shows : Shows (user_sees memory satp device) (bytes_on n.va (low_bytes n.len value))

-- ---- a part of RAM, or two

reads_one : (memory : List ℕ) (satp : ℕ) (n : Need) (first : Part) → AreBytes memory → IsUserWhole memory satp n first
    → HasRead memory satp n (inner_reading (Bytes (part_value memory first)))
    (First (touch first (part_value memory first)) ∷ [])
reads_one memory satp n first fit whole = record {
  value = part_value memory first;
  got = refl;
  fits = subst (λ (l : ℕ). part_value memory first < 2 ^ (8 * l)) whole.len (value_fits memory first fit);
  seen = one_seen first (part_value memory first)
      ∙ ap₂ (λ (a l : ℕ). Some (seen_with a (low_bytes l (part_value memory first)))) whole.va whole.len;
  device = [];
  shows = subst (λ (l : ℕ). Shows (user_sees memory satp []) (bytes_on n.va (low_bytes l (part_value memory first))))
      whole.len
      (subst (λ (a : ℕ). Shows (user_sees memory satp []) (bytes_on a (low_bytes first.len (part_value memory first))))
      whole.va
      (part_shows memory satp (user_sees memory satp []) first fit (ram_first memory satp []) whole.part));
}

both_bytes : (memory : List ℕ) (first more : Part) → AreBytes memory
    → low_bytes first.len (part_value memory first) ++ low_bytes more.len (part_value memory more)
    ≡ low_bytes (first.len + more.len) (joined first (part_value memory first) (part_value memory more))
both_bytes memory first more fit = low_bytes-joined first.len more.len (part_value memory first)
    (part_value memory more) (value_fits memory first fit)

both_show : (memory : List ℕ) (satp : ℕ) (n : Need) (first more : Part) → AreBytes memory
    → AreUserParts memory satp n first more
    → Shows (user_sees memory satp [])
    (bytes_on first.va (low_bytes first.len (part_value memory first)
    ++ low_bytes more.len (part_value memory more)))
both_show memory satp n first more fit parts =
    let size : length (low_bytes first.len (part_value memory first)) ≡ first.len
    = length-low_bytes first.len (part_value memory first) in
    let next : wrapped more.va
    ≡ wrapped (first.va + length (low_bytes first.len (part_value memory first)))
    = parts.next ∙ ap (λ (l : ℕ). wrapped (first.va + l)) (sym size) in
    subst (Shows (user_sees memory satp []))
    (sym (bytes_on-append first.va (low_bytes first.len (part_value memory first))
    (low_bytes more.len (part_value memory more))))
    (Shows-append (user_sees memory satp [])
    (bytes_on first.va (low_bytes first.len (part_value memory first)))
    (bytes_on (first.va + length (low_bytes first.len (part_value memory first)))
    (low_bytes more.len (part_value memory more)))
    (part_shows memory satp (user_sees memory satp []) first fit (ram_first memory satp []) parts.first_part)
    (subst (Shows (user_sees memory satp []))
    (bytes_on-wrapped more.va (first.va + length (low_bytes first.len (part_value memory first)))
    (low_bytes more.len (part_value memory more)) next)
    (part_shows memory satp (user_sees memory satp []) more fit (ram_first memory satp []) parts.more_part)))

reads_two : (memory : List ℕ) (satp : ℕ) (n : Need) (first more : Part) → AreBytes memory
    → AreUserParts memory satp n first more
    → HasRead memory satp n (inner_reading (Bytes (joined first (part_value memory first) (part_value memory more))))
    (First (touch first (part_value memory first)) ∷ Rest (touch more (part_value memory more)) ∷ [])
reads_two memory satp n first more fit parts =
    let bytes : low_bytes first.len (part_value memory first) ++ low_bytes more.len (part_value memory more)
    ≡ low_bytes n.len (joined first (part_value memory first) (part_value memory more))
    = both_bytes memory first more fit
    ∙ ap (λ (l : ℕ). low_bytes l (joined first (part_value memory first) (part_value memory more))) parts.len in
    record {
      value = joined first (part_value memory first) (part_value memory more);
      got = refl;
      fits = subst (λ (l : ℕ). joined first (part_value memory first) (part_value memory more) < 2 ^ (8 * l)) parts.len
          (joined_fits first.len more.len (part_value memory first) (part_value memory more)
          (value_fits memory first fit) (value_fits memory more fit));
      seen = two_seen first more (part_value memory first) (part_value memory more)
          ∙ ap₂ (λ (a : ℕ) bs. Some (seen_with a bs)) parts.va bytes;
      device = [];
      shows = subst (λ bs. Shows (user_sees memory satp []) (bytes_on n.va bs)) bytes
          (subst (λ (a : ℕ). Shows (user_sees memory satp [])
          (bytes_on a (low_bytes first.len (part_value memory first)
          ++ low_bytes more.len (part_value memory more))))
          parts.va (both_show memory satp n first more fit parts));
    }

-- ---- a word of a device, where there is no RAM

no_ram : (memory : List ℕ) (satp : ℕ) (n : Need) (part : Part) (j : ℕ) → IsUserDevice memory satp n part → j < 4
    → user_ram memory satp (wrapped (part.va + j)) ≡ None
no_ram memory satp n part j is inside =
    ap (at_place memory) (place_in_page memory satp part.va part.pa j is.small
    (omega (arith, is.aligned)) is.place)
    ∙ ram_not_there memory (part.pa + j) (omega (arith, is.offset, is.below))

device_shows : (memory : List ℕ) (satp : ℕ) (device : List Byte) (va : ℕ) (bs : List ℕ)
    → ((j : ℕ) → j < length bs → user_ram memory satp (wrapped (va + j)) ≡ None)
    → Shows (byte_found device) (bytes_on va bs) → Shows (user_sees memory satp device) (bytes_on va bs)
device_shows memory satp device va [] none shows = tt
device_shows memory satp device va (b ∷ bs) none shows = (
  ap (λ (o : Option ℕ). option_or o (byte_found device (wrapped va)))
      (ap (λ (a : ℕ). user_ram memory satp (wrapped a)) (from_zero va) ∙ none 0 (omega arith))
      ∙ shows.0,
  device_shows memory satp device (va + 1) bs
      (λ j inside. ap (λ (a : ℕ). user_ram memory satp (wrapped a)) (one_more va j) ∙ none (suc j) (omega arith))
      shows.1,
)
  where
    from_zero : (a : ℕ) → a ≡ a + 0
    from_zero a = omega arith

    one_more : (a j : ℕ) → a + 1 + j ≡ a + suc j
    one_more a j = omega arith

itself : (va : ℕ) (bs : List ℕ) → va + length bs ≤ 2 ^ 32 → Shows (byte_found (bytes_on va bs)) (bytes_on va bs)
itself va bs fits = Shows-from (byte_found (bytes_on va bs)) va (bytes_on va bs) (BytesRise-bytes_on va bs fits)
    (λ a b found. found)

reads_device : (memory : List ℕ) (satp : ℕ) (n : Need) (part : Part) (v : ℕ) → v < 2 ^ 32
    → IsUserDevice memory satp n part
    → HasRead memory satp n (outer_reading (Bytes v) v) (First (touch part v) ∷ [])
reads_device memory satp n part v fits is =
    let size : length (low_bytes 4 v) ≡ 4 = length-low_bytes 4 v in
    record {
      value = v;
      got = refl;
      fits = subst (λ (l : ℕ). v < 2 ^ (8 * l)) (sym is.size) fits;
      seen = one_seen part v
          ∙ ap₂ (λ (a l : ℕ). Some (seen_with a (low_bytes l v))) is.va (is.len ∙ sym is.size);
      device = bytes_on part.va (low_bytes 4 v);
      shows = subst (λ (l : ℕ). Shows (user_sees memory satp (bytes_on part.va (low_bytes 4 v)))
          (bytes_on n.va (low_bytes l v))) (sym is.size)
          (subst (λ (a : ℕ). Shows (user_sees memory satp (bytes_on part.va (low_bytes 4 v)))
          (bytes_on a (low_bytes 4 v))) is.va
          (device_shows memory satp (bytes_on part.va (low_bytes 4 v)) part.va (low_bytes 4 v)
          (λ j inside. no_ram memory satp n part j is (omega (arith, size)))
          (itself part.va (low_bytes 4 v) (omega (arith, is.small, is.aligned, size)))));
    }

-- ---- any target

device_by : (memory : List ℕ) (satp : ℕ) (n : Need) (part : Part) (given : Option ℕ) (reading : Reading)
    → FitsGiven given → IsUserDevice memory satp n part
    → (unseen (answered given (asked.Device part.pa)) >>= λ value. sees (First (touch part value))
    (outer_reading (Bytes value) value)).end ≡ Ok reading
    → HasRead memory satp n reading
    (unseen (answered given (asked.Device part.pa)) >>= λ value. sees (First (touch part value))
    (outer_reading (Bytes value) value)).looks
device_by memory satp n part None reading fits is went = not_Ok _ reading went
device_by memory satp n part (Some v) reading fits is went = subst
    (λ r. HasRead memory satp n r (First (touch part v) ∷ []))
    (same_Ok (outer_reading (Bytes v) v) reading went) (reads_device memory satp n part v fits is)

pub has_read : (here : Surroundings) (satp : ℕ) (n : Need) (target : Target) (reading : Reading)
    → AreBytes here.memory → FitsGiven here.given → IsUserTarget here.memory satp n target
    → (bytes_of here target).end ≡ Ok reading
    → HasRead here.memory satp n reading (bytes_of here target).looks
unfolding bytes_of
has_read here satp n (Memory first None) reading fit fits is went = subst
    (λ r. HasRead here.memory satp n r (First (touch first (part_value here.memory first)) ∷ []))
    (same_Ok (inner_reading (Bytes (part_value here.memory first))) reading went)
    (reads_one here.memory satp n first fit is)
has_read here satp n (Memory first (Some more)) reading fit fits is went = subst
    (λ r. HasRead here.memory satp n r (First (touch first (part_value here.memory first))
    ∷ Rest (touch more (part_value here.memory more)) ∷ []))
    (same_Ok (inner_reading (Bytes (joined first (part_value here.memory first) (part_value here.memory more)))) reading
    went)
    (reads_two here.memory satp n first more fit is)
has_read here satp n (Device part) reading fit fits is went =
    device_by here.memory satp n part here.given reading fits is went

-- ---- what is written

pub has_written : (memory : List ℕ) (satp : ℕ) (n : Need) (target : Target) (w : Option ℕ)
    → IsUserTarget memory satp n target
    → access_seen (option_map (first_write target) w) (second_write_of target w)
    ≡ stored_at (Some (record { va = n.va; len = n.len })) w
has_written memory satp n target None is = refl
has_written memory satp n (Memory first None) (Some v) is = one_seen first v
    ∙ ap₂ (λ (a l : ℕ). Some (seen_with a (low_bytes l v))) is.va is.len
has_written memory satp n (Memory first (Some more)) (Some v) is =
    two_seen first more v (v / 2 ^ (8 * first.len))
    ∙ ap₂ (λ (a : ℕ) bs. Some (seen_with a bs)) is.va
    (low_bytes-divided first.len more.len v ∙ ap (λ (l : ℕ). low_bytes l v) is.len)
has_written memory satp n (Device part) (Some v) is = one_seen part v
    ∙ ap₂ (λ (a l : ℕ). Some (seen_with a (low_bytes l v))) is.va (is.len ∙ sym is.size)
