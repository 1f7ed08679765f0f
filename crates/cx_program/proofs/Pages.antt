-- Room for bytes, by the pages of the first and the last.
use Rattle.std.proofs.Common.{◌≡◌, ℕ, suc, ◌+◌, ◌-◌, ◌/◌, ◌%◌, ◌^◌, ◌≤◌, ◌<◌, ◌==◌, ◌⊎◌, inl, inr, nat_lt, Bool, true, false, List, [], ◌∷◌, ◌++◌, length, take, min}
use Rattle.std.proofs.Common.{Some, refl, subst, ◌∙◌, arith, if◌then◌else◌}
use Rattle.std.proofs.lemmas.Bool.{cond_both, ltb-false, ltb-true}
use Rattle.std.proofs.lemmas.List.{length-take}
use Rattle.cx_exec.specs.Arithmetic.{wrapped}
use Rattle.cx_ram.specs.LittleEndian.{low_bytes}
use Rattle.cx_observe.specs.Possible.{Possible}
use Rattle.cx_observe.specs.Seeing.{bytes_on, bytes_shown, sights}
use Rattle.cx_observe.specs.declared.obs.Obs.{Obs}
use Rattle.cx_observe.specs.declared.obs.Seen.{Seen}
use Rattle.cx_observe.proofs.Given.{length-low_bytes}
use Rattle.cx_program.specs.Knowing.{HasRoom}
use Rattle.cx_shadow.specs.Cells.{AreHeld, is_held}
use Rattle.cx_shadow.specs.declared.shadow.Shadow.{Shadow}
use Rattle.cx_slices.specs.Bytes.{Byte, inserted, sorted}

-- There is room on the whole page of an address.
abbrev pub IsPageHeld : Shadow → ℕ → Type 0
IsPageHeld s va = (a : ℕ) → a / 4096 ≡ va / 4096 → is_held s a ≡ true

pub AreHeld-append : (s : Shadow) (es fs : List Byte) → AreHeld s es → AreHeld s fs → AreHeld s (es ++ fs)
AreHeld-append s [] fs held more = more
AreHeld-append s (e ∷ es) fs held more = (held.0, AreHeld-append s es fs held.1 more)

AreHeld-inserted : (s : Shadow) (e : Byte) (es : List Byte) → is_held s e.0 ≡ true → AreHeld s es
    → AreHeld s (inserted e es)
AreHeld-inserted s e [] is held = (is, tt)
AreHeld-inserted s e (f ∷ fs) is held =
    cond_both (nat_lt e.0 f.0) (e ∷ f ∷ fs) (if e.0 == f.0 then e ∷ fs else f ∷ inserted e fs) (AreHeld s)
    (λ less. (is, held))
    (λ not_less. cond_both (e.0 == f.0) (e ∷ fs) (f ∷ inserted e fs) (AreHeld s) (λ same. (is, held.1))
    (λ other. (held.0, AreHeld-inserted s e fs is held.1)))

pub AreHeld-sorted : (s : Shadow) (es : List Byte) → AreHeld s es → AreHeld s (sorted es)
AreHeld-sorted s [] held = tt
AreHeld-sorted s (e ∷ es) held = AreHeld-inserted s e (sorted es) held.0 (AreHeld-sorted s es held.1)

-- An address in between is on the page of the first, or of the last.
between : (va i n : ℕ) → va < 2 ^ 32 → i ≤ n → n < 4096
    → (wrapped (va + i) / 4096 ≡ va / 4096) ⊎ (wrapped (va + i) / 4096 ≡ wrapped (va + n) / 4096)
between va i n fits less few = by_test (nat_lt (va % 4096 + i) 4096) refl
  where
    by_test : (t : Bool) → nat_lt (va % 4096 + i) 4096 ≡ t
        → (wrapped (va + i) / 4096 ≡ va / 4096) ⊎ (wrapped (va + i) / 4096 ≡ wrapped (va + n) / 4096)
    by_test true is = let before : va % 4096 + i < 4096 = ltb-true (va % 4096 + i) 4096 is in
        inl (omega (arith, fits, before))
    by_test false is = let past : 4096 ≤ va % 4096 + i = ltb-false (va % 4096 + i) 4096 is in
        inr (omega (arith, fits, less, few, past))

one_held : (s : Shadow) (va i n : ℕ) → va < 2 ^ 32 → i ≤ n → n < 4096 → IsPageHeld s va
    → IsPageHeld s (wrapped (va + n)) → is_held s (wrapped (va + i)) ≡ true
one_held s va i n fits less few first last = elim (between va i n fits less few) [
  | inl is ↦ first (wrapped (va + i)) is
  | inr is ↦ last (wrapped (va + i)) is
]

pub AreHeld-on : (s : Shadow) (va i n : ℕ) (bs : List ℕ) → va < 2 ^ 32 → i + length bs ≤ suc n → n < 4096
    → IsPageHeld s va → IsPageHeld s (wrapped (va + n)) → AreHeld s (bytes_on (va + i) bs)
AreHeld-on s va i n [] fits within few first last = tt
AreHeld-on s va i n (b ∷ bs) fits within few first last = (
  one_held s va i n fits (omega (arith, within)) few first last,
  subst (λ (m : ℕ). AreHeld s (bytes_on m bs)) (next va i)
      (AreHeld-on s va (suc i) n bs fits (omega (arith, within)) few first last),
)
  where
    next : (v m : ℕ) → v + suc m ≡ v + m + 1
    next v m = omega arith

pub AreHeld-from : (s : Shadow) (va n : ℕ) (bs : List ℕ) → va < 2 ^ 32 → length bs ≤ suc n → n < 4096
    → IsPageHeld s va → IsPageHeld s (wrapped (va + n)) → AreHeld s (bytes_on va bs)
AreHeld-from s va n bs fits within few first last = subst (λ (m : ℕ). AreHeld s (bytes_on m bs)) (none va)
    (AreHeld-on s va 0 n bs fits (omega (arith, within)) few first last)
  where
    none : (v : ℕ) → v + 0 ≡ v
    none v = omega arith

-- the bytes of an access, of which there are at most as many as its length
pub AreHeld-access : (s : Shadow) (a : Seen) (last : ℕ) → last ≡ wrapped (a.va + (a.len - 1))
    → (a.va < 2 ^ 32) × (a.len < 2 ^ 8) → IsPageHeld s a.va → IsPageHeld s last → AreHeld s (bytes_shown (Some a))
AreHeld-access s a last is fits first held = AreHeld-from s a.va (a.len - 1) (take a.len a.bytes) fits.0
    (most a.len a.bytes) (omega (arith, fits.1)) first (subst (IsPageHeld s) is held)
  where
    most : (n : ℕ) (bs : List ℕ) → length (take n bs) ≤ suc (n - 1)
    most n bs = let size : length (take n bs) ≡ min n (length bs) = length-take n bs in omega (arith, size)

-- An instruction lies on one page.
one_page : (pc : ℕ) → pc < 2 ^ 32 → pc % 4 ≡ 0 → wrapped (pc + 3) / 4096 ≡ pc / 4096
one_page pc fits aligned = omega (arith, fits, aligned)

pub AreHeld-sights : (s : Shadow) (o : Obs) → Possible o → IsPageHeld s o.pc → AreHeld s (bytes_shown o.read)
    → AreHeld s (sights o)
unfolding sights
AreHeld-sights s o possible page read =
    let fits : o.pc < 2 ^ 32 = ltb-true o.pc (2 ^ 32) possible.pc in
    let size : length (low_bytes 4 o.word) ≡ 4 = length-low_bytes 4 o.word in
    AreHeld-append s (bytes_on o.pc (low_bytes 4 o.word)) (bytes_shown o.read)
    (AreHeld-from s o.pc 3 (low_bytes 4 o.word) fits (omega (arith, size)) (omega arith) page
    (λ a is. page a (is ∙ one_page o.pc fits possible.aligned))) read

pub has_room : (s : Shadow) (o : Obs) → Possible o → IsPageHeld s o.pc → AreHeld s (bytes_shown o.read)
    → AreHeld s (bytes_shown o.write) → HasRoom s o
has_room s o possible page read write = record {
  seen = AreHeld-sorted s (sights o) (AreHeld-sights s o possible page read);
  written = write;
}
