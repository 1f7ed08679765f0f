-- What an instruction retires with can be carried out and keeps the rules of the state, and a turn that ends early ends
-- in a cause of the hart.
use Rattle.std.proofs.Common.{◌≡◌, ℕ, zero, suc, ◌-◌, ◌*◌, ◌/◌, ◌%◌, ◌^◌, ◌<◌, ◌⊎◌, inl, inr, Bool, true, false, cond}
use Rattle.std.proofs.Common.{nat_eq, List, [], ◌∷◌, ◌++◌, length, replicate, Option, None, Some, Result, Ok, Err, IfOk}
use Rattle.std.proofs.Common.{IfSome, refl, subst, arith}
use Rattle.std.specs.Prelude.{slice_index}
use Rattle.std.specs.Option.{option_map}
use borrow.Author.Tests.{eqb-true}
use Rattle.cx_csr.specs.declared.state.State.{State}
use Rattle.cx_csr.specs.Keeps.{Keeps}
use Rattle.cx_csr.specs.Rules.{IsAligned, IsPlace}
use Rattle.cx_decode.specs.WellFormed.{WellFormed}
use Rattle.cx_decode.specs.declared.ins.Ins.{Ins}
use Rattle.cx_exec.specs.Values.{got_number}
use Rattle.cx_exec.specs.declared.asks.Access.{Access}
use Rattle.cx_exec.specs.declared.asks.Access.TheVariants as access
use Rattle.cx_exec.specs.declared.asks.Need.{Need}
use Rattle.cx_exec.specs.declared.effect.Effect.{Effect}
use Rattle.cx_exec.specs.declared.got.Got.TheVariants.{Bytes}
use Rattle.cx_walk.specs.declared.kind.Kind.TheVariants as kind
use Rattle.cx_walk.specs.declared.walk.Place.{Place}
use Rattle.cx_walk.specs.declared.walk.Place.TheVariants as place
use Rattle.cx_walk.specs.Walks.{IsFound}
use Rattle.cx_walk.proofs.Branches.{either}
use Rattle.cx_machine.specs.Machine.{pages_of}
use Rattle.cx_map.specs.Bytes.{AreBytes}
use Rattle.cx_hart.specs.Accesses.{access_done, accessed, bytes_of, first_place, first_write, outcome_at, outer_reading}
use Rattle.cx_hart.specs.Accesses.{reading_of, reservation_after, second_write, second_write_of}
use Rattle.cx_hart.specs.Effects.{instruction_effect}
use Rattle.cx_hart.specs.Ends.{End, answered, found, ◌>>=◌}
use Rattle.cx_hart.specs.Fetch.{place_or_trap, translated, walk_in}
use Rattle.cx_ram.specs.LittleEndian.{low_bytes}
use Rattle.cx_hart.specs.Phases.{Phase}
use Rattle.cx_hart.specs.Reaching.{is_naturally_aligned, is_split, kind_of, reached, reached_whole, target_at}
use Rattle.cx_hart.specs.Stretches.{IsOutside, IsPart, IsReady, IsRest, IsTarget, IsWritable}
use Rattle.cx_hart.specs.Surroundings.{Surroundings}
use Rattle.cx_hart.specs.Touches.{touch}
use Rattle.cx_hart.specs.declared.answer.Asked.{Asked}
use Rattle.cx_hart.specs.declared.answer.Asked.TheVariants as asked
use Rattle.cx_hart.specs.declared.findings.Control.{Control}
use Rattle.cx_hart.specs.declared.findings.Control.TheVariants as control
use Rattle.cx_hart.specs.declared.findings.Part.{Part}
use Rattle.cx_hart.specs.declared.findings.Reading.{Reading}
use Rattle.cx_hart.specs.declared.findings.Retired.{Retired}
use Rattle.cx_hart.specs.declared.findings.Target.{Target}
use Rattle.cx_hart.specs.declared.findings.Target.TheVariants.{Memory, Device}
use Rattle.cx_hart.proofs.Effects.{IsEffect}
use Rattle.cx_hart.proofs.Found.{reached_inside}
use Rattle.cx_hart.proofs.Needs.{IsNeed}
use Rattle.cx_hart.proofs.Ready.{effect_comes, joined_fits, narrow_fits}
use Rattle.cx_hart.proofs.Stops.{Comes, comes_bind, comes_of, reached_stops}
use Rattle.cx_hart.proofs.WalkFacts.{walk_in_found}

-- what is written to a control register has 32 bits
abbrev pub FitsControl : Control → Type 0
FitsControl control.Untouched = Unit {0}
FitsControl (control.Write number value) = value < 2 ^ 32
FitsControl control.Mret = Unit {0}
FitsControl control.Sret = Unit {0}

pub record IsKeepable (pages size : ℕ) (s : State) (r : Retired) : Type 0 where
  pub ready : IsReady size s r
  pub value : r.effect.value < 2 ^ 32
  pub pc : IsAligned r.effect.pc
  pub control : FitsControl r.control
  pub reservation : IfSome r.reservation (IsPlace pages)
  pub bytes : IfSome r.write (λ t. AreBytes t.bytes)
  pub more_bytes : IfSome r.write_more (λ t. AreBytes t.bytes)

abbrev pub FitsGiven : Option ℕ → Type 0
FitsGiven given = IfSome given (λ v. v < 2 ^ 32)

pub answered_comes : (given : Option ℕ) (what : Asked) → FitsGiven given → Comes (λ v. v < 2 ^ 32) (answered given what)
answered_comes None what fits = tt
answered_comes (Some v) what fits = fits

pub both_ok : {Y : Type 0} (P Q : Y → Type 0) (p : End Y) → IfOk p P → IfOk p Q → IfOk p (λ y. P y × Q y)
both_ok P Q (Ok y) one two = (one, two)
both_ok P Q (Err stop) one two = tt

-- ---- what is written

touch_writable : (size : ℕ) (part : Part) (value : ℕ) → IsPart size part → IsWritable size (touch part value)
unfolding touch
touch_writable size part value inside = record { ram = λ low. inside }

device_writable : (size : ℕ) (part : Part) (value : ℕ) → IsOutside part.pa part.len → IsWritable size (touch part value)
unfolding touch
device_writable size part value outside = record { ram = λ low. absurd (omega (arith, outside.below)) }

pub first_writable : (size : ℕ) (target : Target) (w : Option ℕ) → IsTarget size target
    → IfSome (option_map (first_write target) w) (IsWritable size)
first_writable size target None inside = tt
first_writable size (Memory first more) (Some v) inside = touch_writable size first v inside.0
first_writable size (Device part) (Some v) inside = device_writable size part v inside

rest_writable : (size : ℕ) (first : Part) (more : Option Part) (v : ℕ) → IfSome more (IsRest size first)
    → IfSome (second_write (Memory first more) v) (IsWritable size)
rest_writable size first None v rest = tt
rest_writable size first (Some part) v rest = touch_writable size part (v / 2 ^ (8 * first.len)) rest.inside

pub second_writable : (size : ℕ) (target : Target) (w : Option ℕ) → IsTarget size target
    → IfSome (second_write_of target w) (IsWritable size)
second_writable size target None inside = tt
second_writable size (Memory first more) (Some v) inside = rest_writable size first more v inside.1
second_writable size (Device part) (Some v) inside = tt

-- ---- its bytes

low_bytes_fit : (len value k : ℕ) → slice_index (low_bytes len value) k < 256
unfolding low_bytes
low_bytes_fit zero value k = omega arith
low_bytes_fit (suc len) value zero = omega arith
low_bytes_fit (suc len) value (suc k) = low_bytes_fit len (value / 256) k

zeros_fit : (n k : ℕ) → slice_index (replicate n 0) k < 256
zeros_fit zero k = omega arith
zeros_fit (suc n) zero = omega arith
zeros_fit (suc n) (suc k) = zeros_fit n k

joined_fit : (xs ys : List ℕ) → AreBytes xs → AreBytes ys → AreBytes (xs ++ ys)
joined_fit [] ys one two k = two k
joined_fit (x ∷ xs) ys one two zero = one 0
joined_fit (x ∷ xs) ys one two (suc k) = joined_fit xs ys (λ j. one (suc j)) two k

pub touch_bytes : (part : Part) (value : ℕ) → AreBytes (touch part value).bytes
unfolding touch
touch_bytes part value = joined_fit (low_bytes part.len value) (replicate (4 - length (low_bytes part.len value)) 0)
    (low_bytes_fit part.len value) (zeros_fit (4 - length (low_bytes part.len value)))

first_bytes : (target : Target) (w : Option ℕ) → IfSome (option_map (first_write target) w) (λ t. AreBytes t.bytes)
first_bytes target None = tt
first_bytes (Memory first more) (Some v) = touch_bytes first v
first_bytes (Device part) (Some v) = touch_bytes part v

rest_bytes : (first : Part) (more : Option Part) (v : ℕ)
    → IfSome (second_write (Memory first more) v) (λ t. AreBytes t.bytes)
rest_bytes first None v = tt
rest_bytes first (Some part) v = touch_bytes part (v / 2 ^ (8 * first.len))

second_bytes : (target : Target) (w : Option ℕ) → IfSome (second_write_of target w) (λ t. AreBytes t.bytes)
second_bytes target None = tt
second_bytes (Memory first more) (Some v) = rest_bytes first more v
second_bytes (Device part) (Some v) = tt

-- ---- an access

module _ (pages : ℕ) (here : Surroundings) (k : Keeps pages here.state) (bytes : AreBytes here.memory)
    (fits : FitsGiven here.given) where
  abbrev IsReading : Reading → Type 0
  IsReading reading = got_number reading.got < 2 ^ 32

  bytes_come : (target : Target) → IsTarget (length here.memory) target → Comes IsReading (bytes_of here target).end
  unfolding bytes_of
  bytes_come (Memory first None) inside = narrow_fits here.memory first bytes inside.0.length.1
  bytes_come (Memory first (Some more)) inside = joined_fits here.memory first more bytes inside.1.whole
  bytes_come (Device part) inside =
      comes_bind (λ v. v < 2 ^ 32) IsReading (answered here.given (asked.Device part.pa))
      (λ value. found (outer_reading (Bytes value) value)) (answered_comes here.given (asked.Device part.pa) fits)
      (λ v small. small)

  outcome_fits : (r : Option ℕ) (p : ℕ) → outcome_at r p < 2 ^ 32
  outcome_fits None p = omega arith
  outcome_fits (Some word) p = by (nat_eq word p)
    where
      by : (b : Bool) → cond b 0 1 < 2 ^ 32
      by true = omega arith
      by false = omega arith

  reading_comes : (a : Access) (target : Target) → IsTarget (length here.memory) target
      → Comes IsReading (reading_of here a target).end
  unfolding reading_of
  reading_comes access.Load target inside = bytes_come target inside
  reading_comes access.Reserve target inside = bytes_come target inside
  reading_comes access.Amo target inside = bytes_come target inside
  reading_comes access.Store target inside = omega arith
  reading_comes access.Conditional target inside = outcome_fits here.state.reservation (first_place target)

  -- an LR reserves a word of RAM
  abbrev Reserves : Access → Target → Type 0
  Reserves a target = a ≡ access.Reserve → IsPlace (pages_of here.memory) (first_place target)

  reserve_at : (n : Need) (r : Result Place ℕ) → n.access ≡ access.Reserve → n.len ≡ 4
      → IfOk r (IsFound (pages_of here.memory) (kind_of n.access) n.len)
      → IfOk (place_or_trap n.va r >>= λ place. found (target_at n place)) (λ target. IsPlace (pages_of here.memory)
      (first_place target))
  reserve_at n (Err cause) is four found = tt
  reserve_at n (Ok (place.Ram pa)) is four found =
      record {
        inside = record { low = found.inside.low; high = omega (arith, found.inside.high, four) };
        multiple =
            subst (λ len. pa % len ≡ 0) four found.aligned;
      }
  reserve_at n (Ok (place.Device pa)) is four found =
      let plain = subst (λ a. (kind_of a ≡ kind.Load) ⊎ (kind_of a ≡ kind.Store)) is found.plain in
      elim plain [ inl e ↦ absurd cc | inr e ↦ absurd cc ]

  reserve_whole : (n : Need) → n.access ≡ access.Reserve → n.len ≡ 4 → n.va % n.len ≡ 0
      → IfOk (reached_whole here n).end (λ target. IsPlace (pages_of here.memory) (first_place target))
  unfolding reached_whole translated
  reserve_whole n is four aligned =
      reserve_at n (walk_in here (kind_of n.access) n.va n.len).answer is four (walk_in_found here (kind_of n.access)
      n.va n.len (inr (inr four)) aligned)

  reserve_reached : (n : Need) → n.access ≡ access.Reserve → n.len ≡ 4
      → IfOk (reached here n).end (λ target. IsPlace (pages_of here.memory) (first_place target))
  unfolding reached
  reserve_reached n is four =
      let P : Phase Target → Type 0 = λ p. IfOk p.end (λ target. IsPlace (pages_of here.memory) (first_place target)) in
      let whole : is_split here.split n ≡ false = never here.split n is in
      either P (is_naturally_aligned n) _ _ (λ aligned. reserve_whole n is four (eqb-true _ _ aligned))
      (λ apart. either P (is_split here.split n) _ _ (λ parts. absurd cc) (λ traps. tt))
    where
      never : (split : Bool) (n : Need) → n.access ≡ access.Reserve → is_split split n ≡ false
      never false n is = refl
      never true n is = rw is refl

  reserves_of : (n : Need) (p : End Target)
      → (n.access ≡ access.Reserve → IfOk p (λ target. IsPlace (pages_of here.memory) (first_place target)))
      → IfOk p (λ target. Reserves n.access target)
  reserves_of n (Ok target) all = all
  reserves_of n (Err stop) all = tt

  reservation_keeps : (a : Access) (target : Target) → pages_of here.memory ≡ pages → Reserves a target
      → IfSome (reservation_after a target here.state.reservation) (IsPlace pages)
  reservation_keeps access.Reserve target e reserves = subst (λ n. IsPlace n (first_place target)) e (reserves refl)
  reservation_keeps access.Conditional target e reserves = tt
  reservation_keeps access.Load target e reserves = k.reservation
  reservation_keeps access.Store target e reserves = k.reservation
  reservation_keeps access.Amo target e reserves = k.reservation

  access_keepable : (a : Access) (target : Target) (reading : Reading) (e : Effect) → pages_of here.memory ≡ pages
      → IsTarget (length here.memory) target → Reserves a target → IsEffect e
      → IsKeepable pages (length here.memory) here.state (access_done here.state a target reading e)
  access_keepable a target reading e same inside reserves effect = record {
    ready = record {
      register = effect.rd;
      control = tt;
      write = first_writable (length here.memory) target e.write
          inside;
      write_more = second_writable (length here.memory) target e.write inside;
    };
    value = effect.value;
    pc = effect.pc;
    control = tt;
    reservation = reservation_keeps a target same reserves;
    bytes = first_bytes target e.write;
    more_bytes = second_bytes target e.write;
  }

  pub accessed_comes : (i : Ins) (n : Need) → pages_of here.memory ≡ pages → WellFormed i → IsNeed n
      → Comes (IsKeepable pages (length here.memory) here.state) (accessed here i n).end
  unfolding accessed
  accessed_comes i n same formed need =
      comes_bind (λ target. IsTarget (length here.memory) target × Reserves n.access target)
      (IsKeepable pages (length here.memory) here.state) (reached here n).end _
      (comes_of _ (reached here n).end
      (both_ok (IsTarget (length here.memory)) (Reserves n.access) (reached here n).end
      (reached_inside here n need.length)
      (reserves_of n (reached here n).end (λ is. reserve_reached n is (need.reserve is))))
      (reached_stops here n need.address))
      (λ target inside. comes_bind IsReading (IsKeepable pages (length here.memory) here.state)
      (reading_of here n.access target).end _ (reading_comes n.access target inside.0)
      (λ reading small. comes_bind IsEffect (IsKeepable pages (length here.memory) here.state)
      (instruction_effect here.state i reading.got) _ (effect_comes pages here.state i reading.got k formed small)
      (λ e effect. access_keepable n.access target reading e same inside.0 inside.1 effect)))
