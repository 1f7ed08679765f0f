-- A step that ends early ends in a cause that the hart has, and tells a word.
use Rattle.std.proofs.Common.{◌≡◌, ℕ, ◌+◌, ◌-◌, ◌^◌, ◌<◌, inl, inr, Option, Some, Result, Ok, Err, IfOk, IfErr, IsTrue}
use Rattle.std.proofs.Common.{refl}
use Rattle.std.proofs.Common.{sym, subst, arith}
use Rattle.cx_exec.specs.declared.asks.Access.{Access}
use Rattle.cx_exec.specs.declared.asks.Access.TheVariants as access
use Rattle.cx_exec.specs.declared.asks.Need.{Need}
use Rattle.cx_trap.specs.Causes.{is_cause}
use Rattle.cx_walk.specs.Kinds.{IsFault}
use Rattle.cx_walk.specs.Walks.{address_of}
use Rattle.cx_walk.specs.declared.kind.Kind.{Kind}
use Rattle.cx_walk.specs.declared.kind.Kind.TheVariants as kind
use Rattle.cx_walk.specs.declared.walk.Place.{Place}
use Rattle.cx_walk.proofs.Branches.{either}
use Rattle.cx_hart.specs.Conclude.{IsCause}
use Rattle.cx_hart.specs.Ends.{End, found, ◌>>=◌}
use Rattle.cx_hart.specs.Fetch.{place_or_trap, translated, walk_in}
use Rattle.cx_hart.specs.Phases.{Phase}
use Rattle.cx_hart.specs.Reaching.{first_length, goes_on, is_naturally_aligned, is_split, kind_of, misaligned_cause}
use Rattle.cx_hart.specs.Reaching.{reached, reached_part, reached_rest, reached_split, reached_whole, second_address}
use Rattle.cx_hart.specs.Reaching.{target_at}
use Rattle.cx_hart.specs.Surroundings.{Surroundings}
use Rattle.cx_hart.specs.declared.findings.Part.{Part}
use Rattle.cx_hart.specs.declared.findings.Stop.{Stop}
use Rattle.cx_hart.specs.declared.findings.Stop.TheVariants.{Asks, Interrupt, Trap}
use Rattle.cx_hart.specs.declared.findings.Target.{Target}
use Rattle.cx_hart.specs.declared.findings.Target.TheVariants.{Memory}
use Rattle.cx_hart.proofs.WalkFacts.{walk_in_faults}

abbrev pub IsStop : Stop → Type 0
IsStop (Asks what) = Unit {0}
IsStop (Interrupt number) = IsTrue (is_cause (number + 2 ^ 31))
IsStop (Trap cause tval) = IsTrue (is_cause cause) × (tval < 2 ^ 32)

pub stop_cause : (stop : Stop) → IsStop stop → IsCause stop
stop_cause (Asks what) is = tt
stop_cause (Interrupt number) is = is
stop_cause (Trap cause tval) is = is.0

-- what holds of what a phase finds, and of where it ends
abbrev pub Comes : {Y : Type 0} → (Y → Type 0) → End Y → Type 0
Comes P (Ok y) = P y
Comes P (Err stop) = IsStop stop

pub comes_of : {Y : Type 0} (P : Y → Type 0) (p : End Y) → IfOk p P → IfErr p IsStop → Comes P p
comes_of P (Ok y) good stops = good
comes_of P (Err stop) good stops = stops

pub comes_bind : {Y Z : Type 0} (P : Y → Type 0) (Q : Z → Type 0) (p : End Y) (next : Y → End Z) → Comes P p
    → ((y : Y) → P y → Comes Q (next y)) → Comes Q (p >>= next)
comes_bind P Q (Ok y) next one rest = rest y one
comes_bind P Q (Err stop) next one rest = one

pub stops_bind : {Y Z : Type 0} (p : End Y) (next : Y → End Z) → IfErr p IsStop → ((y : Y) → IfErr (next y) IsStop)
    → IfErr (p >>= next) IsStop
stops_bind (Ok y) next one rest = rest y
stops_bind (Err stop) next one rest = one

-- ---- faults

fault_is_cause : (k : Kind) (cause : ℕ) → IsFault k cause → IsTrue (is_cause cause)
fault_is_cause kind.Fetch cause (inl e) = subst (λ n. IsTrue (is_cause n)) (sym e) refl
fault_is_cause kind.Fetch cause (inr e) = subst (λ n. IsTrue (is_cause n)) (sym e) refl
fault_is_cause kind.Load cause (inl e) = subst (λ n. IsTrue (is_cause n)) (sym e) refl
fault_is_cause kind.Load cause (inr e) = subst (λ n. IsTrue (is_cause n)) (sym e) refl
fault_is_cause kind.Store cause (inl e) = subst (λ n. IsTrue (is_cause n)) (sym e) refl
fault_is_cause kind.Store cause (inr e) = subst (λ n. IsTrue (is_cause n)) (sym e) refl
fault_is_cause kind.Reserve cause (inl e) = subst (λ n. IsTrue (is_cause n)) (sym e) refl
fault_is_cause kind.Reserve cause (inr e) = subst (λ n. IsTrue (is_cause n)) (sym e) refl
fault_is_cause kind.Atomic cause (inl e) = subst (λ n. IsTrue (is_cause n)) (sym e) refl
fault_is_cause kind.Atomic cause (inr e) = subst (λ n. IsTrue (is_cause n)) (sym e) refl

misaligned_is_cause : (a : Access) → IsTrue (is_cause (misaligned_cause a))
misaligned_is_cause access.Load = refl
misaligned_is_cause access.Store = refl
misaligned_is_cause access.Reserve = refl
misaligned_is_cause access.Conditional = refl
misaligned_is_cause access.Amo = refl

place_stops : (k : Kind) (va : ℕ) (r : Result Place ℕ) → va < 2 ^ 32 → IfErr r (IsFault k)
    → IfErr (place_or_trap va r) IsStop
place_stops k va (Ok place) small fault = tt
place_stops k va (Err cause) small fault = (fault_is_cause k cause fault, small)

-- ---- phases

module _ (here : Surroundings) where
  pub translated_stops : (k : Kind) (va len : ℕ) → va < 2 ^ 32 → IfErr (translated here k va len).end IsStop
  unfolding translated
  translated_stops k va len small = place_stops k va (walk_in here k va len).answer small (walk_in_faults here k va len)

  pub translated_cause : (k : Kind) (va len : ℕ) (stop : Stop) → va < 2 ^ 32
      → Err stop ≡ (translated here k va len).end → IsCause stop
  translated_cause k va len stop small e =
      stop_cause stop (subst (λ p. IfErr p IsStop) (sym e) (translated_stops k va len small))

  module _ (n : Need) (small : n.va < 2 ^ 32) where
    whole_stops : IfErr (reached_whole here n).end IsStop
    unfolding reached_whole
    whole_stops = stops_bind (translated here (kind_of n.access) n.va n.len).end (λ place. found (target_at n place))
        (translated_stops (kind_of n.access) n.va n.len small) (λ place. tt)

    part_stops : (va len : ℕ) → va < 2 ^ 32 → IfErr (reached_part here n va len).end IsStop
    part_stops va len low =
        stops_bind (translated here (kind_of n.access) va 1).end
        (λ place. found (record { va = va; pa = address_of place; len = len })) (translated_stops (kind_of n.access)
        va 1 low) (λ place. tt)

    rest_stops : IfErr (reached_rest here n).end IsStop
    rest_stops =
        let P : Phase (Option Part) → Type 0 = λ p. IfErr p.end IsStop in
        either P (goes_on n) _ _
        (λ on. stops_bind (reached_part here n (second_address n) (n.len - first_length n)).end
        (λ part. found (Some part)) (part_stops (second_address n) (n.len - first_length n) (omega arith))
        (λ part. tt))
        (λ ends. tt)

    split_stops : IfErr (reached_split here n).end IsStop
    unfolding reached_split
    split_stops =
        stops_bind (reached_part here n n.va (first_length n)).end (λ first. (reached_rest here n).end >>= λ more. found
        (Memory first more)) (part_stops n.va (first_length n) small)
        (λ first. stops_bind (reached_rest here n).end (λ more. found (Memory first more)) rest_stops (λ more. tt))

    pub reached_stops : IfErr (reached here n).end IsStop
    unfolding reached
    reached_stops =
        let P : Phase Target → Type 0 = λ p. IfErr p.end IsStop in
        either P (is_naturally_aligned n) _ _ (λ aligned. whole_stops)
        (λ apart. either P (is_split here.split n) _ _ (λ parts. split_stops)
        (λ traps. (misaligned_is_cause n.access, small)))
