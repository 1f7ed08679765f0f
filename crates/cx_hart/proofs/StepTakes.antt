-- A step takes the value that it asks for.
use Rattle.std.proofs.Common.{◌≡◌, ◌≢◌, inl, inr, ℕ, Bool, Option, None, Some, Ok, Err, IfOk, IfSome, refl, sym, ap, subst}
use Rattle.std.proofs.Common.{◌∙◌, List, [], ◌∷◌}
use Rattle.cx_machine.specs.Due.{Due}
use Rattle.cx_machine.specs.Machine.{MachineState}
use Rattle.cx_machine.specs.Step.{Stepped}
use Rattle.cx_machine.specs.Transfers.{after_transfers}
use Rattle.cx_map.specs.Bytes.{AreBytes}
use Rattle.cx_hart.specs.Ends.{End}
use Rattle.cx_hart.specs.HartStep.{hart_step}
use Rattle.cx_hart.specs.Looks.{Entry, First, Look, Rest, Word, tell, told}
use Rattle.cx_hart.specs.Step.{NeedsValue, Stepped as Carried, ValueLeft, blank, ended_in, machine_in}
use Rattle.cx_hart.specs.Step.{outcome_of, step, surroundings, taken_or_left, turn_outcome, unless_left}
use Rattle.cx_hart.specs.Surroundings.{Surroundings}
use Rattle.cx_hart.specs.Taking.{Took}
use Rattle.cx_hart.specs.Turn.{turn}
use Rattle.cx_hart.specs.declared.answer.Asked.{Asked}
use Rattle.cx_hart.specs.declared.findings.Retired.{Retired}
use Rattle.cx_hart.specs.declared.findings.Stop.TheVariants.{Asks, Interrupt, Trap}
use Rattle.cx_hart.specs.declared.record.StepRec.{StepRec}
use Rattle.cx_hart.proofs.Ends.{unless_kept}
use Rattle.cx_hart.proofs.StepSizes.{carried}
use Rattle.cx_hart.proofs.TakenValues.{HasOwn, IsOwn, turn_own}
use Rattle.cx_hart.proofs.Taking.{Takes, turn_takes}
use Rattle.cx_hart.proofs.Telling.{told_value}

-- ---- it takes any

taken : (v : ℕ) (value : Option ℕ) (after : MachineState) (rec : StepRec) → value ≡ Some v → rec.value ≡ Some v
    → Took v (taken_or_left (Some v) value (Carried after rec))
taken v None after rec is has = absurd cc
taken v (Some w) after rec is has = has

took_by : (v : ℕ) (m : MachineState) (rec rec' : StepRec) (p q : End Retired) (what : Asked) → Takes v p q
    → unless_left None (ended_in m rec p) ≡ NeedsValue what → Took v (unless_left (Some v) (ended_in m rec' q))
took_by v m rec rec' (Ok r) q what takes asks = absurd cc
took_by v m rec rec' (Err (Asks other)) q what takes asks =
    subst (λ (e : End Retired). Took v (unless_left (Some v) (ended_in m rec' e))) (sym takes.1.0)
    (taken v takes.0.value _ _ takes.1.1 takes.1.1)
took_by v m rec rec' (Err (Interrupt number)) q what takes asks = absurd cc
took_by v m rec rec' (Err (Trap cause tval)) q what takes asks = absurd cc

pub takes_any : (split : Bool) (due : Due) (m : MachineState) (what : Asked) (v : ℕ)
    → step split (record due { value = None }) m ≡ NeedsValue what
    → Took v (step split (record due { value = Some v }) m)
unfolding turn_outcome
takes_any split due m what v asks =
    let here : Surroundings = surroundings split due (after_transfers due.transfers m) in
    took_by v (machine_in here) _ _ (turn (record here { given = None })).end (turn (record here { given = Some v })).end
    what (turn_takes here v) asks

-- ---- none is left where none is due

left_by : (m : MachineState) (rec : StepRec) (p : End Retired) → unless_left None (ended_in m rec p) ≡ ValueLeft → ⊥
left_by m rec (Ok r) is = absurd cc
left_by m rec (Err (Asks what)) is = absurd cc
left_by m rec (Err (Interrupt number)) is = absurd cc
left_by m rec (Err (Trap cause tval)) is = absurd cc

pub leaves_none : (split : Bool) (due : Due) (m : MachineState)
    → step split (record due { value = None }) m ≢ ValueLeft
unfolding turn_outcome
leaves_none split due m is =
    let here : Surroundings = surroundings split (record due { value = None }) (after_transfers due.transfers m) in
    left_by (machine_in here) _ (turn here).end is

-- ---- it takes what is due

value_by : (given value : Option ℕ) (after after' : MachineState) (rec rec' : StepRec) → IsOwn given value
    → rec.value ≡ value → taken_or_left given value (Carried after rec) ≡ Carried after' rec' → rec'.value ≡ given
value_by None value after after' rec rec' own has is =
    let same : rec ≡ rec' = cc in
    elim own [
      | inl none ↦ ap (λ (r : StepRec). r.value) (sym same) ∙ has ∙ none
      | inr none ↦ ap (λ (r : StepRec). r.value) (sym same) ∙ has ∙ none
    ]
value_by (Some v) None after after' rec rec' own has is = absurd cc
value_by (Some v) (Some w) after after' rec rec' own has is =
    let same : rec ≡ rec' = cc in
    elim own [
      | inl none ↦ absurd cc
      | inr value ↦ ap (λ (r : StepRec). r.value) (sym same) ∙ has ∙ value
    ]

own_by : (given : Option ℕ) (m after : MachineState) (old rec : StepRec) (p : End Retired) → old.value ≡ None
    → IfOk p (HasOwn given) → unless_left given (ended_in m old p) ≡ Carried after rec → rec.value ≡ given
own_by given m after old rec (Ok r) none own is = value_by given r.value _ after _ rec own.value refl is
own_by given m after old rec (Err (Asks what)) none own is = absurd cc
own_by given m after old rec (Err (Interrupt number)) none own is =
    value_by given old.value _ after _ rec (inl none) refl is
own_by given m after old rec (Err (Trap cause tval)) none own is =
    value_by given old.value _ after _ rec (inl none) refl is

pub takes_due : (split : Bool) (m : MachineState) (due : Due) (then : Stepped StepRec)
    → hart_step split m due ≡ Some then → then.rec.value ≡ due.value
unfolding turn_outcome
takes_due split m due then e =
    let here : Surroundings = surroundings split due (after_transfers due.transfers m) in
    own_by due.value (machine_in here) then.machine (told (turn here).looks (blank here.state)) then.rec (turn here).end
    (told_value (turn here).looks (blank here.state)) (turn_own here) (carried split m due then e)

-- ---- it writes bytes

bytes_by : (m after : MachineState) (old rec : StepRec) (p : End Retired) (given : Option ℕ) → old.write ≡ None
    → IfOk p (HasOwn given) → ended_in m old p ≡ Carried after rec → IfSome rec.write (λ t. AreBytes t.bytes)
bytes_by m after old rec (Ok r) given none own is =
    let same : r.write ≡ rec.write = cc in
    subst (λ w. IfSome w (λ t. AreBytes t.bytes)) same own.bytes
bytes_by m after old rec (Err (Asks what)) given none own is = absurd cc
bytes_by m after old rec (Err (Interrupt number)) given none own is =
    let same : rec.write ≡ None = cc in
    subst (λ w. IfSome w (λ t. AreBytes t.bytes)) (sym same) tt
bytes_by m after old rec (Err (Trap cause tval)) given none own is =
    let same : rec.write ≡ None = cc in
    subst (λ w. IfSome w (λ t. AreBytes t.bytes)) (sym same) tt

tell_write : (looks : List Look) (rec : StepRec) → (told looks rec).write ≡ rec.write
tell_write [] rec = refl
tell_write (look ∷ looks) rec = tell_write looks (tell look rec) ∙ one look rec
  where
    one : (look : Look) (rec : StepRec) → (tell look rec).write ≡ rec.write
    one (Entry place entry) rec = refl
    one (Word t) rec = refl
    one (First t) rec = refl
    one (Rest t) rec = refl

pub writes_bytes : (split : Bool) (m : MachineState) (due : Due) (then : Stepped StepRec)
    → hart_step split m due ≡ Some then → IfSome then.rec.write (λ t. AreBytes t.bytes)
unfolding turn_outcome
writes_bytes split m due then e =
    let here : Surroundings = surroundings split due (after_transfers due.transfers m) in
    let ends : outcome_of (machine_in here) (turn here) ≡ Carried then.machine then.rec =
    unless_kept here.given (outcome_of (machine_in here) (turn here)) then.machine then.rec (carried split m due then e) in
    bytes_by (machine_in here) then.machine (told (turn here).looks (blank here.state)) then.rec (turn here).end due.value
    (tell_write (turn here).looks (blank here.state)) (turn_own here) ends
