-- The transfers of a step, and the step behind them.
use Rattle.std.proofs.Common.{◌≡◌, ℕ, ◌+◌, ◌<◌, List, [], ◌∷◌, ◌++◌, Bool, length, take, get_or, refl, ap, sym, ◌∙◌}
use Rattle.std.proofs.lemmas.List.{take_more}
use Rattle.cx_hart.specs.HartStep.{hart_step}
use Rattle.cx_machine.specs.Due.{Due, behind_transfers}
use Rattle.cx_machine.specs.Machine.{MachineState}
use Rattle.cx_machine.specs.Transfers.{Transfer, after_transfer, after_transfers}

after_one_more : (transfers : List Transfer) (t : Transfer) (m : MachineState)
    → after_transfers (transfers ++ t ∷ []) m ≡ after_transfers (t ∷ []) (after_transfers transfers m)
after_one_more [] t m = refl
after_one_more (s ∷ transfers) t m = after_one_more transfers t (after_transfer s m)

-- one transfer more
pub moved_more : (transfers : List Transfer) (n : ℕ) (t : Transfer) (m before after : MachineState)
    → n < length transfers → t ≡ get_or transfers n t
    → before ≡ after_transfers (take n transfers) m → after ≡ after_transfers (t ∷ []) before
    → after ≡ after_transfers (take (n + 1) transfers) m
moved_more transfers n t m before after below there so_far moved =
    let front : take (n + 1) transfers ≡ take n transfers ++ t ∷ [] = take_more transfers n t below
    ∙ ap (λ (x : Transfer). take n transfers ++ x ∷ []) (sym there) in
    moved ∙ ap (after_transfers (t ∷ [])) so_far ∙ sym (after_one_more (take n transfers) t m)
    ∙ sym (ap (λ (xs : List Transfer). after_transfers xs m) front)

-- the step once they have come
pub step_behind : (split : Bool) (due : Due) (m behind : MachineState) → behind ≡ after_transfers due.transfers m
    → hart_step split m due ≡ hart_step split behind (behind_transfers due)
unfolding hart_step
step_behind split due m behind is = rw is refl
