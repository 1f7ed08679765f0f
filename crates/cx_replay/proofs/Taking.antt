-- Records of steps that were taken.
use Rattle.std.proofs.Common.{◌≡◌, ℕ, ◌≤◌, Bool, true, false, List, length, Result, Ok, Err, IfOk, subst, sym, arith}
use Rattle.std.specs.Bool.{OnTrue}
use Rattle.cx_csr.specs.Keeps.{Keeps}
use Rattle.cx_hart.specs.Whole.{Whole, machine_of}
use Rattle.cx_hart.specs.WellFormed.{IsWellFormed}
use Rattle.cx_hart.specs.declared.record.StepRec.{StepRec}
use Rattle.cx_hart.proofs.FormedRecords.{well_formed}
use Rattle.cx_machine.specs.Machine.{IsMachine, pages_of}
use Rattle.cx_map.specs.Bytes.{AreBytes}
use Rattle.cx_map.specs.Map.{size_of_pages}
use Rattle.cx_replay.specs.Gathering.{TellsTaken}
use Rattle.cx_replay.specs.Taken.{IsTaken}
use Rattle.cx_replay.specs.declared.fault.ReplayFault.{ReplayFault}

-- such a record is well formed
pub taken_formed : (rec : StepRec) → IsTaken rec → IsWellFormed rec
taken_formed rec taken = well_formed taken.split taken.machine taken.due
    (record { machine = taken.next; rec = rec }) taken.goes

-- the rules of a machine, for as many pages as its RAM has
pub rules_kept : (m : Whole) (memory : List ℕ) (pages : ℕ) → Keeps (pages_of m.memory) m.state → AreBytes memory
    → memory ≡ m.memory → length m.memory ≡ size_of_pages pages → IsMachine pages (machine_of m)
rules_kept m memory pages keeps bytes same size =
    let count : pages_of m.memory ≡ pages = omega (arith, size) in
    record {
      state = subst (λ n. Keeps n m.state) count keeps;
      memory = record { size = size; bytes = subst AreBytes same bytes };
    }

-- ---- told in a record

pub told_taken : (told : StepRec) (r : Result Bool ReplayFault) → TellsTaken (λ rec. told ≡ rec) r
    → IfOk r (λ gave. OnTrue gave (IsTaken told))
told_taken told (Ok true) tells = subst IsTaken (sym tells.1.0) tells.1.1
told_taken told (Ok false) tells = tt
told_taken told (Err e) tells = tt

pub told_walked : (told : StepRec) (r : Result Bool ReplayFault) → TellsTaken (λ rec. told ≡ rec) r
    → IfOk r (λ gave. OnTrue gave (told.walked ≤ 6))
told_walked told (Ok true) tells = (taken_formed told (subst IsTaken (sym tells.1.0) tells.1.1)).walked
told_walked told (Ok false) tells = tt
told_walked told (Err e) tells = tt
