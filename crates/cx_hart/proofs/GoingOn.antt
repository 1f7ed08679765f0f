-- A phase that goes on as another one, behind what was seen before.
use Rattle.std.proofs.Common.{◌≡◌, List, [], ◌∷◌, refl, subst}
use Rattle.cx_machine.specs.Machine.{MachineState}
use Rattle.cx_hart.specs.Ends.{End}
use Rattle.cx_hart.specs.Looks.{Entry, First, Learns, Look, Rest, Word, tell, told}
use Rattle.cx_hart.specs.Outcomes.{EndsStep, Goes, IsUnended, outcome_from}
use Rattle.cx_hart.specs.Phases.{Phase}
use Rattle.cx_hart.specs.Step.{machine_in}
use Rattle.cx_hart.specs.Surroundings.{Surroundings}
use Rattle.cx_hart.specs.declared.answer.Went.{Went}
use Rattle.cx_hart.specs.declared.findings.Retired.{Retired}
use Rattle.cx_hart.specs.declared.record.StepRec.{StepRec}

-- A phase with this end and these looks goes on as p, behind the looks before.
pub record GoesAs (end : End Retired) (seen before : List Look) (p : Phase Retired) : Type 0 where
  pub ends : end ≡ p.end
  pub tells : (r : StepRec) → told seen r ≡ told p.looks (told before r)

unended_tell : (look : Look) (r : StepRec) → IsUnended r → IsUnended (tell look r)
unended_tell (Entry place entry) r un = record {
  retired = un.retired;
  write = un.write;
  write_more = un.write_more;
  value = un.value;
  result = un.result;
}
unended_tell (Word t) r un = record {
  retired = un.retired;
  write = un.write;
  write_more = un.write_more;
  value = un.value;
  result = un.result;
}
unended_tell (First t) r un = record {
  retired = un.retired;
  write = un.write;
  write_more = un.write_more;
  value = un.value;
  result = un.result;
}
unended_tell (Rest t) r un = record {
  retired = un.retired;
  write = un.write;
  write_more = un.write_more;
  value = un.value;
  result = un.result;
}

-- what is seen is no end of a step
pub unended_told : (looks : List Look) (r : StepRec) → IsUnended r → IsUnended (told looks r)
unended_told [] r un = un
unended_told (look ∷ looks) r un = unended_told looks (tell look r) (unended_tell look r un)

module _ (Before Middle After : StepRec → Type 0) (here : Surroundings) (went : Went) (new : MachineState) where
  -- its outcome is that of the phase that it goes on as
  pub outcome_as : (q p : Phase Retired) (before : List Look) (r : StepRec) → GoesAs q.end q.looks before p
      → outcome_from here (told before r) p ≡ outcome_from here r q
  outcome_as q p before r as_ = rw (as_.tells r, as_.ends) refl

  -- the step ends as the phase does that its phase goes on as
  pub ends_as : (q p : Phase Retired) (before : List Look) → GoesAs q.end q.looks before p → Learns Before Middle before
      → EndsStep Middle After here p went new → EndsStep Before After here q went new
  ends_as q p before as_ learns ends r un known =
      subst (Goes After went (machine_in here) new) (outcome_as q p before r as_)
      (ends (told before r) (unended_told before r un) (learns r known))
