use Rattle.std.proofs.Common.{inl, refl}
use Rattle.cx_top.proofs.record.record_steps.Goals as goal

pub returns-in-Err-clause-records : goal.returns-in-Err-clause-records
returns-in-Err-clause-records g c told input begins = inl (record {
  kind = c.in-Err.ensures.kind;
  says = c.in-Err.ensures.image told input begins;
  unasked = refl;
  unwritten = refl;
})
