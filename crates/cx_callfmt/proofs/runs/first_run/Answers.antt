use Rattle.std.proofs.Common.{◌≡◌, ◌-◌, true, length, take, drop, length-drop, add-one, arith, sym, ap, ◌∙◌}
use Rattle.std.proofs.lemmas.List.{take_all}
use Rattle.cx_slicefmt.specs.Writing.{ends_run}
use Rattle.cx_slicefmt.proofs.FirstRun.{first_stretch}
use Rattle.cx_callfmt.proofs.runs.first_run.Goals as goal

pub returns : goal.returns
returns c =
    let b = c.args.bytes.now in
    let last = c.loop-last.last in
    let whole : take (length b - last) (drop last b) ≡ drop last b
    = take_all (length b - last) (drop last b) (omega (arith, length-drop last b)) in
    let ends : ends_run (drop last b) ≡ true
    = ap ends_run (sym whole) ∙ (sym c.ends_run.ensures ∙ c.loop-last-test.false) in
    record {
      some = omega arith;
      within = omega (arith, c.loop-last.invariant.within);
      first = rw add-one (first_stretch b last c.loop-last.invariant.within c.loop-last.invariant.below ends);
    }
