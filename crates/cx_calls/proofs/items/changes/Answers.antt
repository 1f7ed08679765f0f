use Rattle.std.proofs.Common.{arith, length, ◌≡◌, rules, ◌∙◌}
use Rattle.std.proofs.lemmas.List.{length-set}
use Rattle.cx_process.proofs.Making.{all_changes, next_change}
use Rattle.cx_calls.proofs.items.changes.Goals as goal

pub loop-at-preserved : goal.loop-at-preserved
loop-at-preserved c =
    let stands : length c.args.stands.now ≡ 32 = search rules in
    let wanted : length c.args.wanted.now ≡ 32 = search rules in
    record {
      within = omega (arith, c.loop-at-test.true);
      size = length-set c.loop-at.changes c.loop-at.at c.change.result ∙ c.loop-at.invariant.size;
      done = next_change c.args.stands.now c.args.wanted.now c.loop-at.changes c.loop-at.at c.change.result stands wanted
          c.loop-at.invariant.size c.loop-at-test.true c.loop-at.invariant.done c.change.ensures;
    }

pub returns : goal.returns
returns c =
    let stands : length c.args.stands.now ≡ 32 = search rules in
    let wanted : length c.args.wanted.now ≡ 32 = search rules in
    all_changes c.args.stands.now c.args.wanted.now c.loop-at.changes c.loop-at.at stands wanted c.loop-at.invariant.size
    c.loop-at-test.false c.loop-at.invariant.done
