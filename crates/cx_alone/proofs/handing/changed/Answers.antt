use Rattle.std.proofs.Common.{arith, length, ◌≡◌, rules, ◌∙◌}
use Rattle.std.proofs.lemmas.List.{length-set}
use Rattle.cx_alone.proofs.Handed.{all_changed, next_changed}
use Rattle.cx_alone.proofs.handing.changed.Goals as goal

pub loop-at-preserved : goal.loop-at-preserved
loop-at-preserved c =
    let stands : length c.args.stands.now ≡ 32 = search rules in
    let items : length c.args.items.now ≡ 32 = search rules in
    record {
      within = omega (arith, c.loop-at-test.true);
      size = length-set c.loop-at.words c.loop-at.at c.unwrap_or.result ∙ c.loop-at.invariant.size;
      done = next_changed c.args.stands.now c.loop-at.words c.args.items.now c.loop-at.at c.unwrap_or.result stands items
          c.loop-at.invariant.size c.loop-at-test.true c.loop-at.invariant.done c.unwrap_or.ensures;
    }

pub returns : goal.returns
returns c =
    let stands : length c.args.stands.now ≡ 32 = search rules in
    all_changed c.args.stands.now c.loop-at.words c.args.items.now c.loop-at.at stands c.loop-at.invariant.size
    c.loop-at-test.false c.loop-at.invariant.done
