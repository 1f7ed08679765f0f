use Rattle.std.proofs.Common.{arith, length, ◌≡◌, rules, sym, ◌∙◌}
use Rattle.cx_alone.proofs.Handed.{all_tested, next_tested}
use Rattle.cx_alone.proofs.handing.all_change.Goals as goal

pub loop-at-preserved : goal.loop-at-preserved
loop-at-preserved c =
    let stands : length c.args.stands.now ≡ 32 = search rules in
    let items : length c.args.items.now ≡ 32 = search rules in
    record {
      within = omega (arith, c.loop-at-test.true);
      rest = next_tested c.args.stands.now c.args.items.now c.loop-at.at _ stands items c.loop-at-test.true
          c.loop-at.invariant.rest (sym c.if-not-is_change.false ∙ c.is_change.ensures);
    }

pub returns-then-not-is_change : goal.returns-then-not-is_change
returns-then-not-is_change c =
    let stands : length c.args.stands.now ≡ 32 = search rules in
    let items : length c.args.items.now ≡ 32 = search rules in
    sym (next_tested c.args.stands.now c.args.items.now c.loop-at.at _ stands items c.loop-at-test.true
    c.loop-at.invariant.rest (sym c.if-not-is_change.true ∙ c.is_change.ensures))

pub returns : goal.returns
returns c =
    let stands : length c.args.stands.now ≡ 32 = search rules in
    all_tested c.args.stands.now c.args.items.now c.loop-at.at stands c.loop-at-test.false c.loop-at.invariant.rest
