use Rattle.std.proofs.Common.{◌∙◌, ap, sym}
use Rattle.cx_keeping.specs.declared.gathered.Gathered.TheVariants.{Mark}
use Rattle.cx_keeping.proofs.gathering.found.Goals as goal

pub returns-then-is_at_mark-clause-finds : goal.returns-then-is_at_mark-clause-finds
returns-then-is_at_mark-clause-finds g c gave input end last o whole given stands order = (
  sym (c.is_at_mark.ensures gave input end last o whole given stands order) ∙ c.if-is_at_mark.true,
  ap Mark c.at.ensures,
)

pub returns-clause-finds : goal.returns-clause-finds
returns-clause-finds g c gave input end last o whole given stands order =
    sym (c.is_at_mark.ensures gave input end last o whole given stands order) ∙ c.if-is_at_mark.false
