use Rattle.std.proofs.Common.{true, false, sym, ap, ◌∙◌}
use Rattle.cx_ram.specs.PhysicalMemory.{is_zero}
use Rattle.cx_record.proofs.Fronts.{page_counted}
use Rattle.cx_record.proofs.front.count_page.Goals as goal

pub returns-then-is_all_zero-clause-count : goal.returns-then-is_all_zero-clause-count
returns-then-is_all_zero-clause-count c = page_counted c.args.image.now.memory c.args.page true
    (ap is_zero (sym c.page.ensures) ∙ sym c.is_all_zero.ensures ∙ c.if-is_all_zero.true)

pub returns-else-is_all_zero-clause-count : goal.returns-else-is_all_zero-clause-count
returns-else-is_all_zero-clause-count c = page_counted c.args.image.now.memory c.args.page false
    (ap is_zero (sym c.page.ensures) ∙ sym c.is_all_zero.ensures ∙ c.if-is_all_zero.false)
