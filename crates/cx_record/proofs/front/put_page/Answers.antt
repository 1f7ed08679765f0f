use Rattle.std.proofs.Common.{◌≤◌, ◌+◌, true, false, arith, sym, ap, ◌∙◌}
use Rattle.std.proofs.lemmas.Result.{on_ok_weaker}
use Rattle.cx_log.specs.Text.{page_count}
use Rattle.cx_ram.specs.PhysicalMemory.{is_zero}
use Rattle.cx_record.proofs.Fronts.{page_count-grows, page_counted}
use Rattle.cx_record.proofs.front.put_page.Goals as goal

pub returns-then-is_all_zero-clause-left : goal.returns-then-is_all_zero-clause-left
returns-then-is_all_zero-clause-left g c =
    let step = page_counted c.args.image.now.memory c.args.page true
    (ap is_zero (sym c.page.ensures) ∙ sym c.is_all_zero.ensures ∙ c.if-is_all_zero.true) in
    omega (arith, step, c.requires.owed)

pub page-requires-2-clause-owed : goal.page-requires-2-clause-owed
page-requires-2-clause-owed g c =
    let memory = c.args.image.now.memory in
    let step = page_counted memory c.args.page false
    (ap is_zero (sym c.page.ensures) ∙ sym c.is_all_zero.ensures ∙ c.if-is_all_zero.false) in
    let more : page_count memory (c.args.page + 1) ≤ page_count memory c.args.image.now.pages =
    page_count-grows _ _ _ (omega (arith, c.requires.inside)) in
    omega (arith, step, more, c.requires.owed)

pub returns-clause-left : goal.returns-clause-left
returns-clause-left g c =
    let step = page_counted c.args.image.now.memory c.args.page false
    (ap is_zero (sym c.page.ensures) ∙ sym c.is_all_zero.ensures ∙ c.if-is_all_zero.false) in
    on_ok_weaker c.page-2.result (λ turned. omega (arith, turned.1, step, c.requires.owed)) c.page-2.ensures.turned
