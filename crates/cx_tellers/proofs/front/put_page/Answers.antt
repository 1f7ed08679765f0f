use Rattle.std.proofs.Common.{◌∙◌, ◌+◌, ◌≤◌, arith, false, sym}
use Rattle.std.proofs.lemmas.Result.{on_ok_weaker}
use Rattle.cx_log.specs.Text.{page_count}
use Rattle.cx_window.proofs.Kept.{page_count-grows}
use Rattle.cx_tellers.proofs.Fronts.{page_counted}
use Rattle.cx_tellers.proofs.front.put_page.Goals as goal

pub page-requires-2-clause-owed : goal.page-requires-2-clause-owed
page-requires-2-clause-owed g c =
    let memory = c.args.ram.now.memory in
    let step = page_counted memory c.args.page false (sym c.is_zero.ensures ∙ c.if-is_zero.false) in
    let more : page_count memory (c.args.page + 1) ≤ page_count memory c.args.writer.now.header.pages =
    page_count-grows _ _ _ (omega (arith, c.requires.inside)) in
    omega (arith, step, more, c.requires.owed)

pub returns-clause-left : goal.returns-clause-left
returns-clause-left g c =
    let step = page_counted c.args.ram.now.memory c.args.page false (sym c.is_zero.ensures ∙ c.if-is_zero.false) in
    on_ok_weaker c.page-2.result (λ turned. omega (arith, turned.1, step, c.requires.owed)) c.page-2.ensures.turned
