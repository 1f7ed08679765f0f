use Rattle.std.proofs.Common.{arith, ap, sym, ◌∙◌, ◌++◌, List, ℕ, ◌+◌, ◌≤◌}
use Rattle.std.proofs.lemmas.Result.{on_ok_weaker}
use Rattle.cx_codec.specs.Varint.{varint}
use Rattle.cx_codec.proofs.Putting.{puts_none, puts_along}
use Rattle.cx_log.specs.Text.{page_count}
use Rattle.cx_window.specs.Slice.{written_of}
use Rattle.cx_window.proofs.Kept.{count_step, text_kept, text_left_out, page_count-grows}
use Rattle.cx_window.proofs.slice.Slice.put_page.Goals as goal

pub page-requires-then-keeps-clause-owed : goal.page-requires-then-keeps-clause-owed
page-requires-then-keeps-clause-owed g c =
    let step = count_step c.args.self.now c.args.page _ c.requires.whole c.requires.inside c.if-keeps.ensures in
    let more : page_count (written_of c.args.self.now).memory (c.args.page + 1) ≤ page_count
    (written_of c.args.self.now).memory c.args.self.now.header.pages =
    page_count-grows _ _ _ (omega (arith, c.requires.inside)) in
    omega (arith, step, more, c.requires.owed)

pub returns-then-keeps-clause-puts : goal.returns-then-keeps-clause-puts
returns-then-keeps-clause-puts g c =
    let text = (text_kept c.args.self.now c.args.page c.requires.whole c.requires.inside c.if-keeps.ensures).1 in
    puts_along _ _ (ap (λ (b : List ℕ). varint c.args.page ++ b) c.page.ensures ∙ sym text)
    c.page-then-keeps.ensures.puts

pub returns-then-keeps-clause-left : goal.returns-then-keeps-clause-left
returns-then-keeps-clause-left g c =
    let step = count_step c.args.self.now c.args.page _ c.requires.whole c.requires.inside c.if-keeps.ensures in
    on_ok_weaker c.page-then-keeps.result (λ turned. omega (arith, turned.1, step, c.requires.owed))
    c.page-then-keeps.ensures.turned

pub returns-clause-puts : goal.returns-clause-puts
returns-clause-puts g c =
    puts_along _ _ (sym (text_left_out c.args.self.now c.args.page c.requires.whole c.requires.inside
    c.if-keeps.ensures)) (puts_none c.requires.live)

pub returns-clause-left : goal.returns-clause-left
returns-clause-left g c =
    let step = count_step c.args.self.now c.args.page _ c.requires.whole c.requires.inside c.if-keeps.ensures in
    omega (arith, step, c.requires.owed)
