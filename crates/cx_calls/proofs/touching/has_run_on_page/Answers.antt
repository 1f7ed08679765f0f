use Rattle.std.proofs.Common.{◌+◌, ◌≤◌, ◌^◌, ap, sym, subst, ◌∙◌, ℕ}
use Rattle.cx_marks.specs.Marked.{all_marked}
use Rattle.cx_calls.proofs.Accessed.{run_marked, within_addresses}
use Rattle.cx_calls.proofs.touching.has_run_on_page.Goals as goal

pub returns : goal.returns
returns c = λ yes bytes size. run_marked c.args.touched.now c.args.va bytes
    (subst (λ (n : ℕ). c.args.va + n ≤ 2 ^ 32) (sym size)
    (within_addresses c.args.va c.args.len c.ranges.va.fits c.requires.page))
    (ap (all_marked c.args.touched.now c.args.va) size ∙ (sym c.has_run.ensures ∙ yes))
