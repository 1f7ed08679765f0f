use Rattle.std.proofs.Common.{◌++◌}
use Rattle.std.proofs.lemmas.Result.{err_from_is_err_and}
use Rattle.cx_codec.proofs.Putting.{puts_on, puts_fails}
use Rattle.cx_slicefmt.specs.Text.{counted_text, given_text, head_text, items_text, masked_text}
use Rattle.cx_slices.specs.Stretches.{stretches_of}
use Rattle.cx_slicefmt.proofs.text.put_items.Goals as goal

pub returns-in_err-put_masked : goal.returns-in_err-put_masked
unfolding items_text head_text
returns-in_err-put_masked g c =
    let p = err_from_is_err_and c.from_residual.result c.from_residual.ensures.1 in
    let i = c.args.items.now in
    rw (p.1, p.2) (puts_fails {X = Unit {0}} (masked_text i.words ++ counted_text (stretches_of i.bytes.items))
    (given_text i.given) (puts_fails (masked_text i.words) (counted_text (stretches_of i.bytes.items))
    c.in_err-put_masked.ensures))

pub returns-in_err-put_runs : goal.returns-in_err-put_runs
unfolding items_text head_text
returns-in_err-put_runs g c =
    let p = err_from_is_err_and c.from_residual-in_err-put_runs.result c.from_residual-in_err-put_runs.ensures.1 in
    let i = c.args.items.now in
    rw (p.1, p.2) (puts_fails {X = Unit {0}} (masked_text i.words ++ counted_text (stretches_of i.bytes.items))
    (given_text i.given) (puts_on (masked_text i.words) (counted_text (stretches_of i.bytes.items))
    c.in_ok-put_masked.ensures (rw c.as_slice.ensures.value at c.in_err-put_runs.ensures)))

pub returns : goal.returns
unfolding items_text head_text
returns g c =
    let i = c.args.items.now in
    puts_on (masked_text i.words ++ counted_text (stretches_of i.bytes.items)) (given_text i.given)
    (puts_on (masked_text i.words) (counted_text (stretches_of i.bytes.items)) c.in_ok-put_masked.ensures
    (rw c.as_slice.ensures.value at c.in_ok-put_runs.ensures)) c.put_given.ensures
