use Rattle.std.proofs.Common.{◌++◌, ap, sym, subst}
use Rattle.std.proofs.lemmas.Result.{err_from_is_err_and}
use Rattle.cx_callfmt.specs.Rules.{Behind, MayEnd}
use Rattle.cx_callfmt.specs.Text.{call_end_text}
use Rattle.cx_calls.proofs.Fed.{apart_of_some, kept_of_some, may_end_of_some, may_put_of_some, text_let_go}
use Rattle.cx_calls.specs.Begun.{calls_ending, last_text}
use Rattle.cx_codec.proofs.Putting.{finishes_along, finishes_fails, finishes_on}
use Rattle.cx_slices.specs.Bytes.{sorted}
use Rattle.cx_calls.proofs.feeding.finish.Goals as goal

pub let_go-requires-clause-comes : goal.let_go-requires-clause-comes
let_go-requires-clause-comes g c =
    may_put_of_some c.args.gatherer c.args.writer c.requires.calling c.requires.most

pub let_go-requires-clause-apart : goal.let_go-requires-clause-apart
let_go-requires-clause-apart g c = apart_of_some c.args.gatherer c.args.writer c.requires.calling

pub let_go-requires-clause-kept : goal.let_go-requires-clause-kept
let_go-requires-clause-kept g c = kept_of_some c.args.gatherer c.args.writer c.requires.calling

pub end-requires-clause-rules : goal.end-requires-clause-rules
end-requires-clause-rules g c = subst (λ (b : Behind). MayEnd b c.args.gatherer.count)
    (sym c.in_ok-let_go.ensures.behind)
    (may_end_of_some c.args.gatherer c.args.writer c.requires.calling c.requires.some c.requires.most)

pub returns-in_err-let_go : goal.returns-in_err-let_go
returns-in_err-let_go g c = λ os was.
    let put = last_text c.args.writer.behind.index c.args.gatherer.last
    (record { words = c.args.gatherer.words; bytes = sorted c.args.gatherer.missed.items })
    ++ c.args.gatherer.behind.text in
    let end = call_end_text c.args.gatherer.behind.behind.index c.args.gatherer.count in
    let p = err_from_is_err_and c.from_residual.result c.from_residual.ensures.1 in
    rw (p.1, p.2) (finishes_along (put ++ end) (calls_ending os)
    (text_let_go os c.args.gatherer c.args.writer was) (finishes_fails put end c.in_err-let_go.ensures.puts))

pub returns : goal.returns
returns g c = λ os was.
    let put = last_text c.args.writer.behind.index c.args.gatherer.last
    (record { words = c.args.gatherer.words; bytes = sorted c.args.gatherer.missed.items })
    ++ c.args.gatherer.behind.text in
    let end = call_end_text c.args.gatherer.behind.behind.index c.args.gatherer.count in
    finishes_along (put ++ end) (calls_ending os) (text_let_go os c.args.gatherer c.args.writer was)
    (finishes_on put end c.in_ok-let_go.ensures.puts
    (finishes_along (call_end_text c.let_go.new.writer.behind.index c.args.gatherer.count) end
    (ap (λ (b : Behind). call_end_text b.index c.args.gatherer.count) c.in_ok-let_go.ensures.behind) c.end.ensures))
