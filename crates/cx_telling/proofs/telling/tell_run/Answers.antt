use Rattle.std.proofs.Common.{sym, ◌∙◌}
use Rattle.std.proofs.lemmas.Result.{err_from_is_err_and}
use Rattle.cx_codec.specs.Place.{end_of}
use Rattle.cx_commands.specs.Opening.{scan_from}
use Rattle.cx_telling.proofs.Ordered.{ordered_behind}
use Rattle.cx_telling.proofs.Streamed.{out_is_early, run_is_all, streams_done, streams_missing, streams_stop, streams_unfinished, told_is_early}
use Rattle.cx_telling.proofs.telling.tell_run.Goals as goal

pub returns-in_err-tell_all-clause-does : goal.returns-in_err-tell_all-clause-does
returns-in_err-tell_all-clause-does g c told input bytes begins are asked o p base begun stands so_far =
    let q = err_from_is_err_and c.from_residual.result c.from_residual.ensures.1 in
    let ordered = ordered_behind bytes o p are begun in
    rw (q.1, q.2) (streams_stop (g.W.Teller.there asked) (g.W.Teller.text asked) (g.W.Teller.full asked) bytes _ _ o p base _ c.in_err-tell_all.field-0.0 are
    begun (c.in_err-tell_all.ensures.tells told input begins (end_of p) asked o (scan_from o p) base ordered stands so_far))

pub returns-in_err-finish-clause-does : goal.returns-in_err-finish-clause-does
returns-in_err-finish-clause-does g c told input bytes begins are asked o p base begun stands so_far =
    let q = err_from_is_err_and c.from_residual-in_err-finish.result c.from_residual-in_err-finish.ensures.1 in
    let ordered = ordered_behind bytes o p are begun in
    let all = c.in_ok-tell_all.ensures.tells told input begins (end_of p) asked o (scan_from o p) base ordered stands so_far
    in
    rw (q.1, q.2) (streams_unfinished (g.W.Teller.there asked) (g.W.Teller.text asked) (g.W.Teller.full asked) bytes _ _ o p base _ all.0 _
    c.in_err-finish.field-0.0 begun all.1.0
    ((sym (c.is_there.ensures.there asked o (scan_from o p) all.0 all.1.1.keeps) ∙ c.if-not-is_there.false))
    (λ h. c.in_err-finish.ensures.finishes asked o (scan_from o p) all.0 base
    (rw c.at.ensures (run_is_all bytes o p all.0 _ _ are begun all.1.0 h)) all.1.1))

pub returns-clause-does : goal.returns-clause-does
returns-clause-does g c told input bytes begins are asked o p base begun stands so_far =
    let ordered = ordered_behind bytes o p are begun in
    let all = c.in_ok-tell_all.ensures.tells told input begins (end_of p) asked o (scan_from o p) base ordered stands so_far
    in
    streams_done (g.W.Teller.there asked) (g.W.Teller.text asked) (g.W.Teller.full asked) bytes _ (Unit {0}) o p base _ all.0 _ begun all.1.0
    ((sym (c.is_there.ensures.there asked o (scan_from o p) all.0 all.1.1.keeps) ∙ c.if-not-is_there.false))
    (λ h. c.in_ok-finish.ensures.finishes asked o (scan_from o p) all.0 base
    (rw c.at.ensures (run_is_all bytes o p all.0 _ _ are begun all.1.0 h)) all.1.1)

pub returns-then-not-is_there-clause-does : goal.returns-then-not-is_there-clause-does
returns-then-not-is_there-clause-does g c told input bytes begins are asked o p base begun stands so_far =
    let ordered = ordered_behind bytes o p are begun in
    let all = c.in_ok-tell_all.ensures.tells told input begins (end_of p) asked o (scan_from o p) base ordered stands
    so_far in
    let missing = sym (c.is_there.ensures.there asked o (scan_from o p) all.0 all.1.1.keeps) ∙ c.if-not-is_there.true in
    streams_missing (g.W.Teller.there asked) (g.W.Teller.text asked) (g.W.Teller.full asked) bytes _ (Unit {0}) o p base _
    all.0 _
    begun all.1.0 missing (g.met.W.Teller.unwritten asked o (scan_from o p) all.0 missing) all.1.1.stands.written

pub returns-in_err-tell_all-clause-spent : goal.returns-in_err-tell_all-clause-spent
returns-in_err-tell_all-clause-spent g c told =
    let p = err_from_is_err_and c.from_residual.result c.from_residual.ensures.1 in
    rw (p.1, p.2) (λ j. absurd (told_is_early c.in_err-tell_all.field-0.0 c.in_err-tell_all.ensures.kind j))

pub returns-in_err-finish-clause-spent : goal.returns-in_err-finish-clause-spent
returns-in_err-finish-clause-spent g c told =
    let p = err_from_is_err_and c.from_residual-in_err-finish.result c.from_residual-in_err-finish.ensures.1 in
    rw (p.1, p.2) (λ j. absurd (out_is_early c.in_err-finish.field-0.0 j))
