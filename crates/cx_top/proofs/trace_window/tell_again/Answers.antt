use Rattle.std.proofs.lemmas.Result.{err_from_is_err_and}
use Rattle.std.proofs.Common.{Some, refl}
use Rattle.cx_replay.specs.KeptRecords.{scan_of}
use Rattle.cx_window.specs.Slice.{opened_of}
use Rattle.cx_commands.proofs.Doings.{no_front}
use Rattle.cx_commands.proofs.LinesAgain.{again_all, again_front, again_stops, begins_itself, none_told, slice_is_all}
use Rattle.cx_commands.proofs.LinesAgain.{slice_ordered}
use Rattle.cx_top.proofs.trace_window.tell_again.Goals as goal

pub returns-in_err-lines-clause-tells : goal.returns-in_err-lines-clause-tells
returns-in_err-lines-clause-tells g c o whole a b judged cuts =
    let p = err_from_is_err_and c.from_residual.result c.from_residual.ensures.1 in
    rw p.1 (no_front _ _)

pub returns-in_err-tell_all-clause-tells : goal.returns-in_err-tell_all-clause-tells
returns-in_err-tell_all-clause-tells g c o whole a b judged cuts =
    let p = err_from_is_err_and c.from_residual-in_err-tell_all.result c.from_residual-in_err-tell_all.ensures.1 in
    let slice = c.args.slice in
    let source = c.tell_all.new.source in
    let base = g.T.Sink.held c.args.sink.now in
    rw p.1 (again_stops o whole a b slice 0 (Some source.left) source.given base _ c.in_err-tell_all.field-0.0 judged
    cuts (c.in_err-tell_all.ensures.tells refl source.given (begins_itself source.given) 0 tt (opened_of slice)
    (scan_of slice.events slice.to) base (slice_ordered o whole a b slice judged cuts)
    (c.replay-replay.ensures.stands _ _ _) (none_told base _ (rw c.in_ok-lines.ensures refl))))

pub returns-in_err-finish-clause-tells : goal.returns-in_err-finish-clause-tells
returns-in_err-finish-clause-tells g c o whole a b judged cuts =
    let p = err_from_is_err_and c.from_residual-in_err-finish.result c.from_residual-in_err-finish.ensures.1 in
    let slice = c.args.slice in
    let source = c.tell_all.new.source in
    let base = g.T.Sink.held c.args.sink.now in
    let all = c.in_ok-tell_all.ensures.tells refl source.given (begins_itself source.given) 0 tt (opened_of slice)
    (scan_of slice.events slice.to) base (slice_ordered o whole a b slice judged cuts)
    (c.replay-replay.ensures.stands _ _ _) (none_told base _ (rw c.in_ok-lines.ensures refl))
    in
    rw p.1 (again_front o whole a b slice base _ judged cuts
    (c.in_err-finish.ensures.finishes tt (opened_of slice) (scan_of slice.events slice.to) all.0 base
    (rw c.at.ensures (slice_is_all o whole a b slice all.0 _ _ judged cuts all.1.0)) all.1.1))

pub returns-clause-tells : goal.returns-clause-tells
returns-clause-tells g c o whole a b judged cuts =
    let slice = c.args.slice in
    let source = c.tell_all.new.source in
    let base = g.T.Sink.held c.args.sink.now in
    let all = c.in_ok-tell_all.ensures.tells refl source.given (begins_itself source.given) 0 tt (opened_of slice)
    (scan_of slice.events slice.to) base (slice_ordered o whole a b slice judged cuts)
    (c.replay-replay.ensures.stands _ _ _) (none_told base _ (rw c.in_ok-lines.ensures refl))
    in
    again_all o whole a b slice base _ judged cuts
    (c.in_ok-finish.ensures.finishes tt (opened_of slice) (scan_of slice.events slice.to) all.0 base
    (rw c.at.ensures (slice_is_all o whole a b slice all.0 _ _ judged cuts all.1.0)) all.1.1)
