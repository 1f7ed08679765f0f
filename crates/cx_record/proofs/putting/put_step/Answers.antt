use Rattle.std.proofs.Common.{◌++◌}
use Rattle.std.proofs.lemmas.Result.{err_from_is_err_and}
use Rattle.cx_live.specs.Seen.{due_of}
use Rattle.cx_run.specs.Driven.{is_marked}
use Rattle.cx_run.specs.StepEvents.{line_events, mark_events, transfer_events, value_events}
use Rattle.cx_record.proofs.PutRecords.{events_cut, events_on}
use Rattle.cx_record.proofs.putting.put_step.Goals as goal

pub returns-in_err-put_transfer-clause-puts : goal.returns-in_err-put_transfer-clause-puts
returns-in_err-put_transfer-clause-puts g c =
    let p = err_from_is_err_and c.from_residual-in_err-put_transfer.result
    c.from_residual-in_err-put_transfer.ensures.1 in
    let n = c.args.step in
    let due = due_of c.args.happened.now c.args.bytes.now in
    rw (p.1, p.2) (events_on (mark_events n (is_marked n)) _ c.in_ok-put_mark.ensures.puts.all
    (events_cut (transfer_events n due.transfers) (line_events n due.lines ++ value_events n due.value)
    c.in_err-put_transfer.ensures.puts))

pub returns-in_err-put_lines-clause-puts : goal.returns-in_err-put_lines-clause-puts
returns-in_err-put_lines-clause-puts g c =
    let p = err_from_is_err_and c.from_residual-in_err-put_lines.result c.from_residual-in_err-put_lines.ensures.1 in
    let n = c.args.step in
    let due = due_of c.args.happened.now c.args.bytes.now in
    rw (p.1, p.2) (events_on (mark_events n (is_marked n)) _ c.in_ok-put_mark.ensures.puts.all
    (events_on (transfer_events n due.transfers) _ c.in_ok-put_transfer.ensures.puts.all
    (events_cut (line_events n due.lines) (value_events n due.value) c.in_err-put_lines.ensures.puts)))

pub returns-clause-puts : goal.returns-clause-puts
returns-clause-puts g c =
    let n = c.args.step in
    let due = due_of c.args.happened.now c.args.bytes.now in
    events_on (mark_events n (is_marked n)) _ c.in_ok-put_mark.ensures.puts.all
    (events_on (transfer_events n due.transfers) _ c.in_ok-put_transfer.ensures.puts.all
    (events_on (line_events n due.lines) (value_events n due.value) c.in_ok-put_lines.ensures.puts.all
    c.put_value.ensures.puts))
