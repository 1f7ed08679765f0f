use Rattle.std.proofs.Common.{◌==◌, ◌++◌}
use Rattle.std.proofs.lemmas.Result.{err_from_is_err_and}
use Rattle.cx_run.specs.StepEvents.{line_events, mark_events, transfer_events, value_events}
use Rattle.cx_record.proofs.PutRecords.{events_cut, events_on}
use Rattle.cx_tellers.proofs.upgrade.Upgrade.put_step.Goals as goal

pub returns-in_err-put_mark-clause-puts : goal.returns-in_err-put_mark-clause-puts
returns-in_err-put_mark-clause-puts g c =
    let p = err_from_is_err_and c.from_residual.result c.from_residual.ensures.1 in
    let n = c.args.step in
    let due = c.args.due.now in
    rw (p.1, p.2) (events_cut (mark_events n (n == c.args.self.now.behind.mark))
    (transfer_events n due.transfers ++ (line_events n due.lines ++ value_events n due.value))
    c.in_err-put_mark.ensures.puts)

pub returns-in_err-put_transfers-clause-puts : goal.returns-in_err-put_transfers-clause-puts
returns-in_err-put_transfers-clause-puts g c =
    let p = err_from_is_err_and c.from_residual-in_err-put_transfers.result
    c.from_residual-in_err-put_transfers.ensures.1 in
    let n = c.args.step in
    let due = c.args.due.now in
    rw (p.1, p.2) (events_on (mark_events n (n == c.args.self.now.behind.mark)) _ c.in_ok-put_mark.ensures.puts.all
    (events_cut (transfer_events n due.transfers) (line_events n due.lines ++ value_events n due.value)
    c.in_err-put_transfers.ensures.puts))

pub returns-in_err-put_lines-clause-puts : goal.returns-in_err-put_lines-clause-puts
returns-in_err-put_lines-clause-puts g c =
    let p = err_from_is_err_and c.from_residual-in_err-put_lines.result c.from_residual-in_err-put_lines.ensures.1 in
    let n = c.args.step in
    let due = c.args.due.now in
    rw (p.1, p.2) (events_on (mark_events n (n == c.args.self.now.behind.mark)) _ c.in_ok-put_mark.ensures.puts.all
    (events_on (transfer_events n due.transfers) _ c.in_ok-put_transfers.ensures.puts.all
    (events_cut (line_events n due.lines) (value_events n due.value)
    (rw c.lines.ensures at c.in_err-put_lines.ensures.puts))))

pub returns-clause-puts : goal.returns-clause-puts
returns-clause-puts g c =
    let n = c.args.step in
    let due = c.args.due.now in
    events_on (mark_events n (n == c.args.self.now.behind.mark)) _ c.in_ok-put_mark.ensures.puts.all
    (events_on (transfer_events n due.transfers) _ c.in_ok-put_transfers.ensures.puts.all
    (events_on (line_events n due.lines) (value_events n due.value)
    (rw c.lines.ensures at c.in_ok-put_lines.ensures.puts.all)
    (rw c.value.ensures at c.put_value.ensures.puts)))
