use Rattle.std.proofs.Common.{refl}
use Rattle.std.proofs.lemmas.Result.{err_from_is_err_and}
use Rattle.cx_placing.specs.Records.{Async, Calls}
use Rattle.cx_callfmt.specs.Engine.{head_in}
use Rattle.cx_call_alone.specs.declared.items.Told.TheVariants as variant
use Rattle.cx_call_alone.proofs.Heads.{
  call_begins,
  end_comes,
  end_is_last,
  fault_comes,
  headed_comes,
  headed_fails,
  items_begin,
  value_comes,
}
use Rattle.cx_call_alone.proofs.reading.read_record.Goals as goal

pub returns-in_err-head-in-Ok-Items-clause-reads : goal.returns-in_err-head-in-Ok-Items-clause-reads
returns-in_err-head-in-Ok-Items-clause-reads g c = λ told input may are.
    let p = err_from_is_err_and c.from_residual.result c.from_residual.ensures.1 in
    let headed = items_begin c.args.reader.now.behind c.in-Ok-Items.index c.in-Ok-Items.found c.in-Ok-Items.field-0 _ _
    c.in-Ok-Items.field-0-is (c.in-Ok-Items.ensures.reads told) in
    rw (p.1, p.2) (headed_fails c.args.reader.now.behind c.in-Ok-Items.index Async (head_in c.in-Ok-Items.found) _ _ _
    c.in_err-head-in-Ok-Items.field-0.0 input headed (c.in_err-head-in-Ok-Items.ensures.reads headed.follows.told)
    c.in_err-head-in-Ok-Items.ensures.kind may)

pub returns-in_err-head-in-Ok-Call-clause-reads : goal.returns-in_err-head-in-Ok-Call-clause-reads
returns-in_err-head-in-Ok-Call-clause-reads g c = λ told input may are.
    let p = err_from_is_err_and c.from_residual-in_err-head-in-Ok-Call.result
    c.from_residual-in_err-head-in-Ok-Call.ensures.1 in
    let headed = call_begins c.args.reader.now.behind c.in-Ok-Call.index c.in-Ok-Call.number c.in-Ok-Call.found
    c.in-Ok-Call.field-0 _ _ c.in-Ok-Call.field-0-is (c.in-Ok-Call.ensures.reads told) in
    rw (p.1, p.2) (headed_fails c.args.reader.now.behind c.in-Ok-Call.index (Calls c.in-Ok-Call.number)
    (head_in c.in-Ok-Call.found) _ _ _ c.in_err-head-in-Ok-Call.field-0.0 input headed
    (c.in_err-head-in-Ok-Call.ensures.reads headed.follows.told) c.in_err-head-in-Ok-Call.ensures.kind may)

pub returns-in_ok-head-in-Ok-Items-clause-reads : goal.returns-in_ok-head-in-Ok-Items-clause-reads
returns-in_ok-head-in-Ok-Items-clause-reads g c = λ told input may are.
    let headed = items_begin c.args.reader.now.behind c.in-Ok-Items.index c.in-Ok-Items.found c.in-Ok-Items.field-0 _ _
    c.in-Ok-Items.field-0-is (c.in-Ok-Items.ensures.reads told) in
    headed_comes c.args.reader.now.behind c.in-Ok-Items.index Async (head_in c.in-Ok-Items.found) _ _ _
    c.in_ok-head-in-Ok-Items.head (variant.Items c.in_ok-head-in-Ok-Items.head) input headed
    (c.in_ok-head-in-Ok-Items.ensures.reads headed.follows.told) refl may.begins are

pub returns-in_ok-head-in-Ok-Call-clause-reads : goal.returns-in_ok-head-in-Ok-Call-clause-reads
returns-in_ok-head-in-Ok-Call-clause-reads g c = λ told input may are.
    let headed = call_begins c.args.reader.now.behind c.in-Ok-Call.index c.in-Ok-Call.number c.in-Ok-Call.found
    c.in-Ok-Call.field-0 _ _ c.in-Ok-Call.field-0-is (c.in-Ok-Call.ensures.reads told) in
    headed_comes c.args.reader.now.behind c.in-Ok-Call.index (Calls c.in-Ok-Call.number)
    (head_in c.in-Ok-Call.found) _ _ _ c.in_ok-head-in-Ok-Call.head
    (variant.Call (record { number = c.in-Ok-Call.number; head = c.in_ok-head-in-Ok-Call.head })) input headed
    (c.in_ok-head-in-Ok-Call.ensures.reads headed.follows.told) refl may.begins are

pub returns-in-Ok-Value-clause-reads : goal.returns-in-Ok-Value-clause-reads
returns-in-Ok-Value-clause-reads g c = λ told input may are.
    value_comes c.args.reader.now.behind c.in-Ok-Value.index c.in-Ok-Value.word c.in-Ok-Value.field-0 _ _
    (variant.Value c.in-Ok-Value.word) input c.in-Ok-Value.field-0-is (c.in-Ok-Value.ensures.reads told) refl may.begins
    are

pub returns-in-Ok-End-clause-reads : goal.returns-in-Ok-End-clause-reads
returns-in-Ok-End-clause-reads g c = λ told input may are.
    end_comes c.args.reader.now.behind c.in-Ok-End.count c.in-Ok-End.field-0 _ _ input c.in-Ok-End.field-0-is
    (c.in-Ok-End.ensures.reads told) may are

pub returns-in-Ok-End-clause-last : goal.returns-in-Ok-End-clause-last
returns-in-Ok-End-clause-last g c = λ told none.
    end_is_last c.args.reader.now.behind c.in-Ok-End.count c.in-Ok-End.field-0 _ _ c.in-Ok-End.field-0-is
    (c.in-Ok-End.ensures.reads told)

pub returns-in-Err-clause-reads : goal.returns-in-Err-clause-reads
returns-in-Err-clause-reads g c = λ told input may are.
    fault_comes c.args.reader.now.behind c.in-Err.fault c.replay_fault.result _ _ input c.replay_fault.ensures
    (c.in-Err.ensures.reads told) may
