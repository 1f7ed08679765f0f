use Rattle.std.proofs.Common.{◌-◌, ◌∙◌, [], ap, arith, length, refl, sym}
use Rattle.std.proofs.lemmas.Result.{err_from_is_err_and}
use Rattle.cx_hart.specs.Whole.{machine_of}
use Rattle.cx_log.specs.declared.header.Header.{Header}
use Rattle.cx_machine.specs.Machine.{pages_of}
use Rattle.cx_replay.specs.Replaying.{Replaying, Stands}
use Rattle.cx_seek.proofs.KeptRuns.{seen_still, stands_with}
use Rattle.cx_seek.proofs.Openings.{first_keeps_of, first_kept, opened_at_end}
use Rattle.cx_seek.proofs.seeker.Seeker.open.Goals as goal

pub run_through-requires-clause-kept : goal.run_through-requires-clause-kept
run_through-requires-clause-kept g c =
    let ok = c.in_ok-save.ensures in
    let progress = ap (λ (x : Replaying g.row.R.Denot). x.progress.at) ok.still.rest in
    first_kept (g.R.Records.seen c.save.new.replay.records).pages (pages_of c.args.replay.machine.memory)
    (length c.new-keeping.result.notes) (c.save.new.replay.progress.at - c.args.header.now.base)
    (machine_of c.args.replay.machine) c.args.replay.machine.saved c.save.new.replay.machine.saved
    c.new-keeping.result c.save.new.keeping c.new-keeping.ensures.none c.new-keeping.ensures.distance ok.saves
    (ok.pages ∙ sym (seen_still g.R.Records.seen c.args.replay c.save.new.replay ok.still)) ok.distance
    (omega (arith, progress, c.requires.at))

pub returns-in_err-run_through-clause-opens : goal.returns-in_err-run_through-clause-opens
returns-in_err-run_through-clause-opens g c told input begins end o whole is stands =
    let p = err_from_is_err_and c.from_residual-in_err-run_through.result c.from_residual-in_err-run_through.ensures.1
    in
    let ok = c.in_ok-save.ensures in
    let first = c.args.replay in
    let next = c.save.new.replay in
    let records = ap (λ (x : Replaying g.row.R.Denot). x.records) ok.still.rest in
    let progress = ap (λ (x : Replaying g.row.R.Denot). x.progress) ok.still.rest in
    let base = ap (λ (h : Header). h.base) is in
    let now : Stands o whole [] next.machine next.progress (g.R.Records.seen next.records).bytes
    (g.R.Records.has next.records (g.S.Source.given c.args.source.now) input end) = rw (records, progress)
    (stands_with o whole [] first.machine next.machine first.progress _ _ ok.still.machine ok.still.split stands) in
    rw (p.1, p.2) (c.in_err-run_through.ensures.ran told input begins end o whole [] base now
    (first_keeps_of o whole (pages_of first.machine.memory) (length c.new-keeping.result.notes) first.machine
    first.progress next.progress (g.R.Records.seen first.records).bytes
    (g.R.Records.has first.records (g.S.Source.given c.args.source.now) input end) next.machine.saved
    c.new-keeping.result c.save.new.keeping c.new-keeping.ensures.none ok.saves ok.notes refl progress
    (c.requires.at ∙ sym base) stands))

pub returns-clause-opens : goal.returns-clause-opens
returns-clause-opens g c told input begins end o whole is stands =
    let ok = c.in_ok-save.ensures in
    let first = c.args.replay in
    let next = c.save.new.replay in
    let records = ap (λ (x : Replaying g.row.R.Denot). x.records) ok.still.rest in
    let progress = ap (λ (x : Replaying g.row.R.Denot). x.progress) ok.still.rest in
    let base = ap (λ (h : Header). h.base) is in
    let now : Stands o whole [] next.machine next.progress (g.R.Records.seen next.records).bytes
    (g.R.Records.has next.records (g.S.Source.given c.args.source.now) input end) = rw (records, progress)
    (stands_with o whole [] first.machine next.machine first.progress _ _ ok.still.machine ok.still.split stands) in
    let ran = c.in_ok-run_through.ensures.ran told input begins end o whole [] base now
    (first_keeps_of o whole (pages_of first.machine.memory) (length c.new-keeping.result.notes) first.machine
    first.progress next.progress (g.R.Records.seen first.records).bytes
    (g.R.Records.has first.records (g.S.Source.given c.args.source.now) input end) next.machine.saved
    c.new-keeping.result c.save.new.keeping c.new-keeping.ensures.none ok.saves ok.notes refl progress
    (c.requires.at ∙ sym base) stands) in
    λ h. opened_at_end o whole c.args.header.now c.run_through.new.replay.progress.at c.run_through.new.replay.machine
    c.run_through.new.keeping c.of.result is (ran h) (rw (c.at-end.ensures, c.into_machine.ensures.machine) at
    c.of.ensures)
