use Rattle.std.proofs.Common.{None, [], refl}
use Rattle.std.proofs.lemmas.Result.{err_from_is_err_and}
use Rattle.cx_codec.specs.Place.{end_of}
use Rattle.cx_codec.specs.Reads.{over, place_in}
use Rattle.cx_observe.specs.User.{user}
use Rattle.cx_program.specs.Knowing.{known_by}
use Rattle.cx_slicefmt.specs.Rules.{process}
use Rattle.cx_slicefmt.specs.Scan.{scan_groups}
use Rattle.cx_slicefmt.proofs.Scans.{scan_rises}
use Rattle.cx_slices.specs.Items.{start}
use Rattle.cx_alone.proofs.Answering.{refuses}
use Rattle.cx_alone.proofs.Runs.{begun}
use Rattle.cx_alone.proofs.alone.Alone.open_process.Goals as goal

pub returns-in_err-ahead-clause-opens : goal.returns-in_err-ahead-clause-opens
returns-in_err-ahead-clause-opens g c = λ told input may are.
    let p = err_from_is_err_and c.from_residual.result c.from_residual.ensures.1 in
    rw (p.1, p.2) (refuses
    (scan_groups process 0 (place_in (over c.args.bytes None (g.S.Source.given c.args.source.now)) input))
    (end_of (place_in (over c.args.bytes None (g.S.Source.given c.args.source.now)) input)) [] 0 (start user) _
    c.in_err-ahead.field-0.0
    (begun (scan_groups process 0 (place_in (over c.args.bytes None (g.S.Source.given c.args.source.now)) input))
    (start user) (scan_rises process 0
    (place_in (over c.args.bytes None (g.S.Source.given c.args.source.now)) input) are).groups refl)
    (c.in_err-ahead.ensures.opens told input may are))

pub returns-clause-opens : goal.returns-clause-opens
returns-clause-opens g c = λ told input may are. record {
  run = begun
      (scan_groups process 0 (place_in (over c.args.bytes None (g.S.Source.given c.args.source.now)) input))
      (known_by c.new.result) (scan_rises process 0
      (place_in (over c.args.bytes None (g.S.Source.given c.args.source.now)) input) are).groups c.new.ensures;
  ahead = c.in_ok-ahead.ensures.opens told input may are;
}
