use Rattle.std.proofs.Common.{◌≡◌, ap, refl, sym}
use Rattle.cx_log.specs.Order.{at_start}
use Rattle.cx_log.specs.Scan.{Scan, scan}
use Rattle.cx_log.specs.declared.header.Header.{Header}
use Rattle.cx_log.specs.declared.order.Behind.{Behind}
use Rattle.cx_codec.specs.Place.{end_of}
use Rattle.cx_replay.specs.LogRecords.{HasAhead, place_of}
use Rattle.cx_replay.proofs.Scanning.{scan_rises}
use Rattle.cx_replay.proofs.replay.Replay+LogReader.of_log.Goals as goal

pub returns-clause-stands : goal.returns-clause-stands
returns-clause-stands c given input are =
    let r = c.args.reader in
    let p = place_of r given input in
    let behind : Behind = at_start r.header.base r.header.start in
    let whole : Scan = scan r.header.pages behind p in
    let base : c.header.result.now.base ≡ r.header.base = ap (λ (h : Header). h.base) c.header.ensures.header in
    let here : HasAhead r given input (end_of p) whole = record {
      bytes = are;
      ends = refl;
      is = rw c.requires.begun.ended (ap (λ (b : Behind). scan r.header.pages b p) (sym c.requires.begun.behind));
    } in
    c.start.ensures.stands given input (end_of p) (record { header = r.header; memory = c.args.machine.memory }) whole
    here
    (rw base (scan_rises r.header.pages behind p are))
    (record { base_is = sym base; start = sym c.requires.state; memory = refl; split = sym c.requires.split })
