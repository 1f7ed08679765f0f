use Rattle.std.proofs.Common.{[], Some, ap, ◌∙◌}
use Rattle.cx_codec.specs.Place.{Place, end_of}
use Rattle.cx_codec.specs.Reads.{over, place_in}
use Rattle.cx_codec.proofs.Putting.{nothing_put}
use Rattle.cx_inspect.specs.Roots.{roots_from}
use Rattle.cx_log.specs.Reading.{Opened}
use Rattle.cx_commands.specs.Opening.{scan_from}
use Rattle.cx_telling.proofs.Consuming.{consumes_some}
use Rattle.cx_commands.proofs.Judging.{bytes_of_begun}
use Rattle.cx_telling.proofs.Ordered.{ordered_behind}
use Rattle.cx_tellers.proofs.RootsTold.{count_cause, count_is_early, count_refused, roots_stop}
use Rattle.cx_top.proofs.roots.count_opened.Goals as goal

pub returns-in-Ok-clause-reads : goal.returns-in-Ok-clause-reads
returns-in-Ok-clause-reads g c told input bytes begins are begun =
    let o : Opened = record { header = c.args.opening.reader.header; memory = c.args.opening.machine.memory } in
    let left = g.S.Source.left c.args.source.now in
    let given = g.S.Source.given c.args.source.now in
    let p : Place = place_in (over c.args.opening.reader.input left given) input in
    let stands = c.of_log-replay.ensures.stands given input (bytes_of_begun bytes o p are begun) in
    let all = c.in-Ok.ensures.tells told input begins (end_of p) tt o (scan_from o p) _
    (ordered_behind bytes o p are begun) stands
    (record { stands = nothing_put _; keeps = c.new-counting.ensures }) in
    λ h. record {
      opened = o;
      place = p;
      begun = begun;
      good = all.1.0.good h;
      are = c.into_roots.ensures ∙ all.1.1.keeps ∙ ap (roots_from o.header.base) all.1.0.all;
    }

pub returns-clause-reads : goal.returns-clause-reads
returns-clause-reads g c told input bytes begins are begun =
    let o : Opened = record { header = c.args.opening.reader.header; memory = c.args.opening.machine.memory } in
    let left = g.S.Source.left c.args.source.now in
    let given = g.S.Source.given c.args.source.now in
    let p : Place = place_in (over c.args.opening.reader.input left given) input in
    let stands = c.of_log-replay.ensures.stands given input (bytes_of_begun bytes o p are begun) in
    let base = Some c.new-nowhere.result.held in
    let held = Some c.tell_all.new.sink.held in
    rw c.without_sink.ensures (roots_stop bytes [] _ _ o p base held c.in-Err.status are begun
    (c.in-Err.ensures.tells told input begins (end_of p) tt o (scan_from o p) base (ordered_behind bytes o p are begun)
    stands (record { stands = nothing_put _; keeps = c.new-counting.ensures })))

pub returns-clause-consumes : goal.returns-clause-consumes
returns-clause-consumes g c told =
    rw c.without_sink.ensures (consumes_some (c.in-Err.ensures.follows told)
    (count_is_early c.in-Err.status c.in-Err.ensures.kind))

pub returns-clause-kind : goal.returns-clause-kind
returns-clause-kind g c = rw c.without_sink.ensures (count_refused c.in-Err.status c.in-Err.ensures.kind)

pub returns-clause-cause : goal.returns-clause-cause
returns-clause-cause g c = rw c.without_sink.ensures (count_cause c.in-Err.status c.in-Err.ensures.read_cause)
