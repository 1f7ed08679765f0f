use Rattle.std.proofs.Common.{◌≡◌, ◌<◌, ◌+◌, ◌-◌, ◌∙◌, List, length, take, slice_index_or, ap, sym, arith}
use Rattle.cx_log.specs.Recording.{Recorded}
use Rattle.cx_replay.specs.Events.{last_bytes}
use Rattle.cx_replay.proofs.EventsKept.{bytes_here}
use Rattle.cx_replay.proofs.kept.KeptEvents.last_bytes.Goals as goal

pub returns : goal.returns
returns c =
    let events : List Recorded = c.args.self.now in
    let k = c.args.count - 1 in
    let x = c.index.result.now in
    let here : slice_index_or events k x ≡ x = ap (λ es. slice_index_or es k x) (sym c.self.view_is)
    ∙ sym c.index.ensures in
    let some = c.if-count-eq0.false in
    let next : k + 1 ≡ c.args.count = omega (arith, some) in
    let there : k < length events = omega (arith, c.requires, some) in
    c.bytes.ensures ∙ sym (bytes_here events k x x there here) ∙ ap (λ n. last_bytes (take n events)) next
