use Rattle.std.proofs.Common.{ap, subst, ◌∙◌, ◌++◌, List, ℕ, refl}
use Rattle.std.proofs.lemmas.Result.{err_from_is_err_and, on_ok_weaker, on_err_weaker}
use Rattle.std.specs.Io.KnownBytes.{Appends}
use Rattle.cx_codec.specs.Blocks.{HasFront}
use Rattle.cx_codec.proofs.Blocks.{front_longer}
use Rattle.cx_codec.proofs.Putting.{finishes_fails, finishes_on, puts_fails, puts_on}
use Rattle.cx_log.specs.Order.{at_start}
use Rattle.cx_log.specs.Text.{end_text, pages_text}
use Rattle.cx_log.specs.declared.order.Behind.{Behind}
use Rattle.cx_run.specs.SoFar.{behind_all, events_text}
use Rattle.cx_window.specs.Slice.{IsWhole, Sliced, written_of}
use Rattle.cx_window.proofs.Kept.{text_of_slice}
use Rattle.cx_replay.proofs.EventsKept.{order_last}
use Rattle.cx_window.proofs.slice.Slice.write.Goals as goal

pub returns-in_err-writer-clause-refused : goal.returns-in_err-writer-clause-refused
returns-in_err-writer-clause-refused g c =
    let p = err_from_is_err_and c.from_residual.result c.from_residual.ensures.1 in
    let s = c.args.self.now in
    let b = at_start s.header.base s.header.start in
    let text = text_of_slice s _ b _ s.events _ c.front.ensures.header refl refl refl refl in
    rw (p.1, ← text) (front_longer _ _ _ ((pages_text (written_of s).memory s.header.pages ++ events_text b s.events)
    ++ end_text (behind_all b s.events).step s.to) c.in_err-writer.ensures.starts.refused)

pub returns-in_err-put_pages-clause-refused : goal.returns-in_err-put_pages-clause-refused
returns-in_err-put_pages-clause-refused g c =
    let p = err_from_is_err_and c.from_residual-in_err-put_pages.result c.from_residual-in_err-put_pages.ensures.1 in
    let s = c.args.self.now in
    let held = g.T.Sink.held c.args.sink.now in
    let b = at_start s.header.base s.header.start in
    let pages = pages_text (written_of s).memory s.header.pages in
    let text = text_of_slice s _ b _ s.events _ c.front.ensures.header refl refl refl refl in
    let failed = finishes_fails {Y = Unit {0}} (pages ++ events_text b s.events)
    (end_text (behind_all b s.events).step s.to)
    (puts_fails {Y = Unit {0}} pages (events_text b s.events) c.in_err-put_pages.ensures.puts) in
    rw (p.1, ← text) (failed.refused held _ c.in_ok-writer.ensures.starts.stands)

pub returns-in_err-put-clause-refused : goal.returns-in_err-put-clause-refused
returns-in_err-put-clause-refused g c =
    let p = err_from_is_err_and c.from_residual-in_err-put.result c.from_residual-in_err-put.ensures.1 in
    let s = c.args.self.now in
    let held = g.T.Sink.held c.args.sink.now in
    let b = c.put_pages.new.writer.behind in
    let from = c.in_ok-put_pages.ensures.behind ∙ c.in_ok-writer.ensures.started.behind
    ∙ ap (λ h. at_start h.base h.start) c.front.ensures.header in
    let events = c.self.inside.events in
    let text = text_of_slice s _ b _ events _ c.front.ensures.header from (ap (λ (x : Sliced). x.events) c.self.view_is)
    refl refl in
    let pages = pages_text (written_of s).memory s.header.pages in
    let failed = finishes_fails {Y = Unit {0}} (pages ++ events_text b events) (end_text (behind_all b events).step
    s.to)
    (puts_on pages (events_text b events) c.in_ok-put_pages.ensures.puts c.in_err-put.ensures.puts) in
    rw (p.1, ← text) (failed.refused held _ c.in_ok-writer.ensures.starts.stands)

pub end-requires-clause-rules : goal.end-requires-clause-rules
end-requires-clause-rules g c =
    let s = c.args.self.now in
    let b = at_start s.header.base s.header.start in
    let whole = subst IsWhole c.self.view_is c.self.invariant.0 in
    let from = c.in_ok-put_pages.ensures.behind ∙ c.in_ok-writer.ensures.started.behind
    ∙ ap (λ h. at_start h.base h.start) c.front.ensures.header in
    let last = c.in_ok-put.ensures.behind ∙ ap (λ (e : Behind). behind_all e c.self.inside.events) from
    ∙ ap (λ (x : Sliced). behind_all b x.events) c.self.view_is in
    let to = ap (λ (x : Sliced). x.to) c.self.view_is in
    rw (last, to) (order_last _ s.to b s.events whole.order)

pub returns-clause-written : goal.returns-clause-written
returns-clause-written g c =
    let s = c.args.self.now in
    let held = g.T.Sink.held c.args.sink.now in
    let from = c.in_ok-put_pages.ensures.behind ∙ c.in_ok-writer.ensures.started.behind
    ∙ ap (λ h. at_start h.base h.start) c.front.ensures.header in
    let text = text_of_slice s _ _ _ _ _ c.front.ensures.header from (ap (λ (x : Sliced). x.events) c.self.view_is)
    (ap (λ (x : Sliced). x.to) c.self.view_is) c.in_ok-put.ensures.behind in
    let put = finishes_on _ _ (puts_on (pages_text (written_of s).memory s.header.pages) _
    c.in_ok-put_pages.ensures.puts c.in_ok-put.ensures.puts) c.end.ensures in
    on_ok_weaker c.end.result (λ f. subst (λ (t : List ℕ). Appends held (g.T.Sink.held c.end.new.sink) t) text
    (f held _ c.in_ok-writer.ensures.starts.stands)) put.written

pub returns-clause-refused : goal.returns-clause-refused
returns-clause-refused g c =
    let s = c.args.self.now in
    let held = g.T.Sink.held c.args.sink.now in
    let from = c.in_ok-put_pages.ensures.behind ∙ c.in_ok-writer.ensures.started.behind
    ∙ ap (λ h. at_start h.base h.start) c.front.ensures.header in
    let text = text_of_slice s _ _ _ _ _ c.front.ensures.header from (ap (λ (x : Sliced). x.events) c.self.view_is)
    (ap (λ (x : Sliced). x.to) c.self.view_is) c.in_ok-put.ensures.behind in
    let put = finishes_on _ _ (puts_on (pages_text (written_of s).memory s.header.pages) _
    c.in_ok-put_pages.ensures.puts c.in_ok-put.ensures.puts) c.end.ensures in
    on_err_weaker c.end.result (λ f. subst (λ (t : List ℕ). HasFront held t (g.T.Sink.held c.end.new.sink)) text
    (f held _ c.in_ok-writer.ensures.starts.stands)) put.refused
