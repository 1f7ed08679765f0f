-- One more frame of zeros, or none.
use Rattle.std.proofs.lemmas.List.Elements.{All-push}
use Rattle.cx_pages.specs.Frames.{IsWhole}
use Rattle.cx_pages.proofs.Framing.{zero_page-whole}
use Rattle.cx_pages.proofs.frames.Frames.push.Goals as goal
use Rattle.cx_pages.proofs.frames.Frames.push.Goals.{in-Ok, in-Err}

pub invariant_of-self : goal.invariant_of-self
invariant_of-self c =
    let frame : IsWhole c.in_ok-frame.frame = rw c.in_ok-frame.ensures zero_page-whole in
    elim c.match-push.branch [
      | in-Ok w ↦ rw w.in-Ok.ensures.items (All-push IsWhole _ _ c.self.invariant frame)
      | in-Err w ↦ rw w.in-Err.ensures.items c.self.invariant
    ]
