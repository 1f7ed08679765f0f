-- The only frame is one of zeros.
use Rattle.std.proofs.Common.{[]}
use Rattle.std.proofs.lemmas.List.Elements.{All-cons, All-nil}
use Rattle.cx_pages.specs.Frames.{IsWhole}
use Rattle.cx_pages.proofs.Framing.{zero_page-whole}
use Rattle.cx_pages.proofs.frames.Frames.new.Goals as goal

pub invariant_of-result : goal.invariant_of-result
invariant_of-result c =
    let frame : IsWhole c.in_ok-frame.frame = rw c.in_ok-frame.ensures zero_page-whole in
    rw (c.in-Ok.ensures.items, c.new-frames.ensures.items) (All-cons IsWhole _ [] frame (All-nil IsWhole))
