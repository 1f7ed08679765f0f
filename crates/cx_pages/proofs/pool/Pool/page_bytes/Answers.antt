-- The bytes are those of the page's frame.
use Rattle.cx_pages.proofs.Sharing.{page_inside, entry_counted, counted_inside}
use Rattle.cx_pages.proofs.pool.Pool.page_bytes.Goals as goal

pub frame-requires : goal.frame-requires
frame-requires c =
    let here = page_inside _ _ _ _ _ c.args.page c.self.view_is c.requires in
    rw c.frames.ensures (counted_inside _ _ _ _ _ c.self.invariant (entry_counted _ _ _ _ c.args.page c.self.invariant
    here))
