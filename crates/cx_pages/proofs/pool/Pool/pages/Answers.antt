-- The frames that pages have are whole.
use Rattle.std.proofs.Common.{subst}
use Rattle.cx_pages.specs.Memories.{Memories, AreWhole, AreSavedWhole}
use Rattle.cx_pages.proofs.Sharing.{pages_whole, saved_whole}
use Rattle.cx_pages.proofs.pool.Pool.pages.Goals as goal

pub returns-clause-whole : goal.returns-clause-whole
returns-clause-whole c = subst (λ (m : Memories). AreWhole m.current) c.self.view_is
    (pages_whole _ _ _ _ c.self.invariant c.tell_whole.ensures)

pub returns-clause-saved : goal.returns-clause-saved
returns-clause-saved c = subst AreSavedWhole c.self.view_is (saved_whole _ _ _ _ c.self.invariant c.tell_whole.ensures)
