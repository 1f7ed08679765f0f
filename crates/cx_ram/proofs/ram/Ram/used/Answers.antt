-- The stamps are those of the pool.
use Rattle.std.proofs.Common.{◌≡◌, ◌∙◌, sym, subst}
use Rattle.cx_pages.specs.Memories.{stamp_count}
use Rattle.cx_ram.specs.PhysicalMemory.{PhysicalMemory, frames_of}
use Rattle.cx_ram.proofs.SavedMemories.{stamps_counted}
use Rattle.cx_ram.proofs.ram.Ram.used.Goals as goal

pub returns-clause-stamps : goal.returns-clause-stamps
returns-clause-stamps c = subst (λ (v : PhysicalMemory). v.used ≡ stamp_count (frames_of v)) c.self.view_is
    (c.used.ensures.stamps ∙ sym (stamps_counted c.self.inside.pool))
