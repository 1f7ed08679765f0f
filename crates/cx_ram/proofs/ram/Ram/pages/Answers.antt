-- RAM is the pages of the pool, joined.
use Rattle.std.proofs.Common.{◌≡◌, ◌∙◌, length, sym, subst, ap}
use Rattle.cx_map.specs.Bytes.{AreBytes}
use Rattle.cx_map.specs.Map.{size_of_pages}
use Rattle.cx_ram.specs.PhysicalMemory.{PhysicalMemory, AreSavedBytes}
use Rattle.cx_ram.proofs.JoinedPages.{length-joined, bytes-joined}
use Rattle.cx_ram.proofs.SavedMemories.{saved_bytes}
use Rattle.cx_ram.proofs.ram.Ram.pages.Goals as goal

pub returns-clause-whole : goal.returns-clause-whole
returns-clause-whole c =
    subst (λ (v : PhysicalMemory). length v.memory ≡ size_of_pages c.pages.result) c.self.view_is
    (length-joined _ c.pages.ensures.whole ∙ ap size_of_pages (sym c.pages.ensures.pages))

pub returns-clause-bytes : goal.returns-clause-bytes
returns-clause-bytes c = subst (λ (v : PhysicalMemory). AreBytes v.memory) c.self.view_is
    (bytes-joined _ c.pages.ensures.whole)

pub returns-clause-saved : goal.returns-clause-saved
returns-clause-saved c = subst AreSavedBytes c.self.view_is
    (saved_bytes c.self.inside.pool c.pages.ensures.whole c.pages.ensures.saved)
