-- The same pages are shared, and the other saved memories are those of the pool.
use Rattle.std.proofs.Common.{ℕ, subst}
use Rattle.cx_pages.specs.Memories.{SameOthers, IsShared as IsSharedPage}
use Rattle.cx_ram.specs.Flat.{physical}
use Rattle.cx_ram.specs.PhysicalMemory.{PhysicalMemory, IsShared}
use Rattle.cx_ram.proofs.SavedMemories.{if_ok, shared_from_pool, same_others}
use Rattle.cx_ram.proofs.ram.Ram.save.Goals as goal

pub returns-clause-others : goal.returns-clause-others
returns-clause-others c =
    if_ok c.save.result (λ (snap : ℕ). SameOthers snap c.self.inside.pool.saved c.save.new.self.saved)
    (λ (snap : ℕ). SameOthers snap c.args.self.now.saved (physical c.save.new.self).saved)
    (λ snap same. subst (λ (v : PhysicalMemory). SameOthers snap v.saved (physical c.save.new.self).saved)
    c.self.view_is (same_others c.self.inside.pool.saved c.save.new.self.saved snap same))
    c.save.ensures.others

pub returns-clause-shared : goal.returns-clause-shared
returns-clause-shared c =
    if_ok c.save.result (λ (snap : ℕ). (page : ℕ) → IsSharedPage c.save.new.self page)
    (λ (snap : ℕ). (page : ℕ) → IsShared (physical c.save.new.self) page)
    (λ snap shared page. shared_from_pool c.save.new.self page (shared page)) c.save.ensures.shared
