-- The other saved memories are those of the pool, and so are the pages that are shared.
use Rattle.std.proofs.Common.{subst}
use Rattle.cx_pages.specs.Memories.{SameOthers}
use Rattle.cx_ram.specs.PhysicalMemory.{PhysicalMemory, IsShared}
use Rattle.cx_ram.specs.Flat.{physical}
use Rattle.cx_ram.proofs.SavedMemories.{shared_from_pool, shared_in_pool, same_others}
use Rattle.cx_ram.proofs.ram.Ram.forget.Goals as goal

pub returns-clause-others : goal.returns-clause-others
returns-clause-others c =
    subst (λ (v : PhysicalMemory). SameOthers c.args.snap v.saved (physical c.forget.new.self).saved) c.self.view_is
    (same_others c.self.inside.pool.saved c.forget.new.self.saved c.args.snap c.forget.ensures.others)

pub returns-clause-own : goal.returns-clause-own
returns-clause-own c = λ page own shared.
    c.forget.ensures.own page (λ before. own (subst (λ (v : PhysicalMemory). IsShared v page) c.self.view_is
    (shared_from_pool c.self.inside.pool page before)))
    (shared_in_pool c.forget.new.self page shared)
