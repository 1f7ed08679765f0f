-- What was saved has as many bytes, and all of its pages are shared.
use Rattle.std.proofs.Common.{◌∙◌, length, ap}
use Rattle.cx_ram.specs.PhysicalMemory.{PhysicalMemory}
use Rattle.cx_ram.proofs.SavedMemories.{restored_size, shared_from_pool}
use Rattle.cx_ram.proofs.ram.Ram.restore.Goals as goal

pub returns-clause-size : goal.returns-clause-size
returns-clause-size c =
    restored_size c.self.inside.pool c.args.snap.now c.restore.new.self.current c.pages.ensures.whole
    c.pages.ensures.saved c.restore.ensures.current
    ∙ ap (λ (v : PhysicalMemory). length v.memory) c.self.view_is

pub returns-clause-shared : goal.returns-clause-shared
returns-clause-shared c = λ page. shared_from_pool c.restore.new.self page (c.restore.ensures.shared page)
