-- The bytes stand in one page of the pool.
use Rattle.std.proofs.Common.{◌%◌, ◌∙◌, List, ℕ, ap}
use Rattle.cx_ram.specs.LittleEndian.{loaded}
use Rattle.cx_ram.specs.PhysicalMemory.{PhysicalMemory}
use Rattle.cx_ram.proofs.Places.{page_there, loaded_in_page}
use Rattle.cx_ram.proofs.ram.Ram.load.Goals as goal

pub page_bytes-requires : goal.page_bytes-requires
page_bytes-requires c =
    page_there c.self.inside.pool.current.pages c.args.self.now.memory c.args.pa c.args.len
    (ap (λ (v : PhysicalMemory). v.memory) c.self.view_is) c.pages.ensures.whole c.requires.ram (c.requires.length).0

pub returns-clause-value : goal.returns-clause-value
returns-clause-value c =
    c.load.ensures.value ∙ ap (λ (l : List ℕ). loaded l (c.args.pa % 4096) c.args.len) c.page_bytes.ensures
    ∙ loaded_in_page c.self.inside.pool.current.pages c.args.self.now.memory c.args.pa c.args.len
    (ap (λ (v : PhysicalMemory). v.memory) c.self.view_is) c.pages.ensures.whole c.requires.ram (c.requires.length).0
    c.requires.page
