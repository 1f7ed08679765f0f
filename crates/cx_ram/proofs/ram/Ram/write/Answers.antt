-- The bytes of one page of the pool are written.
use Rattle.std.proofs.Common.{◌-◌, ◌∙◌, List, ℕ, length, ap, arith, subst}
use Rattle.std.specs.List.{concat}
use Rattle.cx_ram.specs.PhysicalMemory.{PhysicalMemory, HasOwnPage, page_at}
use Rattle.cx_ram.specs.Flat.{physical}
use Rattle.cx_ram.proofs.SavedMemories.{own_from_pool}
use Rattle.cx_ram.proofs.LoadsAndWrites.{length-written}
use Rattle.cx_ram.proofs.Places.{page_there, written_in_page}
use Rattle.cx_ram.proofs.ram.Ram.write.Goals as goal

pub write-requires-clause-page : goal.write-requires-clause-page
write-requires-clause-page c =
    page_there c.self.inside.pool.current.pages c.args.self.now.memory c.args.pa (length c.args.bytes.now)
    (ap (λ (v : PhysicalMemory). v.memory) c.self.view_is) c.pages.ensures.whole c.requires.ram c.requires.some

pub returns-clause-memory : goal.returns-clause-memory
returns-clause-memory c =
    ap (λ (pages : List (List ℕ)). concat pages) c.write.ensures.pages
    ∙ written_in_page c.self.inside.pool.current.pages c.args.self.now.memory c.args.pa c.args.bytes.now
    (ap (λ (v : PhysicalMemory). v.memory) c.self.view_is) c.pages.ensures.whole c.requires.ram c.requires.some
    c.requires.page

pub returns-clause-size : goal.returns-clause-size
returns-clause-size c =
    ap (λ (l : List ℕ). length l) (returns-clause-memory c)
    ∙ length-written c.args.self.now.memory (c.args.pa - 2147483648) c.args.bytes.now
    (omega (arith, c.requires.ram.high, c.requires.ram.low))

pub returns-clause-own : goal.returns-clause-own
returns-clause-own c =
    subst (λ (v : PhysicalMemory). HasOwnPage (page_at c.args.pa) v (physical c.write.new.self)) c.self.view_is
    (own_from_pool (page_at c.args.pa) c.self.inside.pool c.write.new.self c.write.ensures.own c.write.ensures.others)
