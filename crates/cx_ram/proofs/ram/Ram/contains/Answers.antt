-- The size that is kept is that of RAM.
use Rattle.std.proofs.Common.{◌≡◌, ℕ, ◌∙◌, ◌↔◌, length, sym, subst, arith}
use Rattle.std.specs.Prelude.{IsTrue}
use Rattle.cx_map.specs.Map.{IsInRam}
use Rattle.cx_ram.specs.PhysicalMemory.{PhysicalMemory}
use Rattle.cx_ram.proofs.JoinedPages.{length-joined}
use Rattle.cx_ram.proofs.ram.Ram.contains.Goals as goal

pub is_in_ram-requires : goal.is_in_ram-requires
is_in_ram-requires c = omega (arith, c.self.invariant, c.pages.ensures.count, c.pages.ensures.pages)

size_is : (c : goal.After-is_in_ram) → c.self.inside.size ≡ length c.args.self.now.memory
size_is c = subst (λ (v : PhysicalMemory). c.self.inside.size ≡ length v.memory) c.self.view_is
    (c.self.invariant ∙ sym (length-joined _ c.pages.ensures.whole))

pub returns-clause-inside : goal.returns-clause-inside
returns-clause-inside c = subst (λ (n : ℕ). IsTrue c.is_in_ram.result ↔ IsInRam n c.args.pa c.args.len) (size_is c)
    c.is_in_ram.ensures

pub returns-clause-most : goal.returns-clause-most
returns-clause-most c inside = omega (
  arith,
  (c.is_in_ram.ensures.0 inside).high,
  c.self.invariant,
  c.pages.ensures.count,
  c.pages.ensures.pages,
)
