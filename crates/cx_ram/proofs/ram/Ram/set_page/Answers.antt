-- The page of the place where it begins.
use Rattle.std.proofs.Common.{◌≡◌, ◌+◌, ◌*◌, ℕ, subst, arith}
use Rattle.cx_ram.specs.PhysicalMemory.{HasOwnPage, page_at}
use Rattle.cx_ram.proofs.ram.Ram.set_page.Goals as goal

pub returns-clause-own : goal.returns-clause-own
returns-clause-own c =
    let at : page_at (2147483648 + c.args.page * 4096) ≡ c.args.page = omega arith in
    subst (λ (page : ℕ). HasOwnPage page c.args.self.now c.write.new.self) at c.write.ensures.own
