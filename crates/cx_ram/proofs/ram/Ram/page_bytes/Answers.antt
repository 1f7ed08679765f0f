-- A page of RAM is that of the pool.
use Rattle.std.proofs.Common.{◌∙◌, sym, subst, ap, arith}
use Rattle.std.specs.List.{concat}
use Rattle.cx_ram.specs.PhysicalMemory.{PhysicalMemory, IsPage, page_of}
use Rattle.cx_ram.proofs.JoinedPages.{length-joined, page-joined}
use Rattle.cx_ram.proofs.ram.Ram.page_bytes.Goals as goal

pub page_bytes-requires : goal.page_bytes-requires
page_bytes-requires c =
    let here : IsPage (concat c.self.inside.pool.current.pages) c.args.page =
    subst (λ (v : PhysicalMemory). IsPage v.memory c.args.page) (sym c.self.view_is) c.requires in
    omega (arith, length-joined _ c.pages.ensures.whole)

pub returns : goal.returns
returns c =
    let here : IsPage (concat c.self.inside.pool.current.pages) c.args.page =
    subst (λ (v : PhysicalMemory). IsPage v.memory c.args.page) (sym c.self.view_is) c.requires in
    c.page_bytes.ensures
    ∙ sym (page-joined _ c.args.page c.pages.ensures.whole (omega (arith, length-joined _ c.pages.ensures.whole)))
    ∙ ap (λ (v : PhysicalMemory). page_of v.memory c.args.page) c.self.view_is
