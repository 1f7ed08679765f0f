-- A saved page is that of the pool.
use Rattle.std.proofs.Common.{◌≡◌, ◌<◌, sym, subst, arith}
use Rattle.std.specs.Prelude.{IfSome}
use Rattle.std.specs.List.{concat}
use Rattle.cx_pages.specs.Memories.{page_count}
use Rattle.cx_ram.specs.PhysicalMemory.{PhysicalMemory, SavedMemory, IsLive, IsPage, page_of, saved_at}
use Rattle.cx_ram.proofs.JoinedPages.{length-joined}
use Rattle.cx_ram.proofs.SavedMemories.{live_in_pool, saved_page}
use Rattle.cx_ram.proofs.ram.Ram.saved_page_bytes.Goals as goal

pub saved_page_bytes-requires-clause-page : goal.saved_page_bytes-requires-clause-page
saved_page_bytes-requires-clause-page c =
    let here : IsPage (concat c.self.inside.pool.current.pages) c.args.page =
    subst (λ (v : PhysicalMemory). IsPage v.memory c.args.page) (sym c.self.view_is) c.requires.page in
    omega (arith, length-joined _ c.pages.ensures.whole)

pub returns : goal.returns
returns c =
    let here : IsPage (concat c.self.inside.pool.current.pages) c.args.page =
    subst (λ (v : PhysicalMemory). IsPage v.memory c.args.page) (sym c.self.view_is) c.requires.page in
    let there : c.args.page < page_count c.self.inside.pool.current =
    omega (arith, length-joined _ c.pages.ensures.whole) in
    let live = live_in_pool c.self.inside.pool c.args.snap.now
    (subst (λ (v : PhysicalMemory). IsLive v c.args.snap.now) (sym c.self.view_is) c.requires.live) in
    subst (λ (v : PhysicalMemory). IfSome (saved_at v c.args.snap.now) (λ (s : SavedMemory).
    c.saved_page_bytes.result.now ≡ page_of s.memory c.args.page)) c.self.view_is
    (saved_page c.self.inside.pool c.args.snap.now c.args.page _ c.pages.ensures.whole c.pages.ensures.saved live there
    c.saved_page_bytes.ensures)
