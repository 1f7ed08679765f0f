use Rattle.std.proofs.Common.{ap, ◌∙◌}
use Rattle.cx_ram.specs.PhysicalMemory.{page_of}
use Rattle.cx_window.specs.Slice.{Sliced}
use Rattle.cx_window.proofs.WindowOf.{page_at}
use Rattle.cx_window.proofs.slice.Slice.page.Goals as goal

pub returns : goal.returns
returns c =
    page_at c.self.inside.machine.saved c.self.inside.moment c.args.page c.moment_page.result.now
    c.self.invariant.1.live
    c.moment_page.ensures ∙ ap (λ (s : Sliced). page_of s.memory c.args.page) c.self.view_is
