-- RAM of zeros is pages of zeros.
use Rattle.std.proofs.Common.{ℕ, List, ◌∙◌, ap, length}
use Rattle.std.specs.List.{concat}
use Rattle.std.proofs.lemmas.List.{length-replicate}
use Rattle.cx_pages.specs.Memories.{Memory}
use Rattle.cx_ram.proofs.JoinedPages.{zeros-joined}
use Rattle.cx_ram.proofs.ram.Ram.new.Goals as goal

pub returns-clause-zeros : goal.returns-clause-zeros
returns-clause-zeros c = ap (λ (m : Memory). concat m.pages) c.in_ok-pool.ensures.current ∙ zeros-joined c.args.pages

pub returns-clause-size : goal.returns-clause-size
returns-clause-size c = ap (λ (l : List ℕ). length l) (returns-clause-zeros c) ∙ length-replicate {A = ℕ} _ 0
