use Rattle.std.proofs.Common.{◌++◌, ap, ◌∙◌}
use Rattle.cx_observe.specs.Seeing.{bytes_on, bytes_shown, sights}
use Rattle.cx_program.proofs.Shown.{low_four}
use Rattle.cx_program.proofs.bytes.sights.Goals as goal

pub returns : goal.returns
unfolding sights
returns c = c.push_shown.ensures ∙ ap (λ l. l ++ bytes_shown c.args.obs.now.read)
    (c.push_on.ensures.bytes ∙ (ap (λ l. l ++ bytes_on c.args.obs.now.pc c.to_le_bytes.result) c.new-bytes.ensures
    ∙ ap (bytes_on c.args.obs.now.pc) (c.to_le_bytes.ensures ∙ low_four c.args.obs.now.word)))
