use Rattle.std.proofs.Common.{◌&&◌, sym, ◌∙◌}
use Rattle.std.proofs.lemmas.Bool.{and_parts}
use Rattle.cx_marks.specs.Marked.{is_marked}
use Rattle.cx_ram.proofs.Writes.{length-low_bytes}
use Rattle.cx_ram.specs.LittleEndian.{low_bytes}
use Rattle.cx_calls.proofs.Accessed.{step_marked}
use Rattle.cx_calls.proofs.touching.all_touched.Goals as goal

pub returns : goal.returns
returns c = λ yes.
    let parts = and_parts c.has_run-word.result (c.has_access-read.result && c.has_access-write.result)
    (sym c.all_three.ensures ∙ yes) in
    let others = and_parts c.has_access-read.result c.has_access-write.result parts.1 in
    step_marked (is_marked c.args.touched.now) c.args.obs.now
    (c.has_run-word.ensures parts.0 (low_bytes 4 c.args.obs.now.word) (length-low_bytes 4 c.args.obs.now.word))
    (c.has_access-read.ensures others.0) (c.has_access-write.ensures others.1)
