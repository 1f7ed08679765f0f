use Rattle.std.proofs.Common.{arith}
use Rattle.std.proofs.lemmas.Result.{IfOk-weaker}
use Rattle.cx_gen.specs.Made.{disk_byte, letter}
use Rattle.cx_gen.proofs.Drawn.{drawn_size}
use Rattle.cx_gen.proofs.Making.{made_of_parts}
use Rattle.cx_gen.proofs.make.made.Goals as goal

pub image_text-requires-clause-disk : goal.image_text-requires-clause-disk
image_text-requires-clause-disk c =
    rw (c.deref-3.ensures.value, c.in_ok-disk.ensures, drawn_size (disk_byte c.args.n) 8192) (omega arith)

pub image_text-requires-clause-console : goal.image_text-requires-clause-console
image_text-requires-clause-console c =
    rw (c.deref-4.ensures.value, c.in_ok-console.ensures, drawn_size (letter c.args.n) 64) (omega arith)

pub returns : goal.returns
returns c = IfOk-weaker c.image_text.result _ _ (λ text is. made_of_parts c.args.n c.in_ok-ram.ram.memory
    c.in_ok-disk.disk.items c.in_ok-console.console.items text.items c.in_ok-ram.ensures c.pages.ensures.bytes
    c.in_ok-disk.ensures (rw (← c.deref.ensures.value) c.are_bytes.ensures) c.in_ok-console.ensures
    (rw (← c.deref-2.ensures.value) c.are_bytes-2.ensures)
    (rw (← c.deref-3.ensures.value, ← c.deref-4.ensures.value) is)) c.image_text.ensures
