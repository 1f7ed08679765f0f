use Rattle.std.proofs.Common.{arith}
use Rattle.cx_window.proofs.Marking.{bytes_marked}
use Rattle.cx_window.proofs.marks.mark_bytes.Goals as goal

pub returns : goal.returns
returns c =
    bytes_marked c.args.marks.now c.mark_page.new.marks c.mark_page-2.new.marks c.args.place c.args.len
    c.if-place-lt-RAM_START.false c.if-len-eq0.false (omega (arith, c.ranges.len.fits)) c.mark_page.ensures.size
    c.mark_page.ensures.marked
    c.mark_page-2.ensures.size c.mark_page-2.ensures.marked
