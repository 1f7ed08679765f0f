-- All bytes of the other frame are replaced.
use Rattle.std.proofs.Common.{◌∙◌, sym, subst}
use Rattle.cx_pages.specs.Frames.{frame_of, AreFrames}
use Rattle.cx_pages.proofs.Framing.{frame_whole, splice_whole}
use Rattle.cx_pages.proofs.frames.Frames.copy.Goals as goal

pub returns-clause-here : goal.returns-clause-here
returns-clause-here c =
    let whole : AreFrames c.args.self.now = subst AreFrames c.self.view_is c.self.invariant in
    let size = (frame_whole c.args.self.now c.args.to whole c.requires.to).size in
    c.write.ensures.here ∙ splice_whole (frame_of c.args.self.now c.args.to) c.frame.result.now (size
    ∙ sym c.frame.ensures.size) ∙ c.frame.ensures.bytes
