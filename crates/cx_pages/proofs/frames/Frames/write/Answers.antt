-- The frame stays whole.
use Rattle.std.proofs.Common.{ℕ, ◌<◌, List, length, sym, subst}
use Rattle.std.proofs.lemmas.List.Elements.{All-set}
use Rattle.cx_map.specs.Bytes.{AreBytes}
use Rattle.cx_pages.specs.Frames.{IsWhole}
use Rattle.cx_pages.proofs.Framing.{splice_part-whole}
use Rattle.cx_pages.proofs.frames.Frames.write.Goals as goal

pub invariant_of-self : goal.invariant_of-self
invariant_of-self c =
    let here : c.args.frame < length c.self.inside.frames.items =
    subst (λ (frames : List (List ℕ)). c.args.frame < length frames) (sym c.self.view_is) c.requires.frame in
    let frame : IsWhole c.index_mut-frame.result.now = subst IsWhole (sym c.index_mut-frame.ensures.value)
    (c.self.invariant c.args.frame c.index_mut-frame.result.now here) in
    let are : AreBytes c.args.bytes.now = λ i. (c.type_inv.bytes i).fits in
    rw c.write.ensures (All-set IsWhole _ _ _ (splice_part-whole _ c.args.bytes.now c.args.offset frame are
    c.requires.bytes) c.self.invariant)
