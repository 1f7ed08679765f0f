use Rattle.std.proofs.Common.{◌∙◌, sym, subst, List}
use Rattle.cx_callfmt.specs.Rules.{Behind}
use Rattle.cx_callfmt.specs.Writing.{AreKept}
use Rattle.cx_slices.proofs.Bytes.{BytesRise-sorted}
use Rattle.cx_slices.specs.Bytes.{Byte, BytesRise}
use Rattle.cx_calls.proofs.letting.let_go.Goals as goal

pub put_last-requires-clause-rises : goal.put_last-requires-clause-rises
put_last-requires-clause-rises g c = subst (λ (es : List Byte). BytesRise 0 es)
    (sym (c.as_slice.ensures.value ∙ c.sort.ensures)) (BytesRise-sorted c.args.missed.now.items)

pub kept-requires-clause-rules : goal.kept-requires-clause-rules
kept-requires-clause-rules g c = subst (λ (b : Behind). AreKept b c.args.behind.now)
    (sym c.in_ok-put_last.ensures.behind) c.requires.kept
