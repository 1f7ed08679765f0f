use Rattle.std.proofs.Common.{◌≡◌, ◌+◌, sym, ◌∙◌}
use Rattle.cx_decode.proofs.Spelling.{word_of, IsWordOf-word_of, word_of_only}
use Rattle.cx_decode.proofs.encoder.encode.Goals as goal

pub returns-clause-spells : goal.returns-clause-spells
returns-clause-spells c =
    let spelled : c.bits.result + c.register_bits.result + c.immediate_bits.result ≡ word_of c.args.ins = cc in
    IsWordOf-word_of c.args.ins _ spelled c.requires

pub returns-clause-only : goal.returns-clause-only
returns-clause-only c word small spells =
    let spelled : c.bits.result + c.register_bits.result + c.immediate_bits.result ≡ word_of c.args.ins = cc in
    word_of_only c.args.ins word small spells ∙ sym spelled
