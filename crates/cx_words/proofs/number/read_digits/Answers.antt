-- Where no plus stands first, std reads the digits themselves.
use Rattle.std.proofs.Common.{◌≢◌, get_or, arith, ◌∙◌}
use Rattle.std.proofs.lemmas.Str.Pattern.{starts_char}
use Rattle.cx_words.proofs.Digits.{read_as_digits}
use Rattle.cx_words.proofs.number.read_digits.Goals as goal

pub returns : goal.returns
returns c =
    let first = starts_char 43 c.args.digits.now c.starts_with.result c.starts_with.ensures.cases (omega arith)
    (omega arith) in
    let plain : get_or c.args.digits.now 0 0 ≢ 43 = λ e. (cc (first.1 e, c.if-starts_with.false)) in
    c.ok.ensures.value ∙ read_as_digits c.args.base c.args.digits.now _ c.from_str_radix.ensures.value plain
