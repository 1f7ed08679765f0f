-- Another number of arguments than two.
use Rattle.std.proofs.Common.{map, sym}
use Rattle.std.proofs.lemmas.List.{length-map}
use Rattle.std.specs.String.{string_bytes}
use Rattle.cx_words.proofs.Counts.{two_numbers_fewer, two_numbers_more}
use Rattle.cx_words.proofs.arguments.two_numbers.Goals as goal

pub returns-in_default : goal.returns-in_default
returns-in_default c =
    sym (two_numbers_fewer (map string_bytes c.args.arguments.now) (rw length-map c.in_default.len_below))

pub returns-in_default-2 : goal.returns-in_default-2
returns-in_default-2 c =
    sym (two_numbers_more (map string_bytes c.args.arguments.now) (rw length-map c.in_default.len_at_least))
