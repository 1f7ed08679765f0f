-- More arguments than two.
use Rattle.std.proofs.Common.{map, sym}
use Rattle.std.proofs.lemmas.List.{length-map}
use Rattle.std.specs.String.{string_bytes}
use Rattle.cx_words.proofs.Counts.{record_of_more}
use Rattle.cx_words.proofs.command.record_steps.Goals as goal

pub returns-in_default-2 : goal.returns-in_default-2
returns-in_default-2 c =
    sym (record_of_more (map string_bytes c.args.arguments.now) (rw length-map c.in_default.len_at_least))
