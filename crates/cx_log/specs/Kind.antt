-- The kinds of records: End, and one for each kind of event.
use Rattle.std.specs.Prelude.{ℕ, List, [], ◌∷◌}
use Rattle.cx_log.specs.declared.kind.Kind.{Kind}
use Rattle.cx_log.specs.declared.kind.Kind.TheVariants as kind
use Rattle.cx_log.specs.Recording.{Event, Mark, Dma, Lines, Value}

abbrev pub kind_of : Event → Kind
kind_of Mark = kind.Mark
kind_of (Dma t) = kind.Dma
kind_of (Lines lines) = kind.Lines
kind_of (Value v) = kind.Value

-- the byte that a record begins with
abbrev pub tag_of : Kind → ℕ
tag_of kind.End = 0
tag_of kind.Dma = 1
tag_of kind.Lines = 2
tag_of kind.Value = 3
tag_of kind.Mark = 4

-- each at the place of its tag
abbrev pub kinds : List Kind
kinds = kind.End ∷ kind.Dma ∷ kind.Lines ∷ kind.Value ∷ kind.Mark ∷ []

-- The order of the records of one step: mark, writes to RAM, lines, value. End comes at a step of its own.
abbrev pub rank_of : Kind → ℕ
rank_of kind.Mark = 0
rank_of kind.Dma = 1
rank_of kind.Lines = 2
rank_of kind.Value = 3
rank_of kind.End = 4
