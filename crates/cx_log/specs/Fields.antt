-- Numbers within bounds.
use Rattle.std.specs.Prelude.{ℕ}
use Rattle.cx_codec.specs.Checks.{checked, is_between}
use Rattle.cx_codec.specs.Fields.{varint_at}
use Rattle.cx_codec.specs.Place.{Reader}

-- a number from a least one up to a greatest one
abbrev pub varint_between : ℕ → ℕ → Reader ℕ
varint_between least greatest = checked (is_between least greatest) varint_at
