-- The calls of a program.
use Rattle.std.specs.Prelude.{ℕ, ◌==◌, slice_index, Option, None, Some, if◌then◌else◌}
use Rattle.cx_observe.specs.declared.obs.Obs.{Obs}

-- A call of the environment has its number in register 17.
abbrev pub called : Obs → Option ℕ
called o = if o.word == 0x73 then Some (slice_index o.x 17) else None
