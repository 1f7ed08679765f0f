-- How far apart the checkpoints of a run stand.
use Rattle.std.specs.Prelude.{ℕ, zero, suc, ◌*◌, ◌/◌, nat_lt, if◌then◌else◌}

-- This distance, doubled at most so often until fewer than 64 of it are in n.
abbrev pub doubled : ℕ → ℕ → ℕ → ℕ
doubled zero n distance = distance
doubled (suc most) n distance = if nat_lt (n / distance) 64 then distance else doubled most n (2 * distance)

-- 1,024 times the least power of two of which fewer than 64 are in n steps.
unfoldable pub interval : ℕ → ℕ
interval n = doubled 48 n 1024
