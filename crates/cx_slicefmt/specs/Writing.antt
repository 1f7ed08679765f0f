-- What a writer of slices keeps, and the runs that it puts.
use Rattle.std.specs.Prelude.{◌≡◌, ℕ, ◌+◌, ◌≤◌, ◌==◌, Bool, true, not, List, [], ◌∷◌, length, map, take, drop, slice_index_or}
use Rattle.cx_codec.specs.Blocks.{Waiting}
use Rattle.cx_slices.specs.Bytes.{Byte}
use Rattle.cx_slices.specs.Stretches.{Stretch, stretches_of}
use Rattle.cx_slicefmt.specs.Engine.{SliceWriting}

abbrev pub slice_output_of : SliceWriting → Waiting
slice_output_of w = w.output

-- the run that bytes are whose addresses follow one another
abbrev pub run_of : List Byte → Stretch
run_of bytes = record { va = (slice_index_or bytes 0 (0, 0)).0; bytes = map (λ e. e.1) bytes }

-- whether the first byte is the last of its run
abbrev pub ends_run : List Byte → Bool
ends_run [] = true
ends_run (e ∷ []) = true
ends_run (e ∷ f ∷ es) = not (e.0 + 1 == f.0)

-- So many of the first bytes are a run, as long as can be.
pub record IsFirstRun (bytes : List Byte) (count : ℕ) : Type 0 where
  pub some : 1 ≤ count
  pub within : count ≤ length bytes
  pub first : stretches_of bytes ≡ run_of (take count bytes) ∷ stretches_of (drop count bytes)
