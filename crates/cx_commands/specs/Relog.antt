-- What `relog` does: the slice by calls of the observations that a process slice goes through.
use Rattle.std.specs.Prelude.{ℕ, true, false, List, [], Option, Some, Result, Ok, Err}
use Rattle.cx_calls.specs.Begun.{calls_begun, calls_text}
use Rattle.cx_codec.specs.Place.{Place}
use Rattle.cx_log.specs.Reading.{start_of}
use Rattle.cx_slicefmt.specs.Rules.{process}
use Rattle.cx_slicefmt.specs.Scan.{scan_groups}
use Rattle.cx_slices.specs.Settled.{SliceScan}
use Rattle.cx_commands.specs.declared.magic.Magic.{Magic}
use Rattle.cx_commands.specs.declared.magic.Magic.TheVariants as kind
use Rattle.cx_commands.specs.declared.status.Status.{Status}
use Rattle.cx_commands.specs.declared.status.Status.TheVariants as status
use Rattle.cx_commands.specs.Doing.{Doing}
use Rattle.cx_commands.specs.Opening.{kind_at}
use Rattle.cx_commands.specs.Replay.{gone_through, slice_refusal, without_end}

-- One of what isn't a process slice, by the place of the field that is bad, which is its magic; and one of a process
-- slice by its scan.
abbrev pub by_process_magic : {Y : Type 0} → (ℕ → Y) → (SliceScan ℕ → Y) → Result (Magic × Place) ℕ → Y
by_process_magic other slice (Err o) = other o
by_process_magic other slice (Ok x) = elim x.0 [
  | kind.Recording ↦ other 0
  | kind.Process ↦ slice (scan_groups process 0 x.1)
  | kind.Calls ↦ other 0
]

abbrev pub bad_magic : ℕ → Option Status
bad_magic o = Some (status.Format o)

abbrev pub no_lines : ℕ → List ℕ
no_lines o = []

-- What is written of the settled steps, which ends before their last call, and of all.
abbrev pub relogged : SliceScan ℕ → List ℕ
relogged s = calls_begun (gone_through s)

abbrev pub relogged_whole : SliceScan ℕ → List ℕ
relogged_whole s = calls_text (gone_through s)

abbrev pub relogging : Doing
relogging = record {
  reads = true;
  streams = true;
  refusal = λ bytes. by_process_magic bad_magic slice_refusal (kind_at (start_of bytes));
  full = λ bytes. by_process_magic no_lines relogged_whole (kind_at (start_of bytes));
  settled = λ bytes. by_process_magic no_lines relogged (kind_at (start_of bytes));
  cut_off = λ bytes. [];
  refusal_so_far = λ bytes. by_process_magic bad_magic (λ s. slice_refusal (without_end s)) (kind_at (start_of bytes));
  settled_so_far = λ bytes. by_process_magic no_lines (λ s. relogged (without_end s)) (kind_at (start_of bytes));
  lasts = λ bytes. by_process_magic (λ o. true) (λ s. false) (kind_at (start_of bytes));
}
