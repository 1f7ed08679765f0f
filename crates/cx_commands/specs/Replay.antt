-- What `replay` does: the lines of the steps of a recording, or of the observations that a slice goes through.
use Rattle.std.specs.Prelude.{ℕ, ◌-◌, true, false, List, [], Option, option_map, Result, Ok, Err}
use Rattle.cx_call_alone.specs.Settled.{calls_bad, settled_calls}
use Rattle.cx_callfmt.specs.Rules.{calls}
use Rattle.cx_callfmt.specs.Scan.{CallScan, scan_behind_head}
use Rattle.cx_callfmt.specs.Text.{last_index}
use Rattle.cx_calls.specs.Calling.{called}
use Rattle.cx_codec.specs.Place.{Place}
use Rattle.cx_log.specs.Reading.{start_of}
use Rattle.cx_observe.specs.User.{user}
use Rattle.cx_observe.specs.declared.obs.Obs.{Obs}
use Rattle.cx_slicefmt.specs.Reading.{head_at}
use Rattle.cx_slicefmt.specs.Rules.{process}
use Rattle.cx_slicefmt.specs.Scan.{scan_groups}
use Rattle.cx_slicefmt.specs.Text.{least_behind}
use Rattle.cx_slices.specs.Settled.{BadField, BreaksAt, SliceRefusal, SliceScan, settled_run, slice_bad}
use Rattle.cx_commands.specs.declared.magic.Magic.{Magic}
use Rattle.cx_commands.specs.declared.magic.Magic.TheVariants as kind
use Rattle.cx_commands.specs.declared.status.Status.{Status}
use Rattle.cx_commands.specs.declared.status.Status.TheVariants as status
use Rattle.cx_commands.specs.Doing.{Doing}
use Rattle.cx_commands.specs.Observed.{observation_lines}
use Rattle.cx_commands.specs.Opening.{kind_at}
use Rattle.cx_commands.specs.Trace.{tracing}

-- ---- a process slice

abbrev pub status_of_slice : SliceRefusal → Status
status_of_slice (BadField o) = status.Format o
status_of_slice (BreaksAt k) = status.Broken k

-- the observations of the steps that a slice settles, up to the first that breaks a rule
abbrev pub gone_through : SliceScan ℕ → List Obs
gone_through s = settled_run user s.upto s.groups

abbrev pub slice_refusal : SliceScan ℕ → Option Status
slice_refusal s = option_map status_of_slice (slice_bad user s)

abbrev pub slice_lines : SliceScan ℕ → List ℕ
slice_lines s = observation_lines 0 (gone_through s)

-- Where a source failed, its groups settle the steps below the last of them; an end settles none, since it wasn't seen
-- that nothing follows it.
abbrev pub without_end : SliceScan ℕ → SliceScan ℕ
without_end s = record s { upto = least_behind 0 s.groups - 1 }

-- ---- a call slice

-- the observations of the steps that it settles, up to the first that breaks a rule
abbrev pub called_through : CallScan → List Obs
called_through s = settled_calls user called s

abbrev pub calls_refusal : CallScan → Option Status
calls_refusal s = option_map status_of_slice (calls_bad user called s)

abbrev pub calls_lines : CallScan → List ℕ
calls_lines s = observation_lines 0 (called_through s)

-- The same where a source failed: the records settle the steps below the last of them, and an end settles none.
abbrev pub without_call_end : CallScan → CallScan
without_call_end s = record s { upto = last_index 0 s.records; ended = false }

-- ---- by the magic

-- One of a recording or of what has no magic, one of a process slice by its scan, and one of a call slice by its own.
abbrev pub by_kind : {Y : Type 0} → Y → (SliceScan ℕ → Y) → (CallScan → Y) → Result (Magic × Place) ℕ → Y
by_kind recording slice by_calls (Err o) = recording
by_kind recording slice by_calls (Ok x) = elim x.0 [
  | kind.Recording ↦ recording
  | kind.Process ↦ slice (scan_groups process 0 x.1)
  | kind.Calls ↦ by_calls (scan_behind_head (head_at calls false x.1))
]

-- `replay`: of a recording what `trace all` does, and of a slice the lines of what it goes through
abbrev pub replaying : Doing
replaying = record {
  reads = true;
  streams = true;
  refusal = λ bytes. by_kind (tracing.refusal bytes) slice_refusal calls_refusal (kind_at (start_of bytes));
  full = λ bytes. by_kind (tracing.full bytes) slice_lines calls_lines (kind_at (start_of bytes));
  settled = λ bytes. by_kind (tracing.settled bytes) slice_lines calls_lines (kind_at (start_of bytes));
  cut_off = λ bytes. [];
  refusal_so_far = λ bytes. by_kind (tracing.refusal_so_far bytes) (λ s. slice_refusal (without_end s))
      (λ s. calls_refusal (without_call_end s)) (kind_at (start_of bytes));
  settled_so_far = λ bytes. by_kind (tracing.settled_so_far bytes) (λ s. slice_lines (without_end s))
      (λ s. calls_lines (without_call_end s)) (kind_at (start_of bytes));
  lasts = λ bytes. by_kind true (λ s. false) (λ s. false) (kind_at (start_of bytes));
}
