-- The records of an input, up to End or to the first bad field. No step of a machine occurs here.
use Rattle.std.specs.Prelude.{ℕ, zero, suc, ◌+◌, ◌==◌, List, [], ◌∷◌, length, min, Option, None, Some, Result, Ok, Err}
use Rattle.std.specs.Prelude.{if◌then◌else◌}
use Rattle.cx_codec.specs.Checks.{close_at, fault_of}
use Rattle.cx_codec.specs.Place.{Place, Reader, ◌>>=◌}
use Rattle.cx_log.specs.declared.limits.TheConstants.{MOST_TEXT}
use Rattle.cx_log.specs.Order.{Behind, at_start, behind_it}
use Rattle.cx_log.specs.Reading.{Opened, opened_at}
use Rattle.cx_log.specs.Records.{Entry, Put, Ends, record_at}
use Rattle.cx_log.specs.Recording.{Recorded, Recording}

-- The records that decode whole, the step below which they settle the steps, and where that stops: behind End, or at
-- the first bad field.
pub record Scan : Type 0 where
  pub events : List Recorded
  pub upto : ℕ
  pub stop : Result Place ℕ

abbrev pub with_record : Recorded → Scan → Scan
with_record r rest = record { events = r ∷ rest.events; upto = rest.upto; stop = rest.stop }

-- What a record comes to, where rest scans those behind it. One that doesn't decode settles nothing.
abbrev pub scan_on : (Behind → Place → Scan) → Behind → Result (Entry × Place) ℕ → Scan
scan_on rest behind (Err o) = record { events = []; upto = behind.step; stop = Err o }
scan_on rest behind (Ok x) = elim x.0 [
  | Ends end ↦ record { events = []; upto = end; stop = Ok x.1 }
  | Put r ↦ with_record r (rest (behind_it behind r) x.1)
]

-- at most so many records
abbrev pub scan_within : ℕ → ℕ → Behind → Place → Scan
scan_within zero pages behind p = record { events = []; upto = behind.step; stop = Err p.at }
scan_within (suc most) pages behind p = scan_on (scan_within most pages) behind (record_at pages behind p)

-- All of them: each takes a byte at least, so there are no more than there are bytes.
unfoldable pub scan : ℕ → Behind → Place → Scan
scan pages behind p = scan_within (length p.ahead) pages behind p

-- the first bad field of an input that was scanned: nothing may follow End
abbrev pub bad_field : Result Place ℕ → Option ℕ
bad_field (Ok p) = fault_of (close_at p)
bad_field (Err o) = Some o

-- The records take at most so many bytes: from the first of them on no field passes that.
abbrev pub begin_records : Place → Place
begin_records p = record p { limit = min p.limit (p.at + MOST_TEXT) }

-- the records behind a header and its pages
abbrev pub scan_behind : Opened → Place → Scan
scan_behind o p = scan o.header.pages (at_start o.header.base o.header.start) (begin_records p)

-- the recording of the records that were scanned, which ends where they settle no more
abbrev pub decoded : Opened → Scan → Recording
decoded o s = record {
  version = o.header.version;
  split = o.header.split;
  pages = o.header.pages;
  base = o.header.base;
  start = o.header.start;
  memory = o.memory;
  events = s.events;
  end = s.upto;
}

-- it, where the records were scanned to End, or the first bad field
abbrev pub whole_recording : Opened → Scan → Result Place ℕ → Result (Recording × Place) ℕ
whole_recording o s (Ok p) = Ok (decoded o s, p)
whole_recording o s (Err offset) = Err offset

abbrev pub records_at : Opened → Reader Recording
records_at o p =
    let s = scan_behind o p in
    whole_recording o s s.stop

-- a whole recording
unfoldable pub recording_at : Reader Recording
recording_at = do
  opened ← opened_at
  records_at opened
