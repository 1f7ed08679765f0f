-- What `replay` and `relog` make of an input, by its magic.
use Rattle.std.proofs.Common.{◌≡◌, ℕ, List, Bool, true, false, length, Option, Result, Ok, Err, arith, refl, sym, subst}
use Rattle.std.proofs.Common.{if◌then◌else◌, ◌∙◌, inl}
use Rattle.std.specs.Prelude.{codes}
use Rattle.std.specs.Str.{bytes_eq}
use Rattle.cx_calls.specs.Begun.{calls_begun, calls_text}
use Rattle.cx_codec.specs.Fields.{bytes_at}
use Rattle.cx_codec.specs.Place.{Place, bad, done, end_of}
use Rattle.cx_codec.specs.Reads.{MeetsIn}
use Rattle.cx_codec.proofs.Composing.{done_same}
use Rattle.cx_codec.proofs.Once.{once_bytes, part}
use Rattle.cx_codec.proofs.Putting.{nothing_put}
use Rattle.cx_log.specs.Fault.{log_met}
use Rattle.cx_log.specs.Reading.{start_of}
use Rattle.cx_log.specs.declared.fault.LogFault.{LogFault}
use Rattle.cx_log.specs.declared.fault.LogFault.TheVariants.{Format as bad_field, ReadFault as read_fault}
use Rattle.cx_log.specs.declared.fault.LogFault.TheVariants.{NoMemory as no_memory}
use Rattle.cx_map.specs.Bytes.{AreBytes}
use Rattle.cx_commands.specs.Doing.{Does}
use Rattle.cx_commands.specs.Faults.{status_of_log}
use Rattle.cx_commands.specs.Observed.{observation_lines}
use Rattle.cx_commands.specs.Opening.{begun_at, behind_magic_at, kind_at, magic_by}
use Rattle.cx_commands.specs.Relog.{relogging}
use Rattle.cx_commands.specs.Streaming.{settled_by}
use Rattle.cx_commands.specs.Replay.{replaying}
use Rattle.cx_commands.specs.Trace.{line_text, tracing}
use Rattle.cx_commands.specs.declared.magic.Magic.{Magic}
use Rattle.cx_commands.specs.declared.magic.Magic.TheVariants as kind
use Rattle.cx_commands.specs.declared.status.Status.{Status}
use Rattle.cx_commands.specs.declared.status.Status.TheVariants as status
use Rattle.cx_commands.proofs.Completeness.{always_so}
use Rattle.cx_telling.proofs.Composed.{begun_parts}
use Rattle.cx_commands.proofs.Doings.{no_front, refused_opening}
use Rattle.cx_retelling.specs.Through.{calls_at, process_at, retelling}
use Rattle.cx_retelling.proofs.SameDoings.{does_same}

-- ---- the place behind the magic

same_place : (recording process calls : Bool) (start : ℕ) (q : Place) (m : Magic) (mid : Place)
    → (if recording then done kind.Recording else if process then done kind.Process else if calls then
    done kind.Calls else bad start) q ≡ Ok (m, mid) → q ≡ mid
same_place true process calls start q m mid is = (done_same kind.Recording m q mid is).1
same_place false true calls start q m mid is = (done_same kind.Process m q mid is).1
same_place false false true start q m mid is = (done_same kind.Calls m q mid is).1
same_place false false false start q m mid is = cc

pub bytes_of_kind : (text : List ℕ) (m : Magic) (mid : Place) → AreBytes text → kind_at (start_of text) ≡ Ok (m, mid)
    → AreBytes mid.ahead
unfolding kind_at
bytes_of_kind text m mid are is =
    let p : Place = start_of text in
    let first = part (bytes_at 4) (λ bytes. (length bytes ≡ 4) × AreBytes bytes) (λ bytes. bytes) (magic_by p.at)
    (once_bytes 4) p mid are m is in
    subst (λ (q : Place). AreBytes q.ahead)
    (same_place (bytes_eq first.value (codes "CXR1")) (bytes_eq first.value (codes "CXP1"))
    (bytes_eq first.value (codes "CXC1")) p.at first.mid m mid first.then) first.bytes

pub all_of_text : (text : List ℕ) (mid : Place) → end_of (start_of text) ≡ end_of mid → end_of mid ≡ length text
all_of_text text mid ends = let all : end_of (start_of text) ≡ length text = omega arith in sym ends ∙ all

-- what stands behind the magic of a recording
pub behind_recording : (bytes : List ℕ) (mid : Place) → kind_at (start_of bytes) ≡ Ok (kind.Recording, mid)
    → begun_at (start_of bytes) ≡ behind_magic_at mid
behind_recording bytes mid is = begun_parts (start_of bytes) ∙ rw is refl

-- ---- `replay`

pub replays_recording : (bytes : List ℕ) (mid : Place) (may cut : Type 0) (base held : Option (List ℕ))
    (r : Result (Unit {0}) Status) → kind_at (start_of bytes) ≡ Ok (kind.Recording, mid)
    → Does tracing bytes may cut base held r → Does replaying bytes may cut base held r
replays_recording bytes mid may cut base held r is does =
    does_same tracing replaying bytes may cut base held r (record {
      streams = refl;
      refusal = rw is refl;
      full = rw is refl;
      settled = rw is refl;
      cut_off = refl;
      refusal_so_far = rw is refl;
      settled_so_far = rw is refl;
      lasts = rw is refl;
    }) does

pub replays_process : (bytes : List ℕ) (mid : Place) (may cut : Type 0) (base held : Option (List ℕ))
    (r : Result (Unit {0}) Status) → kind_at (start_of bytes) ≡ Ok (kind.Process, mid)
    → Does (retelling (observation_lines 0) (observation_lines 0) (process_at mid)) bytes may cut base held r
    → Does replaying bytes may cut base held r
replays_process bytes mid may cut base held r is does =
    does_same (retelling (observation_lines 0) (observation_lines 0) (process_at mid)) replaying bytes may cut base held
    r (record {
      streams = refl;
      refusal = rw is refl;
      full = rw is refl;
      settled = rw is refl;
      cut_off = refl;
      refusal_so_far = rw is refl;
      settled_so_far = rw is refl;
      lasts = rw is refl;
    }) does

pub replays_calls : (bytes : List ℕ) (mid : Place) (may cut : Type 0) (base held : Option (List ℕ))
    (r : Result (Unit {0}) Status) → kind_at (start_of bytes) ≡ Ok (kind.Calls, mid)
    → Does (retelling (observation_lines 0) (observation_lines 0) (calls_at mid)) bytes may cut base held r
    → Does replaying bytes may cut base held r
replays_calls bytes mid may cut base held r is does =
    does_same (retelling (observation_lines 0) (observation_lines 0) (calls_at mid)) replaying bytes may cut base held
    r (record {
      streams = refl;
      refusal = rw is refl;
      full = rw is refl;
      settled = rw is refl;
      cut_off = refl;
      refusal_so_far = rw is refl;
      settled_so_far = rw is refl;
      lasts = rw is refl;
    }) does

pub refuses_magic : (bytes : List ℕ) (may cut : Type 0) (base : Option (List ℕ)) (e : LogFault)
    → MeetsIn (log_met e) (kind_at (start_of bytes)) (end_of (start_of bytes)) may cut
    → Does replaying bytes may cut base base (Err (status_of_log e))
refuses_magic bytes may cut base (bad_field x) meets =
    let traced = refused_opening true (λ o s. true) (settled_by line_text) (settled_by line_text) bytes may cut base
    (bad_field x) (λ h. begun_parts (start_of bytes) ∙ rw (meets h) refl) in
    (λ h. rw (meets h) (traced.0 h), λ h. rw (meets h) (traced.1 h))
refuses_magic bytes may cut base read_fault meets =
    let traced = refused_opening true (λ o s. true) (settled_by line_text) (settled_by line_text) bytes may cut base
    read_fault (λ h. begun_parts (start_of bytes) ∙ rw (meets h) refl) in
    (λ h. rw (meets h) (traced.0 h), λ h. rw (meets h) (traced.1 h))
refuses_magic bytes may cut base no_memory meets =
    (tt, always_so (replaying.lasts bytes) may _ (inl (no_front base (replaying.settled bytes))))

-- ---- `relog`

pub relogs_process : (bytes : List ℕ) (mid : Place) (may cut : Type 0) (base held : Option (List ℕ))
    (r : Result (Unit {0}) Status) → kind_at (start_of bytes) ≡ Ok (kind.Process, mid)
    → Does (retelling calls_begun calls_text (process_at mid)) bytes may cut base held r
    → Does relogging bytes may cut base held r
relogs_process bytes mid may cut base held r is does =
    does_same (retelling calls_begun calls_text (process_at mid)) relogging bytes may cut base held r (record {
      streams = refl;
      refusal = rw is refl;
      full = rw is refl;
      settled = rw is refl;
      cut_off = refl;
      refusal_so_far = rw is refl;
      settled_so_far = rw is refl;
      lasts = rw is refl;
    }) does

pub relogs_no_recording : (bytes : List ℕ) (mid : Place) (may cut : Type 0) (base : Option (List ℕ))
    → kind_at (start_of bytes) ≡ Ok (kind.Recording, mid)
    → Does relogging bytes may cut base base (Err (status.Format 0))
relogs_no_recording bytes mid may cut base is = (λ h. rw is refl, λ h. rw is (nothing_put base).written)

pub relogs_no_calls : (bytes : List ℕ) (mid : Place) (may cut : Type 0) (base : Option (List ℕ))
    → kind_at (start_of bytes) ≡ Ok (kind.Calls, mid)
    → Does relogging bytes may cut base base (Err (status.Format 0))
relogs_no_calls bytes mid may cut base is = (λ h. rw is refl, λ h. rw is (nothing_put base).written)

pub relogs_no_magic : (bytes : List ℕ) (may cut : Type 0) (base : Option (List ℕ)) (e : LogFault)
    → MeetsIn (log_met e) (kind_at (start_of bytes)) (end_of (start_of bytes)) may cut
    → Does relogging bytes may cut base base (Err (status_of_log e))
relogs_no_magic bytes may cut base (bad_field x) meets =
    (λ h. rw (meets h) refl, λ h. rw (meets h) (nothing_put base).written)
relogs_no_magic bytes may cut base read_fault meets = (
  λ h. (let all : end_of (start_of bytes) ≡ length bytes = omega arith in rw (meets h) all),
  λ h. rw (meets h) (nothing_put base).written,
)
relogs_no_magic bytes may cut base no_memory meets =
    (tt, always_so (relogging.lasts bytes) may _ (inl (no_front base (relogging.settled bytes))))
