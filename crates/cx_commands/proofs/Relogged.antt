-- What `relog` makes of a process slice, and of any input that begins as one.
use Rattle.std.proofs.Common.{◌≡◌, ℕ, ◌<◌, nat_lt, Bool, true, false, List, [], ◌∷◌, ◌++◌, length, codes}
use Rattle.std.proofs.Common.{Option, None, if◌then◌else◌, refl, ap, sym, ◌∙◌, arith}
use Rattle.std.proofs.lemmas.Bool.{le-ltb}
use Rattle.std.proofs.lemmas.Slice.Eq.{bytes_eq-Decides}
use Rattle.std.specs.Str.{bytes_eq}
use Rattle.cx_calls.specs.Begun.{calls_text}
use Rattle.cx_codec.specs.Fields.{bytes_at}
use Rattle.cx_codec.specs.Place.{Place, advance, bad, done, room}
use Rattle.cx_log.specs.Reading.{start_of}
use Rattle.cx_map.specs.Bytes.{AreBytes}
use Rattle.cx_observe.specs.User.{user}
use Rattle.cx_observe.specs.declared.obs.Obs.{Obs}
use Rattle.cx_replay.specs.Records.{MayBeWhole}
use Rattle.cx_slicefmt.specs.Scan.{slice_scan}
use Rattle.cx_slicefmt.specs.Text.{ended_text, slice_magic, slice_text}
use Rattle.cx_slices.specs.Groups.{Group, groups_of}
use Rattle.cx_commands.specs.Calls.{calling, whole_calls}
use Rattle.cx_commands.specs.Doing.{Answers, Leaves}
use Rattle.cx_commands.specs.Opening.{kind_at, magic_by}
use Rattle.cx_commands.specs.Process.{process_full, slice_of, slicing}
use Rattle.cx_commands.specs.Relog.{bad_magic, by_process_magic, no_lines, relogged_whole, relogging}
use Rattle.cx_commands.specs.Replay.{gone_through, replaying, slice_refusal}
use Rattle.cx_commands.specs.Slicing.{CanBeSliced}
use Rattle.cx_commands.specs.Window.{DoneAs}
use Rattle.cx_commands.specs.declared.magic.Magic.TheVariants as kind
use Rattle.cx_commands.specs.declared.status.Status.{Status}
use Rattle.cx_commands.proofs.CutSlices.{short_kind}
use Rattle.cx_commands.proofs.Doings.{text_behind}
use Rattle.cx_commands.proofs.Isolated.{done_again}
use Rattle.cx_commands.proofs.SliceReplays.{gone_is, refused_as, scan_is, slice_kind, slice_replays}
use Rattle.cx_commands.proofs.Sliceable.{good_shows}

-- ---- what begins as a slice

pub relog_refused : (bytes : List ℕ) → relogging.refusal (slice_magic ++ bytes) ≡ replaying.refusal (slice_magic ++ bytes)
relog_refused bytes = ap (by_process_magic bad_magic slice_refusal) (slice_kind bytes) ∙ sym (refused_as bytes)

relog_told : (bytes : List ℕ) → relogging.full (slice_magic ++ bytes) ≡ calls_text (gone_through (slice_scan bytes))
relog_told bytes = ap (by_process_magic no_lines relogged_whole) (slice_kind bytes)

-- ---- nothing else does

four_kind : (a b c d : ℕ) (rest : List ℕ) → kind_at (start_of (a ∷ b ∷ c ∷ d ∷ rest))
    ≡ magic_by 0 (a ∷ b ∷ c ∷ d ∷ []) (advance 4 (start_of (a ∷ b ∷ c ∷ d ∷ rest)))
unfolding kind_at bytes_at
four_kind a b c d rest =
    let enough : nat_lt (room (start_of (a ∷ b ∷ c ∷ d ∷ rest))) 4 ≡ false =
    le-ltb (room (start_of (a ∷ b ∷ c ∷ d ∷ rest))) 4 (omega arith) in
    rw enough refl

by_tests : (recording process by_calls : Bool) (p : Place)
    → by_process_magic bad_magic slice_refusal
    ((if recording then done kind.Recording else if process then done kind.Process
    else if by_calls then done kind.Calls else bad 0) p) ≡ None → process ≡ true
by_tests true process by_calls p good = cc
by_tests false true by_calls p good = refl
by_tests false false true p good = cc
by_tests false false false p good = cc

HasMagic : List ℕ → Type 0
HasMagic bytes = (rest : List ℕ) × (bytes ≡ slice_magic ++ rest)

four_magic : (a b c d : ℕ) (rest : List ℕ) → relogging.refusal (a ∷ b ∷ c ∷ d ∷ rest) ≡ None
    → HasMagic (a ∷ b ∷ c ∷ d ∷ rest)
unfolding HasMagic
four_magic a b c d rest good =
    let front : List ℕ = a ∷ b ∷ c ∷ d ∷ [] in
    let is : bytes_eq front (codes "CXP1") ≡ true =
    by_tests (bytes_eq front (codes "CXR1")) (bytes_eq front (codes "CXP1")) (bytes_eq front (codes "CXC1"))
    (advance 4 (start_of (a ∷ b ∷ c ∷ d ∷ rest)))
    (sym (ap (by_process_magic bad_magic slice_refusal) (four_kind a b c d rest)) ∙ good) in
    let same : front ≡ slice_magic = (bytes_eq-Decides front (codes "CXP1")).0 is in
    (rest, ap (λ (m : List ℕ). m ++ rest) same)

short_magic : (bytes : List ℕ) → length bytes < 4 → relogging.refusal bytes ≡ None → HasMagic bytes
short_magic bytes short good =
    let never = sym (ap (by_process_magic bad_magic slice_refusal) (short_kind bytes short)) ∙ good in cc

pub relog_magic : (bytes : List ℕ) → relogging.refusal bytes ≡ None → (rest : List ℕ) × (bytes ≡ slice_magic ++ rest)
unfolding HasMagic
relog_magic [] good = short_magic [] (omega arith) good
relog_magic (a ∷ []) good = short_magic (a ∷ []) (omega arith) good
relog_magic (a ∷ b ∷ []) good = short_magic (a ∷ b ∷ []) (omega arith) good
relog_magic (a ∷ b ∷ c ∷ []) good = short_magic (a ∷ b ∷ c ∷ []) (omega arith) good
relog_magic (a ∷ b ∷ c ∷ d ∷ rest) good = four_magic a b c d rest good

-- ---- a slice of observations

pub slice_relogs : (os : List Obs) → CanBeSliced os → relogging.refusal (slice_of os) ≡ None
unfolding slice_text
slice_relogs os can =
    as_spelled (groups_of user os) (length os) ∙ (slice_replays os can).refusal
  where
    as_spelled : (groups : List (Group ℕ)) (count : ℕ)
        → relogging.refusal (slice_text groups count) ≡ replaying.refusal (slice_text groups count)
    as_spelled groups count = relog_refused (ended_text 0 groups count)

pub relog_text : (os : List Obs) → CanBeSliced os → relogging.full (slice_of os) ≡ calls_text os
unfolding slice_text
relog_text os can =
    as_spelled (groups_of user os) (length os)
    ∙ ap (λ s. calls_text (gone_through s)) (scan_is os can) ∙ ap calls_text (gone_is os can)
  where
    as_spelled : (groups : List (Group ℕ)) (count : ℕ) → relogging.full (slice_text groups count)
        ≡ calls_text (gone_through (slice_scan (ended_text 0 groups count)))
    as_spelled groups count = relog_told (ended_text 0 groups count)

-- ---- what `process` writes of an input

pub slice_is_relogged : (root : ℕ) (bytes : List ℕ) → AreBytes bytes → (slicing root).refusal bytes ≡ None
    → relogging.refusal ((slicing root).full bytes) ≡ None
slice_is_relogged root bytes are good =
    let shows = good_shows root bytes are good in
    ap relogging.refusal (text_behind (process_full root) bytes shows.opened shows.place shows.begun)
    ∙ slice_relogs _ shows.can

pub calls_are_relogged : (root : ℕ) (bytes : List ℕ) → AreBytes bytes → (slicing root).refusal bytes ≡ None
    → relogging.full ((slicing root).full bytes) ≡ (calling root).full bytes
calls_are_relogged root bytes are good =
    let shows = good_shows root bytes are good in
    ap relogging.full (text_behind (process_full root) bytes shows.opened shows.place shows.begun)
    ∙ relog_text _ shows.can
    ∙ sym (text_behind (whole_calls root) bytes shows.opened shows.place shows.begun)

pub relogged_as : (root : ℕ) (bytes text given input : List ℕ) (left held now : Option (List ℕ)) (answer : Status)
    → AreBytes bytes → (slicing root).refusal bytes ≡ None → text ≡ (slicing root).full bytes
    → MayBeWhole left given input → Answers relogging text (MayBeWhole left given input) (input ≡ given) answer
    → Leaves relogging text (MayBeWhole left given input) (input ≡ given) answer held now
    → DoneAs (calling root) bytes held now answer
relogged_as root bytes text given input left held now answer are good written =
    done_again relogging (calling root) text bytes (MayBeWhole left given input) (input ≡ given) held now answer
    (ap relogging.refusal written ∙ slice_is_relogged root bytes are good)
    (ap relogging.full written ∙ calls_are_relogged root bytes are good)
