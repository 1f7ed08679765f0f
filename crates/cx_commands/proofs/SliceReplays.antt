-- What `replay` makes of the slice of a list of observations, and of any input that begins as a slice does.
use Rattle.std.proofs.Common.{◌≡◌, ℕ, suc, ◌≤◌, ◌^◌, ◌==◌, nat_lt, Bool, true, false, List, [], ◌∷◌, ◌++◌, length}
use Rattle.std.proofs.Common.{Option, None, Some, option_map, Result, Ok, Err, if◌then◌else◌, refl, ap, sym, subst, ◌∙◌}
use Rattle.std.proofs.Common.{arith}
use Rattle.std.proofs.lemmas.Bool.{le-ltb}
use Rattle.std.proofs.lemmas.List.{append-nil}
use Rattle.cx_codec.specs.Fields.{bytes_at}
use Rattle.cx_codec.specs.Place.{room}
use Rattle.cx_log.specs.Reading.{start_of}
use Rattle.cx_map.specs.Bytes.{AreBytes}
use Rattle.cx_observe.specs.User.{user}
use Rattle.cx_observe.specs.declared.obs.Obs.{Obs}
use Rattle.cx_observe.proofs.Programs.{program_goes, program_only, program_possible}
use Rattle.cx_slicefmt.specs.Rules.{AreSpelled, Form, process}
use Rattle.cx_slicefmt.specs.Scan.{behind_slice_magic, slice_scan}
use Rattle.cx_slicefmt.specs.Text.{ended_text, slice_magic, slice_text}
use Rattle.cx_slicefmt.proofs.Scans.{no_front}
use Rattle.cx_slicefmt.proofs.Whole.{slice_again, slice_once}
use Rattle.cx_slices.specs.Groups.{AreGroups, Group, all_or_broken, alone_of, groups_of}
use Rattle.cx_slices.specs.Settled.{SliceRefusal, SliceScan, settled_run, slice_bad}
use Rattle.cx_slices.proofs.Settled.{alone_is_good, good_goes_alone}
use Rattle.cx_commands.specs.Observed.{has_observation, observation_lines}
use Rattle.cx_commands.specs.Opening.{kind_at}
use Rattle.cx_commands.specs.Process.{slice_of}
use Rattle.cx_commands.specs.Replay.{by_kind, calls_lines, calls_refusal, replaying, slice_lines, slice_refusal, status_of_slice}
use Rattle.cx_commands.specs.Slicing.{CanBeSliced}
use Rattle.cx_commands.specs.Trace.{tracing}
use Rattle.cx_commands.specs.declared.magic.Magic.TheVariants as kind
use Rattle.cx_commands.proofs.Sliceable.{can_be_spelled}

-- ---- the magic

pub slice_kind : (bytes : List ℕ)
    → kind_at (start_of (slice_magic ++ bytes)) ≡ Ok (kind.Process, behind_slice_magic bytes)
unfolding kind_at bytes_at
slice_kind bytes =
    let enough : nat_lt (room (start_of (slice_magic ++ bytes))) 4 ≡ false =
    le-ltb (room (start_of (slice_magic ++ bytes))) 4 (omega arith) in
    rw enough refl

pub refused_as : (bytes : List ℕ) → replaying.refusal (slice_magic ++ bytes) ≡ slice_refusal (slice_scan bytes)
refused_as bytes = ap (by_kind (tracing.refusal (slice_magic ++ bytes)) slice_refusal calls_refusal)
    (slice_kind bytes)

pub told_as : (bytes : List ℕ) → replaying.full (slice_magic ++ bytes) ≡ slice_lines (slice_scan bytes)
told_as bytes = ap (by_kind (tracing.full (slice_magic ++ bytes)) slice_lines calls_lines) (slice_kind bytes)

-- ---- a slice goes alone

went_all : (count : ℕ) (all os : List Obs) → all_or_broken count all ≡ Ok os → all ≡ os
went_all count all os = by_test (length all == count)
  where
    by_test : (t : Bool) → ◌≡◌ {A = Result (List Obs) ℕ} (if t then Ok all else Err (length all)) (Ok os) → all ≡ os
    by_test true is = cc
    by_test false is = cc

pub settled_is : (groups : List (Group ℕ)) (count : ℕ) (os : List Obs) → alone_of user groups count ≡ Ok os
    → settled_run user count groups ≡ os
unfolding alone_of
settled_is groups count os goes = went_all count (settled_run user count groups) os goes

-- what is written of a text that isn't refused
pub record Replays (text : List ℕ) (os : List Obs) : Type 0 where
  pub refusal : replaying.refusal text ≡ None
  pub full : replaying.full text ≡ observation_lines 0 os

-- the scan of the slice of a list of observations
pub scan_is : (os : List Obs) → CanBeSliced os
    → slice_scan (ended_text 0 (groups_of user os) (length os))
    ≡ record { groups = groups_of user os; upto = length os; bad = None }
unfolding slice_text
scan_is os can = slice_again (groups_of user os) (length os) (ended_text 0 (groups_of user os) (length os))
    (can_be_spelled os can) (spelled_so (groups_of user os) (length os))
  where
    spelled_so : (groups : List (Group ℕ)) (count : ℕ)
        → slice_magic ++ ended_text 0 groups count ≡ slice_text groups count
    spelled_so groups count = refl

pub gone_is : (os : List Obs) → CanBeSliced os → settled_run user (length os) (groups_of user os) ≡ os
gone_is os can = settled_is (groups_of user os) (length os) os (program_goes os can.possible)

scan_replays : (bytes : List ℕ) (os : List Obs) → CanBeSliced os
    → slice_scan bytes ≡ record { groups = groups_of user os; upto = length os; bad = None }
    → Replays (slice_magic ++ bytes) os
scan_replays bytes os can is =
    let whole : SliceScan ℕ = record { groups = groups_of user os; upto = length os; bad = None } in
    let goes = program_goes os can.possible in
    let run : settled_run user (length os) (groups_of user os) ≡ os = gone_is os can in
    let good : slice_bad user whole ≡ None = alone_is_good user whole (
      refl,
      subst (λ (ps : List Obs). alone_of user (groups_of user os) (length os) ≡ Ok ps) (sym run) goes,
    ) in
    record {
      refusal = refused_as bytes ∙ ap slice_refusal is ∙ ap (option_map status_of_slice) good;
      full = told_as bytes ∙ ap slice_lines is ∙ ap (observation_lines 0) run;
    }

pub slice_replays : (os : List Obs) → CanBeSliced os → Replays (slice_of os) os
unfolding slice_text
slice_replays os can = scan_replays (ended_text 0 (groups_of user os) (length os)) os can (scan_is os can)

-- ---- what goes alone is a slice

at_its_end : (form : Form) (least count : ℕ) (groups : List (Group ℕ)) → AreSpelled form least groups count
    → (least ≤ count) × (count ≤ 2 ^ 48)
at_its_end form least count [] are = (are.from, are.most)
at_its_end form least count (g ∷ groups) are =
    let rest = at_its_end form (suc g.index) count groups are.1 in
    (omega (arith, are.0.from, rest.0), rest.1)

spelled_groups : (form : Form) (least count : ℕ) (groups : List (Group ℕ)) → AreSpelled form least groups count
    → AreGroups 32 least count groups
spelled_groups form least count [] are = tt
spelled_groups form least count (g ∷ groups) are =
    let rest = at_its_end form (suc g.index) count groups are.1 in (
      are.0.from,
      omega (arith, rest.0),
      record { words = are.0.head.count; bytes = are.0.head.rises },
      are.0.some,
      spelled_groups form (suc g.index) count groups are.1,
    )

pub no_refusal : (bad : Option SliceRefusal) → option_map status_of_slice bad ≡ None → bad ≡ None
no_refusal None none = refl
no_refusal (Some x) none = cc

some_there : (groups : List (Group ℕ)) (count : ℕ) (os : List Obs) → AreSpelled process 0 groups count
    → groups ≡ groups_of user os → has_observation os ≡ true
some_there groups count (o ∷ os) are is = refl
some_there groups count [] are is =
    let none : AreSpelled process 0 [] count =
    subst (λ (gs : List (Group ℕ)). AreSpelled process 0 gs count) is are in
    absurd (omega (arith, none.behind))

-- The text is the slice of observations that can be sliced.
pub record IsSlice (text : List ℕ) : Type 0 where
  pub observed : List Obs
  pub can : CanBeSliced observed
  pub is : text ≡ slice_of observed

pub good_is_slice : (bytes : List ℕ) → AreBytes bytes → replaying.refusal (slice_magic ++ bytes) ≡ None
    → IsSlice (slice_magic ++ bytes)
good_is_slice bytes are good =
    let s : SliceScan ℕ = slice_scan bytes in
    let os : List Obs = settled_run user s.upto s.groups in
    let goes = good_goes_alone user s (no_refusal (slice_bad user s) (sym (refused_as bytes) ∙ good)) in
    let once = slice_once bytes are goes.0 in
    let groups = spelled_groups process 0 s.upto s.groups once.spelled in
    let only = program_only s.groups s.upto os groups goes.1 in
    record {
      observed = os;
      can = record {
        possible = program_possible s.groups s.upto os groups goes.1;
        some = some_there s.groups s.upto os once.spelled only.groups_are;
        few = subst (λ (n : ℕ). n ≤ 2 ^ 48) only.count_is (at_its_end process 0 s.upto s.groups once.spelled).1;
      };
      is = sym once.text ∙ ap (λ (gs : List (Group ℕ)). slice_text gs s.upto) only.groups_are
          ∙ ap (slice_text (groups_of user os)) only.count_is;
    }

-- ---- a slice is of one list

pub behind_magic : (xs ys : List ℕ) → slice_magic ++ xs ≡ slice_magic ++ ys → xs ≡ ys
behind_magic xs ys same = cc

alike : (groups hs : List (Group ℕ)) (m n : ℕ) → slice_text groups m ≡ slice_text hs n
    → ended_text 0 groups m ++ [] ≡ ended_text 0 hs n
unfolding slice_text
alike groups hs m n same =
    append-nil (ended_text 0 groups m) ∙ behind_magic (ended_text 0 groups m) (ended_text 0 hs n) same

pub one_list : (os ps : List Obs) → CanBeSliced os → CanBeSliced ps → slice_of os ≡ slice_of ps → os ≡ ps
one_list os ps can can_too same =
    let one = no_front process 0 (groups_of user os) (groups_of user ps) (length os) (length ps) [] (omega arith)
    (can_be_spelled os can) (can_be_spelled ps can_too)
    (alike (groups_of user os) (groups_of user ps) (length os) (length ps) same) in
    let goes : alone_of user (groups_of user os) (length os) ≡ alone_of user (groups_of user ps) (length ps) =
    ap (λ (gs : List (Group ℕ)). alone_of user gs (length os)) one.0 ∙ ap (alone_of user (groups_of user ps)) one.1 in
    same_run os ps (sym (program_goes os can.possible) ∙ goes ∙ program_goes ps can_too.possible)
  where
    same_run : (xs ys : List Obs) → ◌≡◌ {A = Result (List Obs) ℕ} (Ok xs) (Ok ys) → xs ≡ ys
    same_run xs ys same = cc
