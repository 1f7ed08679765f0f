-- A slice that is cut off is bad at its end, and the steps that it settles go as those of the whole do.
use Rattle.std.proofs.Common.{◌≡◌, ℕ, zero, suc, ◌+◌, ◌-◌, ◌<◌, ◌≤◌, ◌^◌, ◌==◌, nat_lt, Bool, true, false}
use Rattle.std.proofs.Common.{List, [], ◌∷◌, ◌++◌, length, take, Option, None, Some, Err, if◌then◌else◌, eqb-true}
use Rattle.std.proofs.Common.{refl, ap, sym, subst, ◌∙◌, arith, ⊎_elim, length-append}
use Rattle.std.proofs.lemmas.Bool.{cases_lt, le-ltb, lt-ltb, eqb-false}
use Rattle.std.proofs.lemmas.List.{take_at}
use Rattle.cx_codec.specs.Again.{IsCut}
use Rattle.cx_codec.specs.Fields.{bytes_at}
use Rattle.cx_codec.specs.Place.{Place, Takes, end_of, room}
use Rattle.cx_codec.proofs.Again.{first_cut, second_cut}
use Rattle.cx_log.specs.Reading.{magic_at, opened_at, start_of}
use Rattle.cx_map.specs.Bytes.{AreBytes}
use Rattle.cx_observe.specs.User.{user}
use Rattle.cx_observe.specs.declared.obs.Obs.{Obs}
use Rattle.cx_hart.specs.HartStep.{hart_step}
use Rattle.cx_run.specs.FirstBad.{Format, Refusal, first_bad}
use Rattle.cx_slicefmt.specs.Rules.{AreSpelled, Form, process}
use Rattle.cx_slicefmt.specs.Scan.{behind_slice_magic, groups_within, scan_groups, slice_scan}
use Rattle.cx_slicefmt.specs.Text.{ended_text, group_text, least_behind, slice_magic, slice_text}
use Rattle.cx_slicefmt.proofs.Entries.{reads_end, reads_group}
use Rattle.cx_slicefmt.proofs.Whole.{slice_cut, slice_size}
use Rattle.cx_slices.specs.Alone.{run_alone}
use Rattle.cx_slices.specs.Groups.{Group, GroupsRise, groups_of, items_by_step}
use Rattle.cx_slices.specs.Items.{Items, no_items, start}
use Rattle.cx_slices.specs.Settled.{SliceScan, settled_run}
use Rattle.cx_slices.proofs.Groups.{length-items_by_step}
use Rattle.cx_slices.proofs.Settled.{settled_at_most}
use Rattle.cx_slices.proofs.Streams.{run_alone-stopped}
use Rattle.cx_commands.specs.Doing.{judged, there_of}
use Rattle.cx_commands.specs.Opening.{kind_at}
use Rattle.cx_commands.specs.Process.{slice_of}
use Rattle.cx_commands.specs.Replay.{by_kind, calls_refusal, replaying, slice_refusal}
use Rattle.cx_commands.specs.Slicing.{CanBeSliced}
use Rattle.cx_commands.specs.Trace.{tracing}
use Rattle.cx_commands.specs.declared.status.Status.TheVariants as status
use Rattle.cx_commands.proofs.SliceReplays.{behind_magic, good_is_slice, refused_as, settled_is}
use Rattle.cx_commands.proofs.Sliceable.{can_be_spelled}
use Rattle.cx_observe.proofs.Programs.{program_goes}

-- ---- the groups of a cut slice

-- the scan has the first of the groups, and settles the steps below the last of these
record HasFirst (least : ℕ) (groups : List (Group ℕ)) (s : SliceScan ℕ) : Type 0 where
  rest : List (Group ℕ)
  parts : groups ≡ s.groups ++ rest
  upto : s.upto ≡ least_behind least s.groups - 1

has_none : (least : ℕ) (groups : List (Group ℕ)) (o : ℕ)
    → HasFirst least groups (record { groups = []; upto = least - 1; bad = Some o })
has_none least groups o = record { rest = groups; parts = refl; upto = refl }

some_text : (least : ℕ) (g : Group ℕ) → 1 ≤ length (group_text least g)
unfolding group_text
some_text least g = omega arith

fewer : (p after : Place) (least : ℕ) (g : Group ℕ) → Takes p (group_text least g) after
    → length after.ahead < length p.ahead
fewer p after least g takes =
    omega (arith, ap length takes.ahead, length-append (group_text least g) after.ahead, some_text least g)

cut_has_first : (form : Form) (most least : ℕ) (gs : List (Group ℕ)) (count : ℕ) (p : Place) → form.runs < 2 ^ 64
    → AreSpelled form least gs count → IsCut p (ended_text least gs count) → length p.ahead < most
    → HasFirst least gs (groups_within most form least p)
cut_has_first form zero least gs count p fits are cut enough = absurd (omega (arith, enough))
cut_has_first form (suc most) least [] count p fits are cut enough =
    rw ((reads_end form least count are).cut p cut) (has_none least [] (end_of p))
cut_has_first form (suc most) least (g ∷ gs) count p fits are cut enough =
    let front : List ℕ = group_text least g in
    let rest : List ℕ = ended_text (suc g.index) gs count in
    ⊎_elim (λ (inside : length p.ahead < length front).
    rw ((reads_group form least g fits are.0).cut p (first_cut p front rest cut inside))
    (has_none least (g ∷ gs) (end_of p)))
    (λ (whole : length front ≤ length p.ahead).
    let behind = second_cut p front rest cut whole in
    let less : length behind.after.ahead < length p.ahead = fewer p behind.after least g behind.first in
    let later = cut_has_first form most (suc g.index) gs count behind.after fits are.1 behind.then
    (omega (arith, less, enough)) in
    rw ((reads_group form least g fits are.0).again p behind.after behind.first)
    (record { rest = later.rest; parts = ap (λ (hs : List (Group ℕ)). g ∷ hs) later.parts; upto = later.upto }))
    (cases_lt (length p.ahead) (length front))

-- ---- the steps that it settles

spelled_rise : (form : Form) (least count : ℕ) (hs rest : List (Group ℕ)) → AreSpelled form least (hs ++ rest) count
    → GroupsRise least hs × (least_behind least hs ≤ count)
spelled_rise form least count [] [] are = (tt, are.from)
spelled_rise form least count [] (g ∷ rest) are =
    let later = (spelled_rise form (suc g.index) count [] rest are.1).1 in
    (tt, omega (arith, are.0.from, later))
spelled_rise form least count (h ∷ hs) rest are =
    let later = spelled_rise form (suc h.index) count hs rest are.1 in
    ((are.0.from, later.0), later.1)

above : (j k : ℕ) → (j == k) ≡ false → k ≤ j → suc k ≤ j
above j k is least = ⊎_elim (λ (less : k < j). omega (arith, less))
    (λ (le : j ≤ k). absurd (eqb-false j k is (omega (arith, le, least)))) (cases_lt k j)

-- Below the last of the first groups no other group counts.
first_count : (k n : ℕ) (hs rest : List (Group ℕ)) → GroupsRise k hs → k + n ≤ least_behind k hs
    → items_by_step 32 k n (hs ++ rest) ≡ items_by_step 32 k n hs
first_count k zero hs rest rise below = refl
first_count k (suc n) [] rest rise below = absurd (omega (arith, below))
first_count k (suc n) (h ∷ hs) rest rise below = by_test (h.index == k) refl
    (λ next most. first_count (suc k) n hs rest next most)
    (λ later. first_count (suc k) n (h ∷ hs) rest (later, rise.1) (omega (arith, below)))
  where
    by_test : (t : Bool) → (h.index == k) ≡ t
        → (GroupsRise (suc k) hs → suc k + n ≤ least_behind (suc k) hs
        → items_by_step 32 (suc k) n (hs ++ rest) ≡ items_by_step 32 (suc k) n hs)
        → (suc k ≤ h.index → items_by_step 32 (suc k) n (h ∷ (hs ++ rest)) ≡ items_by_step 32 (suc k) n (h ∷ hs))
        → (if h.index == k then h.items ∷ items_by_step 32 (suc k) n (hs ++ rest)
        else no_items 32 ∷ items_by_step 32 (suc k) n (h ∷ (hs ++ rest)))
        ≡ (if h.index == k then h.items ∷ items_by_step 32 (suc k) n hs
        else no_items 32 ∷ items_by_step 32 (suc k) n (h ∷ hs))
    by_test true is at_it behind =
        let here : h.index ≡ k = eqb-true h.index k is in
        let next : GroupsRise (suc k) hs = subst (λ (j : ℕ). GroupsRise (suc j) hs) here rise.1 in
        let most : k + suc n ≤ least_behind (suc k) hs =
        subst (λ (j : ℕ). k + suc n ≤ least_behind (suc j) hs) here below in
        rw is (ap (λ (xs : List (Items ℕ)). h.items ∷ xs) (at_it next (omega (arith, most))))
    by_test false is at_it behind =
        rw is (ap (λ (xs : List (Items ℕ)). no_items 32 ∷ xs) (behind (above h.index k is rise.0)))

-- the items of more steps begin with those of fewer
more_steps : (k n m : ℕ) (gs : List (Group ℕ))
    → (js : List (Items ℕ)) × (items_by_step 32 k (n + m) gs ≡ items_by_step 32 k n gs ++ js)
more_steps k zero m gs = (items_by_step 32 k m gs, ap (λ (j : ℕ). items_by_step 32 k j gs) (omega arith))
more_steps k (suc n) m [] =
    let later = more_steps (suc k) n m [] in
    let size : suc n + m ≡ suc (n + m) = omega arith in
    (later.0, ap (λ (j : ℕ). items_by_step 32 k j []) size ∙ ap (λ (xs : List (Items ℕ)). no_items 32 ∷ xs) later.1)
more_steps k (suc n) m (g ∷ gs) = by_test (g.index == k) refl (more_steps (suc k) n m gs)
    (more_steps (suc k) n m (g ∷ gs))
  where
    size : suc n + m ≡ suc (n + m)
    size = omega arith

    Goes : List (Group ℕ) → Type 0
    Goes hs = (js : List (Items ℕ)) × (items_by_step 32 (suc k) (n + m) hs ≡ items_by_step 32 (suc k) n hs ++ js)

    by_test : (t : Bool) → (g.index == k) ≡ t → Goes gs → Goes (g ∷ gs)
        → (js : List (Items ℕ)) × (items_by_step 32 k (suc n + m) (g ∷ gs)
        ≡ items_by_step 32 k (suc n) (g ∷ gs) ++ js)
    by_test true is here later = (
      here.0,
      ap (λ (j : ℕ). items_by_step 32 k j (g ∷ gs)) size
          ∙ rw is (ap (λ (xs : List (Items ℕ)). g.items ∷ xs) here.1),
    )
    by_test false is here later = (
      later.0,
      ap (λ (j : ℕ). items_by_step 32 k j (g ∷ gs)) size
          ∙ rw is (ap (λ (xs : List (Items ℕ)). no_items 32 ∷ xs) later.1),
    )

-- where a whole run goes on, so does its front
front_goes : (is js : List (Items ℕ)) → length (run_alone user (start user) (is ++ js)) ≡ length (is ++ js)
    → length is ≤ length (run_alone user (start user) is)
front_goes is js goes = ⊎_elim (λ (less : length (run_alone user (start user) is) < length is).
    absurd (never less (ap length (run_alone-stopped user (start user) is js less))))
    (λ (all : length is ≤ length (run_alone user (start user) is)). all)
    (cases_lt (length (run_alone user (start user) is)) (length is))
  where
    never : length (run_alone user (start user) is) < length is
        → length (run_alone user (start user) (is ++ js)) ≡ length (run_alone user (start user) is) → ⊥
    never less same = omega (arith, less, same, goes, length-append is js)

settled_whole : (os : List Obs) (hs rest : List (Group ℕ)) → CanBeSliced os → groups_of user os ≡ hs ++ rest
    → length (settled_run user (least_behind 0 hs - 1) hs) ≡ least_behind 0 hs - 1
settled_whole os hs rest can parts =
    let n : ℕ = least_behind 0 hs - 1 in
    let rise = spelled_rise process 0 (length os) hs rest
    (subst (λ (gs : List (Group ℕ)). AreSpelled process 0 gs (length os)) parts (can_be_spelled os can)) in
    let less : n ≤ length os = omega (arith, rise.1) in
    let size : n + (length os - n) ≡ length os = omega (arith, less) in
    let more = more_steps 0 n (length os - n) (hs ++ rest) in
    let split : items_by_step 32 0 (length os) (groups_of user os) ≡ items_by_step 32 0 n (hs ++ rest) ++ more.0 =
    ap (items_by_step 32 0 (length os)) parts
    ∙ ap (λ (j : ℕ). items_by_step 32 0 j (hs ++ rest)) (sym size) ∙ more.1 in
    let whole : length (run_alone user (start user) (items_by_step 32 0 (length os) (groups_of user os))) ≡ length os =
    ap length (settled_is (groups_of user os) (length os) os (program_goes os can.possible)) in
    let goes : length (run_alone user (start user) (items_by_step 32 0 n (hs ++ rest) ++ more.0))
    ≡ length (items_by_step 32 0 n (hs ++ rest) ++ more.0) =
    ap (λ (xs : List (Items ℕ)). length (run_alone user (start user) xs)) (sym split) ∙ whole
    ∙ sym (length-items_by_step 32 0 (length os) (groups_of user os)) ∙ ap length split in
    let enough = front_goes (items_by_step 32 0 n (hs ++ rest)) more.0 goes in
    let long = length-items_by_step 32 0 n (hs ++ rest) in
    let same : settled_run user n (hs ++ rest) ≡ settled_run user n hs =
    ap (run_alone user (start user)) (first_count 0 n hs rest rise.0 (omega arith)) in
    let most = settled_at_most user n hs in
    omega (arith, enough, long, ap length same, most)

-- ---- a cut slice is bad at its end

bad_at : (s : SliceScan ℕ) (o : ℕ) → length (settled_run user s.upto s.groups) ≡ s.upto → s.bad ≡ Some o
    → slice_refusal s ≡ Some (status.Format o)
bad_at s o all bad =
    rw (le-ltb (length (settled_run user s.upto s.groups)) s.upto (omega (arith, all)), bad) refl

ended_small : (gs : List (Group ℕ)) (count : ℕ) → AreSpelled process 0 gs count
    → length (ended_text 0 gs count) ≤ 2 ^ 60 - 4
unfolding slice_text
ended_small gs count are = let size : length (slice_text gs count) ≤ 2 ^ 58 = slice_size gs count are in
    omega (arith, size)

scan_has_first : (gs : List (Group ℕ)) (count : ℕ) (bytes more : List ℕ) → AreSpelled process 0 gs count
    → (slice_magic ++ bytes) ++ more ≡ slice_text gs count → 1 ≤ length more → HasFirst 0 gs (slice_scan bytes)
unfolding slice_text scan_groups
scan_has_first gs count bytes more are same some =
    let parts : bytes ++ more ≡ ended_text 0 gs count = behind_magic (bytes ++ more) (ended_text 0 gs count) same in
    cut_has_first process (suc (length bytes)) 0 gs count (behind_slice_magic bytes) (omega arith) are
    (record { more = more; parts = sym parts; some = some; within = ended_small gs count are })
    (omega arith)

cut_is_refused : (os : List Obs) (bytes more : List ℕ) → CanBeSliced os → (slice_magic ++ bytes) ++ more ≡ slice_of os
    → 1 ≤ length more → slice_refusal (slice_scan bytes) ≡ Some (status.Format (length (slice_magic ++ bytes)))
cut_is_refused os bytes more can same some =
    let s : SliceScan ℕ = slice_scan bytes in
    let first = scan_has_first (groups_of user os) (length os) bytes more (can_be_spelled os can) same some in
    let settled : length (settled_run user s.upto s.groups) ≡ s.upto =
    subst (λ (n : ℕ). length (settled_run user n s.groups) ≡ n) (sym first.upto)
    (settled_whole os s.groups first.rest can first.parts) in
    bad_at s (length (slice_magic ++ bytes)) settled
    (slice_cut (groups_of user os) (length os) bytes more (can_be_spelled os can) same some)

-- ---- a front that has no magic

too_short : (bytes : List ℕ) → length bytes < 4 → nat_lt (room (start_of bytes)) 4 ≡ true
too_short bytes short = lt-ltb (room (start_of bytes)) 4 (omega (arith, short))

pub short_kind : (bytes : List ℕ) → length bytes < 4
    → kind_at (start_of bytes) ≡ Err ((start_of bytes).at + room (start_of bytes))
unfolding kind_at bytes_at
short_kind bytes short = rw (too_short bytes short) refl

short_field : (bytes : List ℕ) → length bytes < 4
    → first_bad hart_step bytes ≡ Some (Format ((start_of bytes).at + room (start_of bytes)))
unfolding opened_at magic_at bytes_at first_bad
short_field bytes short = rw (too_short bytes short) refl

pub short_is_bad : (bytes : List ℕ) → length bytes < 4 → replaying.refusal bytes ≡ Some (status.Format (length bytes))
short_is_bad bytes short =
    ap (by_kind (tracing.refusal bytes) slice_refusal calls_refusal) (short_kind bytes short)
    ∙ ap (λ (bad : Option Refusal). judged bad (there_of (λ o s. true) bytes)) (short_field bytes short)
    ∙ ap (λ (n : ℕ). Some (status.Format n)) (omega arith)

-- ---- any front

pub with_magic : (magic bytes front more : List ℕ) → length magic ≡ 4 → front ++ more ≡ magic ++ bytes
    → 4 ≤ length front → (rest : List ℕ) × (front ≡ magic ++ rest)
with_magic magic bytes [] more size same long = absurd (omega (arith, long))
with_magic magic bytes (a ∷ []) more size same long = absurd (omega (arith, long))
with_magic magic bytes (a ∷ b ∷ []) more size same long = absurd (omega (arith, long))
with_magic magic bytes (a ∷ b ∷ c ∷ []) more size same long = absurd (omega (arith, long))
with_magic magic bytes (a ∷ b ∷ c ∷ d ∷ rest) more size same long =
    (rest, ap (λ (m : List ℕ). m ++ rest) (ap (take 4) same ∙ take_at magic bytes 4 size))

pub cut_is_bad : (bytes front more : List ℕ) → AreBytes bytes → replaying.refusal (slice_magic ++ bytes) ≡ None
    → front ++ more ≡ slice_magic ++ bytes → 1 ≤ length more
    → replaying.refusal front ≡ Some (status.Format (length front))
cut_is_bad bytes front more are good parts some = ⊎_elim (λ (short : length front < 4). short_is_bad front short)
    (λ (long : 4 ≤ length front).
    let whole = good_is_slice bytes are good in
    let magic = with_magic slice_magic bytes front more refl parts long in
    let same : (slice_magic ++ magic.0) ++ more ≡ slice_of whole.observed =
    ap (λ (xs : List ℕ). xs ++ more) (sym magic.1) ∙ parts ∙ whole.is in
    subst (λ (xs : List ℕ). replaying.refusal xs ≡ Some (status.Format (length xs))) (sym magic.1)
    (refused_as magic.0 ∙ cut_is_refused whole.observed magic.0 more whole.can same some))
    (cases_lt (length front) 4)
