-- A call slice that is cut off is bad at its end, and the steps that it settles go as those of the whole do.
use Rattle.std.proofs.Common.{◌≡◌, ◌⊎◌, inl, inr, ⊎_elim, ℕ, zero, suc, ◌<◌, ◌≤◌, ◌^◌, false, drop}
use Rattle.std.proofs.Common.{List, [], ◌∷◌, ◌++◌, length, Option, None, Some, unwrap_or, refl, ap, sym, subst, ◌∙◌, arith}
use Rattle.std.proofs.Common.{length-append}
use Rattle.std.proofs.lemmas.Bool.{cases_lt, le-ltb}
use Rattle.cx_call_alone.specs.Placed.{RecordsFrom, placed_between}
use Rattle.cx_call_alone.specs.Settled.{settled_calls, started}
use Rattle.cx_call_alone.proofs.Placed.{between_front, between_more, from_less, length-between}
use Rattle.cx_callfmt.specs.Rules.{AreRecords, Behind, behind_record, behind_start, calls, rank}
use Rattle.cx_callfmt.specs.Scan.{CallScan, behind_call_magic, call_scan, call_stops, records_within, scan_records}
use Rattle.cx_callfmt.specs.Text.{call_magic, call_slice_text, ended_records_text, last_index, record_text}
use Rattle.cx_callfmt.proofs.Entries.{comes, reads_last, reads_record}
use Rattle.cx_callfmt.proofs.Scans.{record_some, shorter}
use Rattle.cx_callfmt.proofs.Steps.{steps_spelled}
use Rattle.cx_callfmt.proofs.Whole.{call_slice_cut}
use Rattle.cx_calls.specs.Begun.{calls_text}
use Rattle.cx_calls.specs.Calling.{called}
use Rattle.cx_codec.specs.Again.{IsCut}
use Rattle.cx_codec.specs.Place.{Place, end_of}
use Rattle.cx_codec.proofs.Again.{first_cut, second_cut}
use Rattle.cx_map.specs.Bytes.{AreBytes}
use Rattle.cx_observe.specs.User.{user}
use Rattle.cx_observe.specs.declared.obs.Obs.{Obs}
use Rattle.cx_placing.specs.Called.{CallStanding, handed}
use Rattle.cx_placing.specs.CallsAlone.{ran_called}
use Rattle.cx_placing.specs.Placing.{CallSlice, Placed, calls_of, no_head}
use Rattle.cx_placing.specs.Records.{Record, records_from}
use Rattle.cx_placing.proofs.Streams.{ran_called-length, ran_called-stopped}
use Rattle.cx_slicefmt.specs.Rules.{Head, IsHead}
use Rattle.cx_slicefmt.specs.Text.{head_text}
use Rattle.cx_slicefmt.proofs.Heads.{reads_head}
use Rattle.cx_slices.specs.Items.{start}
use Rattle.cx_commands.specs.Replay.{calls_refusal, replaying}
use Rattle.cx_commands.specs.Slicing.{CanBeSliced}
use Rattle.cx_commands.specs.declared.status.Status.TheVariants as status
use Rattle.cx_commands.proofs.CallReplays.{calls_refused_as, good_is_calls, run_goes, steps_back}
use Rattle.cx_commands.proofs.CallsFit.{calls_fit}
use Rattle.cx_commands.proofs.CutSlices.{short_is_bad, with_magic}

-- ---- the records of a cut slice

-- The scan has the first of the records, settles the steps below the last of these, and didn't come to an end.
record HasFirst (before : ℕ) (rs : List Record) (s : CallScan) : Type 0 where
  rest : List Record
  parts : rs ≡ s.records ++ rest
  upto : s.upto ≡ last_index before s.records
  goes_on : s.ended ≡ false

has_none : (behind : Behind) (rs : List Record) (o : ℕ) → HasFirst behind.index rs (call_stops behind o)
has_none behind rs o = record { rest = rs; parts = refl; upto = refl; goes_on = refl }

cut_has_first : (most : ℕ) (behind : Behind) (rs : List Record) (count : ℕ) (p : Place) → AreRecords behind rs count
    → IsCut p (ended_records_text behind.index rs count) → length p.ahead < most
    → HasFirst behind.index rs (records_within most behind p)
cut_has_first zero behind rs count p are cut enough = absurd (omega (arith, enough))
cut_has_first (suc most) behind [] count p are cut enough =
    rw ((reads_last behind count are).cut p cut) (has_none behind [] (end_of p))
cut_has_first (suc most) behind (r ∷ rs) count p are cut enough =
    let front : List ℕ = record_text behind.index r in
    let back : List ℕ = ended_records_text r.index rs count in
    ⊎_elim (λ (inside : length p.ahead < length front).
    rw ((reads_record behind r are.0).cut p (first_cut p front back cut inside)) (has_none behind (r ∷ rs) (end_of p)))
    (λ (whole : length front ≤ length p.ahead).
    let behind_it = second_cut p front back cut whole in
    let less = shorter p behind_it.after front behind_it.first (record_some behind r) in
    let later = cut_has_first most (behind_record r) rs count behind_it.after are.1 behind_it.then
    (omega (arith, less, enough)) in
    rw ((reads_record behind r are.0).again p behind_it.after behind_it.first)
    (record {
      rest = later.rest;
      parts = ap (λ (qs : List Record). r ∷ qs) later.parts;
      upto = later.upto;
      goes_on = later.goes_on;
    }))
    (cases_lt (length p.ahead) (length front))

-- The head was read whole, or no record was.
record IsCutOff (h : Head) (rs : List Record) (s : CallScan) : Type 0 where
  first : HasFirst 0 rs s
  head : (s.head ≡ Some h) ⊎ (s.records ≡ [])

scan_is_cut : (h : Head) (rs : List Record) (count : ℕ) (bytes more : List ℕ) → IsHead calls h
    → AreRecords behind_start rs count → length (call_slice_text h rs count) ≤ 2 ^ 60
    → (call_magic ++ bytes) ++ more ≡ call_slice_text h rs count → 1 ≤ length more
    → IsCutOff h rs (call_scan bytes)
unfolding call_slice_text call_scan scan_records
scan_is_cut h rs count bytes more is are few same some =
    let front : List ℕ = head_text h in
    let back : List ℕ = ended_records_text 0 rs count in
    let p : Place = behind_call_magic bytes in
    let parts : bytes ++ more ≡ front ++ back = ap (λ (xs : List ℕ). drop 4 xs) same in
    let cut : IsCut p (front ++ back) = record {
      more = more;
      parts = sym parts;
      some = some;
      within = omega (arith, few);
    } in
    let heads = reads_head calls false h (omega arith) is (omega arith) in
    ⊎_elim (λ (inside : length bytes < length front).
    rw (heads.cut p (first_cut p front back cut inside))
    (record { first = has_none behind_start rs (end_of p); head = inr refl }))
    (λ (whole : length front ≤ length bytes).
    let behind_it = second_cut p front back cut whole in
    let later = cut_has_first (suc (length behind_it.after.ahead)) behind_start rs count behind_it.after are
    behind_it.then (omega arith) in
    rw (heads.again p behind_it.after behind_it.first)
    (record {
      first = record { rest = later.rest; parts = later.parts; upto = later.upto; goes_on = later.goes_on };
      head = inl refl;
    }))
    (cases_lt (length bytes) (length front))

-- ---- the steps that it settles

-- what isn't among the first records stands from the last of these on
rest_from : (behind : Behind) (hs rest : List Record) (count : ℕ) → AreRecords behind (hs ++ rest) count
    → RecordsFrom (last_index behind.index hs) rest × (last_index behind.index hs ≤ count)
rest_from behind [] [] count are = (tt, omega (arith, are.above))
rest_from behind [] (r ∷ rest) count are =
    let from : behind.index ≤ r.index = (comes behind (rank r.what) r.index are.0.comes).from in
    let later = rest_from (behind_record r) [] rest count are.1 in
    ((from, from_less behind.index r.index rest from later.0), omega (arith, from, later.1))
rest_from behind (h ∷ hs) rest count are = rest_from (behind_record h) hs rest count are.1

-- where a whole run goes on, so does its front
front_goes : (s : CallStanding) (ps qs : List (Placed ℕ))
    → length (ran_called user called s (ps ++ qs)) ≡ length (ps ++ qs)
    → length (ran_called user called s ps) ≡ length ps
front_goes s ps qs goes = ⊎_elim (λ (less : length (ran_called user called s ps) < length ps).
    absurd (never less (ap length (ran_called-stopped user called s ps qs less))))
    (λ (all : length ps ≤ length (ran_called user called s ps)).
    omega (arith, all, ran_called-length user called s ps))
    (cases_lt (length (ran_called user called s ps)) (length ps))
  where
    never : length (ran_called user called s ps) < length ps
        → length (ran_called user called s (ps ++ qs)) ≡ length (ran_called user called s ps) → ⊥
    never less same = omega (arith, less, same, goes, length-append ps qs)

settled_front : (os : List Obs) (hs rest : List Record) → CanBeSliced os
    → records_from 0 (calls_of user called os).steps ≡ hs ++ rest
    → length (ran_called user called (handed (calls_of user called os).head (start user))
    (placed_between 32 0 (last_index 0 hs) hs)) ≡ last_index 0 hs
settled_front os hs rest can parts =
    let slice : CallSlice ℕ = calls_of user called os in
    let s : CallStanding = handed slice.head (start user) in
    let fit = calls_fit os can in
    let count : ℕ = length slice.steps in
    let n : ℕ = last_index 0 hs in
    let spelled : AreRecords behind_start (records_from 0 slice.steps) count =
    steps_spelled slice.steps fit.some fit.most fit.fits.steps in
    let from = rest_from behind_start hs rest count
    (subst (λ (rs : List Record). AreRecords behind_start rs count) parts spelled) in
    let begins = between_more 32 0 n count (hs ++ rest) from.1 in
    let steps : placed_between 32 0 n (hs ++ rest) ++ begins.rest ≡ slice.steps =
    sym begins.parts ∙ ap (placed_between 32 0 count) (sym parts) ∙ steps_back os can in
    let whole : length (ran_called user called s (placed_between 32 0 n (hs ++ rest) ++ begins.rest))
    ≡ length (placed_between 32 0 n (hs ++ rest) ++ begins.rest) =
    ap (λ (ps : List (Placed ℕ)). length (ran_called user called s ps)) steps
    ∙ ap length (run_goes os can).1 ∙ sym fit.count ∙ ap length (sym steps) in
    ap (λ (ps : List (Placed ℕ)). length (ran_called user called s ps))
    (sym (between_front 32 0 n n hs rest (omega arith) from.0))
    ∙ front_goes s (placed_between 32 0 n (hs ++ rest)) begins.rest whole
    ∙ length-between 32 0 n (hs ++ rest)

settled_whole : (os : List Obs) (s : CallScan) → CanBeSliced os
    → IsCutOff (calls_of user called os).head (records_from 0 (calls_of user called os).steps) s
    → length (settled_calls user called s) ≡ s.upto
settled_whole os s can cut = ⊎_elim (λ (read : s.head ≡ Some (calls_of user called os).head).
    ap (λ (h : Option Head). length (ran_called user called (handed (unwrap_or h (no_head 32)) (start user))
    (placed_between 32 0 s.upto s.records))) read
    ∙ ap (λ (n : ℕ). length (ran_called user called (handed (calls_of user called os).head (start user))
    (placed_between 32 0 n s.records))) cut.first.upto
    ∙ settled_front os s.records cut.first.rest can cut.first.parts ∙ sym cut.first.upto)
    (λ (none : s.records ≡ []).
    let zero_steps : s.upto ≡ 0 = cut.first.upto ∙ ap (last_index 0) none in
    ap (λ (n : ℕ). length (ran_called user called (started user s) (placed_between 32 0 n s.records))) zero_steps
    ∙ sym zero_steps) cut.head

-- ---- a cut call slice is bad at its end

calls_bad_at : (s : CallScan) (o : ℕ) → length (settled_calls user called s) ≡ s.upto → s.ended ≡ false
    → s.bad ≡ Some o → calls_refusal s ≡ Some (status.Format o)
calls_bad_at s o all goes_on bad =
    rw (le-ltb (length (settled_calls user called s)) s.upto (omega (arith, all)), goes_on, bad) refl

cut_is_refused : (os : List Obs) (bytes more : List ℕ) → CanBeSliced os → (call_magic ++ bytes) ++ more ≡ calls_text os
    → 1 ≤ length more → calls_refusal (call_scan bytes) ≡ Some (status.Format (length (call_magic ++ bytes)))
cut_is_refused os bytes more can same some =
    let slice : CallSlice ℕ = calls_of user called os in
    let rs : List Record = records_from 0 slice.steps in
    let count : ℕ = length slice.steps in
    let fit = calls_fit os can in
    let spelled : AreRecords behind_start rs count = steps_spelled slice.steps fit.some fit.most fit.fits.steps in
    let cut = scan_is_cut slice.head rs count bytes more fit.fits.head spelled fit.few same some in
    calls_bad_at (call_scan bytes) (length (call_magic ++ bytes)) (settled_whole os (call_scan bytes) can cut)
    cut.first.goes_on
    (call_slice_cut slice.head rs count bytes more fit.fits.head spelled fit.few same some)

pub cut_call_is_bad : (bytes front more : List ℕ) → AreBytes bytes → replaying.refusal (call_magic ++ bytes) ≡ None
    → front ++ more ≡ call_magic ++ bytes → 1 ≤ length more
    → replaying.refusal front ≡ Some (status.Format (length front))
cut_call_is_bad bytes front more are good parts some = ⊎_elim (λ (short : length front < 4). short_is_bad front short)
    (λ (long : 4 ≤ length front).
    let whole = good_is_calls bytes are good in
    let magic = with_magic call_magic bytes front more refl parts long in
    let same : (call_magic ++ magic.0) ++ more ≡ calls_text whole.observed =
    ap (λ (xs : List ℕ). xs ++ more) (sym magic.1) ∙ parts ∙ whole.is in
    subst (λ (xs : List ℕ). replaying.refusal xs ≡ Some (status.Format (length xs))) (sym magic.1)
    (calls_refused_as magic.0 ∙ cut_is_refused whole.observed magic.0 more whole.can same some))
    (cases_lt (length front) 4)
