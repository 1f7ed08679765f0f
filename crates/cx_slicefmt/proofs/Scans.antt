-- Scans: groups that can be spelled are scanned whole, what was scanned whole are such groups, no slice is a front of
-- another, and a scan goes group by group.
use Rattle.std.proofs.Common.{◌≡◌, ℕ, zero, suc, ◌+◌, ◌-◌, ◌^◌, ◌<◌, ◌≤◌, arith, refl, ap, sym, ◌∙◌, eqb, cond}
use Rattle.std.proofs.Common.{List, [], ◌∷◌, ◌++◌, length, Bool, true, false, Result, Ok, Err, None, Some, ⊎_elim}
use Rattle.std.proofs.Common.{length-append, eqb-true}
use Rattle.std.proofs.lemmas.Bool.{cases_lt}
use Rattle.std.proofs.lemmas.List.{append-nil}
use Rattle.cx_map.specs.Bytes.{AreBytes}
use Rattle.cx_codec.specs.Again.{IsCut}
use Rattle.cx_codec.specs.Checks.{close_at}
use Rattle.cx_codec.specs.Place.{Place, Takes, behind_text, end_of, done, read_on}
use Rattle.cx_codec.proofs.Again.{first_cut, second_cut}
use Rattle.cx_codec.proofs.Composing.{done_same}
use Rattle.cx_codec.proofs.Texts.{bytes_behind, takes_both, takes_first, takes_second}
use Rattle.cx_slices.specs.Groups.{Group, GroupsRise}
use Rattle.cx_slices.specs.Settled.{SliceScan}
use Rattle.cx_slicefmt.specs.Reading.{closed, entry_at, next_at}
use Rattle.cx_slicefmt.specs.Rules.{AreSpelled, EndAt, Form, GroupOf, SliceEntry}
use Rattle.cx_slicefmt.specs.Scan.{
  IsWholeScan,
  by_end,
  groups_within,
  scan_by,
  scan_groups,
  scan_of,
  stopped_at,
  with_group,
}
use Rattle.cx_slicefmt.specs.Text.{ended_text, group_text, slice_end_text, slice_entry_text}
use Rattle.cx_slicefmt.proofs.Entries.{once_entry, reads_end, reads_group}

-- an entry takes a byte at least
group_some : (least : ℕ) (g : Group ℕ) → 1 ≤ length (group_text least g)
unfolding group_text
group_some least g = omega arith

end_some : (least count : ℕ) → 1 ≤ length (slice_end_text least count)
unfolding slice_end_text
end_some least count = omega arith

entry_some : (least : ℕ) (e : SliceEntry) → 1 ≤ length (slice_entry_text least e)
entry_some least (GroupOf g) = group_some least g
entry_some least (EndAt count) = end_some least count

ended_some : (least : ℕ) (gs : List (Group ℕ)) (count : ℕ) → 1 ≤ length (ended_text least gs count)
ended_some least [] count = end_some least count
ended_some least (g ∷ gs) count =
    omega (arith, length-append (group_text least g) (ended_text (suc g.index) gs count), group_some least g)

shorter : (p after : Place) (text : List ℕ) → Takes p text after → 1 ≤ length text → length after.ahead < length p.ahead
shorter p after text takes some = omega (arith, ap length takes.ahead, length-append text after.ahead, some)

-- ---- groups that can be spelled are scanned

pub scan_again : (form : Form) (most least : ℕ) (gs : List (Group ℕ)) (count : ℕ) (p after : Place)
    → form.runs < 2 ^ 64 → AreSpelled form least gs count → Takes p (ended_text least gs count) after
    → length p.ahead < most → groups_within most form least p ≡ scan_of least gs count (close_at after)
scan_again form zero least gs count p after fits are takes enough = absurd (omega (arith, enough))
scan_again form (suc most) least [] count p after fits are takes enough =
    rw ((reads_end form least count are).again p after takes) refl
scan_again form (suc most) least (g ∷ gs) count p after fits are takes enough =
    let front : List ℕ = group_text least g in
    let rest : List ℕ = ended_text (suc g.index) gs count in
    let q : Place = behind_text p front (rest ++ after.ahead) in
    let first = takes_first p after front rest takes in
    let less = shorter p q front first (group_some least g) in
    rw (
      (reads_group form least g fits are.0).again p q first,
      scan_again form most (suc g.index) gs count q after fits are.1 (takes_second p after front rest takes)
          (omega (arith, less, enough)),
    ) refl

pub scan_well : (least : ℕ) (gs : List (Group ℕ)) (count : ℕ) (x : Unit {0} × Place)
    → scan_of least gs count (Ok x) ≡ record { groups = gs; upto = count; bad = None }
scan_well least [] count x = refl
scan_well least (g ∷ gs) count x = ap (with_group g) (scan_well (suc g.index) gs count x)

-- An input that ends inside a slice is bad at its end.
pub scan_cut : (form : Form) (most least : ℕ) (gs : List (Group ℕ)) (count : ℕ) (p : Place) → form.runs < 2 ^ 64
    → AreSpelled form least gs count → IsCut p (ended_text least gs count) → length p.ahead < most
    → (groups_within most form least p).bad ≡ Some (end_of p)
scan_cut form zero least gs count p fits are cut enough = absurd (omega (arith, enough))
scan_cut form (suc most) least [] count p fits are cut enough = rw ((reads_end form least count are).cut p cut) refl
scan_cut form (suc most) least (g ∷ gs) count p fits are cut enough =
    let front : List ℕ = group_text least g in
    let rest : List ℕ = ended_text (suc g.index) gs count in
    ⊎_elim (λ (inside : length p.ahead < length front).
    rw ((reads_group form least g fits are.0).cut p (first_cut p front rest cut inside)) refl)
    (λ (whole : length front ≤ length p.ahead).
    let behind = second_cut p front rest cut whole in
    let less = shorter p behind.after front behind.first (group_some least g) in
    rw ((reads_group form least g fits are.0).again p behind.after behind.first)
    (scan_cut form most (suc g.index) gs count behind.after fits are.1 behind.then (omega (arith, less, enough))
    ∙ ap (λ (n : ℕ). Some n) behind.end))
    (cases_lt (length p.ahead) (length front))

-- ---- what was scanned whole

closed_none : (q : Place) (r : Result (Unit {0} × Place) ℕ) (least count : ℕ) → close_at q ≡ r
    → (by_end least count r).bad ≡ None → (q.ahead ≡ []) × ((by_end least count r) ≡ record { groups = []; upto = count; bad = None })
closed_none q (Err o) least count is good = cc
closed_none q (Ok x) least count is good = (nothing_left q.ahead (eqb (length q.ahead) 0) refl (there q x is), refl)
  where
    nothing_left : (xs : List ℕ) (t : Bool) → eqb (length xs) 0 ≡ t → t ≡ true → xs ≡ []
    nothing_left [] t is good = refl
    nothing_left (x ∷ xs) t is good = let e : suc (length xs) ≡ 0 = eqb-true (suc (length xs)) 0 (is ∙ good) in
        absurd (omega (arith, e))

    by_test : (q : Place) (x : Unit {0} × Place) (t : Bool)
        → cond {A = Result (Unit {0} × Place) ℕ} t (Ok (tt, q)) (Err q.at) ≡ Ok x → t ≡ true
    by_test q x true is = refl
    by_test q x false is = cc

    there : (q : Place) (x : Unit {0} × Place) → close_at q ≡ Ok x → eqb (length q.ahead) 0 ≡ true
    there q x is = by_test q x (eqb (length q.ahead) 0) is

Later : Form → ℕ → Type 0
Later form most = (least : ℕ) (p : Place) → AreBytes p.ahead → (groups_within most form least p).bad ≡ None
    → IsWholeScan form least p (groups_within most form least p)

found_once : (form : Form) (most least : ℕ) (p q : Place) (e : SliceEntry) → Later form most → AreBytes p.ahead
    → entry_at form least p ≡ Ok (e, q) → (scan_by (groups_within most form) least (Ok (e, q))).bad ≡ None
    → IsWholeScan form least p (scan_by (groups_within most form) least (Ok (e, q)))
unfolding Later
found_once form most least p q (GroupOf g) later are read good =
    let stood = once_entry form least p q are (GroupOf g) read in
    let rest = later (suc g.index) q (bytes_behind p q (group_text least g) are stood.1) good in
    record {
      after = rest.after;
      spelled = (stood.0, rest.spelled);
      takes = takes_both p q rest.after (group_text least g) _ stood.1 rest.takes;
      none = rest.none;
    }
found_once form most least p q (EndAt count) later are read good =
    let stood = once_entry form least p q are (EndAt count) read in
    let last = closed_none q (close_at q) least count refl good in
    rw last.1 (record { after = q; spelled = stood.0; takes = stood.1; none = last.0 })

one_once : (form : Form) (most least : ℕ) (p : Place) (r : Result (SliceEntry × Place) ℕ) → Later form most
    → AreBytes p.ahead → entry_at form least p ≡ r → (scan_by (groups_within most form) least r).bad ≡ None
    → IsWholeScan form least p (scan_by (groups_within most form) least r)
one_once form most least p (Err o) later are read good = cc
one_once form most least p (Ok x) later are read good = found_once form most least p x.1 x.0 later are read good

scan_later : (form : Form) (most : ℕ) → Later form most
unfolding Later
scan_later form zero least p are good = cc
scan_later form (suc most) least p are good = one_once form most least p (entry_at form least p) (scan_later form most) are
    refl good

pub scan_once : (form : Form) (most least : ℕ) (p : Place) → AreBytes p.ahead
    → (groups_within most form least p).bad ≡ None → IsWholeScan form least p (groups_within most form least p)
unfolding Later
scan_once form most least p are good = scan_later form most least p are good

-- ---- no slice is a front of another

alone : List ℕ → List ℕ → Place
alone text more = record { at = 0; limit = length text; ahead = text ++ more }

behind_alone : List ℕ → List ℕ → Place
behind_alone text more = record { at = length text; limit = length text; ahead = more }

alone_takes : (text more : List ℕ) → Takes (alone text more) text (behind_alone text more)
unfolding alone behind_alone
alone_takes text more = record { ahead = refl; there = omega arith; limit = refl; within = omega arith }

same_scan : (s t : SliceScan ℕ) → s ≡ t → (s.groups ≡ t.groups) × (s.upto ≡ t.upto)
same_scan s t same = (ap (λ (s : SliceScan ℕ). s.groups) same, ap (λ (s : SliceScan ℕ). s.upto) same)

record IsFrontOf (more : List ℕ) (gs hs : List (Group ℕ)) (m n : ℕ) : Type 0 where
  groups : gs ≡ hs
  counts : m ≡ n
  none : more ≡ []

no_front_by : (form : Form) (least : ℕ) (gs hs : List (Group ℕ)) (m n : ℕ) (more : List ℕ) → form.runs < 2 ^ 64
    → AreSpelled form least gs m → AreSpelled form least hs n
    → (p q r : Place) → Takes p (ended_text least gs m) q → q.ahead ≡ more → Takes p (ended_text least hs n) r
    → r.ahead ≡ [] → IsFrontOf more gs hs m n
no_front_by form least [] [] m n more fits are are' p q r first rest second none =
    let one = (reads_end form least m are).again p q first in
    let two = (reads_end form least n are').again p r second in
    let same = same_pair (EndAt m) (EndAt n) q r (sym one ∙ two) in
    record { groups = refl; counts = same_end m n same.0; none = sym rest ∙ ap (λ (x : Place). x.ahead) same.1 ∙ none }
  where
    same_end : (m n : ℕ) → EndAt m ≡ EndAt n → m ≡ n
    same_end m n same = cc

    same_pair : (d e : SliceEntry) (q r : Place) → ◌≡◌ {A = Result (SliceEntry × Place) ℕ} (Ok (d, q)) (Ok (e, r))
        → (d ≡ e) × (q ≡ r)
    same_pair d e q r same = done_same d e q r same
no_front_by form least [] (h ∷ hs) m n more fits are are' p q r first rest second none =
    let front : List ℕ = group_text least h in
    let back : List ℕ = ended_text (suc h.index) hs n in
    let mid : Place = behind_text p front (back ++ r.ahead) in
    let one = (reads_end form least m are).again p q first in
    let two = (reads_group form least h fits are'.0).again p mid (takes_first p r front back second) in
    let same = done_same (EndAt m) (GroupOf h) q mid (sym one ∙ two) in
    absurd (other m h same.0)
  where
    other : (m : ℕ) (h : Group ℕ) → EndAt m ≡ GroupOf h → ⊥
    other m h same = cc
no_front_by form least (g ∷ gs) [] m n more fits are are' p q r first rest second none =
    let front : List ℕ = group_text least g in
    let back : List ℕ = ended_text (suc g.index) gs m in
    let mid : Place = behind_text p front (back ++ q.ahead) in
    let one = (reads_end form least n are').again p r second in
    let two = (reads_group form least g fits are.0).again p mid (takes_first p q front back first) in
    let same = done_same (EndAt n) (GroupOf g) r mid (sym one ∙ two) in
    absurd (other n g same.0)
  where
    other : (m : ℕ) (h : Group ℕ) → EndAt m ≡ GroupOf h → ⊥
    other m h same = cc
no_front_by form least (g ∷ gs) (h ∷ hs) m n more fits are are' p q r first rest second none =
    let front : List ℕ = group_text least g in
    let back : List ℕ = ended_text (suc g.index) gs m in
    let mid : Place = behind_text p front (back ++ q.ahead) in
    let front' : List ℕ = group_text least h in
    let back' : List ℕ = ended_text (suc h.index) hs n in
    let mid' : Place = behind_text p front' (back' ++ r.ahead) in
    let one = (reads_group form least g fits are.0).again p mid (takes_first p q front back first) in
    let two = (reads_group form least h fits are'.0).again p mid' (takes_first p r front' back' second) in
    let same = done_same (GroupOf g) (GroupOf h) mid mid' (sym one ∙ two) in
    let group : g ≡ h = same_group g h same.0 in
    let are_h : AreSpelled form (suc h.index) gs m = rw (← group) are.1 in
    let takes_h : Takes mid' (ended_text (suc h.index) gs m) q =
    rw (← same.1, ← group) (takes_second p q front back first) in
    let later = no_front_by form (suc h.index) gs hs m n more fits are_h are'.1 mid' q r takes_h rest
    (takes_second p r front' back' second) none in
    record { groups = rw (group, later.groups) refl; counts = later.counts; none = later.none }
  where
    same_group : (g h : Group ℕ) → GroupOf g ≡ GroupOf h → g ≡ h
    same_group g h same = cc

-- ---- a scan goes group by group

Enough : ℕ → ℕ → Form → Type 0
Enough m n form = (least : ℕ) (p : Place) → AreBytes p.ahead → length p.ahead < m → length p.ahead < n
    → groups_within m form least p ≡ groups_within n form least p

found_enough : (m n : ℕ) (form : Form) (least : ℕ) (p q : Place) (e : SliceEntry) → Enough m n form → AreBytes p.ahead
    → length p.ahead < suc m → length p.ahead < suc n → entry_at form least p ≡ Ok (e, q)
    → scan_by (groups_within m form) least (Ok (e, q)) ≡ scan_by (groups_within n form) least (Ok (e, q))
unfolding Enough
found_enough m n form least p q (EndAt count) later are first second read = refl
found_enough m n form least p q (GroupOf g) later are first second read =
    let stood = once_entry form least p q are (GroupOf g) read in
    let less = shorter p q (group_text least g) stood.1 (group_some least g) in
    ap (with_group g) (later (suc g.index) q (bytes_behind p q (group_text least g) are stood.1)
    (omega (arith, less, first)) (omega (arith, less, second)))

one_enough : (m n : ℕ) (form : Form) (least : ℕ) (p : Place) (r : Result (SliceEntry × Place) ℕ) → Enough m n form
    → AreBytes p.ahead → length p.ahead < suc m → length p.ahead < suc n → entry_at form least p ≡ r
    → scan_by (groups_within m form) least r ≡ scan_by (groups_within n form) least r
one_enough m n form least p (Err o) later are first second read = refl
one_enough m n form least p (Ok x) later are first second read =
    found_enough m n form least p x.1 x.0 later are first second read

scan_enough : (m n : ℕ) (form : Form) → Enough m n form
unfolding Enough
scan_enough zero n form least p are first second = absurd (omega (arith, first))
scan_enough (suc m) zero form least p are first second = absurd (omega (arith, second))
scan_enough (suc m) (suc n) form least p are first second = one_enough m n form least p (entry_at form least p)
    (scan_enough m n form) are first second refl

pub scan_put : (form : Form) (least : ℕ) (g : Group ℕ) (p q : Place) → AreBytes p.ahead
    → entry_at form least p ≡ Ok (GroupOf g, q)
    → scan_groups form least p ≡ with_group g (scan_groups form (suc g.index) q)
unfolding scan_groups Enough
scan_put form least g p q are read =
    let stood = once_entry form least p q are (GroupOf g) read in
    let less = shorter p q (group_text least g) stood.1 (group_some least g) in
    rw read (ap (with_group g) (scan_enough (length p.ahead) (suc (length q.ahead)) form (suc g.index) q
    (bytes_behind p q (group_text least g) are stood.1) less (omega arith)))

pub scan_ends : (form : Form) (least count : ℕ) (p q : Place) → entry_at form least p ≡ Ok (EndAt count, q)
    → scan_groups form least p ≡ by_end least count (close_at q)
unfolding scan_groups
scan_ends form least count p q read = rw read refl

pub scan_bad : (form : Form) (least o : ℕ) (p : Place) → entry_at form least p ≡ Err o
    → scan_groups form least p ≡ stopped_at least o
unfolding scan_groups
scan_bad form least o p read = rw read refl

-- ---- the indices rise

pub record Rises (least : ℕ) (s : SliceScan ℕ) : Type 0 where
  pub groups : GroupsRise least s.groups
  pub upto : least - 1 ≤ s.upto

rises_later : Form → ℕ → Type 0
rises_later form most = (least : ℕ) (p : Place) → AreBytes p.ahead → Rises least (groups_within most form least p)

end_rises : (least count : ℕ) (r : Result (Unit {0} × Place) ℕ) → least ≤ count → Rises least (by_end least count r)
end_rises least count (Ok x) low = record { groups = tt; upto = omega (arith, low) }
end_rises least count (Err o) low = record { groups = tt; upto = omega arith }

found_rises : (form : Form) (most least : ℕ) (p q : Place) (e : SliceEntry) → rises_later form most → AreBytes p.ahead
    → entry_at form least p ≡ Ok (e, q) → Rises least (scan_by (groups_within most form) least (Ok (e, q)))
unfolding rises_later
found_rises form most least p q (GroupOf g) later are read =
    let stood = once_entry form least p q are (GroupOf g) read in
    let rest = later (suc g.index) q (bytes_behind p q (group_text least g) are stood.1) in
    record { groups = (stood.0.from, rest.groups); upto = omega (arith, stood.0.from, rest.upto) }
found_rises form most least p q (EndAt count) later are read =
    end_rises least count (close_at q) (once_entry form least p q are (EndAt count) read).0.from

one_rises : (form : Form) (most least : ℕ) (p : Place) (r : Result (SliceEntry × Place) ℕ) → rises_later form most
    → AreBytes p.ahead → entry_at form least p ≡ r → Rises least (scan_by (groups_within most form) least r)
one_rises form most least p (Err o) later are read = record { groups = tt; upto = omega arith }
one_rises form most least p (Ok x) later are read = found_rises form most least p x.1 x.0 later are read

all_rise : (form : Form) (most : ℕ) → rises_later form most
unfolding rises_later
all_rise form zero least p are = record { groups = tt; upto = omega arith }
all_rise form (suc most) least p are = one_rises form most least p (entry_at form least p) (all_rise form most) are refl

pub scan_rises : (form : Form) (least : ℕ) (p : Place) → AreBytes p.ahead → Rises least (scan_groups form least p)
unfolding scan_groups rises_later
scan_rises form least p are = all_rise form (suc (length p.ahead)) least p are

-- ---- the next entry, with nothing behind an end

next_by : (form : Form) (least o : ℕ) (p : Place) (r : Result (SliceEntry × Place) ℕ) → entry_at form least p ≡ r
    → read_on r closed ≡ Err o → scan_groups form least p ≡ stopped_at least o
next_by form least o p (Err o') read bad = scan_bad form least o' p read ∙ let same : o' ≡ o = cc in rw same refl
next_by form least o p (Ok x) read bad = by_entry x.0 x.1 read bad
  where
    by_close : (count : ℕ) (q : Place) (r : Result (Unit {0} × Place) ℕ)
        → read_on r (λ nothing. done (EndAt count)) ≡ Err o → by_end least count r ≡ stopped_at least o
    by_close count q (Ok y) bad = cc
    by_close count q (Err o') bad = let same : o' ≡ o = cc in rw same refl

    by_entry : (e : SliceEntry) (q : Place) → entry_at form least p ≡ Ok (e, q) → closed e q ≡ Err o
        → scan_groups form least p ≡ stopped_at least o
    by_entry (GroupOf g) q read bad = cc
    by_entry (EndAt count) q read bad = scan_ends form least count p q read ∙ by_close count q (close_at q) bad

pub next_bad : (form : Form) (least o : ℕ) (p : Place) → next_at form least p ≡ Err o
    → scan_groups form least p ≡ stopped_at least o
unfolding next_at
next_bad form least o p bad = next_by form least o p (entry_at form least p) refl bad

pub no_front : (form : Form) (least : ℕ) (gs hs : List (Group ℕ)) (m n : ℕ) (more : List ℕ) → form.runs < 2 ^ 64
    → AreSpelled form least gs m → AreSpelled form least hs n → ended_text least gs m ++ more ≡ ended_text least hs n
    → (gs ≡ hs) × (m ≡ n) × (more ≡ [])
unfolding alone behind_alone
no_front form least gs hs m n more fits are are' same =
    let long : List ℕ = ended_text least hs n in
    let p : Place = alone long [] in
    let size : length long ≡ length (ended_text least gs m) + length more = ap length (sym same)
    ∙ length-append (ended_text least gs m) more in
    let first : Takes p (ended_text least gs m) (record {
      at = length (ended_text least gs m);
      limit = length long;
      ahead = more;
    }) = record {
      ahead = append-nil long ∙ sym same;
      there = omega arith;
      limit = refl;
      within = omega (arith, size);
    } in
    let is = no_front_by form least gs hs m n more fits are are' p _ _ first refl (alone_takes long []) refl in
    (is.groups, is.counts, is.none)
