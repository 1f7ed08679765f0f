-- What an entry that is read says of an input, and how it settles a step.
use Rattle.std.proofs.Common.{◌≡◌, ◌⊎◌, inl, inr, ℕ, suc, ◌+◌, ◌-◌, ◌≤◌, ◌<◌, ◌==◌, Bool, true, false}
use Rattle.std.proofs.Common.{List, [], ◌∷◌, ◌++◌, length, Option, None, Some, unwrap_or, Result, Ok, Err}
use Rattle.cx_slices.proofs.Small.{same_Ok}
use Rattle.std.proofs.Common.{eqb-true, if◌then◌else◌, refl, sym, ap, subst, ◌∙◌, arith}
use Rattle.cx_codec.specs.Checks.{close_at}
use Rattle.cx_codec.specs.Place.{Place, done, end_of, read_on}
use Rattle.cx_codec.proofs.Texts.{bytes_behind}
use Rattle.cx_map.specs.Bytes.{AreBytes}
use Rattle.cx_slicefmt.specs.Engine.{IsLast, items_in}
use Rattle.cx_slicefmt.specs.Reading.{closed, entry_at, next_at}
use Rattle.cx_slicefmt.specs.Rules.{EndAt, GroupOf, SliceEntry, process}
use Rattle.cx_slicefmt.specs.Scan.{by_end, scan_groups, stopped_at, with_group}
use Rattle.cx_slicefmt.specs.Text.{group_text, least_behind, slice_end_text}
use Rattle.cx_slicefmt.specs.declared.items.GroupItems.{GroupItems}
use Rattle.cx_slicefmt.proofs.Entries.{once_entry}
use Rattle.cx_slicefmt.proofs.Scans.{scan_bad, scan_ends, scan_put, scan_rises}
use Rattle.cx_slicefmt.proofs.Texts.{least_more}
use Rattle.cx_slices.specs.Groups.{Group, GroupsBelow, GroupsRise}
use Rattle.cx_slices.specs.Items.{no_items}
use Rattle.cx_slices.specs.Settled.{SliceScan}
use Rattle.cx_alone.specs.Ahead.{IsAhead, behind, untaken}
use Rattle.cx_alone.specs.Settling.{IsCutOff, IsRead}
use Rattle.cx_alone.specs.Steps.{item_at}
use Rattle.cx_alone.proofs.Items.{GroupsRise-less, item_at-here, item_at-later, item_at-past}

-- ---- an entry

pub read_group : (least index : ℕ) (items : GroupItems) (p q : Place) (left : Option (List ℕ)) → AreBytes p.ahead
    → entry_at process least p ≡ Ok (GroupOf (record { index = index; items = items_in items }), q)
    → IsRead (scan_groups process least p) least index (Some items) q left
read_group least index items p q left are read =
    let g : Group ℕ = record { index = index; items = items_in items } in
    let stood = once_entry process least p q are (GroupOf g) read in
    record {
      is = scan_put process least g p q are read;
      from = stood.0.from;
      most = omega (arith, stood.0.below);
      bytes = bytes_behind p q (group_text least g) are stood.1;
      spent = λ none. cc;
    }

-- nothing stands behind an end that is the last entry
pub record Closes (least count : ℕ) (p after : Place) : Type 0 where
  pub read : entry_at process least p ≡ Ok (EndAt count, after)
  pub ends : close_at after ≡ Ok (tt, after)
  pub none : after.ahead ≡ []

nothing_left : (l : List ℕ) → (length l == 0) ≡ true → l ≡ []
nothing_left [] is = refl
nothing_left (x ∷ l) is = absurd (omega (arith, eqb-true (suc (length l)) 0 is))

closes_at : (least n count : ℕ) (p q after : Place) → n ≡ count → q ≡ after → (length q.ahead == 0) ≡ true
    → entry_at process least p ≡ Ok (EndAt n, q) → Closes least count p after
closes_at least n count p q after same here test read =
    let none : after.ahead ≡ [] = ap (λ (r : Place). r.ahead) (sym here) ∙ nothing_left q.ahead test in
    record {
      read = read ∙ (ap (λ (m : ℕ). Ok (EndAt m, q)) same ∙ ap (λ (r : Place). Ok (EndAt count, r)) here);
      ends = ap (λ (l : List ℕ). if length l == 0 then Ok (tt, after) else Err after.at) none;
      none = none;
    }

same_count : (n count : ℕ) → EndAt n ≡ EndAt count → n ≡ count
same_count n count is = cc

closed_group : {P : Type 0} (g : Group ℕ) (q after : Place) (count : ℕ)
    → ◌≡◌ {A = Result (SliceEntry × Place) ℕ} (Ok (GroupOf g, q)) (Ok (EndAt count, after)) → P
closed_group {P} g q after count is = other g count (ap (λ (x : SliceEntry × Place). x.0) (same_Ok {E = ℕ} (GroupOf g, q) (EndAt count, after) is))
  where
    other : (g : Group ℕ) (count : ℕ) → GroupOf g ≡ EndAt count → P
    other g count is = cc

closes_by : (least count : ℕ) (p after : Place) (r : Result (SliceEntry × Place) ℕ) → entry_at process least p ≡ r
    → read_on r closed ≡ Ok (EndAt count, after) → Closes least count p after
closes_by least count p after (Err o) read is = absurd (cc)
closes_by least count p after (Ok x) read is = by_entry x.0 x.1 read is
  where
    by_close : (n : ℕ) (q : Place) (t : Bool) → (length q.ahead == 0) ≡ t → entry_at process least p ≡ Ok (EndAt n, q)
        → read_on {A = Unit {0}} (if t then Ok (tt, q) else Err q.at) (λ nothing. done (EndAt n)) ≡ Ok (EndAt count, after)
        → Closes least count p after
    by_close n q true test read is =
        let both : ◌≡◌ {A = SliceEntry × Place} (EndAt n, q) (EndAt count, after)
        = same_Ok {E = ℕ} (EndAt n, q) (EndAt count, after) is in
        closes_at least n count p q after (same_count n count (ap (λ (x : SliceEntry × Place). x.0) both))
        (ap (λ (x : SliceEntry × Place). x.1) both) test read
    by_close n q false test read is = absurd (cc)

    by_entry : (e : SliceEntry) (q : Place) → entry_at process least p ≡ Ok (e, q)
        → closed e q ≡ Ok (EndAt count, after) → Closes least count p after
    by_entry (GroupOf g) q read is = closed_group g q after count is
    by_entry (EndAt n) q read is = by_close n q (length q.ahead == 0) refl read is

pub closes : (least count : ℕ) (p after : Place) → next_at process least p ≡ Ok (EndAt count, after)
    → Closes least count p after
unfolding next_at
closes least count p after is = closes_by least count p after (entry_at process least p) refl is

pub read_end : (least count : ℕ) (p after : Place) (left : Option (List ℕ)) → AreBytes p.ahead
    → next_at process least p ≡ Ok (EndAt count, after) → unwrap_or left [] ≡ []
    → IsRead (scan_groups process least p) least count None after left
read_end least count p after left are is spent =
    let closing : Closes least count p after = closes least count p after is in
    let stood = once_entry process least p after are (EndAt count) closing.read in
    record {
      is = scan_ends process least count p after closing.read ∙ ap (by_end least count) closing.ends;
      from = stood.0.from;
      most = stood.0.most;
      bytes = bytes_behind p after (slice_end_text least count) are stood.1;
      spent = λ none. spent;
    }

pub cut_inside : (least end : ℕ) (p : Place) → end ≡ end_of p → entry_at process least p ≡ Err (end_of p)
    → IsCutOff (scan_groups process least p) end
cut_inside least end p is read =
    let stops : scan_groups process least p ≡ stopped_at least (end_of p) = scan_bad process least (end_of p) p read in
    record {
      groups = ap (λ (s : SliceScan ℕ). s.groups) stops;
      bad = inr (ap (λ (s : SliceScan ℕ). s.bad) stops ∙ ap {B = Option ℕ} Some (sym is));
    }

pub cut_behind : (least end : ℕ) (p after : Place) → IsLast least p after → IsCutOff (scan_groups process least p) end
cut_behind least end p after last =
    let closing : Closes least last.count p after = closes least last.count p after last.read in
    let ends : scan_groups process least p ≡ record { groups = []; upto = last.count; bad = None }
    = scan_ends process least last.count p after closing.read ∙ ap (by_end least last.count) closing.ends in
    record {
      groups = ap (λ (s : SliceScan ℕ). s.groups) ends;
      bad = inl (ap (λ (s : SliceScan ℕ). s.bad) ends);
    }

-- ---- what isn't taken

pub record Later (upto : ℕ) (s : SliceScan ℕ) : Type 0 where
  pub rises : GroupsRise upto s.groups
  pub reach : upto ≤ s.upto

pub untaken_later : (upto : ℕ) (waiting : Option GroupItems) (p : Place) → AreBytes p.ahead
    → Later upto (untaken upto waiting p)
untaken_later upto None p are = record { rises = tt; reach = omega arith }
untaken_later upto (Some items) p are =
    let rest = scan_rises process (suc upto) p are in
    record { rises = (omega arith, rest.groups); reach = omega (arith, rest.upto) }

below_more : (at n : ℕ) (gs : List (Group ℕ)) → at ≤ n → GroupsBelow at gs → GroupsBelow n gs
below_more at n [] less below = tt
below_more at n (g ∷ gs) less below = (omega (arith, less, below.0), below_more at n gs less below.1)

below_push : (n : ℕ) (gs : List (Group ℕ)) (g : Group ℕ) → GroupsBelow n gs → g.index < n → GroupsBelow n (gs ++ g ∷ [])
below_push n [] g below is = (is, tt)
below_push n (h ∷ gs) g below is = (below.0, below_push n gs g below.1 is)

groups_of_whole : (whole s : SliceScan ℕ) (past : List (Group ℕ)) → whole ≡ behind past s
    → whole.groups ≡ past ++ s.groups
groups_of_whole whole s past is = ap (λ (t : SliceScan ℕ). t.groups) is

upto_of_whole : (whole s : SliceScan ℕ) (past : List (Group ℕ)) → whole ≡ behind past s → whole.upto ≡ s.upto
upto_of_whole whole s past is = ap (λ (t : SliceScan ℕ). t.upto) is

bad_of_whole : (whole s : SliceScan ℕ) (past : List (Group ℕ)) → whole ≡ behind past s → whole.bad ≡ s.bad
bad_of_whole whole s past is = ap (λ (t : SliceScan ℕ). t.bad) is

-- ---- a step between two groups, and none behind the end

pub record Between (whole : SliceScan ℕ) (end at upto : ℕ) (waiting : Option GroupItems) (p : Place)
    (left : Option (List ℕ)) : Type 0 where
  pub none : no_items 32 ≡ item_at 32 at whole.groups
  pub within : at < whole.upto
  pub ahead : IsAhead whole end (at + 1) upto waiting p left

pub between : (whole : SliceScan ℕ) (end at upto : ℕ) (waiting : Option GroupItems) (p : Place)
    (left : Option (List ℕ)) → IsAhead whole end at upto waiting p left → at < upto
    → Between whole end at upto waiting p left
between whole end at upto waiting p left is less =
    let later : Later upto (untaken upto waiting p) = untaken_later upto waiting p is.bytes in
    let item : item_at 32 at whole.groups ≡ no_items 32
    = ap (item_at 32 at) (groups_of_whole whole (untaken upto waiting p) is.past is.parts)
    ∙ (item_at-past 32 at is.past (untaken upto waiting p).groups is.below
    ∙ item_at-later 32 at (untaken upto waiting p).groups
    (GroupsRise-less (suc at) upto (untaken upto waiting p).groups (omega (arith, less)) later.rises)) in
    record {
      none = sym item;
      within = omega (arith, less, later.reach, upto_of_whole whole (untaken upto waiting p) is.past is.parts);
      ahead = record {
        past = is.past;
        parts = is.parts;
        below = below_more at (at + 1) is.past (omega arith) is.below;
        within = omega (arith, less);
        most = is.most;
        bytes = is.bytes;
        ends = is.ends;
        spent = is.spent;
      };
    }

pub record AtEnd (whole : SliceScan ℕ) (at : ℕ) : Type 0 where
  pub all : at ≡ whole.upto
  pub good : whole.bad ≡ None

pub at_end : (whole : SliceScan ℕ) (end at upto : ℕ) (p : Place) (left : Option (List ℕ))
    → IsAhead whole end at upto None p left → upto ≤ at → AtEnd whole at
at_end whole end at upto p left is over = record {
  all = omega (arith, over, is.within, upto_of_whole whole (untaken upto None p) is.past is.parts);
  good = bad_of_whole whole (untaken upto None p) is.past is.parts;
}

-- ---- a group that waits, and what is behind it

group_append : (xs ys zs : List (Group ℕ)) → (xs ++ ys) ++ zs ≡ xs ++ (ys ++ zs)
group_append [] ys zs = refl
group_append (x ∷ xs) ys zs = ap (λ l. x ∷ l) (group_append xs ys zs)

waiting_one : ℕ → GroupItems → Group ℕ
waiting_one upto items = record { index = upto; items = items_in items }

pub record Handed (whole : SliceScan ℕ) (end at upto : ℕ) (waiting : Option GroupItems) (p : Place)
    (left : Option (List ℕ)) (items : GroupItems) : Type 0 where
  pub are : items_in items ≡ item_at 32 at whole.groups
  pub within : at < whole.upto
  pub ahead : IsAhead whole end (at + 1) upto waiting p left

-- The entry behind a group settles its step.
pub settled : (whole : SliceScan ℕ) (end at upto next : ℕ) (items : GroupItems) (waiting : Option GroupItems)
    (p q : Place) (left left_now : Option (List ℕ)) → IsAhead whole end at upto (Some items) p left → upto ≤ at
    → IsRead (scan_groups process (suc upto) p) (suc upto) next waiting q left_now → end_of p ≡ end_of q
    → Handed whole end at next waiting q left_now items
unfolding waiting_one
settled whole end at upto next items waiting p q left left_now is over read stays =
    let here : upto ≡ at = omega (arith, over, is.within) in
    let rest : SliceScan ℕ = scan_groups process (suc upto) p in
    let later : Later next (untaken next waiting q) = untaken_later next waiting q read.bytes in
    let reach : rest.upto ≡ (untaken next waiting q).upto = ap (λ (s : SliceScan ℕ). s.upto) read.is in
    let item : item_at 32 at whole.groups ≡ items_in items
    = ap (item_at 32 at) (groups_of_whole whole (untaken upto (Some items) p) is.past is.parts)
    ∙ (item_at-past 32 at is.past (waiting_one upto items ∷ rest.groups) is.below
    ∙ item_at-here 32 at (waiting_one upto items) rest.groups here) in
    record {
      are = sym item;
      within = omega (
        arith,
        here,
        read.from,
        later.reach,
        reach,
        upto_of_whole whole (untaken upto (Some items) p) is.past is.parts,
      );
      ahead = record {
        past = is.past ++ waiting_one upto items ∷ [];
        parts = is.parts
            ∙ (ap (λ (s : SliceScan ℕ). behind is.past (with_group (waiting_one upto items) s)) read.is
            ∙ ap (λ (gs : List (Group ℕ)). record {
              groups = gs;
              upto = (untaken next waiting q).upto;
              bad = (untaken next waiting q).bad;
            }) (sym (group_append is.past (waiting_one upto items ∷ []) (untaken next waiting q).groups)));
        below = below_push (at + 1) is.past (waiting_one upto items)
            (below_more at (at + 1) is.past (omega arith) is.below) (omega (arith, here));
        within = omega (arith, here, read.from);
        most = read.most;
        bytes = read.bytes;
        ends = is.ends ∙ stays;
        spent = read.spent;
      };
    }

one_less : (n : ℕ) → suc n - 1 ≡ n
one_less n = omega arith

-- A field behind the group is bad.
pub record Stopped (whole : SliceScan ℕ) (at o : ℕ) : Type 0 where
  pub upto : whole.upto ≡ at
  pub bad : whole.bad ≡ Some o

pub bad_behind : (whole : SliceScan ℕ) (end at upto o : ℕ) (items : GroupItems) (p : Place) (left : Option (List ℕ))
    → IsAhead whole end at upto (Some items) p left → upto ≤ at
    → scan_groups process (suc upto) p ≡ stopped_at (suc upto) o → Stopped whole at o
bad_behind whole end at upto o items p left is over stops =
    let here : upto ≡ at = omega (arith, over, is.within) in
    record {
      upto = upto_of_whole whole (untaken upto (Some items) p) is.past is.parts
          ∙ (ap (λ (s : SliceScan ℕ). s.upto) stops ∙ (one_less upto ∙ here));
      bad = bad_of_whole whole (untaken upto (Some items) p) is.past is.parts ∙ ap (λ (s : SliceScan ℕ). s.bad) stops;
    }

-- What came ends behind the group.
pub record CutOff (whole : SliceScan ℕ) (end at : ℕ) : Type 0 where
  pub last : least_behind 0 whole.groups - 1 ≡ at
  pub bad : (whole.bad ≡ None) ⊎ (whole.bad ≡ Some end)

either_way : (bad rest : Option ℕ) (end : ℕ) → bad ≡ rest → (rest ≡ None) ⊎ (rest ≡ Some end)
    → (bad ≡ None) ⊎ (bad ≡ Some end)
either_way bad rest end is (inl none) = inl (is ∙ none)
either_way bad rest end is (inr some) = inr (is ∙ some)

pub cut_off : (whole : SliceScan ℕ) (end at upto : ℕ) (items : GroupItems) (p : Place) (left : Option (List ℕ))
    → IsAhead whole end at upto (Some items) p left → upto ≤ at
    → IsCutOff (scan_groups process (suc upto) p) (end_of p) → CutOff whole end at
unfolding waiting_one
cut_off whole end at upto items p left is over cut =
    let here : upto ≡ at = omega (arith, over, is.within) in
    let groups : whole.groups ≡ is.past ++ waiting_one upto items ∷ []
    = groups_of_whole whole (untaken upto (Some items) p) is.past is.parts
    ∙ ap (λ (gs : List (Group ℕ)). is.past ++ waiting_one upto items ∷ gs) cut.groups in
    let least : least_behind 0 whole.groups ≡ suc upto
    = ap (least_behind 0) groups ∙ least_more 0 is.past (waiting_one upto items) in
    record {
      last = omega (arith, least, here);
      bad = either_way whole.bad (scan_groups process (suc upto) p).bad end
          (bad_of_whole whole (untaken upto (Some items) p) is.past is.parts)
          (subst (λ (n : ℕ). ((scan_groups process (suc upto) p).bad ≡ None)
          ⊎ ((scan_groups process (suc upto) p).bad ≡ Some n)) (sym is.ends) cut.bad);
    }

-- ---- the first entry

pub opened : (p q : Place) (upto : ℕ) (waiting : Option GroupItems) (left : Option (List ℕ))
    → IsRead (scan_groups process 0 p) 0 upto waiting q left → end_of p ≡ end_of q
    → IsAhead (scan_groups process 0 p) (end_of p) 0 upto waiting q left
opened p q upto waiting left read stays = record {
  past = [];
  parts = read.is;
  below = tt;
  within = omega arith;
  most = read.most;
  bytes = read.bytes;
  ends = stays;
  spent = read.spent;
}

pub not_opened : (p : Place) (o : ℕ) → scan_groups process 0 p ≡ stopped_at 0 o → Stopped (scan_groups process 0 p) 0 o
not_opened p o stops = record {
  upto = ap (λ (s : SliceScan ℕ). s.upto) stops;
  bad = ap (λ (s : SliceScan ℕ). s.bad) stops;
}

pub cut_at_start : (p : Place) → IsCutOff (scan_groups process 0 p) (end_of p)
    → CutOff (scan_groups process 0 p) (end_of p) 0
cut_at_start p cut = record {
  last = ap (λ (gs : List (Group ℕ)). least_behind 0 gs - 1) cut.groups;
  bad = cut.bad;
}
