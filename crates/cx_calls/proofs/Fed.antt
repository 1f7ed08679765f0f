-- A slicer by calls takes an observation, and ends.
use Rattle.std.proofs.Common.{◌≡◌, ℕ, ◌<◌, ◌≤◌, ◌^◌, true, ◌⊎◌, inl, inr, List, [], ◌∷◌, ◌++◌}
use Rattle.std.proofs.Common.{false, IsTrue, Option, None, Some, Result, Ok, Err, OnErr, OnOk, refl, sym, ap, ap₂, subst, ◌∙◌, arith}
use mathlib.Core.HLevel.{×_prop}
use Rattle.std.proofs.Math.Logic.{∥∥₁_elim, ∥∥₁_map, ∥∥₁_prop}
use Rattle.std.specs.Coded.{coded_option}
use base.Stored.{Coded, Coded-set, coded_via, coded_ℕ, coded×}
use denote.Struct.Props.{props}
use Rattle.cx_callfmt.proofs.Texts.{behind_index}
use Rattle.cx_callfmt.specs.Rules.{Behind, MayEnd, behind_start, may_come}
use Rattle.cx_callfmt.specs.Text.{call_end_text, last_index, records_text}
use Rattle.cx_callfmt.specs.Writing.{AreKept, CallWriting, behind_records}
use Rattle.cx_codec.specs.declared.fault.OutFault.{OutFault}
use Rattle.cx_observe.proofs.Faithful.{user_is_faithful}
use Rattle.cx_observe.specs.User.{user}
use Rattle.cx_observe.specs.declared.obs.Obs.{Obs}
use Rattle.cx_placing.proofs.Apart.{missed_now-apart, missed_of}
use Rattle.cx_placing.proofs.Gathering.{count_of, gathered_on-push}
use Rattle.cx_placing.specs.Gathering.{AreApart, Gathered, behind_now, gathered_by, gathered_none, gathered_of, missed_now, words_now}
use Rattle.cx_slices.specs.Bytes.{Byte, byte_found, sorted}
use Rattle.cx_calls.proofs.Placed.{IsNext, IsPlaced, below_next, comes, may_put, placed_of, put_behind}
use Rattle.cx_calls.specs.Begun.{added_now, calls_added, calls_ending, last_text}
use Rattle.cx_calls.specs.Calling.{called}
use Rattle.cx_calls.specs.Gathers.{IsGathered, IsSame, behind_last}
use Rattle.cx_calls.specs.Slicing.{IsAnew, IsCalling, IsForSome, IsHeldBack, MayPut}
use Rattle.cx_calls.specs.declared.gatherer.Gatherer.{Gatherer}

-- ---- what may be put

order_of : (os : List Obs) (g : Gatherer) (w : CallWriting) → IsCalling os g w → g.count < 2 ^ 48
    → may_come g.behind.behind 0 g.count ≡ true
order_of os g w was most =
    let placed : IsPlaced (gathered_of user called os) = placed_of user called os in
    comes g.behind.behind 0 g.count most (below_next g.behind.behind g.count
    (rw (was.gathered.next, was.gathered.count) placed.next))

pub order_of_some : (g : Gatherer) (w : CallWriting) → IsForSome g w → g.count < 2 ^ 48
    → may_come g.behind.behind 0 g.count ≡ true
order_of_some g w some most = ∥∥₁_elim some (search props) (λ x. order_of x.0 g w x.1 most)

abbrev behind_with : ℕ × ℕ → Behind
behind_with p = record { index = p.0; least = p.1 }

coded_behind : Coded Behind
coded_behind = coded_via (coded× coded_ℕ coded_ℕ) (λ (b : Behind). (b.index, b.least))
    (λ x y is. ap behind_with is)

MayPut-prop : (last : Option (ℕ × ℕ)) (b : Behind) → IsProp (MayPut last b)
MayPut-prop None b = Coded-set coded_behind b behind_start
MayPut-prop (Some call) b = search props

AreApart-prop : (es : List Byte) → IsProp (AreApart es)
AreApart-prop [] = search props
AreApart-prop (e ∷ es) = ×_prop (Coded-set (coded_option coded_ℕ) (byte_found es e.0) None) (AreApart-prop es)

may_put_of : (os : List Obs) (g : Gatherer) (w : CallWriting) → IsCalling os g w → g.count ≤ 2 ^ 48
    → MayPut g.last w.behind
may_put_of os g w was most =
    rw (was.gathered.last, was.behind) (may_put (gathered_of user called os).count (gathered_of user called os).last
    (behind_records behind_start (gathered_of user called os).put.records) (placed_of user called os).last
    (omega (arith, was.gathered.count, most)))

pub may_put_of_some : (g : Gatherer) (w : CallWriting) → IsForSome g w → g.count ≤ 2 ^ 48 → MayPut g.last w.behind
may_put_of_some g w some most = ∥∥₁_elim some (MayPut-prop g.last w.behind) (λ x. may_put_of x.0 g w x.1 most)

-- the bytes that are gathered, and the records
pub apart_of_some : (g : Gatherer) (w : CallWriting) → IsForSome g w → AreApart g.missed.items
apart_of_some g w some = ∥∥₁_elim some (AreApart-prop g.missed.items)
    (λ x. subst AreApart (sym x.1.gathered.missed) (missed_of user called x.0 user_is_faithful).apart)

kept_by : (g : Gathered) (e : Gatherer) → IsGathered g e → AreKept (behind_last e.last) e.behind
kept_by g e is = ∣ (
  g.behind,
  record {
    text = is.text ∙ ap (λ (l : Option (ℕ × ℕ)). records_text (behind_last l).index g.behind) (sym is.last);
    next = is.next ∙ ap (λ (l : Option (ℕ × ℕ)). behind_records (behind_last l) g.behind) (sym is.last);
  },
) ∣₁

pub kept_of_some : (g : Gatherer) (w : CallWriting) → IsForSome g w → AreKept (behind_last g.last) g.behind
kept_of_some g w some = ∥∥₁_elim some ∥∥₁_prop (λ x. kept_by (gathered_of user called x.0) g x.1.gathered)

-- ---- behind the step, before its call is let go

-- what taking an observation leads to, as far as it is no call
abbrev pub Takes : Obs → Gatherer → Gatherer → Type 0
Takes o old new = (g : Gathered) → IsGathered g old → IsGathered (gathered_by user g o None) new

pub may_put_behind : (o : Obs) (old new : Gatherer) (w : CallWriting) → IsForSome old w → old.count < 2 ^ 48
    → Takes o old new → MayPut new.last w.behind
may_put_behind o old new w some most takes = ∥∥₁_elim some (MayPut-prop new.last w.behind)
    (λ x. let is : IsGathered (gathered_by user (gathered_of user called x.0) o None) new
    = takes (gathered_of user called x.0) x.1.gathered in
    subst (λ (l : Option (ℕ × ℕ)). MayPut l w.behind) (x.1.gathered.last ∙ sym is.last)
    (may_put_of x.0 old w x.1 (omega (arith, most))))

pub apart_behind : (o : Obs) (old new : Gatherer) (w : CallWriting) → IsForSome old w → Takes o old new
    → AreApart new.missed.items
apart_behind o old new w some takes = ∥∥₁_elim some (AreApart-prop new.missed.items)
    (λ x. let is : IsGathered (gathered_by user (gathered_of user called x.0) o None) new
    = takes (gathered_of user called x.0) x.1.gathered in
    subst AreApart (sym is.missed) (missed_now-apart user (gathered_of user called x.0) o user_is_faithful
    (missed_of user called x.0 user_is_faithful)))

pub kept_behind : (o : Obs) (old new : Gatherer) (w : CallWriting) → IsForSome old w → Takes o old new
    → AreKept (behind_last new.last) new.behind
kept_behind o old new w some takes = ∥∥₁_elim some ∥∥₁_prop
    (λ x. kept_by (gathered_by user (gathered_of user called x.0) o None) new
    (takes (gathered_of user called x.0) x.1.gathered))

-- ---- it stands for one observation more

pushed : (os : List Obs) (o : Obs) (call : Option ℕ) → called o ≡ call
    → gathered_of user called (os ++ o ∷ []) ≡ gathered_by user (gathered_of user called os) o call
pushed os o call is = gathered_on-push user called (gathered_none user) os o
    ∙ ap (gathered_by user (gathered_of user called os) o) is

pub stands_plain : (os : List Obs) (o : Obs) (old new : Gatherer) (w : CallWriting) → called o ≡ None
    → IsCalling os old w → Takes o old new → IsCalling (os ++ o ∷ []) new w
stands_plain os o old new w none was takes = record {
  gathered = subst (λ (g : Gathered). IsGathered g new) (sym (pushed os o None none))
      (takes (gathered_of user called os) was.gathered);
  behind = was.behind
      ∙ ap (λ (g : Gathered). behind_records behind_start g.put.records) (sym (pushed os o None none));
}

anew : (g : Gathered) (o : Obs) (index number : ℕ) (mid new : Gatherer) → index ≡ g.count
    → IsGathered (gathered_by user g o None) mid → IsAnew index number mid new
    → IsGathered (gathered_by user g o (Some number)) new
anew g o index number mid new at is begun = record {
  last = begun.last ∙ ap (λ (n : ℕ). Some (n, number)) at;
  first = begun.first;
  words = begun.words;
  missed = begun.missed;
  text = rw begun.behind refl;
  next = rw begun.behind (ap (λ (n : ℕ). behind_last (Some (n, number))) at);
  count = begun.count ∙ is.count;
  known = begun.known ∙ is.known;
  touched = begun.touched;
}

pub stands_called : (os : List Obs) (o : Obs) (number : ℕ) (old mid new : Gatherer) (w now : CallWriting)
    (r : Result (Unit {0}) OutFault) → called o ≡ Some number → IsCalling os old w → Takes o old mid
    → OnOk r (IsAnew old.count number mid new) → OnOk r (now.behind ≡ mid.behind.behind)
    → OnOk r (IsCalling (os ++ o ∷ []) new now)
stands_called os o number old mid new w now (Err e) is was takes begun behind = tt
stands_called os o number old mid new w now (Ok u) is was takes begun behind =
    let g : Gathered = gathered_of user called os in
    let gathered : IsGathered (gathered_by user g o None) mid = takes g was.gathered in
    record {
      gathered = subst (λ (h : Gathered). IsGathered h new) (sym (pushed os o (Some number) is))
          (anew g o old.count number mid new was.gathered.count gathered begun);
      behind = behind ∙ (gathered.next
          ∙ (sym (put_behind g.put g.last (words_now user g o) (missed_now user g o) (behind_now user g o)
          (placed_of user called os).before)
          ∙ ap (λ (h : Gathered). behind_records behind_start h.put.records) (sym (pushed os o (Some number) is))));
    }

-- ---- what is put

same_texts : (b c : ℕ) (l k : Option (ℕ × ℕ)) (ws vs : List (Option ℕ)) (es fs : List Byte) (xs ys : List ℕ) → b ≡ c
    → l ≡ k → ws ≡ vs → es ≡ fs → xs ≡ ys
    → last_text b l (record { words = ws; bytes = sorted es }) ++ xs
    ≡ last_text c k (record { words = vs; bytes = sorted fs }) ++ ys
same_texts b c l k ws vs es fs xs ys before last words bytes text = rw (before, last, words, bytes, text) refl

index_is : (os : List Obs) (g : Gatherer) (w : CallWriting) → IsCalling os g w
    → w.behind.index ≡ last_index 0 (gathered_of user called os).put.records
index_is os g w was = ap (λ (b : Behind). b.index) was.behind
    ∙ behind_index behind_start (gathered_of user called os).put.records

pub text_added : (os : List Obs) (o : Obs) (number : ℕ) (old mid : Gatherer) (w : CallWriting)
    → called o ≡ Some number → IsCalling os old w → Takes o old mid
    → last_text w.behind.index mid.last (record { words = mid.words; bytes = sorted mid.missed.items })
    ++ mid.behind.text ≡ calls_added os o
text_added os o number old mid w is was takes =
    let g : Gathered = gathered_of user called os in
    let gathered : IsGathered (gathered_by user g o None) mid = takes g was.gathered in
    same_texts w.behind.index (last_index 0 g.put.records) mid.last g.last mid.words (words_now user g o)
    mid.missed.items (missed_now user g o) mid.behind.text
    (records_text (behind_last g.last).index (behind_now user g o)) (index_is os old w was) gathered.last gathered.words
    gathered.missed gathered.text
    ∙ sym (ap (added_now g o) is)

-- ---- the end

pub may_end_of_some : (g : Gatherer) (w : CallWriting) → IsForSome g w → 1 ≤ g.count → g.count ≤ 2 ^ 48
    → MayEnd g.behind.behind g.count
may_end_of_some g w some fed most = record {
  above = ∥∥₁_elim some (search props) (λ x. above (rw (x.1.gathered.next, x.1.gathered.count)
      (placed_of user called x.0).next));
  most = most;
}
  where
    above : IsNext g.behind.behind g.count → g.behind.behind.index < g.count
    above (inl less) = less
    above (inr is) = absurd (omega (arith, fed, is.0))

pub text_let_go : (os : List Obs) (g : Gatherer) (w : CallWriting) → IsCalling os g w
    → (last_text w.behind.index g.last (record { words = g.words; bytes = sorted g.missed.items }) ++ g.behind.text)
    ++ call_end_text g.behind.behind.index g.count ≡ calls_ending os
text_let_go os g w was =
    let h : Gathered = gathered_of user called os in
    ap₂ (λ (xs ys : List ℕ). xs ++ ys)
    (same_texts w.behind.index (last_index 0 h.put.records) g.last h.last g.words h.words g.missed.items h.missed
    g.behind.text (records_text (behind_last h.last).index h.behind) (index_is os g w was) was.gathered.last
    was.gathered.words was.gathered.missed was.gathered.text)
    (ap₂ call_end_text
    (ap (λ (b : Behind). b.index) was.gathered.next ∙ behind_index (behind_last h.last) h.behind)
    (was.gathered.count ∙ count_of user called os))

-- ---- where nothing has changed

pub same_stands : (os : List Obs) (old new : Gatherer) (w now : CallWriting) → IsSame old new → now ≡ w
    → IsCalling os old w → IsCalling os new now
same_stands os old new w now same writer was = record {
  gathered = record {
    last = same.last ∙ was.gathered.last;
    first = same.first ∙ was.gathered.first;
    words = same.words ∙ was.gathered.words;
    missed = same.missed ∙ was.gathered.missed;
    text = rw same.behind was.gathered.text;
    next = rw same.behind was.gathered.next;
    count = same.count ∙ was.gathered.count;
    known = same.known ∙ was.gathered.known;
    touched = same.touched ∙ was.gathered.touched;
  };
  behind = rw writer was.behind;
}

-- It stands for some observations still, unless its writer was refused.
pub calling_still : {S : Type 0} (o : Obs) (old new : Gatherer) (w now : CallWriting) (s t : S)
    (r : Result (Unit {0}) OutFault) → IsForSome old w → IsTrue now.output.live
    → ((os : List Obs) → IsCalling os old w → OnOk r (IsCalling (os ++ o ∷ []) new now))
    → OnErr r (IsHeldBack r old new w now s t ⊎ (now.output.live ≡ false)) → IsForSome new now
calling_still o old new w now s t (Ok u) some live stands refused =
    ∥∥₁_map some (λ x. (x.0 ++ o ∷ [], stands x.0 x.1))
calling_still o old new w now s t (Err e) some live stands (inl held) =
    ∥∥₁_map some (λ x. (x.0, same_stands x.0 old new w now held.same held.writer x.1))
calling_still o old new w now s t (Err e) some live stands (inr dead) = true_or_false (sym live ∙ dead)
  where
    true_or_false : {P : Type 0} → true ≡ false → P
    true_or_false is = cc
