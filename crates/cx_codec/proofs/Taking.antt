-- What the bytes that were moved say of the field that was wanted.
use Rattle.std.proofs.Common.{
  ◌≡◌,
  ◌⊎◌,
  ⊎_elim,
  Bool,
  true,
  false,
  cond,
  ltb,
  Result,
  ℕ,
  ◌+◌,
  ◌-◌,
  ◌<◌,
  ◌≤◌,
  List,
  [],
  ◌++◌,
  length,
  take,
  drop,
  arith,
  refl,
  ap,
  sym,
  ◌∙◌,
  Ok,
  Err,
  length-append,
  length-drop,
}
use Rattle.std.proofs.lemmas.Bool.{lt-ltb, le-ltb, ltb-true, ltb-false}
use Rattle.std.proofs.lemmas.List.{drop_all, take_all, take-append-le}
use Rattle.cx_io.specs.declared.outside.Failed.{Failed}
use Rattle.cx_codec.specs.declared.fault.BytesFault.TheVariants.{Bad, ReadFault}
use Rattle.cx_codec.specs.Fault.{bytes_met}
use Rattle.cx_codec.specs.Place.{Place, Buffered, at_hand, room, advance, end_of}
use Rattle.cx_codec.specs.Fields.{bytes_at}
use Rattle.cx_codec.specs.Reads.{Begins, Standing, Follows, Reads, Asks, BadAt, always, place_in}
use Rattle.cx_codec.specs.Window.{Copies, CopiesHeld, Moves, Refills, reach_of}
use Rattle.cx_codec.proofs.Parts.{more_moved, advance_front, length_left}

-- all the bytes that the field wants
pub all_taken : (into : List ℕ) (n : ℕ) (p after : Place) → Moves into n p after → n ≡ length into
    → bytes_at (length into) p ≡ Ok (into, after)
unfolding bytes_at
all_taken into n p after moves all =
    let there : length into ≤ room p = rw all at moves.enough in
    let front : take (length into) p.ahead ≡ into = sym (rw all at moves.front)
    ∙ take_all (length into) into (omega arith) in
    rw (le-ltb (room p) (length into) there, front, ← all) (rw moves.now refl)

-- fewer than it wants
pub not_all_taken : (into : List ℕ) (n : ℕ) (p : Place) → room p ≡ n → n < length into
    → bytes_at (length into) p ≡ Err (p.at + n)
unfolding bytes_at
not_all_taken into n p all short = rw (all, lt-ltb n (length into) short) refl

-- fewer before the limit than it wants
pub cut_short : (into : List ℕ) (p : Place) → length p.ahead < reach_of (length into) p
    → bytes_at (length into) p ≡ Err (end_of p)
unfolding bytes_at
cut_short into p short =
    let all : room p ≡ length p.ahead = omega arith in
    rw (all, lt-ltb (length p.ahead) (length into) (omega arith)) refl

-- n more bytes, once some wait
pub moved_on : {first old now : Standing} (into into' : List ℕ) (k n : ℕ) (hand : Place) (input : List ℕ)
    → Follows first old → Refills old now
    → Moves into k (place_in first input) (place_in old input) → Begins now.given input → n ≤ length now.hand.ahead
    → k + n ≤ first.hand.limit - first.hand.at
    → take (k + n) into' ≡ take k into ++ take n now.hand.ahead → hand ≡ advance n now.hand
    → Moves into' (k + n) (place_in first input)
    (place_in (record { hand = hand; left = now.left; given = now.given }) input)
moved_on {first} {old} {now} into into' k n hand input follows refills before begins within room moved is =
    let rest : List ℕ = drop (length now.given) input in
    let there : Moves into k (place_in first input) (place_in now input) =
    rw (← refills.stays input begins) at before in
    let wide : n ≤ length (now.hand.ahead ++ rest) = omega (arith, length-append now.hand.ahead rest) in
    let front : take (k + n) into' ≡ take k into ++ take n (now.hand.ahead ++ rest) = moved
    ∙ rw (take-append-le n now.hand.ahead rest within) refl in
    let further = more_moved into into' k n (place_in first input) (place_in now input) there wide room front in
    rw (is, ← advance_front n now.hand.at now.hand.limit now.hand.ahead rest within) further

-- and where they all wait
pub held_on : (into into' : List ℕ) (k n : ℕ) (p old now hand : Place) → Moves into k p old → now ≡ old
    → n ≤ length now.ahead
    → k + n ≤ p.limit - p.at → take (k + n) into' ≡ take k into ++ take n now.ahead → hand ≡ advance n now
    → Moves into' (k + n) p hand
held_on into into' k n p old now hand before stays within room moved is =
    let there : Moves into k p now = rw (← stays) at before in
    rw is (more_moved into into' k n p now there within room moved)

-- the same as the reader counts them
pub follows_moved : {old new : Standing} (hand : Place) (n : ℕ) → Follows old new → n ≤ length new.hand.ahead
    → hand ≡ advance n new.hand
    → Follows old (record { hand = hand; left = new.left; given = new.given })
follows_moved {old} {new} hand n follows within is =
    let at : hand.at ≡ new.hand.at + n = ap (λ (p : Place). p.at) is in
    let ahead : length hand.ahead ≡ length new.hand.ahead - n = ap (λ (p : Place). length p.ahead) is
    ∙ length-drop n new.hand.ahead in
    record { told = follows.told; same = follows.same; grows = follows.grows; level = omega (arith, follows.level) }

-- none is ahead where the input ended and none waits
pub none_ahead : (s : Standing) (input : List ℕ) → s.hand.ahead ≡ [] → input ≡ s.given → (place_in s input).ahead ≡ []
none_ahead s input none all = rw (none, all) (drop_all (length s.given) s.given (omega arith))

-- how many were moved then
all_moved : {first old now : Standing} (into : List ℕ) (n : ℕ) (input : List ℕ) → Follows first old → Refills old now
    → Moves into n (place_in first input) (place_in old input) → Begins now.given input → now.hand.ahead ≡ []
    → input ≡ now.given
    → length (place_in first input).ahead ≡ n
all_moved {first} {old} {now} into n input follows refills moves begins none all =
    let gone : length (place_in now input).ahead ≡ 0 = ap length (none_ahead now input none all) in
    let same : length (place_in now input).ahead ≡ length (place_in old input).ahead =
    ap (λ (p : Place). length p.ahead) (refills.stays input begins) in
    let left : length (place_in old input).ahead + n ≡ length (place_in first input).ahead =
    length_left into n (place_in first input) (place_in old input) moves in
    omega arith

-- A copy that ended where the input did, or where the source failed.
pub copied_to_end : {first old now : Standing} (into : List ℕ) (n : ℕ) (input : List ℕ) → Follows first old
    → Refills old now
    → Moves into n (place_in first input) (place_in old input) → Begins now.given input → now.hand.ahead ≡ []
    → input ≡ now.given
    → room (place_in first input) ≡ n
copied_to_end into n input follows refills moves begins none all =
    omega (arith, moves.enough, all_moved into n input follows refills moves begins none all)

pub copied_to_fault : {first old now : Standing} (into : List ℕ) (n : ℕ) (input : List ℕ) → Follows first old
    → Refills old now
    → Moves into n (place_in first input) (place_in old input) → Begins now.given input → now.hand.ahead ≡ []
    → input ≡ now.given
    → n < reach_of (length into) first.hand → length (place_in first input).ahead < reach_of (length into)
    (place_in first input)
copied_to_fault into n input follows refills moves begins none all few =
    omega (arith, all_moved into n input follows refills moves begins none all)

-- So a call that moves as many bytes as into holds reads them, or fails.
pub takes_all : {old new : Standing} (into : List ℕ) (n size : ℕ) → size ≡ length into → Copies into old new (Ok n)
    → n ≡ length into
    → Reads {X = Unit {0}} bytes_met (always into) (bytes_at size) old new (Ok (tt {0}))
takes_all {old} {new} into n size is copied all = record {
  follows = copied.follows;
  reads = λ input begins. rw is
      (all_taken into n (place_in old input) (place_in new input) (copied.copies input begins).0 all);
}

pub takes_fewer : {old new : Standing} (into : List ℕ) (n size o : ℕ) → size ≡ length into → Copies into old new (Ok n)
    → n < length into → o ≡ old.hand.at + n
    → Reads {X = Unit {0}} bytes_met (always into) (bytes_at size) old new (Err (Bad o))
takes_fewer {old} into n size o is copied short there = record {
  follows = copied.follows;
  reads = λ input begins may. rw (is, there)
      (not_all_taken into n (place_in old input) ((copied.copies input begins).1 short may) short);
}

pub takes_cut : {old new : Standing} (into : List ℕ) (size : ℕ) (failed : Failed) → size ≡ length into
    → Copies into old new (Err failed)
    → Reads {X = Unit {0}} bytes_met (always into) (bytes_at size) old new (Err ReadFault)
takes_cut {old} into size failed is copied = record {
  follows = copied.follows;
  reads = λ input begins cut. rw is (cut_short into (place_in old input) (copied.copies input begins cut));
}

-- What the bytes at hand say of a field.
pub taken_held : (n : ℕ) (p after : Place) (bytes : List ℕ) → bytes_at n p ≡ Ok (bytes, after) → n ≤ room p
unfolding bytes_at
taken_held n p after bytes whole = fits (ltb (room p) n) refl whole
  where
    fits : (t : Bool) → ltb (room p) n ≡ t → cond {A = Result (List ℕ × Place) ℕ} t (Err (p.at + room p))
        (Ok (take n p.ahead, advance n p)) ≡ Ok (bytes, after) → n ≤ room p
    fits true short whole = cc
    fits false long whole = ltb-false (room p) n long

pub short_held : (n o : ℕ) (p : Place) → bytes_at n p ≡ Err o → (room p < n) × (o ≡ p.at + room p)
unfolding bytes_at
short_held n o p bad = falls (ltb (room p) n) refl bad
  where
    falls : (t : Bool) → ltb (room p) n ≡ t → cond {A = Result (List ℕ × Place) ℕ} t (Err (p.at + room p))
        (Ok (take n p.ahead, advance n p)) ≡ Err o → (room p < n) × (o ≡ p.at + room p)
    falls true short bad = let same : p.at + room p ≡ o = cc in (ltb-true (room p) n short, sym same)
    falls false long bad = cc

-- where the field is bad at the limit
pub short_of_limit : (o : ℕ) (p : Place) → o ≡ p.at + room p → (o < end_of p) ⊎ (p.limit ≤ end_of p)
    → room p ≡ p.limit - p.at
short_of_limit o p is decided =
    ⊎_elim (λ (before : o < end_of p). omega arith) (λ (limited : p.limit ≤ end_of p). omega arith) decided

pub same_read : {A : Type 0} (read : Result (A × Place) ℕ) (x y : A) (p q : Place) → read ≡ Ok (x, p) → read ≡ Ok (y, q)
    → (x ≡ y) × (p ≡ q)
same_read {A} read x y p q one other =
    let same : ◌≡◌ {A = A × Place} (x, p) (y, q) = cc in
    (ap (λ (z : A × Place). z.0) same, ap (λ (z : A × Place). z.1) same)

pub same_bad : {A : Type 0} {read : Result (A × Place) ℕ} {o o' : ℕ} → read ≡ Err o → read ≡ Err o' → o ≡ o'
same_bad one other = cc

pub never_both : {A : Type 0} {P : Type 0} {read : Result (A × Place) ℕ} {y : A × Place} {o : ℕ} → read ≡ Ok y
    → read ≡ Err o → P
never_both {read} {y} {o} good bad = absurd (let both : Ok y ≡ Err o = sym good ∙ bad in cc)

pub held_all : {old new : Buffered} {same : Type 0} (into : List ℕ) (n size : ℕ) → size ≡ length into → n ≡ length into
    → (reach_of size (at_hand old) ≤ length old.ready → same × CopiesHeld into (at_hand old) (at_hand new) (Ok n))
    → Asks {X = Unit {0}} bytes_met (always into) (bytes_at size) old new same (Ok (tt {0}))
held_all {old} {new} into n size is all copied = record {
  held = λ y after whole.
      let fits = taken_held size (at_hand old) after y whole in
      let was = copied (omega arith) in
      let read : bytes_at size (at_hand old) ≡ Ok (into, at_hand new) =
      rw is (all_taken into n (at_hand old) (at_hand new) was.1.1 all) in
      (was.0, same_read (bytes_at size (at_hand old)) into y (at_hand new) after read whole);
  bad = λ o wrong decided.
      let short = short_held size o (at_hand old) wrong in
      let limit = short_of_limit o (at_hand old) short.1 decided in
      let was = copied (omega arith) in
      absurd (let count = was.1.0 in let few = short.0 in omega arith);
}

pub held_fewer : {old new : Buffered} {same : Type 0} (into : List ℕ) (n size o : ℕ) → size ≡ length into
    → n < length into → o ≡ old.at + n
    → (reach_of size (at_hand old) ≤ length old.ready → same × CopiesHeld into (at_hand old) (at_hand new) (Ok n))
    → Asks {X = Unit {0}} bytes_met (always into) (bytes_at size) old new same (Err (Bad o))
held_fewer {old} {new} into n size o is few there copied = record {
  held = λ y after whole.
      let fits = taken_held size (at_hand old) after y whole in
      let was = copied (omega arith) in
      absurd (let count = was.1.0 in omega arith);
  bad = λ o' wrong decided.
      let short = short_held size o' (at_hand old) wrong in
      let limit = short_of_limit o' (at_hand old) short.1 decided in
      let was = copied (omega arith) in
      (was.0, ap BadAt (let count = was.1.0 in let less = short.0 in let at = short.1 in omega arith));
}

pub held_never_cut : {old new : Buffered} {same : Type 0} (into : List ℕ) (size : ℕ) (failed : Failed)
    → size ≡ length into
    → (reach_of size (at_hand old) ≤ length old.ready → same × CopiesHeld into (at_hand old) (at_hand new) (Err failed))
    → Asks {X = Unit {0}} bytes_met (always into) (bytes_at size) old new same (Err ReadFault)
held_never_cut {old} {new} into size failed is copied = record {
  held = λ y after whole.
      let fits = taken_held size (at_hand old) after y whole in
      absurd ((copied (omega arith)).1);
  bad = λ o wrong decided.
      let short = short_held size o (at_hand old) wrong in
      let limit = short_of_limit o (at_hand old) short.1 decided in
      absurd ((copied (omega arith)).1);
}
