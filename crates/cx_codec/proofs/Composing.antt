-- Readers one after another: what a call says of a whole reader, from what the calls that it makes say of its parts.
use Rattle.std.proofs.Common.{
  ◌≡◌,
  ℕ,
  List,
  [],
  ◌++◌,
  length,
  refl,
  ap,
  sym,
  ◌∙◌,
  Option,
  IsSome,
  unwrap_or,
  Result,
  Ok,
  Err,
}
use Rattle.std.proofs.lemmas.List.{append-nil, drop_at}
use Rattle.cx_codec.specs.Place.{Place, Reader, Buffered, at_hand, end_of, read_on, done, seen}
use Rattle.cx_codec.specs.Fields.{bytes_at}
use Rattle.cx_codec.specs.Reads.{
  Standing,
  MayBe,
  Met,
  BadAt,
  Cut,
  Other,
  MeetsIn,
  GivesIn,
  Reads,
  FailsAt,
  Gives,
  IsHeld,
  IsRefused,
  Asks,
  over,
  place_in,
}
use Rattle.cx_codec.proofs.Following.{begins_self, begins_on, follows_none, follows_on, end_stays}

-- where one read stands for another
pub meets_along : {Y Z : Type 0} (m : Met) (first : Result (Y × Place) ℕ) (whole : Result (Z × Place) ℕ) (end end' : ℕ)
    (may cut : Type 0)
    → ((o : ℕ) → first ≡ Err o → whole ≡ Err o) → end' ≡ end → MeetsIn m first end may cut
    → MeetsIn m whole end' may cut
meets_along (BadAt o) first whole end end' may cut along same meets = λ h. along o (meets h)
meets_along Cut first whole end end' may cut along same meets = λ h. rw same (along end (meets h))
meets_along Other first whole end end' may cut along same meets = tt

stops : {Y Z : Type 0} (first : Result (Y × Place) ℕ) (f : Y → Reader Z) (whole : Result (Z × Place) ℕ)
    → whole ≡ read_on first f
    → (o : ℕ) → first ≡ Err o → whole ≡ Err o
stops first f whole is o bad = is ∙ rw bad refl

gives_along : {X Y E : Type 0} (met : E → Met) (view : X → Y) (read read' : Result (Y × Place) ℕ) (after : Place)
    (end end' : ℕ) (may cut : Type 0)
    (result : Result X E) → read' ≡ read → end' ≡ end → GivesIn met view read after end may cut result
    → GivesIn met view read' after end' may cut result
gives_along met view read read' after end end' may cut result same ends gives = rw (same, ends) gives

-- The first of several readers failed.
pub fails : {X Y Z W E F : Type 0} {met : E → Met} {met' : F → Met} {view : X → Y} {view' : W → Z} {a : Reader Y}
    {reader : Reader Z} {old new : Standing} {e : E} {e' : F}
    (f : ℕ → Y → Reader Z) → ((p : Place) → reader p ≡ read_on (a p) (f p.at)) → met' e' ≡ met e
    → Reads met view a old new (Err e) → Reads met' view' reader old new (Err e')
fails {met} {a} {reader} {old} {e} f parts same first = record {
  follows = first.follows;
  reads = λ input begins. rw same (meets_along (met e) (a (place_in old input)) (reader (place_in old input)) _ _ _ _
      (stops (a (place_in old input)) (f old.hand.at) (reader (place_in old input)) (parts (place_in old input))) refl
      (first.reads input begins));
}

-- It didn't, and this is what those behind it come to. They are told the offset at which the whole reader began.
pub goes : {X Y Z W E F : Type 0} {met : E → Met} {met' : F → Met} {view : X → Y} {view' : W → Z} {a : Reader Y}
    {reader : Reader Z} {old mid new : Standing} {x : X} {result : Result W F}
    (f : ℕ → Y → Reader Z) → ((p : Place) → reader p ≡ read_on (a p) (f p.at))
    → Reads met view a old mid (Ok x) → Reads met' view' (f old.hand.at (view x)) mid new result
    → Reads met' view' reader old new result
goes {met'} {view} {view'} {a} {reader} {old} {mid} {new} {x} {result} f parts first then = record {
  follows = follows_on first.follows then.follows;
  reads = λ input begins.
      let earlier = begins_on then.follows.grows begins in
      let read : a (place_in old input) ≡ Ok (view x, place_in mid input) = first.reads input earlier in
      let whole : reader (place_in old input) ≡ f old.hand.at (view x) (place_in mid input) = parts (place_in old input)
      ∙ rw read refl in
      gives_along met' view' (f old.hand.at (view x) (place_in mid input)) (reader (place_in old input))
      (place_in new input) (end_of (place_in mid input)) (end_of (place_in old input))
      (MayBe new input) (input ≡ new.given) result whole (end_stays first.follows input earlier)
      (then.reads input begins);
}

-- Nothing more is read.
pub gives : {X Y E : Type 0} {met : E → Met} {view : X → Y} {reader : Reader Y} {s : Standing} {x : X} → IsSome s.left
    → ((p : Place) → reader p ≡ Ok (view x, p)) → Reads met view reader s s (Ok x)
gives {s} told is = record { follows = follows_none s told; reads = λ input begins. is (place_in s input) }

-- A rule is broken.
pub breaks : {X Y E : Type 0} {met : E → Met} {view : X → Y} {reader : Reader Y} {s : Standing} {e : E} (o : ℕ)
    → IsSome s.left
    → met e ≡ BadAt o → ((p : Place) → reader p ≡ Err o) → Reads met view reader s s (Err e)
breaks {s} o told is bad =
    record { follows = follows_none s told; reads = λ input begins. rw is (λ may. bad (place_in s input)) }

-- the same call, by another fault or another view of its value
pub refused_as : {X Y W E F : Type 0} {met : E → Met} {met' : F → Met} {view : X → Y} {view' : W → Y}
    {reader : Reader Y}
    {old new : Standing} {e : E} {e' : F} → met' e' ≡ met e
    → Reads met view reader old new (Err e) → Reads met' view' reader old new (Err e')
refused_as same first = record { follows = first.follows; reads = λ input begins. rw same (first.reads input begins) }

pub given_as : {X Y W E F : Type 0} {met : E → Met} {met' : F → Met} {view : X → Y} {view' : W → Y} {reader : Reader Y}
    {old new : Standing} {x : X} {y : W} → view' y ≡ view x
    → Reads met view reader old new (Ok x) → Reads met' view' reader old new (Ok y)
given_as same first = record { follows = first.follows; reads = λ input begins. rw same (first.reads input begins) }

-- so many bytes, by another name for their count
pub as_many : {X E : Type 0} {met : E → Met} {view : X → List ℕ} {old new : Standing} {result : Result X E} {n : ℕ}
    (m : ℕ)
    → Reads met view (bytes_at n) old new result → n ≡ m → Reads met view (bytes_at m) old new result
as_many m first same = rw (← same) first

-- the same reader by another name
pub along : {X Y E : Type 0} {met : E → Met} {view : X → Y} {a reader : Reader Y} {old new : Standing}
    {result : Result X E}
    → ((p : Place) → reader p ≡ a p) → Reads met view a old new result → Reads met view reader old new result
along {met} {view} {a} {reader} {old} {new} {result} same first = record {
  follows = first.follows;
  reads = λ input begins. gives_along met view (a (place_in old input)) (reader (place_in old input))
      (place_in new input) _ _ _ _ result (same (place_in old input)) refl (first.reads input begins);
}

-- What is said of the input as it is,
pub place_there : (b : Buffered) (left : Option (List ℕ)) (given : List ℕ)
    → place_in (over b left given) (given ++ unwrap_or left []) ≡ seen b left
place_there b left given =
    ap (λ (rest : List ℕ). record { at = b.at; limit = b.limit; ahead = b.ready ++ rest })
    (drop_at given (unwrap_or left []) (length given) refl)

fails_there : {Y : Type 0} (m : Met) (read : Result (Y × Place) ℕ) (end : ℕ) (may cut : Type 0) → may
    → MeetsIn m read end may cut → FailsAt m read
fails_there (BadAt o) read end may cut there meets = meets there
fails_there Cut read end may cut there meets = tt
fails_there Other read end may cut there meets = tt

gives_there : {X Y E : Type 0} (met : E → Met) (view : X → Y) (read read' : Result (Y × Place) ℕ) (after after' : Place)
    (end : ℕ) (may cut : Type 0) (result : Result X E)
    → may → read ≡ read' → after ≡ after' → GivesIn met view read after end may cut result
    → Gives met view read' after' result
gives_there met view read read' after after' end may cut (Ok x) there same place gives = rw (← same, ← place) gives
gives_there met view read read' after after' end may cut (Err e) there same place gives =
    rw (← same) (fails_there (met e) read end may cut there gives)

pub reads_there : {X Y E : Type 0} {met : E → Met} {view : X → Y} {reader : Reader Y} (b b' : Buffered)
    (left left' : Option (List ℕ)) (given given' : List ℕ) {result : Result X E}
    → Reads met view reader (over b left given) (over b' left' given') result
    → Gives met view (reader (seen b left)) (seen b' left') result
reads_there {met} {view} {reader} b b' left left' given given' {result} read =
    let input : List ℕ = given' ++ unwrap_or left' [] in
    let first : place_in (over b left given) input ≡ seen b left =
    ap (λ (xs : List ℕ). place_in (over b left given) xs) read.follows.same ∙ place_there b left given in
    gives_there met view (reader (place_in (over b left given) input)) (reader (seen b left))
    (place_in (over b' left' given') input) (seen b' left') _ _ _ result
    (λ (none : unwrap_or left' [] ≡ []). ap (λ (xs : List ℕ). given' ++ xs) none ∙ append-nil given')
    (ap reader first) (place_there b' left' given') (read.reads input (begins_self given' (unwrap_or left' [])))

-- and of what the source gave before it failed: there reading is bad at the very end.
pub bad_at_the_end : {X Y E : Type 0} {met : E → Met} {view : X → Y} {reader : Reader Y} {old new : Standing} {e : E}
    → met e ≡ Cut
    → Reads met view reader old new (Err e) → reader (place_in old new.given) ≡ Err (end_of (place_in old new.given))
bad_at_the_end {Y = Y} {met = met} {view = view} {reader = reader} {old = old} {new = new} {e = e} cut read =
    cut_there (met e) (reader (place_in old new.given)) _ _ new.given cut
    (read.reads new.given (record { rest = []; parts = sym (append-nil new.given) }))
  where
    cut_there : (m : Met) (r : Result (Y × Place) ℕ) (end : ℕ) (may : Type 0) (all : List ℕ) → m ≡ Cut
        → MeetsIn m r end may (all ≡ all) → r ≡ Err end
    cut_there (BadAt o) r end may all cut meets = cc
    cut_there Cut r end may all cut meets = meets refl
    cut_there Other r end may all cut meets = cc

-- What two readers one after another come to.
pub record Bound {A B : Type 0} (first : Result (A × Place) ℕ) (f : A → Reader B) (y : B × Place) : Type 0 where
  pub value : A
  pub mid : Place
  pub read : first ≡ Ok (value, mid)
  pub then : f value mid ≡ Ok y

pub bound : {A B : Type 0} (first : Result (A × Place) ℕ) (f : A → Reader B) (y : B × Place) → read_on first f ≡ Ok y
    → Bound first f y
bound (Ok x) f y both = record { value = x.0; mid = x.1; read = refl; then = both }
bound (Err o) f y both = cc

-- one of them is bad
pub data Refused {A B : Type 0} (first : Result (A × Place) ℕ) (f : A → Reader B) (o : ℕ) : Type 0 where
  FirstBad : first ≡ Err o → Refused first f o
  NextBad : (value : A) (mid : Place) → first ≡ Ok (value, mid) → f value mid ≡ Err o → Refused first f o

pub refused : {A B : Type 0} (first : Result (A × Place) ℕ) (f : A → Reader B) (o : ℕ) → read_on first f ≡ Err o
    → Refused first f o
refused (Ok x) f o both = NextBad x.0 x.1 refl both
refused (Err o') f o both = FirstBad (let same : o' ≡ o = cc in ap (λ (n : ℕ). Err n) same)

pub done_same : {A : Type 0} (a b : A) (p q : Place) → done a p ≡ Ok (b, q) → (a ≡ b) × (p ≡ q)
done_same {A} a b p q e =
    let same : ◌≡◌ {A = A × Place} (a, p) (b, q) = cc in
    (ap (λ (x : A × Place). x.0) same, ap (λ (x : A × Place). x.1) same)

-- The bytes at hand: the first of two readers failed,
pub asks_fails : {X Y Z W E F : Type 0} {met : E → Met} {met' : F → Met} {view : X → Y} {view' : W → Z} {a : Reader Y}
    {reader : Reader Z} {old new : Buffered} {same : Type 0} {e : E} {e' : F}
    (f : ℕ → Y → Reader Z) → ((p : Place) → reader p ≡ read_on (a p) (f p.at)) → met' e' ≡ met e
    → Asks met view a old new same (Err e) → Asks met' view' reader old new same (Err e')
asks_fails {met} {a} {reader} {old} {same} {e} f parts is first = record {
  held = λ y after whole.
      let b = bound (a (at_hand old)) (f old.at) (y, after) (sym (parts (at_hand old)) ∙ whole) in
      absurd ((first.held b.value b.mid b.read).1);
  bad = λ o whole decided.
      elim (refused (a (at_hand old)) (f old.at) o (sym (parts (at_hand old)) ∙ whole)) [
        | FirstBad bad ↦ (let was = first.bad o bad decided in (was.0, is ∙ was.1))
        | NextBad value mid read bad ↦ absurd ((first.held value mid read).1)
      ];
}

-- or it didn't, and the second asks nothing.
pub asks_then : {X Y Z W E F : Type 0} {met : E → Met} {met' : F → Met} {view : X → Y} {view' : W → Z} {a : Reader Y}
    {reader : Reader Z} {old mid new : Buffered} {same : Type 0} {x : X} {result : Result W F}
    (f : ℕ → Y → Reader Z) → ((p : Place) → reader p ≡ read_on (a p) (f p.at)) → Asks met view a old mid same (Ok x)
    → ((y : Z) (after : Place) → f old.at (view x) (at_hand mid) ≡ Ok (y, after) → IsHeld view' y after new result)
    → ((o : ℕ) → f old.at (view x) (at_hand mid) ≡ Err o → IsRefused met' o result)
    → Asks met' view' reader old new same result
asks_then {met} {met'} {view} {view'} {a} {reader} {old} {mid} {new} {same} {x} {result} f parts first good bad =
    record {
      held = λ y after whole.
          let b = bound (a (at_hand old)) (f old.at) (y, after) (sym (parts (at_hand old)) ∙ whole) in
          let was = first.held b.value b.mid b.read in
          (was.0, good y after (rw (was.1.0, was.1.1) b.then));
      bad = λ o whole decided.
          elim (refused (a (at_hand old)) (f old.at) o (sym (parts (at_hand old)) ∙ whole)) [
            | FirstBad wrong ↦ absurd ((first.bad o wrong decided).1)
            | NextBad value place read wrong ↦
                (let was = first.held value place read in (was.0, bad o (rw (was.1.0, was.1.1) wrong)))
          ];
    }
