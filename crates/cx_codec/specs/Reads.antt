-- What a call that reads says of the input. A source gives the bytes of one input in order, so what the call says holds
-- of every input that begins with what the source had given when the call ended: of the real one, and of what was given
-- before a fault.
use Rattle.std.specs.Prelude.{
  ◌≡◌,
  ℕ,
  ◌+◌,
  ◌<◌,
  ◌≤◌,
  ◌⊎◌,
  List,
  [],
  ◌++◌,
  length,
  take,
  drop,
  Option,
  IsSome,
  unwrap_or,
  Result,
  Ok,
  Err,
  IfOk,
  is_ok,
}
use Rattle.cx_io.specs.Cause.{HasCause}
use Rattle.cx_codec.specs.Place.{Place, Reader, Buffered, at_hand, end_of}

-- An input begins with these bytes.
pub record Begins (front input : List ℕ) : Type 0 where
  pub rest : List ℕ
  pub parts : input ≡ front ++ rest

-- A reader over its source: the place at hand, the bytes that the source has left, where it tells them, and those that
-- it gave.
pub record Standing : Type 0 where
  pub hand : Place
  pub left : Option (List ℕ)
  pub given : List ℕ

abbrev pub over : Buffered → Option (List ℕ) → List ℕ → Standing
over b left given = record { hand = at_hand b; left = left; given = given }

-- where it stands in an input that begins with what was given
abbrev pub place_in : Standing → List ℕ → Place
place_in s input = record { at = s.hand.at; limit = s.hand.limit; ahead = s.hand.ahead ++ drop (length s.given) input }

-- The source gave more of one input, of which the reader took some: each byte that isn't at hand any more was counted.
pub record Follows (old new : Standing) : Type 0 where
  pub told : IsSome new.left
  pub same : new.given ++ unwrap_or new.left [] ≡ old.given ++ unwrap_or old.left []
  pub grows : Begins old.given new.given
  pub level : new.hand.at + (length new.hand.ahead + length old.given) ≡ old.hand.at +
      (length old.hand.ahead + length new.given)

-- What a fault of reading says of the input: that a field is bad at an offset, that the source failed in the middle of
-- it, or nothing.
pub data Met : Type 0 where
  BadAt : ℕ → Met
  Cut : Met
  Other : Met

-- Anything may follow what was given, but nothing where the input ended.
abbrev pub MayBe : Standing → List ℕ → Type 0
MayBe s input = unwrap_or s.left [] ≡ [] → input ≡ s.given

-- A bad field is bad in every input that may be. Where the source failed, what it gave ends before the field is whole.
abbrev pub MeetsIn : {Y : Type 0} → Met → Result (Y × Place) ℕ → ℕ → Type 0 → Type 0 → Type 0
MeetsIn (BadAt o) read end may cut = may → read ≡ Err o
MeetsIn Cut read end may cut = cut → read ≡ Err end
MeetsIn Other read end may cut = Unit {0}

-- What a call answered, seen by view, is what reading gives, and it left the place after. end is where the input ends.
abbrev pub GivesIn : {X Y E : Type 0} → (E → Met) → (X → Y) → Result (Y × Place) ℕ → Place → ℕ → Type 0 → Type 0
    → Result X E → Type 0
GivesIn met view read after end may cut (Ok x) = read ≡ Ok (view x, after)
GivesIn met view read after end may cut (Err e) = MeetsIn (met e) read end may cut

-- a value that the answer doesn't hold, and the front of a buffer whose length it is
abbrev pub always : {X Y : Type 0} → Y → X → Y
always y x = y

abbrev pub front_of : List ℕ → ℕ → List ℕ
front_of bytes n = take n bytes

-- A call is this reader.
pub record Reads {X Y E : Type 0} (met : E → Met) (view : X → Y) (reader : Reader Y) (old new : Standing)
    (result : Result X E) : Type 0 where
  pub follows : Follows old new
  pub reads : (input : List ℕ) → Begins new.given input
      → GivesIn met view (reader (place_in old input)) (place_in new input) (end_of (place_in old input))
      (MayBe new input) (input ≡ new.given) result

-- A call that takes the reader by value is this reader, and keeps it in what it gives.
pub record Opens {X Y E : Type 0} (met : E → Met) (view : X → Y) (kept : X → Buffered) (reader : Reader Y)
    (old : Standing)
    (left : Option (List ℕ)) (given : List ℕ) (result : Result X E) : Type 0 where
  pub behind : Buffered
  pub reads : Reads met view reader old (over behind left given) result
  pub keeps : IfOk result (λ x. kept x ≡ behind)

-- The same of a reader that asks whether the input ends, and answers all where it does: that is known only of inputs
-- that may be, and of what was given before a fault there is no more than was read.
abbrev pub MeetsEnd : {Y : Type 0} → Met → Y → Result (Y × Place) ℕ → Place → Type 0 → Type 0 → Type 0
MeetsEnd (BadAt o) all read after may cut = may → read ≡ Err o
MeetsEnd Cut all read after may cut = cut → read ≡ Ok (all, after)
MeetsEnd Other all read after may cut = Unit {0}

abbrev pub EndsIn : {X Y E : Type 0} → (E → Met) → (X → Y) → Y → Result (Y × Place) ℕ → Place → Type 0 → Type 0
    → Result X E → Type 0
EndsIn met view all read after may cut (Ok x) = may → read ≡ Ok (view x, after)
EndsIn met view all read after may cut (Err e) = MeetsEnd (met e) all read after may cut

pub record Ends {X Y E : Type 0} (met : E → Met) (view : X → Y) (all : Y) (reader : Reader Y) (old new : Standing)
    (result : Result X E) : Type 0 where
  pub follows : Follows old new
  pub ends : (input : List ℕ) → Begins new.given input
      → EndsIn met view all (reader (place_in old input)) (place_in new input) (MayBe new input)
      (input ≡ new.given) result

-- The same of the input as it is, whose bytes are all known.
abbrev pub FailsAt : {Y : Type 0} → Met → Result (Y × Place) ℕ → Type 0
FailsAt (BadAt o) read = read ≡ Err o
FailsAt Cut read = Unit {0}
FailsAt Other read = Unit {0}

abbrev pub Gives : {X Y E : Type 0} → (E → Met) → (X → Y) → Result (Y × Place) ℕ → Place → Result X E → Type 0
Gives met view read after (Ok x) = read ≡ Ok (view x, after)
Gives met view read after (Err e) = FailsAt (met e) read

-- What the bytes at hand tell without the source: a field that is whole, or bad before their end or at the limit, is
-- answered so, and the source is the same as before.
abbrev pub IsHeld : {X Y E : Type 0} → (X → Y) → Y → Place → Buffered → Result X E → Type 0
IsHeld view y after new (Ok x) = (view x ≡ y) × (at_hand new ≡ after)
IsHeld view y after new (Err e) = ⊥

abbrev pub IsRefused : {X E : Type 0} → (E → Met) → ℕ → Result X E → Type 0
IsRefused met o (Ok x) = ⊥
IsRefused met o (Err e) = met e ≡ BadAt o

pub record Asks {X Y E : Type 0} (met : E → Met) (view : X → Y) (reader : Reader Y) (old new : Buffered) (same : Type 0)
    (result : Result X E) : Type 0 where
  pub held : (y : Y) (after : Place) → reader (at_hand old) ≡ Ok (y, after) → same × IsHeld view y after new result
  pub bad : (o : ℕ) → reader (at_hand old) ≡ Err o → (o < end_of (at_hand old)) ⊎ (old.limit ≤ end_of (at_hand old))
      → same × IsRefused met o result

-- What holds of every source. The limit stays, and the reader goes on exactly where it wasn't refused; a fault of the
-- source has its cause.
pub record Goes {X E : Type 0} (fault : E) (old new : Buffered) (faults faults_now : ℕ)
    (result : Result X E) : Type 0 where
  pub limit : new.limit ≡ old.limit
  pub within : new.at ≤ new.limit
  pub live : new.live ≡ is_ok result
  pub cause : HasCause fault faults faults_now result
