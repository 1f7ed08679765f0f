-- The bytes of a varint, taken one after another from a source.
use Rattle.std.proofs.Common.{
  ◌≡◌,
  ◌⊎◌,
  inl,
  inr,
  ⊎_elim,
  ℕ,
  ◌+◌,
  ◌-◌,
  ◌<◌,
  ◌≤◌,
  List,
  length,
  take,
  drop,
  get_or,
  set,
  arith,
  refl,
  ap,
  ◌∙◌,
  Ok,
  Err,
  IsSome,
  length-drop,
}
use Rattle.std.proofs.lemmas.Bool.{le-ltb, cases_lt}
use Rattle.std.proofs.lemmas.List.{get_or-take}
use Rattle.cx_codec.specs.declared.fault.BytesFault.{BytesFault}
use Rattle.cx_codec.specs.Fault.{bytes_met}
use Rattle.cx_codec.specs.Fields.{bytes_at, byte_at, varint_bytes_at}
use Rattle.cx_codec.specs.Place.{Place, Buffered, at_hand, room, advance}
use Rattle.cx_codec.specs.Reads.{Begins, Standing, Follows, Reads, Asks, BadAt, front_of, place_in}
use Rattle.cx_codec.specs.Varint.{varint_length}
use Rattle.cx_codec.proofs.Composing.{meets_along}
use Rattle.cx_codec.proofs.Following.{begins_on, follows_none, follows_on, end_stays}
use Rattle.cx_codec.proofs.Taking.{taken_held, short_held, short_of_limit, same_read}
use Rattle.cx_codec.proofs.VarintBytes.{
  Collected,
  none_collected,
  more_collected,
  collected,
  ten_collected,
  not_collected,
  length_some,
}

-- In every input that begins with what was given, count bytes from 128 on were taken.
pub record Collecting (first here : Standing) (field : List ℕ) (count : ℕ) : Type 0 where
  pub follows : Follows first here
  pub taken : (input : List ℕ) → Begins here.given input
      → Collected (place_in first input) field count (place_in here input)

pub none_taken : (s : Standing) (field : List ℕ) → IsSome s.left → Collecting s s field 0
none_taken s field told =
    record { follows = follows_none s told; taken = λ input begins. none_collected (place_in s input) field }

-- one more
pub more_taken : {first here new : Standing} (field : List ℕ) (count b : ℕ) → count < 10 → length field ≡ 10
    → Collecting first here field count
    → Reads bytes_met (λ (x : ℕ). x) byte_at here new (Ok b) → 128 ≤ b
    → Collecting first new (set field count b) (count + 1)
more_taken {first} {here} {new} field count b few whole before byte high = record {
  follows = follows_on before.follows byte.follows;
  taken = λ input begins. more_collected (place_in first input) field count b (place_in here input)
      (place_in new input) few whole
      (before.taken input (begins_on byte.follows.grows begins)) (byte.reads input begins) high;
}

-- The field is whole with a byte below 128,
pub last_taken : {first here new : Standing} (field : List ℕ) (count b : ℕ) → count < 10 → length field ≡ 10
    → Collecting first here field count
    → Reads bytes_met (λ (x : ℕ). x) byte_at here new (Ok b) → b < 128
    → Reads bytes_met (front_of (set field count b)) varint_bytes_at first new (Ok (count + 1))
last_taken {first} {here} {new} field count b few whole before byte low = record {
  follows = follows_on before.follows byte.follows;
  reads = λ input begins. collected (place_in first input) field count b (place_in here input)
      (place_in new input) few whole
      (before.taken input (begins_on byte.follows.grows begins)) (byte.reads input begins) low;
}

-- or with the tenth byte,
pub ten_taken : {first here : Standing} (field : List ℕ) (count : ℕ) → count ≡ 10 → length field ≡ 10
    → Collecting first here field count
    → Reads bytes_met (front_of field) varint_bytes_at first here (Ok 10)
ten_taken {first} {here} field count ten whole before = record {
  follows = before.follows;
  reads = λ input begins. ten_collected (place_in first input) field count (place_in here input) ten whole
      (before.taken input begins);
}

-- or it isn't whole.
pub byte_missing : {first here new : Standing} {e e' : BytesFault} (field field' : List ℕ) (count : ℕ) → count < 10
    → bytes_met e' ≡ bytes_met e
    → Collecting first here field count → Reads bytes_met (λ (x : ℕ). x) byte_at here new (Err e)
    → Reads bytes_met (front_of field') varint_bytes_at first new (Err e')
byte_missing {first} {here} {new} {e} field field' count few same before byte = record {
  follows = follows_on before.follows byte.follows;
  reads = λ input begins.
      let earlier = begins_on byte.follows.grows begins in
      rw same (meets_along (bytes_met e) (byte_at (place_in here input))
      (varint_bytes_at (place_in first input)) _ _ _ _
      (λ o bad. not_collected (place_in first input) field count o (place_in here input) few
      (before.taken input earlier) bad)
      (end_stays before.follows input earlier) (byte.reads input begins));
}

-- The bytes at hand tell what the field is: it is whole, or they reach the limit. Then the source is not asked.
abbrev pub Decided : Place → Type 0
Decided p = (varint_length 10 p.ahead ≤ room p) ⊎ (room p ≡ p.limit - p.at)

pub record Held (p : Place) (field : List ℕ) (count : ℕ) (here : Place) (same : Type 0) : Type 0 where
  pub held : Decided p → same × Collected p field count here

pub none_held : {same : Type 0} (p : Place) (field : List ℕ) → same → Held p field 0 p same
none_held p field still = record { held = λ decided. (still, none_collected p field) }

-- a byte at hand is read, and none at the limit is
byte_there : (p : Place) → 0 < room p → byte_at p ≡ Ok (get_or p.ahead 0 0, advance 1 p)
unfolding byte_at bytes_at
byte_there p some = rw (le-ltb (room p) 1 (omega arith))
    (ap (λ (b : ℕ). Ok (b, advance 1 p)) (get_or-take 1 p.ahead 0 0 (omega arith)))

byte_past : (p : Place) → room p ≡ 0 → byte_at p ≡ Err p.at
unfolding byte_at bytes_at
byte_past p none = let at : p.at + 0 ≡ p.at = omega arith in rw (none, at) refl

-- There is room for a byte behind those that were taken.
room_behind : (p : Place) (field : List ℕ) (count : ℕ) (here : Place) → Collected p field count here
    → room here ≡ room p - count
room_behind p field count here so_far = rw so_far.now (omega (arith, length-drop count p.ahead))

more_follow : (p : Place) (field : List ℕ) (count : ℕ) (here : Place) → count < 10 → Collected p field count here
    → count < varint_length 10 p.ahead
more_follow p field count here few so_far =
    omega (arith, so_far.longer, length_some (10 - count) (drop count p.ahead) (omega arith))

-- one more byte at hand
record OneMore (p : Place) (field : List ℕ) (count b : ℕ) (here after : Place) (same : Type 0) : Type 0 where
  still : same
  so_far : Collected p field count here
  read : byte_at here ≡ Ok (b, after)

one_more : {here new : Buffered} {same step still : Type 0} (p : Place) (field : List ℕ) (count b : ℕ) → count < 10
    → Asks bytes_met (λ (x : ℕ). x) byte_at here new step (Ok b) → Held p field count (at_hand here) same
    → (step → same → still)
    → p.at + (count + 1) ≤ p.limit → Decided p → OneMore p field count b (at_hand here) (at_hand new) still
one_more {here} {new} p field count b few byte before both within decided =
    let was = before.held decided in
    let left = room_behind p field count (at_hand here) was.1 in
    let follow = more_follow p field count (at_hand here) few was.1 in
    let there : 0 < room (at_hand here) = ⊎_elim (λ (whole : varint_length 10 p.ahead ≤ room p). omega arith)
    (λ (limited : room p ≡ p.limit - p.at). omega arith) decided in
    let read = byte_there (at_hand here) there in
    let held = byte.held _ _ read in
    record { still = both held.0 was.0; so_far = was.1; read = rw (held.1.0, held.1.1) read }

pub more_held : {here new : Buffered} {same step still : Type 0} (p : Place) (field : List ℕ) (count b : ℕ) → count < 10
    → length field ≡ 10
    → Asks bytes_met (λ (x : ℕ). x) byte_at here new step (Ok b) → Held p field count (at_hand here) same
    → (step → same → still)
    → p.at + (count + 1) ≤ p.limit → 128 ≤ b → Held p (set field count b) (count + 1) (at_hand new) still
more_held {here} {new} p field count b few whole byte before both within high = record {
  held = λ decided.
      let more = one_more p field count b few byte before both within decided in
      (more.still, more_collected p field count b (at_hand here) (at_hand new) few whole more.so_far more.read high);
}

-- what the bytes at hand say, once the field was read from them
whole_held : (p after : Place) (bytes : List ℕ) → varint_bytes_at p ≡ Ok (bytes, after)
    → varint_length 10 p.ahead ≤ room p
unfolding varint_bytes_at
whole_held p after bytes whole = taken_held (varint_length 10 p.ahead) p after bytes whole

broken_held : (p : Place) (o : ℕ) → varint_bytes_at p ≡ Err o → o ≡ p.at + room p
unfolding varint_bytes_at
broken_held p o bad = (short_held (varint_length 10 p.ahead) o p bad).1

answers_held : {first new : Buffered} {same : Type 0} (field : List ℕ) (n : ℕ)
    → (Decided (at_hand first) → same × (varint_bytes_at (at_hand first) ≡ Ok (take n field, at_hand new)))
    → Asks bytes_met (front_of field) varint_bytes_at first new same (Ok n)
answers_held {first} {new} field n read = record {
  held = λ y after whole.
      let was = read (inl (whole_held (at_hand first) after y whole)) in
      (was.0, same_read (varint_bytes_at (at_hand first)) (take n field) y (at_hand new) after was.1 whole);
  bad = λ o wrong decided.
      let was = read (inr (short_of_limit o (at_hand first) (broken_held (at_hand first) o wrong) decided)) in
      absurd (let there = was.1 in cc);
}

pub last_held : {first here new : Buffered} {same step still : Type 0} (field : List ℕ) (count b : ℕ) → count < 10
    → length field ≡ 10
    → Asks bytes_met (λ (x : ℕ). x) byte_at here new step (Ok b) → Held (at_hand first) field count (at_hand here) same
    → (step → same → still)
    → first.at + (count + 1) ≤ first.limit → b < 128
    → Asks bytes_met (front_of (set field count b)) varint_bytes_at first new still (Ok (count + 1))
last_held {first} {here} {new} field count b few whole byte before both within low =
    answers_held (set field count b) (count + 1) (λ decided.
    let more = one_more (at_hand first) field count b few byte before both within decided in (
      more.still,
      collected (at_hand first) field count b (at_hand here)
          (at_hand new) few whole more.so_far more.read low,
    ))

pub ten_held : {first here : Buffered} {same : Type 0} (field : List ℕ) (count : ℕ) → count ≡ 10 → length field ≡ 10
    → Held (at_hand first) field count (at_hand here) same
    → Asks bytes_met (front_of field) varint_bytes_at first here same (Ok 10)
ten_held {first} {here} field count ten whole before =
    answers_held field 10
    (λ decided. let was = before.held decided in
    (was.0, ten_collected (at_hand first) field count (at_hand here) ten whole was.1))

pub missing_held : {first here new : Buffered} {same step still : Type 0} {e e' : BytesFault} (field field' : List ℕ)
    (count : ℕ) → count < 10 → bytes_met e' ≡ bytes_met e
    → Asks bytes_met (λ (x : ℕ). x) byte_at here new step (Err e) → Held (at_hand first) field count (at_hand here) same
    → (step → same → still)
    → Asks bytes_met (front_of field') varint_bytes_at first new still (Err e')
missing_held {first} {here} {new} {same} {step} {still} {e} {e'} field field' count few is byte before both = record {
  held = λ y after whole.
      let fits = whole_held (at_hand first) after y whole in
      let was = before.held (inl fits) in
      let left = room_behind (at_hand first) field count (at_hand here) was.1 in
      let follow = more_follow (at_hand first) field count (at_hand here) few was.1 in
      absurd ((byte.held _ _ (byte_there (at_hand here) (omega arith))).1);
  bad = λ o wrong decided.
      let there = broken_held (at_hand first) o wrong in
      let limited = short_of_limit o (at_hand first) there decided in
      let was = before.held (inr limited) in
      let left = room_behind (at_hand first) field count (at_hand here) was.1 in
      let at : here.at ≡ first.at + count = ap (λ (p : Place). p.at) was.1.now in
      let limit : here.limit ≡ first.limit = ap (λ (p : Place). p.limit) was.1.now in
      ⊎_elim (λ (some : 0 < room (at_hand here)). absurd ((byte.held _ _ (byte_there (at_hand here) some)).1))
      (λ (none : room (at_hand here) ≤ 0).
      let enough : count ≤ room (at_hand first) = was.1.enough in
      let asked = byte.bad here.at (byte_past (at_hand here) (omega arith)) (inr (omega arith)) in
      (both asked.0 was.0, is ∙ asked.1 ∙ ap BadAt (omega arith))) (cases_lt 0 (room (at_hand here)));
}
