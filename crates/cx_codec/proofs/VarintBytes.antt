-- The bytes of a varint, taken one after another from a place.
use Rattle.std.proofs.Common.{
  ◌≡◌,
  ℕ,
  zero,
  suc,
  ◌+◌,
  ◌-◌,
  ◌<◌,
  ◌≤◌,
  List,
  [],
  ◌∷◌,
  length,
  take,
  drop,
  get_or,
  set,
  cond,
  Bool,
  true,
  false,
  ltb,
  arith,
  refl,
  ap,
  sym,
  ◌∙◌,
  None,
  Some,
  Ok,
  Err,
}
use Rattle.std.proofs.lemmas.Bool.{lt-ltb, le-ltb, ltb-true, ltb-false}
use Rattle.std.proofs.lemmas.List.{get_or-take, get_or-drop, length-drop, drop-drop, take_more, take_more_set}
use Rattle.cx_codec.specs.Place.{Place, Reader, room, advance, read_on, done, bad}
use Rattle.cx_codec.specs.Fields.{bytes_at, byte_at, varint_bytes_at}
use Rattle.cx_codec.specs.Varint.{varint_length, varint_value, is_varint}

-- a byte that was read is the one ahead
pub record IsByte (q : Place) (b : ℕ) (then : Place) : Type 0 where
  pub there : 0 < room q
  pub value : b ≡ get_or q.ahead 0 0
  pub after : then ≡ advance 1 q

fits : (q : Place) (t : Bool) (b : ℕ) (after : Place) → ltb (room q) 1 ≡ t
    → read_on (cond t (Err (q.at + room q)) (Ok (take 1 q.ahead, advance 1 q))) (λ bytes. done (get_or bytes 0 0)) ≡ Ok
    (b, after) → IsByte q b after
fits q true b after t e = cc
fits q false b after t e =
    let there : 0 < room q = ltb-false (room q) 1 t in
    let first : 0 < 1 = omega arith in
    let same : (get_or (take 1 q.ahead) 0 0, advance 1 q) ≡ (b, after) = cc in
    record {
      there = there;
      value = sym (ap (λ (x : ℕ × Place). x.0) same) ∙ get_or-take 1 q.ahead 0 0 first;
      after = sym (ap (λ (x : ℕ × Place). x.1) same);
    }

pub byte_is : (q : Place) (b : ℕ) (after : Place) → byte_at q ≡ Ok (b, after) → IsByte q b after
unfolding byte_at bytes_at
byte_is q b after e = fits q (ltb (room q) 1) b after refl e

fails : (q : Place) (t : Bool) (o : ℕ) → ltb (room q) 1 ≡ t
    → read_on (cond t (Err (q.at + room q)) (Ok (take 1 q.ahead, advance 1 q))) (λ bytes. done (get_or bytes 0 0))
    ≡ Err o → (room q ≡ 0) × (o ≡ q.at)
fails q true o t e =
    let none : room q < 1 = ltb-true (room q) 1 t in
    let failed : Err (q.at + room q) ≡ Err o = e in
    let same : q.at + room q ≡ o = cc in
    (omega arith, omega arith)
fails q false o t e = cc

-- one that wasn't there
pub no_byte : (q : Place) (o : ℕ) → byte_at q ≡ Err o → (room q ≡ 0) × (o ≡ q.at)
unfolding byte_at bytes_at
no_byte q o e = fails q (ltb (room q) 1) o refl e

-- the length of a varint, by its first byte
length_step : (n : ℕ) (bytes : List ℕ) → 0 < n → 0 < length bytes
    → varint_length n bytes ≡ cond (ltb (get_or bytes 0 0) 128) 1 (1 + varint_length (n - 1) (drop 1 bytes))
length_step zero bytes more some = absurd (omega arith)
length_step (suc n) [] more some = absurd (omega arith)
length_step (suc n) (b ∷ bytes) more some = let e : suc n - 1 ≡ n = omega arith in rw e refl

length_none : (n : ℕ) (bytes : List ℕ) → 0 < n → length bytes ≡ 0 → varint_length n bytes ≡ 1
length_none zero bytes more none = absurd (omega arith)
length_none (suc n) [] more none = refl
length_none (suc n) (b ∷ bytes) more none = absurd (omega arith)

-- at least one byte more
pub length_some : (n : ℕ) (bytes : List ℕ) → 0 < n → 1 ≤ varint_length n bytes
length_some zero bytes more = absurd (omega arith)
length_some (suc n) [] more = omega arith
length_some (suc n) (b ∷ bytes) more = step (ltb b 128)
  where
    step : (t : Bool) → 1 ≤ cond t 1 (1 + varint_length n bytes)
    step true = omega arith
    step false = omega arith

-- count bytes from 128 on were taken from the place, and stand at the front of field
pub record Collected (p : Place) (field : List ℕ) (count : ℕ) (here : Place) : Type 0 where
  pub enough : count ≤ room p
  pub front : take count field ≡ take count p.ahead
  pub now : here ≡ advance count p
  pub longer : varint_length 10 p.ahead ≡ count + varint_length (10 - count) (drop count p.ahead)

-- none at first
pub none_collected : (p : Place) (field : List ℕ) → Collected p field 0 p
none_collected p field = record {
  enough = omega arith;
  front = refl;
  now = let e : p.at + 0 ≡ p.at = omega arith in rw e refl;
  longer = let e : 0 + varint_length (10 - 0) (drop 0 p.ahead) ≡ varint_length 10 p.ahead = omega arith in sym e;
}

-- the byte behind them
record Next (p : Place) (count b : ℕ) (then : Place) : Type 0 where
  enough : count + 1 ≤ room p
  value : b ≡ get_or p.ahead count 0
  after : then ≡ advance (count + 1) p
  longer : varint_length (10 - count) (drop count p.ahead) ≡ cond (ltb b 128) 1
      (1 + varint_length (10 - (count + 1)) (drop (count + 1) p.ahead))

next : (p : Place) (field : List ℕ) (count b : ℕ) (now after : Place) → count < 10 → Collected p field count now
    → byte_at now ≡ Ok (b, after) → Next p count b after
next p field count b now after few so_far read =
    let byte : IsByte (advance count p) b after = rw so_far.now at (byte_is now b after read) in
    let ahead : length (drop count p.ahead) ≡ length p.ahead - count = length-drop count p.ahead in
    let value : b ≡ get_or p.ahead count 0 = byte.value ∙ get_or-drop count p.ahead 0 0
    ∙ ap (λ k. get_or p.ahead k 0) (omega arith) in
    record {
      enough = let h : count ≤ room p = so_far.enough in let g : 0 < room (advance count p) = byte.there in omega arith;
      value = value;
      after = byte.after ∙ (let e : p.at + count + 1 ≡ p.at + (count + 1) = omega arith in
          rw (e, drop-drop 1 count p.ahead) refl);
      longer =
          let some : 0 < length (drop count p.ahead) = let g : 0 < room (advance count p) = byte.there in omega arith in
          let e : 10 - count - 1 ≡ 10 - (count + 1) = omega arith in
          length_step (10 - count) (drop count p.ahead) (omega arith) some
          ∙ rw (← byte.value, e, drop-drop 1 count p.ahead) refl;
    }

-- one more from 128 on
pub more_collected : (p : Place) (field : List ℕ) (count b : ℕ) (now after : Place) → count < 10 → length field ≡ 10
    → Collected p field count now → byte_at now ≡ Ok (b, after) → 128 ≤ b
    → Collected p (set field count b) (count + 1) after
more_collected p field count b now after few whole so_far read high =
    let n : Next p count b after = next p field count b now after few so_far read in
    let inside : count < length field = omega arith in
    let ahead : count < length p.ahead = let h : count + 1 ≤ room p = n.enough in omega arith in
    record {
      enough = n.enough;
      front = take_more_set field count b inside ∙ rw (so_far.front, n.value) (sym (take_more p.ahead count 0 ahead));
      now = n.after;
      longer = so_far.longer ∙ rw (n.longer, le-ltb b 128 high) (omega arith);
    }

-- the last one, below 128
pub collected : (p : Place) (field : List ℕ) (count b : ℕ) (now after : Place) → count < 10 → length field ≡ 10
    → Collected p field count now → byte_at now ≡ Ok (b, after) → b < 128
    → varint_bytes_at p ≡ Ok (take (count + 1) (set field count b), after)
unfolding varint_bytes_at bytes_at
collected p field count b now after few whole so_far read low =
    let n : Next p count b after = next p field count b now after few so_far read in
    let inside : count < length field = omega arith in
    let ahead : count < length p.ahead = let h : count + 1 ≤ room p = n.enough in omega arith in
    let long : varint_length 10 p.ahead ≡ count + 1 = so_far.longer ∙ rw (n.longer, lt-ltb b 128 low) refl in
    let front : take (count + 1) (set field count b) ≡ take (count + 1) p.ahead = take_more_set field count b inside
    ∙ rw (so_far.front, n.value) (sym (take_more p.ahead count 0 ahead)) in
    rw (long, le-ltb (room p) (count + 1) n.enough, front, n.after) refl

-- ten from 128 on
pub ten_collected : (p : Place) (field : List ℕ) (count : ℕ) (now : Place) → count ≡ 10 → length field ≡ 10
    → Collected p field count now → varint_bytes_at p ≡ Ok (take 10 field, now)
unfolding varint_bytes_at bytes_at
ten_collected p field count now ten whole before =
    let so_far : Collected p field 10 now = rw ten at before in
    let long : varint_length 10 p.ahead ≡ 10 = so_far.longer in
    rw (long, le-ltb (room p) 10 so_far.enough, so_far.front, so_far.now) refl

-- the input or the limit came first
pub not_collected : (p : Place) (field : List ℕ) (count o : ℕ) (now : Place) → count < 10 → Collected p field count now
    → byte_at now ≡ Err o → varint_bytes_at p ≡ Err o
unfolding varint_bytes_at bytes_at
not_collected p field count o now few so_far read =
    let none : (room (advance count p) ≡ 0) × (o ≡ (advance count p).at) = rw so_far.now at (no_byte now o read) in
    let ahead : length (drop count p.ahead) ≡ length p.ahead - count = length-drop count p.ahead in
    let all : room p ≡ count = let h : count ≤ room p = so_far.enough in let g : room (advance count p) ≡ 0 = none.0 in
    omega arith in
    let long : count < varint_length 10 p.ahead = let h = length_some (10 - count) (drop count p.ahead) (omega arith) in
    let g = so_far.longer in omega arith in
    rw (all, lt-ltb count (varint_length 10 p.ahead) long, none.1) refl

-- What the bytes of one varint are judged to be.
abbrev pub judged : List ℕ → ℕ → Reader ℕ
judged bytes at = cond (is_varint bytes) (done (varint_value bytes)) (bad at)

pub judged_good : (bytes : List ℕ) (v at : ℕ) (p : Place)
    → Some v ≡ cond (is_varint bytes) (Some (varint_value bytes)) None → judged bytes at p ≡ Ok (v, p)
judged_good bytes v at p is = step (is_varint bytes) is
  where
    step : (t : Bool) → Some v ≡ cond t (Some (varint_value bytes)) None
        → cond {A = Reader ℕ} t (done (varint_value bytes)) (bad at) p ≡ Ok (v, p)
    step true is = let same : varint_value bytes ≡ v = cc in ap (λ (n : ℕ). Ok (n, p)) same
    step false is = cc

pub judged_bad : (bytes : List ℕ) (at : ℕ) (p : Place) → None ≡ cond (is_varint bytes) (Some (varint_value bytes)) None
    → judged bytes at p ≡ Err at
judged_bad bytes at p is = step (is_varint bytes) is
  where
    step : (t : Bool) → None ≡ cond t (Some (varint_value bytes)) None
        → cond {A = Reader ℕ} t (done (varint_value bytes)) (bad at) p ≡ Err at
    step true is = cc
    step false is = refl
