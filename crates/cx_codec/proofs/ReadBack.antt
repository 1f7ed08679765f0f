-- A field's spelling reads back, and a varint has one spelling.
use Rattle.std.proofs.Common.{
  ◌≡◌,
  ℕ,
  zero,
  suc,
  ◌+◌,
  ◌-◌,
  ◌*◌,
  ◌/◌,
  ◌%◌,
  ◌^◌,
  ◌<◌,
  ◌≤◌,
  ◌≢◌,
  List,
  [],
  ◌∷◌,
  ◌++◌,
  length,
  take,
  drop,
  get_or,
  cond,
  ltb,
  eqb,
  ◌&&◌,
  ◌||◌,
  Bool,
  true,
  false,
  arith,
  refl,
  ap,
  sym,
  ◌∙◌,
  Ok,
  Err,
  ◌⊎◌,
  inl,
  inr,
  ⊎_elim,
  length-append,
}
use Rattle.std.proofs.lemmas.Bool.{lt-ltb, le-ltb, ltb-true, ltb-false, eqb-true, cases_lt}
use Rattle.std.proofs.lemmas.List.{take_at, drop_at, take-append-drop, length-take-le}
use Rattle.std.proofs.lemmas.Nat.{from_le_bytes-to_le_bytes_4}
use Rattle.std.proofs.Math.Nat.{pow-suc}
use Rattle.std.specs.Int.{w32, to_le_bytes}
use Rattle.cx_codec.proofs.Parts.{same_place}
use Rattle.cx_codec.specs.Place.{Place, Takes, room, advance, read_on, done, bad}
use Rattle.cx_codec.specs.Fields.{bytes_at, byte_at, word_at, varint_at, varint_bytes_at}
use Rattle.cx_codec.specs.Varint.{varint_length, varint_value, varint_within, varint, is_varint}
use Rattle.cx_map.specs.Bytes.{AreBytes}

-- the place after a text is as many bytes on as it has
pub takes-advance : (p after : Place) (text : List ℕ) → Takes p text after → after ≡ advance (length text) p
takes-advance p after text takes = same_place after (advance (length text) p) takes.there takes.limit
    (sym (ap (drop (length text)) takes.ahead ∙ drop_at text after.ahead (length text) refl))

pub takes-room : (p after : Place) (text : List ℕ) → Takes p text after → length text ≤ room p
takes-room p after text takes =
    let h : length text ≤ p.limit - p.at = takes.within in
    let e : length p.ahead ≡ length text + length after.ahead = ap length takes.ahead
    ∙ length-append text after.ahead in
    omega arith

pub bytes_again : (p after : Place) (bytes : List ℕ) → Takes p bytes after
    → bytes_at (length bytes) p ≡ Ok (bytes, after)
unfolding bytes_at
bytes_again p after bytes takes =
    let front : take (length bytes) p.ahead ≡ bytes = ap (take (length bytes)) takes.ahead
    ∙ take_at bytes after.ahead (length bytes) refl in
    rw (le-ltb (room p) (length bytes) (takes-room p after bytes takes), front, takes-advance p after bytes takes) refl

pub byte_again : (p after : Place) (b : ℕ) → Takes p (b ∷ []) after → byte_at p ≡ Ok (b, after)
unfolding byte_at
byte_again p after b takes = let e : bytes_at 1 p ≡ Ok (b ∷ [], after) = bytes_again p after (b ∷ []) takes in rw e refl

pub word_again : (p after : Place) (n : ℕ) → n < 2 ^ 32 → Takes p (to_le_bytes w32 n) after → word_at p ≡ Ok (n, after)
unfolding word_at
word_again p after n fits takes =
    let e : bytes_at 4 p ≡ Ok (to_le_bytes w32 n, after) = bytes_again p after (to_le_bytes w32 n) takes in
    rw (e, from_le_bytes-to_le_bytes_4 n fits) refl

-- as many bytes as the spelling has are taken, whatever follows
length_step : (most n : ℕ) (rest : List ℕ) (t : Bool) → ltb n 128 ≡ t
    → varint_length most (varint_within most (n / 128) ++ rest) ≡ length (varint_within most (n / 128))
    → varint_length (suc most) (cond t (n ∷ []) ((128 + n % 128) ∷ varint_within most (n / 128)) ++ rest) ≡ length
    (cond t (n ∷ []) ((128 + n % 128) ∷ varint_within most (n / 128)))
length_step most n rest true low later = rw low refl
length_step most n rest false high later = let big : ltb (128 + n % 128) 128 ≡ false =
    le-ltb (128 + n % 128) 128 (omega arith) in rw (big, later) (omega arith)

pub length_within : (most n : ℕ) (rest : List ℕ) → varint_length most (varint_within most n ++ rest) ≡ length
    (varint_within most n)
length_within zero n rest = refl
length_within (suc most) n rest = length_step most n rest (ltb n 128) refl (length_within most (n / 128) rest)

-- they stand for the number
value_step : (most n : ℕ) (t : Bool) → ltb n 128 ≡ t → varint_value (varint_within most (n / 128)) ≡ n / 128
    → varint_value (cond t (n ∷ []) ((128 + n % 128) ∷ varint_within most (n / 128))) ≡ n
value_step most n true low later = let h = ltb-true n 128 low in omega arith
value_step most n false high later = rw later (omega arith)

smaller : (most n : ℕ) → n < 128 ^ suc most → n / 128 < 128 ^ most
smaller most n small = let e = pow-suc 128 most in let h : n < 128 ^ most * 128 = rw e at small in omega arith

pub value_within : (most n : ℕ) → n < 128 ^ most → varint_value (varint_within most n) ≡ n
value_within zero n small = let e : n < 1 = small in omega arith
value_within (suc most) n small = value_step most n (ltb n 128) refl
    (value_within most (n / 128) (smaller most n small))

-- the last byte, which is 0 only where the number is
abbrev pub last : List ℕ → ℕ
last [] = 0
last (b ∷ []) = b
last (b ∷ c ∷ bytes) = last (c ∷ bytes)

pub record EndsWell (n : ℕ) (bytes : List ℕ) : Type 0 where
  some : 0 < length bytes
  low : last bytes < 128
  high : 0 < n → 0 < last bytes
  single : n < 128 → length bytes ≡ 1

last_behind : (b : ℕ) (bytes : List ℕ) → 0 < length bytes → last (b ∷ bytes) ≡ last bytes
last_behind b [] some = absurd (omega arith)
last_behind b (c ∷ bytes) some = refl

ends_step : (most n : ℕ) (t : Bool) → ltb n 128 ≡ t → (128 ≤ n → EndsWell (n / 128) (varint_within most (n / 128)))
    → EndsWell n (cond t (n ∷ []) ((128 + n % 128) ∷ varint_within most (n / 128)))
ends_step most n true low later =
    record { some = omega arith; low = ltb-true n 128 low; high = λ h. h; single = λ h. refl }
ends_step most n false high later =
    let big : 128 ≤ n = ltb-false n 128 high in
    let e : EndsWell (n / 128) (varint_within most (n / 128)) = later big in
    let same = last_behind (128 + n % 128) (varint_within most (n / 128)) e.some in
    record {
      some = omega arith;
      low = rw same e.low;
      high = λ h. rw same (e.high (omega arith));
      single =
          λ h. absurd (omega arith);
    }

ends_within : (most n : ℕ) → n < 128 ^ suc most → EndsWell n (varint_within (suc most) n)
ends_within zero n small =
    let h : n < 128 = small in
    ends_step zero n (ltb n 128) refl (λ big. absurd (omega arith))
ends_within (suc most) n small = ends_step (suc most) n (ltb n 128) refl
    (λ big. ends_within most (n / 128) (smaller (suc most) n small))

last_is : (bytes : List ℕ) → last bytes ≡ get_or bytes (length bytes - 1) 0
last_is [] = refl
last_is (b ∷ []) = refl
last_is (b ∷ c ∷ bytes) = last_is (c ∷ bytes)
    ∙ (let e : suc (suc (length bytes)) - 1 ≡ suc (length (c ∷ bytes) - 1) = omega arith in rw e refl)

or_true : (a b : Bool) → (a ≡ false → b ≡ true) → (a || b) ≡ true
or_true true b h = refl
or_true false b h = h refl

and_true : (a b : Bool) → a ≡ true → b ≡ true → (a && b) ≡ true
and_true a b p q = rw (p, q) refl

not_one : (k : ℕ) → eqb k 1 ≡ false → k ≢ 1
not_one k h e = let same : eqb 1 1 ≡ false = rw e at h in cc

-- a spelling keeps the rule
is_varint_within : (n : ℕ) → n < 2 ^ 64 → is_varint (varint_within 10 n) ≡ true
is_varint_within n fits =
    let small : n < 128 ^ 10 = omega arith in
    let e : EndsWell n (varint_within 10 n) = ends_within 9 n small in
    let l : last (varint_within 10 n) ≡ get_or (varint_within 10 n) (length (varint_within 10 n) - 1) 0 =
    last_is (varint_within 10 n) in
    let low : ltb (get_or (varint_within 10 n) (length (varint_within 10 n) - 1) 0) 128 ≡ true =
    lt-ltb _ 128 (rw (← l) e.low) in
    let long : eqb (length (varint_within 10 n)) 1 ≡ false
    → ltb 0 (get_or (varint_within 10 n) (length (varint_within 10 n) - 1) 0) ≡ true =
    λ h. let ne = not_one (length (varint_within 10 n)) h in
    lt-ltb 0 _ (rw (← l) (e.high
    (⊎_elim (λ (s : n < 128). absurd (ne (e.single s))) (λ (b : 128 ≤ n). omega arith) (cases_lt n 128)))) in
    let value : ltb (varint_value (varint_within 10 n)) (2 ^ 64) ≡ true =
    lt-ltb _ (2 ^ 64) (rw (value_within 10 n small) fits) in
    and_true _ _ (and_true _ _ low (or_true _ _ long)) value

pub varint_again : (p after : Place) (n : ℕ) → n < 2 ^ 64 → Takes p (varint n) after → varint_at p ≡ Ok (n, after)
unfolding varint varint_at varint_bytes_at
varint_again p after n fits takes =
    let whole : varint_length 10 p.ahead ≡ length (varint_within 10 n) = ap (varint_length 10) takes.ahead
    ∙ length_within 10 n after.ahead in
    let read : bytes_at (varint_length 10 p.ahead) p ≡ Ok (varint_within 10 n, after) =
    rw whole (bytes_again p after (varint_within 10 n) takes) in
    rw (read, is_varint_within n fits, value_within 10 n (omega arith)) refl

-- Bytes that were taken as a varint and end well: they are the spelling of what they stand for.
pub record Is (most : ℕ) (bytes : List ℕ) : Type 0 where
  pub same : bytes ≡ varint_within most (varint_value bytes)
  pub positive : 0 < last bytes → 0 < varint_value bytes

behind : (b : ℕ) (bytes : List ℕ) → AreBytes (b ∷ bytes) → AreBytes bytes
behind b bytes are i = are (suc i)

spelling_front : (most b : ℕ) (bytes : List ℕ) → b < 256 → 128 ≤ b
    → (0 < length bytes → last bytes < 128 → 0 < last bytes → Is most bytes) → last (b ∷ bytes) < 128
    → (0 < last (b ∷ bytes)) ⊎ (length (b ∷ bytes) ≡ 1) → Is (suc most) (b ∷ bytes)
spelling_front most b [] small high later low ends = absurd (omega arith)
spelling_front most b (c ∷ bytes) small high later low ends =
    let some : 0 < last (c ∷ bytes) = ⊎_elim (λ (h : 0 < last (c ∷ bytes)). h)
    (λ (h : length (b ∷ c ∷ bytes) ≡ 1). absurd (omega arith)) ends in
    let tail : Is most (c ∷ bytes) = later (omega arith) low some in
    let value : 0 < varint_value (c ∷ bytes) = tail.positive some in
    let n : ℕ = varint_value (c ∷ bytes) in
    let big : ltb (b % 128 + 128 * n) 128 ≡ false = le-ltb _ 128 (omega arith) in
    let digit : 128 + (b % 128 + 128 * n) % 128 ≡ b = omega arith in
    let rest : (b % 128 + 128 * n) / 128 ≡ n = omega arith in
    record {
      same = rw (big, digit, rest) (ap (λ xs. b ∷ xs) tail.same);
      positive = λ h. omega arith;
    }

-- by the first byte
one_step : (most b : ℕ) (ahead : List ℕ) (t : Bool) → ltb b 128 ≡ t → b < 256
    → cond t 1 (1 + varint_length most ahead) ≤ suc (length ahead)
    → (varint_length most ahead ≤ length ahead → last (take (varint_length most ahead) ahead) < 128
    → (0 < last (take (varint_length most ahead) ahead)) ⊎ (length (take (varint_length most ahead) ahead) ≡ 1)
    → Is most (take (varint_length most ahead) ahead))
    → last (take (cond t 1 (1 + varint_length most ahead)) (b ∷ ahead)) < 128
    → (0 < last (take (cond t 1 (1 + varint_length most ahead)) (b ∷ ahead))) ⊎
    (length (take (cond t 1 (1 + varint_length most ahead)) (b ∷ ahead)) ≡ 1)
    → Is (suc most) (take (cond t 1 (1 + varint_length most ahead)) (b ∷ ahead))
one_step most b ahead true low small there later ends_low ends =
    let h = ltb-true b 128 low in
    let value : b % 128 + 128 * 0 ≡ b = omega arith in
    record { same = rw (value, low) refl; positive = λ some. omega arith }
one_step most b ahead false high small there later ends_low ends =
    let e : 1 + varint_length most ahead ≡ suc (varint_length most ahead) = omega arith in
    let h = ltb-false b 128 high in
    let low : last (b ∷ take (varint_length most ahead) ahead) < 128 = rw e at ends_low in
    let well : (0 < last (b ∷ take (varint_length most ahead) ahead)) ⊎
    (length (b ∷ take (varint_length most ahead) ahead) ≡ 1) = rw e at ends in
    rw e (spelling_front most b (take (varint_length most ahead) ahead) small h
    (λ some l p. later (omega arith) l (inl p)) low well)

pub one_spelling : (most : ℕ) (ahead : List ℕ) → AreBytes ahead → varint_length most ahead ≤ length ahead
    → last (take (varint_length most ahead) ahead) < 128
    → (0 < last (take (varint_length most ahead) ahead)) ⊎ (length (take (varint_length most ahead) ahead) ≡ 1)
    → Is most (take (varint_length most ahead) ahead)
one_spelling zero ahead are there low ends = record { same = refl; positive = λ h. absurd (omega arith) }
one_spelling (suc most) [] are there low ends = absurd (omega arith)
one_spelling (suc most) (b ∷ ahead) are there low ends =
    one_step most b ahead (ltb b 128) refl (are 0) there
    (λ enough l e. one_spelling most ahead (behind b ahead are) enough l e) low ends

-- what a whole varint that keeps the rule says of its last byte
pub record Kept (bytes : List ℕ) : Type 0 where
  pub low : last bytes < 128
  pub ends : (0 < last bytes) ⊎ (length bytes ≡ 1)

left_true : (a b : Bool) → (a && b) ≡ true → (a ≡ true) × (b ≡ true)
left_true true true h = (refl, refl)
left_true true false h = cc
left_true false b h = cc

either_true : (a b : Bool) → (a || b) ≡ true → (a ≡ true) ⊎ (b ≡ true)
either_true true b h = inl refl
either_true false b h = inr h

is_one : (k : ℕ) → eqb k 1 ≡ true → k ≡ 1
is_one k h = eqb-true k 1 h

kept_by : (bytes : List ℕ) → is_varint bytes ≡ true → Kept bytes
kept_by bytes h =
    let parts = left_true
    (ltb (get_or bytes (length bytes - 1) 0) 128 &&
    (eqb (length bytes) 1 || ltb 0 (get_or bytes (length bytes - 1) 0))) (ltb (varint_value bytes) (2 ^ 64)) h in
    let ends = left_true (ltb (get_or bytes (length bytes - 1) 0) 128)
    (eqb (length bytes) 1 || ltb 0 (get_or bytes (length bytes - 1) 0)) parts.0 in
    record {
      low = rw last_is (ltb-true _ 128 ends.0);
      ends = ⊎_elim (λ (e : eqb (length bytes) 1 ≡ true). inr (is_one (length bytes) e))
          (λ (e : ltb 0 (get_or bytes (length bytes - 1) 0) ≡ true). inl (rw last_is (ltb-true 0 _ e)))
          (either_true (eqb (length bytes) 1) (ltb 0 (get_or bytes (length bytes - 1) 0)) ends.1);
    }

-- what a varint that was read says of its place
pub record Read (p : Place) (n : ℕ) (then : Place) : Type 0 where
  pub enough : varint_length 10 p.ahead ≤ room p
  pub good : is_varint (take (varint_length 10 p.ahead) p.ahead) ≡ true
  pub value : varint_value (take (varint_length 10 p.ahead) p.ahead) ≡ n
  pub after : advance (varint_length 10 p.ahead) p ≡ then

read_step : (p after : Place) (n : ℕ) (k : ℕ) (s t : Bool) → ltb (room p) k ≡ s → is_varint (take k p.ahead) ≡ t
    → read_on (cond s (Err (p.at + room p)) (Ok (take k p.ahead, advance k p)))
    (λ bytes. cond (is_varint bytes) (done (varint_value bytes)) (bad p.at)) ≡ Ok (n, after)
    → (k ≤ room p) × (t ≡ true) × (varint_value (take k p.ahead) ≡ n) × (advance k p ≡ after)
read_step p after n k true t short good e = cc
read_step p after n k false true enough good e =
    let f : cond (is_varint (take k p.ahead)) (done (varint_value (take k p.ahead))) (bad p.at) (advance k p) ≡ Ok
    (n, after) = e in
    let h : done (varint_value (take k p.ahead)) (advance k p) ≡ Ok (n, after) = rw good at f in
    let same : (varint_value (take k p.ahead), advance k p) ≡ (n, after) = cc in
    (ltb-false (room p) k enough, refl, ap (λ (x : ℕ × Place). x.0) same, ap (λ (x : ℕ × Place). x.1) same)
read_step p after n k false false enough wrong e =
    let f : cond (is_varint (take k p.ahead)) (done (varint_value (take k p.ahead))) (bad p.at) (advance k p) ≡ Ok
    (n, after) = e in
    let h : bad {Y = ℕ} p.at (advance k p) ≡ Ok (n, after) = rw wrong at f in
    cc

varint_read : (p after : Place) (n : ℕ) → varint_at p ≡ Ok (n, after) → Read p n after
unfolding varint_at varint_bytes_at bytes_at
varint_read p after n e =
    let parts = read_step p after n (varint_length 10 p.ahead) _ _ refl refl e in
    record { enough = parts.0; good = parts.1; value = parts.2; after = parts.3 }

pub varint_once : (p after : Place) (n : ℕ) → AreBytes p.ahead → varint_at p ≡ Ok (n, after) → Takes p (varint n) after
unfolding varint
varint_once p after n are e =
    let read : Read p n after = varint_read p after n e in
    let k : ℕ = varint_length 10 p.ahead in
    let there : k ≤ length p.ahead = let h = read.enough in omega arith in
    let kept : Kept (take k p.ahead) = kept_by (take k p.ahead) read.good in
    let is : Is 10 (take k p.ahead) = one_spelling 10 p.ahead are there kept.low kept.ends in
    let text : varint_within 10 n ≡ take k p.ahead = ap (varint_within 10) (sym read.value) ∙ sym is.same in
    let size : length (take k p.ahead) ≡ k = length-take-le k p.ahead there in
    rw (text, ← read.after) (record {
      ahead = sym (take-append-drop k p.ahead);
      there = rw size refl;
      limit = refl;
      within = let h = read.enough in omega arith;
    })
