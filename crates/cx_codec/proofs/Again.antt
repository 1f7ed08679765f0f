-- Texts that read back, part by part.
use Rattle.std.proofs.Common.{
  ◌≡◌,
  ℕ,
  zero,
  suc,
  ◌+◌,
  ◌-◌,
  ◌/◌,
  ◌%◌,
  ◌^◌,
  ◌<◌,
  ◌≤◌,
  List,
  [],
  ◌∷◌,
  ◌++◌,
  length,
  take,
  drop,
  cond,
  ltb,
  Bool,
  true,
  false,
  arith,
  refl,
  ap,
  sym,
  ◌∙◌,
  Ok,
  Err,
  ⊎_elim,
  length-append,
  append_assoc,
}
use Rattle.std.proofs.lemmas.Bool.{lt-ltb, cases_lt, le-ltb}
use Rattle.std.proofs.lemmas.List.{take-append-drop, take_at, drop_at, length-take-le}
use Rattle.std.specs.Int.{w32, to_le_bytes}
use Rattle.cx_codec.specs.Again.{Again, IsCut, ReadsAs}
use Rattle.cx_codec.specs.Fields.{bytes_at, byte_at, word_at, varint_at, varint_bytes_at}
use Rattle.cx_codec.specs.Checks.{checked}
use Rattle.cx_codec.specs.Place.{Place, Reader, Takes, ◌>>=◌, advance, behind_text, done, end_of, room}
use Rattle.cx_codec.specs.Varint.{varint, varint_length, varint_within}
use Rattle.cx_codec.proofs.Parts.{same_place}
use Rattle.cx_codec.proofs.ReadBack.{bytes_again, byte_again, word_again, varint_again}
use Rattle.cx_codec.proofs.Texts.{takes_first, takes_second}

-- ---- a text that the input ends in

-- The input ends inside the first of two texts, or the first is whole and it ends inside the second.
pub first_cut : (p : Place) (a b : List ℕ) → IsCut p (a ++ b) → length p.ahead < length a → IsCut p a
first_cut p a b cut inside =
    let size : length (a ++ b) ≡ length a + length b = length-append a b in
    let front : take (length p.ahead) (a ++ b) ≡ p.ahead =
    ap (take (length p.ahead)) cut.parts ∙ take_at p.ahead cut.more (length p.ahead) refl in
    let same : take (length p.ahead) a ≡ p.ahead = sym (take_inside a b (length p.ahead) (omega (arith, inside))) ∙ front
    in
    record {
      more = drop (length p.ahead) a;
      parts = sym (take-append-drop (length p.ahead) a) ∙ ap (λ (xs : List ℕ). xs ++ drop (length p.ahead) a) same;
      some = some_left (length p.ahead) a inside;
      within = omega (arith, cut.within, size);
    }
  where
    take_inside : (a b : List ℕ) (n : ℕ) → n ≤ length a → take n (a ++ b) ≡ take n a
    take_inside a b zero inside = refl
    take_inside [] b (suc n) inside = absurd (omega arith)
    take_inside (x ∷ a) b (suc n) inside = ap (λ (xs : List ℕ). x ∷ xs) (take_inside a b n (omega arith))

    some_left : (n : ℕ) (a : List ℕ) → n < length a → 1 ≤ length (drop n a)
    some_left n [] inside = absurd (omega arith)
    some_left zero (x ∷ a) inside = omega arith
    some_left (suc n) (x ∷ a) inside = some_left n a (omega arith)

pub record CutBehind (p : Place) (a b : List ℕ) : Type 0 where
  pub after : Place
  pub first : Takes p a after
  pub then : IsCut after b
  pub end : end_of after ≡ end_of p

pub second_cut : (p : Place) (a b : List ℕ) → IsCut p (a ++ b) → length a ≤ length p.ahead → CutBehind p a b
second_cut p a b cut whole =
    let size : length (a ++ b) ≡ length a + length b = length-append a b in
    let parts = behind a b p.ahead cut.more cut.parts whole in
    let long : length p.ahead ≡ length a + length (drop (length a) p.ahead) = ap length parts.0
    ∙ length-append a (drop (length a) p.ahead) in
    record {
      after = behind_text p a (drop (length a) p.ahead);
      first = record { ahead = parts.0; there = refl; limit = refl; within = omega (arith, cut.within, size) };
      then = record { more = cut.more; parts = parts.1; some = cut.some; within = omega (arith, cut.within, size) };
      end = omega (arith, long);
    }
  where
    behind : (a b xs more : List ℕ) → a ++ b ≡ xs ++ more → length a ≤ length xs
        → (xs ≡ a ++ drop (length a) xs) × (b ≡ drop (length a) xs ++ more)
    behind [] b xs more same whole = (refl, same)
    behind (x ∷ a) b [] more same whole = absurd (omega arith)
    behind (x ∷ a) b (y ∷ xs) more same whole =
        let head : x ≡ y = cc in
        let tail : a ++ b ≡ xs ++ more = cc in
        let rest = behind a b xs more tail (omega arith) in
        (rw head (ap (λ (zs : List ℕ). y ∷ zs) rest.0), rest.1)

-- ---- readers one after another

pub reads_both : {A B : Type 0} (r : Reader A) (f : A → Reader B) (a b : List ℕ) (x : A) (y : B) → ReadsAs r a x
    → ReadsAs (f x) b y → ReadsAs (r >>= f) (a ++ b) y
reads_both r f a b x y first second = record {
  again = λ p after takes.
      rw (first.again p (behind_text p a (b ++ after.ahead)) (takes_first p after a b takes))
      (second.again (behind_text p a (b ++ after.ahead)) after (takes_second p after a b takes));
  cut = λ p cut.
      ⊎_elim (λ (inside : length p.ahead < length a). rw (first.cut p (first_cut p a b cut inside)) refl)
      (λ (whole : length a ≤ length p.ahead).
      let behind = second_cut p a b cut whole in
      rw (first.again p behind.after behind.first)
      (second.cut behind.after behind.then ∙ ap (λ (n : ℕ). Err n) behind.end))
      (cases_lt (length p.ahead) (length a));
}

pub reads_nothing : {A : Type 0} (x : A) → ReadsAs (done x) [] x
reads_nothing x = record {
  again = λ p after takes.
      rw (same_place p after (omega (arith, takes.there)) (sym takes.limit) takes.ahead) refl;
  cut = λ p cut.
      absurd (let size : 0 ≡ length p.ahead + length cut.more = ap length cut.parts ∙ length-append p.ahead cut.more in
      omega (arith, cut.some, size));
}

-- a value made of what was read
pub reads_then : {A B : Type 0} (r : Reader A) (f : A → B) (text : List ℕ) (x : A) → ReadsAs r text x
    → ReadsAs (r >>= (λ v. done (f v))) text (f x)
reads_then r f text x first = record {
  again = λ p after takes. rw (first.again p after takes) refl;
  cut = λ p cut. rw (first.cut p cut) refl;
}

pub reads_checked : (test : ℕ → Bool) (field : Reader ℕ) (text : List ℕ) (n : ℕ) → test n ≡ true
    → ReadsAs field text n → ReadsAs (checked test field) text n
reads_checked test field text n good first = record {
  again = λ p after takes. rw (first.again p after takes, good) refl;
  cut = λ p cut. rw (first.cut p cut) refl;
}

-- the same by other names
pub reads_along : {A : Type 0} (r s : Reader A) (text text' : List ℕ) (x : A) → ((p : Place) → s p ≡ r p)
    → text ≡ text' → ReadsAs r text x → ReadsAs s text' x
reads_along r s text text' x same texts first = rw (← texts) (record {
  again = λ p after takes. same p ∙ first.again p after takes;
  cut = λ p cut. same p ∙ first.cut p cut;
})

-- ---- fields

bytes_cut : (n : ℕ) (p : Place) → length p.ahead < n → length p.ahead ≤ p.limit - p.at → bytes_at n p ≡ Err (end_of p)
unfolding bytes_at
bytes_cut n p short within =
    let all : room p ≡ length p.ahead = omega (arith, within) in
    rw (all, lt-ltb (length p.ahead) n short) refl

shorter : (p : Place) (text : List ℕ) → IsCut p text → length p.ahead < length text
shorter p text cut = omega (arith, ap length cut.parts, length-append p.ahead cut.more, cut.some)

pub reads_bytes : (bytes : List ℕ) → ReadsAs (bytes_at (length bytes)) bytes bytes
reads_bytes bytes = record {
  again = λ p after takes. bytes_again p after bytes takes;
  cut = λ p cut. let short = shorter p bytes cut in
      bytes_cut (length bytes) p short (omega (arith, short, cut.within));
}

pub reads_byte : (b : ℕ) → ReadsAs byte_at (b ∷ []) b
unfolding byte_at
reads_byte b = record {
  again = λ p after takes. byte_again p after b takes;
  cut = λ p cut.
      let short = shorter p (b ∷ []) cut in
      let bad : bytes_at 1 p ≡ Err (end_of p) = bytes_cut 1 p short (omega (arith, short, cut.within)) in
      rw bad refl;
}

pub reads_word : (n : ℕ) → n < 2 ^ 32 → ReadsAs word_at (to_le_bytes w32 n) n
unfolding word_at
reads_word n fits = record {
  again = λ p after takes. word_again p after n fits takes;
  cut = λ p cut.
      let short = shorter p (to_le_bytes w32 n) cut in
      let bad : bytes_at 4 p ≡ Err (end_of p) = bytes_cut 4 p short (omega (arith, short, cut.within)) in
      rw bad refl;
}

-- of a varint that isn't whole one byte more than there are is wanted
length_cut : (most n : ℕ) (xs more : List ℕ) → varint_within most n ≡ xs ++ more → 1 ≤ length more
    → varint_length most xs ≡ suc (length xs)
length_cut zero n xs more same some = absurd (let size : 0 ≡ length xs + length more = ap length same
    ∙ length-append xs more in omega (arith, some, size))
length_cut (suc most) n [] more same some = refl
length_cut (suc most) n (x ∷ xs) more same some = by_test (ltb n 128) refl
    (λ rest. length_cut most (n / 128) xs more rest some) same
  where
    by_test : (t : Bool) → ltb n 128 ≡ t
        → (varint_within most (n / 128) ≡ xs ++ more → varint_length most xs ≡ suc (length xs))
        → cond t (n ∷ []) ((128 + n % 128) ∷ varint_within most (n / 128)) ≡ x ∷ (xs ++ more)
        → varint_length (suc most) (x ∷ xs) ≡ suc (length (x ∷ xs))
    by_test true small behind same =
        let rest : [] ≡ xs ++ more = cc in
        absurd (let size : 0 ≡ length xs + length more = ap length rest ∙ length-append xs more in
        omega (arith, some, size))
    by_test false large behind same =
        let head : 128 + n % 128 ≡ x = cc in
        let rest : varint_within most (n / 128) ≡ xs ++ more = cc in
        let high : ltb x 128 ≡ false = le-ltb x 128 (omega (arith, head)) in
        rw (high, behind rest) (omega arith)

pub reads_varint : (n : ℕ) → n < 2 ^ 64 → ReadsAs varint_at (varint n) n
unfolding varint varint_at varint_bytes_at
reads_varint n fits = record {
  again = λ p after takes. varint_again p after n fits takes;
  cut = λ p cut.
      let short = shorter p (varint_within 10 n) cut in
      let wanted = length_cut 10 n p.ahead cut.more cut.parts cut.some in
      let bad : bytes_at (varint_length 10 p.ahead) p ≡ Err (end_of p) =
      bytes_cut (varint_length 10 p.ahead) p (omega (arith, wanted)) (omega (arith, short, cut.within)) in
      rw bad refl;
}
