-- The bytes of a head, handed out one by one: they are those that are read at once, and are bad at the same offset.
use Rattle.std.proofs.Common.{◌≡◌, ℕ, zero, suc, ◌+◌, ◌-◌, ◌^◌, ◌<◌, ◌≤◌, min, leb, cond, arith, refl, ◌∙◌}
use Rattle.std.proofs.Common.{List, [], ◌∷◌, ◌++◌, length, take, Bool, true, false, Option, None, Some, Result, Ok, Err, ⊎_elim}
use Rattle.std.proofs.lemmas.Bool.{lt-ltb, le-ltb, cases_lt}
use Rattle.cx_codec.specs.Checks.{checked, is_between}
use Rattle.cx_codec.specs.Fields.{byte_at, bytes_at, varint_at, word_at}
use Rattle.cx_codec.specs.Place.{Place, Reader, advance, bad, done, read_on, room}
use Rattle.cx_codec.proofs.Composing.{done_same}
use Rattle.cx_codec.proofs.Parts.{same_place}
use Rattle.cx_codec.proofs.ReadOnce.{bytes_once}
use Rattle.cx_slices.specs.Bytes.{Byte}
use Rattle.cx_slices.specs.Stretches.{Stretch, bytes_from, bytes_of_stretches}
use Rattle.cx_slicefmt.specs.Reading.{run_at, runs_at}
use Rattle.cx_slicefmt.proofs.Runs.{lies_between, placed, sized}
use Rattle.cx_callfmt.specs.Handing.{Handed, Pending, next_by, next_byte_at, next_in, next_run, rest_at, rest_behind}

-- ---- bytes one by one

abbrev with_byte : ℕ → ℕ → Reader (List ℕ)
with_byte n b p = read_on (bytes_at n p) (λ bs. done (b ∷ bs))

bytes_short : (n : ℕ) (p : Place) → room p < n → bytes_at n p ≡ Err (p.at + room p)
unfolding bytes_at
bytes_short n p short = rw (lt-ltb (room p) n short) refl

bytes_there : (n : ℕ) (p : Place) → n ≤ room p → bytes_at n p ≡ Ok (take n p.ahead, advance n p)
unfolding bytes_at
bytes_there n p enough = rw (le-ltb (room p) n enough) refl

pub no_bytes : (p : Place) → bytes_at 0 p ≡ Ok ([], p)
no_bytes p = let same : advance 0 p ≡ p = same_place (advance 0 p) p (omega arith) refl refl in
    bytes_there 0 p (omega arith) ∙ rw same refl

-- none can be taken,
one_short : (n : ℕ) (p : Place) → room p < 1 → bytes_at (suc n) p ≡ read_on (byte_at p) (with_byte n)
unfolding byte_at
one_short n p none = rw (bytes_short (suc n) p (omega (arith, none)), bytes_short 1 p none) refl

-- or one can.
one_there : (at limit b : ℕ) (bs : List ℕ) → 1 ≤ limit - at
    → byte_at (record { at = at; limit = limit; ahead = b ∷ bs })
    ≡ Ok (b, record { at = at + 1; limit = limit; ahead = bs })
unfolding byte_at
one_there at limit b bs within =
    rw (bytes_there 1 (record { at = at; limit = limit; ahead = b ∷ bs }) (omega (arith, within))) refl

one_more : (n at limit b : ℕ) (bs : List ℕ) → 1 ≤ limit - at
    → bytes_at (suc n) (record { at = at; limit = limit; ahead = b ∷ bs })
    ≡ with_byte n b (record { at = at + 1; limit = limit; ahead = bs })
one_more n at limit b bs within =
    let p : Place = record { at = at; limit = limit; ahead = b ∷ bs } in
    let q : Place = record { at = at + 1; limit = limit; ahead = bs } in
    ⊎_elim (λ (short : room q < n).
    let same : at + 1 + room q ≡ at + room p = omega (arith, within) in
    rw (bytes_short n q short, bytes_short (suc n) p (omega (arith, short, within)), same) refl)
    (λ (enough : n ≤ room q).
    let same : advance (suc n) p ≡ advance n q = same_place (advance (suc n) p) (advance n q) (omega arith) refl refl in
    rw (bytes_there n q enough, bytes_there (suc n) p (omega (arith, enough, within)), same) refl)
    (cases_lt (room q) n)

by_ahead : (n at limit : ℕ) (ahead : List ℕ)
    → bytes_at (suc n) (record { at = at; limit = limit; ahead = ahead })
    ≡ read_on (byte_at (record { at = at; limit = limit; ahead = ahead })) (with_byte n)
by_ahead n at limit [] = one_short n (record { at = at; limit = limit; ahead = [] }) (omega arith)
by_ahead n at limit (b ∷ bs) =
    ⊎_elim (λ (short : limit - at < 1). one_short n (record { at = at; limit = limit; ahead = b ∷ bs })
    (omega (arith, short)))
    (λ (within : 1 ≤ limit - at). rw (one_there at limit b bs within) (one_more n at limit b bs within))
    (cases_lt (limit - at) 1)

pub bytes_one_by_one : (n : ℕ) (p : Place) → bytes_at (suc n) p ≡ read_on (byte_at p) (with_byte n)
bytes_one_by_one n p = by_ahead n p.at p.limit p.ahead

-- ---- the next byte, and the rest

-- what is left of the runs, behind some bytes of the first
abbrev with_runs : ℕ → ℕ → ℕ → ℕ → List ℕ → Reader (List Byte)
with_runs most va runs least bytes p =
    read_on (runs_at most runs least p) (λ ss. done (bytes_from va bytes ++ bytes_of_stretches ss))

runs_behind : (va b : ℕ) (bs : List ℕ) (r : Result (List Stretch × Place) ℕ)
    → read_on r (λ ss. done (bytes_from va (b ∷ bs) ++ bytes_of_stretches ss))
    ≡ read_on (read_on r (λ ss. done (bytes_from (va + 1) bs ++ bytes_of_stretches ss))) (λ es. done ((va, b) ∷ es))
runs_behind va b bs (Ok x) = refl
runs_behind va b bs (Err o) = refl

bytes_behind : (most va runs least b : ℕ) (r : Result (List ℕ × Place) ℕ)
    → read_on (read_on r (λ bs. done (b ∷ bs))) (with_runs most va runs least)
    ≡ read_on (read_on r (with_runs most (va + 1) runs least)) (λ es. done ((va, b) ∷ es))
bytes_behind most va runs least b (Ok x) = runs_behind va b x.0 (runs_at most runs least x.1)
bytes_behind most va runs least b (Err o) = refl

byte_behind : (most va n runs least : ℕ) (r : Result (ℕ × Place) ℕ)
    → read_on (read_on r (with_byte n)) (with_runs most va runs least)
    ≡ read_on (read_on r (λ b. done (Some (record {
      byte = (va, b);
      left = record { va = va + 1; size = n; runs = runs; least = least };
    })))) (rest_behind most)
unfolding rest_at
byte_behind most va n runs least (Ok x) = bytes_behind most va runs least x.0 (bytes_at n x.1)
byte_behind most va n runs least (Err o) = refl

in_run : (most va n runs least : ℕ) (p : Place)
    → read_on (bytes_at (suc n) p) (with_runs most va runs least)
    ≡ read_on (next_in va n runs least p) (rest_behind most)
unfolding next_in
in_run most va n runs least p =
    rw (bytes_one_by_one n p) (byte_behind most va n runs least (byte_at p))

-- ---- the next run

abbrev all_of : List Stretch → Reader (List Byte)
all_of ss = done (bytes_of_stretches ss)

abbrev behind_first : ℕ → ℕ → Stretch → Reader (List Stretch)
behind_first most n s p = read_on (runs_at most n (s.va + length s.bytes + 1) p) (λ rest. done (s ∷ rest))

first_behind : (s : Stretch) (r : Result (List Stretch × Place) ℕ)
    → read_on (read_on r (λ rest. done (s ∷ rest))) all_of
    ≡ read_on r (λ ss. done (bytes_from s.va s.bytes ++ bytes_of_stretches ss))
first_behind s (Ok x) = refl
first_behind s (Err o) = refl

contents_behind : (most va n size : ℕ) (r : Result (List ℕ × Place) ℕ)
    → ((bytes : List ℕ) (q : Place) → r ≡ Ok (bytes, q) → length bytes ≡ size)
    → read_on (read_on (read_on r (λ bytes. done (record { va = va; bytes = bytes }))) (behind_first most n)) all_of
    ≡ read_on r (with_runs most va n (va + size + 1))
contents_behind most va n size (Ok x) long =
    rw (← long x.0 x.1 refl)
    (first_behind (record { va = va; bytes = x.0 }) (runs_at most n (va + length x.0 + 1) x.1))
contents_behind most va n size (Err o) long = refl

one_run : (most va n size : ℕ) (q : Place) → 1 ≤ size
    → read_on (read_on (sized va size q) (behind_first most n)) all_of
    ≡ read_on (next_in va (size - 1) n (va + size + 1) q) (rest_behind most)
one_run most va n zero q some = absurd (omega (arith, some))
one_run most va n (suc m) q some =
    let less : suc m - 1 ≡ m = omega arith in
    rw less (contents_behind most va n (suc m) (bytes_at (suc m) q) (λ bytes r read. (bytes_once (suc m) q r bytes read).count)
    ∙ in_run most va m n (va + suc m + 1) q)

-- a field that passes its test
passes : (test : ℕ → Bool) (field : Reader ℕ) (p q : Place) (n : ℕ) → checked test field p ≡ Ok (n, q) → test n ≡ true
passes test field p q n read = by_field (field p) read
  where
    by_test : (t : Bool) (v : ℕ) (at : Place) → test v ≡ t
        → cond {A = Reader ℕ} t (done v) (bad p.at) at ≡ Ok (n, q) → test n ≡ true
    by_test true v at good read = let same = done_same v n at q read in rw (← same.0) good
    by_test false v at good read = cc

    by_field : (r : Result (ℕ × Place) ℕ)
        → read_on r (λ v. cond {A = Reader ℕ} (test v) (done v) (bad p.at)) ≡ Ok (n, q) → test n ≡ true
    by_field (Ok x) read = by_test (test x.0) x.0 x.1 refl read
    by_field (Err o) read = cc

abbrev next_sized : ℕ → ℕ → ℕ → Reader (Option Handed)
next_sized n va size p = next_in va (size - 1) n (va + size + 1) p

abbrev next_placed : ℕ → ℕ → ℕ → Reader (Option Handed)
next_placed most n va p = read_on (checked (is_between 1 (min most (2 ^ 32 - va))) varint_at p) (next_sized n va)

size_behind : (most va n : ℕ) (r : Result (ℕ × Place) ℕ)
    → ((size : ℕ) (q : Place) → r ≡ Ok (size, q) → is_between 1 (min most (2 ^ 32 - va)) size ≡ true)
    → read_on (read_on (read_on r (sized va)) (behind_first most n)) all_of
    ≡ read_on (read_on r (next_sized n va)) (rest_behind most)
size_behind most va n (Ok x) good =
    one_run most va n x.0 x.1 (lies_between 1 (min most (2 ^ 32 - va)) x.0 (good x.0 x.1 refl)).0
size_behind most va n (Err o) good = refl

va_behind : (most n : ℕ) (r : Result (ℕ × Place) ℕ)
    → read_on (read_on (read_on r (placed most)) (behind_first most n)) all_of
    ≡ read_on (read_on r (next_placed most n)) (rest_behind most)
va_behind most n (Ok x) = size_behind most x.0 n (checked (is_between 1 (min most (2 ^ 32 - x.0))) varint_at x.1)
    (λ size q read. passes (is_between 1 (min most (2 ^ 32 - x.0))) varint_at x.1 q size read)
va_behind most n (Err o) = refl

at_run : (most n least : ℕ) (p : Place)
    → read_on (runs_at most (suc n) least p) all_of ≡ read_on (next_run most n least p) (rest_behind most)
unfolding run_at next_run
at_run most n least p = va_behind most n (checked (λ w. leb least w) word_at p)

-- ---- all of them

rest_by : (most va size runs least : ℕ) (p : Place)
    → read_on (bytes_at size p) (with_runs most va runs least)
    ≡ read_on (next_by most va size runs least p) (rest_behind most)
rest_by most va (suc n) runs least p = in_run most va n runs least p
rest_by most va zero (suc n) least p = rw (no_bytes p) (at_run most n least p)
rest_by most va zero zero least p = rw (no_bytes p) refl

pub rest_is_next : (most : ℕ) (w : Pending) (p : Place)
    → rest_at most w p ≡ read_on (next_byte_at most w p) (rest_behind most)
unfolding rest_at next_byte_at
rest_is_next most w p = rest_by most w.va w.size w.runs w.least p

-- ---- by what is left

pub next_is_in : (most : ℕ) (w : Pending) (p : Place) → 0 < w.size
    → next_byte_at most w p ≡ next_in w.va (w.size - 1) w.runs w.least p
unfolding next_byte_at
next_is_in most w p some = by_size w.size some
  where
    by_size : (size : ℕ) → 0 < size
        → next_by most w.va size w.runs w.least p ≡ next_in w.va (size - 1) w.runs w.least p
    by_size zero some = absurd (omega (arith, some))
    by_size (suc n) some = let less : suc n - 1 ≡ n = omega arith in rw less refl

pub next_is_run : (most : ℕ) (w : Pending) (p : Place) → w.size ≤ 0 → 0 < w.runs
    → next_byte_at most w p ≡ next_run most (w.runs - 1) w.least p
unfolding next_byte_at
next_is_run most w p none some = by_parts w.size w.runs none some
  where
    by_parts : (size runs : ℕ) → size ≤ 0 → 0 < runs
        → next_by most w.va size runs w.least p ≡ next_run most (runs - 1) w.least p
    by_parts (suc n) runs none some = absurd (omega (arith, none))
    by_parts zero zero none some = absurd (omega (arith, some))
    by_parts zero (suc n) none some = let less : suc n - 1 ≡ n = omega arith in rw less refl

pub next_is_none : (most : ℕ) (w : Pending) (p : Place) → w.size ≤ 0 → w.runs ≤ 0
    → next_byte_at most w p ≡ Ok (None, p)
unfolding next_byte_at
next_is_none most w p none last = by_parts w.size w.runs none last
  where
    by_parts : (size runs : ℕ) → size ≤ 0 → runs ≤ 0 → next_by most w.va size runs w.least p ≡ Ok (None, p)
    by_parts (suc n) runs none last = absurd (omega (arith, none))
    by_parts zero (suc n) none last = absurd (omega (arith, last))
    by_parts zero zero none last = refl
