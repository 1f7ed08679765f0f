-- The laws of loads and of writes on a flat list of bytes.
use Rattle.std.proofs.Common.{◌≡◌, ◌⊎◌, ℕ, zero, suc, ◌+◌, ◌*◌, ◌/◌, ◌%◌, ◌^◌, ◌<◌, ◌≤◌, List, length, refl, sym, inl}
use Rattle.std.proofs.Common.{inr, arith, add-zero, ◌++◌, ◌∙◌, take, drop, ap, length-append}
use Rattle.std.specs.Prelude.{slice_index}
use Rattle.std.proofs.lemmas.Grind.{common_steps}
use Rattle.std.proofs.lemmas.List.{append_assoc, take_at, drop_at, drop-drop, length-take-le}
use Rattle.std.proofs.Math.Nat.{mod-one}
use Rattle.std.proofs.lemmas.Nat.{mod-pow-add, pow-add}
use Rattle.cx_ram.specs.LittleEndian.{loaded, low_bytes, written, stored}
use Rattle.cx_ram.proofs.Writes.{length-low_bytes}

-- A load of the same bytes, wherever they stand.
pub loaded-moved : (m n : List ℕ) (i j len : ℕ)
    → ((k : ℕ) → k < len → slice_index m (i + k) ≡ slice_index n (j + k))
    → loaded m i len ≡ loaded n j len
unfolding loaded
loaded-moved m n i j zero agree = refl
loaded-moved m n i j (suc len) agree =
    let first : slice_index m i ≡ slice_index n j = rw (add-zero i, add-zero j) at (agree 0 (omega arith)) in
    let rest : loaded m (i + 1) len ≡ loaded n (j + 1) len =
    loaded-moved m n (i + 1) (j + 1) len (λ k below. let e : (i + 1) + k ≡ i + suc k = omega arith in
    let f : (j + 1) + k ≡ j + suc k = omega arith in
    rw (e, f) (agree (suc k) (omega arith))) in
    omega arith

-- A load depends on its own bytes alone.
pub loaded-agree : (m n : List ℕ) (i len : ℕ) → ((k : ℕ) → k < len → slice_index m (i + k) ≡ slice_index n (i + k))
    → loaded m i len ≡ loaded n i len
loaded-agree m n i len agree = loaded-moved m n i i len agree

pub length-written : (m : List ℕ) (i : ℕ) (bytes : List ℕ) → i + length bytes ≤ length m
    → length (written m i bytes) ≡ length m
unfolding written
length-written m i bytes within = grind (arith, common_steps)

pub slice_index-written_outside : (m : List ℕ) (i : ℕ) (bytes : List ℕ) (k : ℕ) → i + length bytes ≤ length m
    → (k < i) ⊎ (i + length bytes ≤ k)
    → slice_index (written m i bytes) k ≡ slice_index m k
unfolding written
slice_index-written_outside m i bytes k within outside = grind (arith, common_steps)

pub slice_index-written : (m : List ℕ) (i : ℕ) (bytes : List ℕ) (k : ℕ) → i + length bytes ≤ length m → k < length bytes
    → slice_index (written m i bytes) (i + k) ≡ slice_index bytes k
unfolding written
slice_index-written m i bytes k within here = grind (arith, common_steps)

-- A load beside a write gives what it gave before.
pub loaded-written_outside : (m : List ℕ) (i : ℕ) (bytes : List ℕ) (at size : ℕ) → i + length bytes ≤ length m
    → (at + size ≤ i) ⊎ (i + length bytes ≤ at) → loaded (written m i bytes) at size ≡ loaded m at size
loaded-written_outside m i bytes at size within outside =
    loaded-agree (written m i bytes) m at size
    (λ k here. let beside : (at + k < i) ⊎ (i + length bytes ≤ at + k) =
    elim outside [ inl below ↦ inl (omega arith) | inr above ↦ inr (omega arith) ] in
    slice_index-written_outside m i bytes (at + k) within beside)

-- Where the low bytes of a value stand in a list, a load of them gives the value's low bits.
loaded-low_bytes : (m : List ℕ) (i len value : ℕ)
    → ((k : ℕ) → k < len → slice_index m (i + k) ≡ slice_index (low_bytes len value) k)
    → loaded m i len ≡ value % 2 ^ (8 * len)
unfolding loaded low_bytes
loaded-low_bytes m i zero value agree = sym (mod-one value)
loaded-low_bytes m i (suc len) value agree =
    let first : slice_index m i ≡ value % 256 = rw add-zero at (agree 0 (omega arith)) in
    let rest : loaded m (i + 1) len ≡ (value / 256) % 2 ^ (8 * len) =
    loaded-low_bytes m (i + 1) len (value / 256) (λ k below. let e : (i + 1) + k ≡ i + suc k = omega arith in
    rw e (agree (suc k) (omega arith))) in
    let width : 8 * suc len ≡ 8 * len + 8 = omega arith in
    rw (width, mod-pow-add value (8 * len) 8, first, rest) (omega arith)

pub loaded-stored : (m : List ℕ) (i len value : ℕ) → i + len ≤ length m → loaded (stored m i len value) i len
    ≡ value % 2 ^ (8 * len)
unfolding stored
loaded-stored m i len value within =
    let size : length (low_bytes len value) ≡ len = length-low_bytes len value in
    loaded-low_bytes (stored m i len value) i len value
    (λ k below. slice_index-written m i (low_bytes len value) k (omega arith) (omega arith))

pub length-stored : (m : List ℕ) (i len value : ℕ) → i + len ≤ length m → length (stored m i len value) ≡ length m
unfolding stored
length-stored m i len value within =
    let size : length (low_bytes len value) ≡ len = length-low_bytes len value in
    length-written m i (low_bytes len value) (omega arith)

pub slice_index-stored : (m : List ℕ) (i len value k : ℕ) → i + len ≤ length m → k < len
    → slice_index (stored m i len value) (i + k) ≡ slice_index (low_bytes len value) k
unfolding stored
slice_index-stored m i len value k within here =
    slice_index-written m i (low_bytes len value) k (rw (length-low_bytes len value) within)
    (rw (length-low_bytes len value) here)

pub slice_index-stored_outside : (m : List ℕ) (i len value k : ℕ) → i + len ≤ length m → (k < i) ⊎ (i + len ≤ k)
    → slice_index (stored m i len value) k ≡ slice_index m k
unfolding stored
slice_index-stored_outside m i len value k within outside =
    slice_index-written_outside m i (low_bytes len value) k (rw (length-low_bytes len value) within)
    (rw (length-low_bytes len value) outside)

pub loaded-stored_outside : (m : List ℕ) (i len value at size : ℕ) → i + len ≤ length m → (at + size ≤ i)
    ⊎ (i + len ≤ at)
    → loaded (stored m i len value) at size ≡ loaded m at size
unfolding stored
loaded-stored_outside m i len value at size within outside =
    loaded-written_outside m i (low_bytes len value) at size (rw (length-low_bytes len value) within)
    (rw (length-low_bytes len value) outside)

-- A load of bytes has no bits above theirs.
pub loaded-fits : (m : List ℕ) (i len : ℕ) → ((k : ℕ) → k < len → slice_index m (i + k) < 256)
    → loaded m i len < 2 ^ (8 * len)
unfolding loaded
loaded-fits m i zero fits = omega arith
loaded-fits m i (suc len) fits =
    let first : slice_index m i < 256 = rw add-zero at (fits 0 (omega arith)) in
    let rest : loaded m (i + 1) len < 2 ^ (8 * len) =
    loaded-fits m (i + 1) len (λ k below. let e : (i + 1) + k ≡ i + suc k = omega arith in
    rw e (fits (suc k) (omega arith))) in
    let width : 8 * suc len ≡ 8 * len + 8 = omega arith in
    rw (width, pow-add 2 (8 * len) 8) (omega arith)

-- Two writes, the second behind the first.
pub written-parts : (m : List ℕ) (i : ℕ) (one two : List ℕ) → i + length one ≤ length m
    → written (written m i one) (i + length one) two ≡ written m i (one ++ two)
unfolding written
written-parts m i one two within =
    let n : ℕ = i + length one in
    let front : List ℕ = take i m ++ one in
    let rest : List ℕ = drop n m in
    let size : length front ≡ n = length-append (take i m) one ∙ ap (λ (k : ℕ). k + length one) (length-take-le i m
    (omega arith)) in
    let joined : take i m ++ (one ++ rest) ≡ front ++ rest = sym (append_assoc (take i m) one rest) in
    let before : take n (take i m ++ (one ++ rest)) ≡ front = ap (take n) joined ∙ take_at front rest n size in
    let past : drop n (take i m ++ (one ++ rest)) ≡ rest = ap (drop n) joined ∙ drop_at front rest n size in
    let behind : drop (n + length two) (take i m ++ (one ++ rest)) ≡ drop (i + length (one ++ two)) m =
    sym (drop-drop (length two) n (take i m ++ (one ++ rest))) ∙ ap (drop (length two)) past
    ∙ drop-drop (length two) n m
    ∙ ap (λ (k : ℕ). drop k m) (omega (arith, length-append one two)) in
    rw (before, behind)
    (append_assoc (take i m) one (two ++ drop (i + length (one ++ two)) m)
    ∙ ap (λ (l : List ℕ). take i m ++ l) (sym (append_assoc one two (drop (i + length (one ++ two)) m))))
