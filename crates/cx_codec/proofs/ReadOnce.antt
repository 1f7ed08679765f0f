-- Where a field is read, its one spelling stands.
use Rattle.std.proofs.Common.{◌≡◌, ℕ, ◌<◌, ◌≤◌, ◌^◌, List, [], ◌∷◌, length, take, get_or, arith, refl, ap, sym, ◌∙◌, Ok}
use Rattle.std.proofs.lemmas.Bool.{le-ltb}
use Rattle.std.proofs.lemmas.List.{take-append-drop, length-take-le}
use Rattle.std.proofs.lemmas.Nat.{le_bytes_4}
use Rattle.std.specs.Int.{w32, to_le_bytes, from_le_bytes}
use Rattle.cx_codec.specs.Fields.{bytes_at, byte_at, word_at}
use Rattle.cx_codec.specs.Place.{Place, Takes, advance, done, room}
use Rattle.cx_codec.proofs.Composing.{bound, done_same}
use Rattle.cx_codec.proofs.Taking.{taken_held, same_read}
use Rattle.cx_codec.proofs.Texts.{bytes_taken, takes_along}
use Rattle.cx_map.specs.Bytes.{AreBytes}

-- bytes that were read are the first of those ahead
taken_is : (n : ℕ) (p : Place) → n ≤ room p → bytes_at n p ≡ Ok (take n p.ahead, advance n p)
unfolding bytes_at
taken_is n p enough = rw (le-ltb (room p) n enough) refl

pub record BytesThere (n : ℕ) (p : Place) (bytes : List ℕ) (after : Place) : Type 0 where
  pub count : length bytes ≡ n
  pub stand : Takes p bytes after

pub bytes_once : (n : ℕ) (p after : Place) (bytes : List ℕ) → bytes_at n p ≡ Ok (bytes, after)
    → BytesThere n p bytes after
bytes_once n p after bytes read =
    let enough = taken_held n p after bytes read in
    let same = same_read (bytes_at n p) bytes (take n p.ahead) after (advance n p) read (taken_is n p enough) in
    let size : length (take n p.ahead) ≡ n = length-take-le n p.ahead (omega arith) in
    rw (same.0, same.1) (record {
      count = size;
      stand = record {
        ahead = sym (take-append-drop n p.ahead);
        there = rw size refl;
        limit = refl;
        within =
            omega arith;
      };
    })

single : (bytes : List ℕ) → length bytes ≡ 1 → bytes ≡ get_or bytes 0 0 ∷ []
single [] one = absurd (omega arith)
single (b ∷ []) one = refl
single (b ∷ c ∷ bytes) one = absurd (omega arith)

pub byte_once : (p after : Place) (b : ℕ) → byte_at p ≡ Ok (b, after) → Takes p (b ∷ []) after
unfolding byte_at
byte_once p after b read =
    let parts = bound (bytes_at 1 p) (λ bytes. done (get_or bytes 0 0)) (b, after) read in
    let there = bytes_once 1 p parts.mid parts.value parts.read in
    let same = done_same (get_or parts.value 0 0) b parts.mid after parts.then in
    let text : parts.value ≡ b ∷ [] = single parts.value there.count ∙ ap (λ (n : ℕ). n ∷ []) same.0 in
    takes_along p parts.mid after parts.value (b ∷ []) text same.1 there.stand

pub word_once : (p after : Place) (n : ℕ) → AreBytes p.ahead → word_at p ≡ Ok (n, after)
    → Takes p (to_le_bytes w32 n) after × (n < 2 ^ 32)
unfolding word_at
word_once p after n are read =
    let parts = bound (bytes_at 4 p) (λ bytes. done (from_le_bytes w32 bytes)) (n, after) read in
    let there = bytes_once 4 p parts.mid parts.value parts.read in
    let same = done_same (from_le_bytes w32 parts.value) n parts.mid after parts.then in
    let bytes = bytes_taken p parts.mid parts.value are there.stand in
    let text : to_le_bytes w32 n ≡ parts.value = le_bytes_4 parts.value n there.count bytes (sym same.0) in (
      takes_along p parts.mid after parts.value (to_le_bytes w32 n) (sym text) same.1 there.stand,
      rw (← same.0) (omega (arith, bytes 0, bytes 1, bytes 2, bytes 3)),
    )
