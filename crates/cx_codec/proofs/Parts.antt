-- Parts of lists: a window that begins later, and bytes that are moved from the front of a place.
use Rattle.std.proofs.Common.{
  ◌≡◌,
  ℕ,
  ◌+◌,
  ◌-◌,
  ◌≤◌,
  List,
  ◌++◌,
  length,
  take,
  drop,
  min,
  arith,
  refl,
  ap,
  sym,
  ◌∙◌,
  length-drop,
}
use Rattle.std.proofs.lemmas.List.{drop-take, drop-drop, drop-append-le}
use Rattle.std.proofs.Math.Seq.{take-add}
use Rattle.cx_codec.specs.Place.{Place, room, advance}
use Rattle.cx_codec.specs.Window.{items_between, Moves}

-- a window that begins n later is what follows its first n
pub items_between-later : (block : List ℕ) (start end n : ℕ) → start + n ≤ end
    → items_between block (start + n) end ≡ drop n (items_between block start end)
items_between-later block start end n h =
    let e : end - start ≡ n + (end - (start + n)) = omega arith in
    let f : drop (start + n) block ≡ drop n (drop start block) = sym (drop-drop n start block) in
    rw (e, f, drop-take) refl

pub ruleset later = items_between-later

-- a place by its parts
pub same_place : (p q : Place) → p.at ≡ q.at → p.limit ≡ q.limit → p.ahead ≡ q.ahead → p ≡ q
same_place p q at limit ahead = let whole : record { at = p.at; limit = p.limit; ahead = p.ahead } ≡ q =
    rw (at, limit, ahead) refl in whole

-- nothing yet
pub none_moved : (into : List ℕ) (p : Place) → Moves into 0 p p
none_moved into p = record
    { enough = omega arith; front = refl; now = same_place p (advance 0 p) (omega arith) refl refl }

-- n more bytes
pub more_moved : (into into' : List ℕ) (k n : ℕ) (p q : Place) → Moves into k p q → n ≤ length q.ahead
    → k + n ≤ p.limit - p.at
    → take (k + n) into' ≡ take k into ++ take n q.ahead → Moves into' (k + n) p (advance n q)
more_moved into into' k n p q before within room moved =
    let ahead : q.ahead ≡ drop k p.ahead = ap (λ (x : Place). x.ahead) before.now in
    let there : q.at ≡ p.at + k = ap (λ (x : Place). x.at) before.now in
    let lengths : length q.ahead ≡ length p.ahead - k = ap length ahead ∙ length-drop k p.ahead in
    let enough : k ≤ min (p.limit - p.at) (length p.ahead) = before.enough in
    record {
      enough = omega arith;
      front = moved ∙ rw (before.front, ahead) (sym (take-add k n p.ahead));
      now = same_place (advance n q) (advance (k + n) p) (omega arith) (ap (λ (x : Place). x.limit) before.now)
          (ap (drop n) ahead ∙ drop-drop n k p.ahead);
    }

-- where those that wait stand in front of others
pub advance_front : (n at limit : ℕ) (ready more : List ℕ) → n ≤ length ready
    → advance n (record { at = at; limit = limit; ahead = ready ++ more }) ≡ record
    { at = at + n; limit = limit; ahead = drop n ready ++ more }
advance_front n at limit ready more within = rw (drop-append-le n ready more within) refl

-- how many are left
pub length_left : (into : List ℕ) (n : ℕ) (p after : Place) → Moves into n p after
    → length after.ahead + n ≡ length p.ahead
length_left into n p after moves =
    let left : length after.ahead ≡ length p.ahead - n = ap (λ (q : Place). length q.ahead) moves.now
    ∙ length-drop n p.ahead in
    omega (arith, moves.enough)
