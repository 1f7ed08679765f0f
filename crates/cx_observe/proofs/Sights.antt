-- Bytes that are seen, as they come and in order.
use Rattle.std.proofs.Common.{◌≡◌, ℕ, true, List, [], ◌∷◌, ◌++◌, Option, None, Some, is_some, refl, sym, ap, ◌∙◌, ⊎_elim}
use Rattle.cx_slices.specs.Bytes.{Byte, Map, Shows, byte_found, sorted}
use Rattle.cx_slices.proofs.Bytes.{BytesRise-sorted, Shows-at, Shows-from, byte_found-here, byte_found-other}
use Rattle.cx_slices.proofs.Bytes.{byte_found-sorted}
use Rattle.std.proofs.lemmas.Bool.{cases_eq}

pub Shows-append : (map : Map) (es fs : List Byte) → Shows map es → Shows map fs → Shows map (es ++ fs)
Shows-append map [] fs first second = second
Shows-append map (e ∷ es) fs first second = (first.0, Shows-append map es fs first.1 second)

pub Shows-front : (map : Map) (es fs : List Byte) → Shows map (es ++ fs) → Shows map es
Shows-front map [] fs shows = tt
Shows-front map (e ∷ es) fs shows = (shows.0, Shows-front map es fs shows.1)

pub Shows-behind : (map : Map) (es fs : List Byte) → Shows map (es ++ fs) → Shows map fs
Shows-behind map [] fs shows = shows
Shows-behind map (e ∷ es) fs shows = Shows-behind map es fs shows.1

pub Shows-sorted : (map : Map) (es : List Byte) → Shows map es → Shows map (sorted es)
Shows-sorted map es shows = Shows-from map 0 (sorted es) (BytesRise-sorted es)
    (λ a b found. Shows-at map es a b shows (sym (byte_found-sorted es a) ∙ found))

-- Where another map has all that the list has, it shows what the list shows of itself.
pub Shows-through : (map other : Map) (es : List Byte) → ((a b : ℕ) → map a ≡ Some b → other a ≡ Some b) → Shows map es
    → Shows other es
Shows-through map other [] through shows = tt
Shows-through map other (e ∷ es) through shows =
    (through e.0 e.1 shows.0, Shows-through map other es through shows.1)

pub Shows-from_sorted : (map : Map) (es : List Byte) → Shows (byte_found es) es → Shows map (sorted es) → Shows map es
Shows-from_sorted map es agree shows = Shows-through (byte_found es) map es
    (λ a b found. Shows-at map (sorted es) a b shows (byte_found-sorted es a ∙ found)) agree

-- A list of which a map shows each byte has one byte at each address.
one_byte : (map : Map) (all : List Byte) (e : Byte) (found : Option ℕ) → Shows map all → map e.0 ≡ Some e.1
    → byte_found all e.0 ≡ found → is_some found ≡ true → byte_found all e.0 ≡ Some e.1
one_byte map all e None shows has is there = cc
one_byte map all e (Some b) shows has is there =
    is ∙ (sym (Shows-at map all e.0 b shows is) ∙ has)

still_there : (e : Byte) (es : List Byte) (a : ℕ) → is_some (byte_found es a) ≡ true
    → is_some (byte_found (e ∷ es) a) ≡ true
still_there e es a there = ⊎_elim
    (λ here. ap is_some (ap (byte_found (e ∷ es)) (sym here) ∙ byte_found-here e.0 e.1 es))
    (λ other. ap is_some (byte_found-other e es a other) ∙ there)
    (cases_eq e.0 a)

agree_by : (map : Map) (all es : List Byte) → Shows map all → Shows map es
    → ((a : ℕ) → is_some (byte_found es a) ≡ true → is_some (byte_found all a) ≡ true) → Shows (byte_found all) es
agree_by map all [] whole shows more = tt
agree_by map all (e ∷ es) whole shows more = (
  one_byte map all e (byte_found all e.0) whole shows.0 refl (more e.0 (ap is_some (byte_found-here e.0 e.1 es))),
  agree_by map all es whole shows.1 (λ a there. more a (still_there e es a there)),
)

pub Shows-agree : (map : Map) (es : List Byte) → Shows map es → Shows (byte_found es) es
Shows-agree map es shows = agree_by map es es shows shows (λ a there. there)
