-- A step alone.
use Rattle.std.proofs.Common.{◌≡◌, ℕ, zero, suc, ◌==◌, Bool, true, false, List, [], ◌∷◌, ◌++◌}
use Rattle.std.proofs.Common.{replicate, is_some, Option, None, Some, Result, Ok, Err, if◌then◌else◌}
use Rattle.std.proofs.Common.{refl, sym, ap, ◌∙◌}
use Rattle.std.proofs.Common.{eqb-true}
use Rattle.std.proofs.lemmas.Bool.{and_from, and_parts}
use Rattle.std.specs.Option.{option_or}
use Rattle.std.specs.Prelude.{option_and_then}
use Rattle.cx_observe.specs.Effects.{next_words}
use Rattle.cx_observe.specs.Seeing.{bytes_shown, seen_by, sights}
use Rattle.cx_observe.specs.Stepping.{step_of}
use Rattle.cx_observe.specs.User.{user}
use Rattle.cx_observe.specs.declared.obs.Obs.{Obs}
use Rattle.cx_observe.proofs.Faithful.{byte_found-append, step_of-took}
use Rattle.cx_observe.proofs.Sights.{Shows-sorted}
use Rattle.cx_slices.specs.Alone.{all_new, if_seen, step_alone}
use Rattle.cx_slices.specs.Bytes.{Byte, Map, Shows, all_there, byte_found, with_bytes}
use Rattle.cx_slices.specs.Items.{Items, Known, after, no_items}
use Rattle.cx_slices.specs.Words.{all_change, changed}
use Rattle.cx_slices.proofs.Bytes.{Shows-at}
use Rattle.cx_slices.proofs.Small.{none_is_some}
use Rattle.cx_slices.proofs.OneStep.{GoesAlone, step_alone-goes}
use Rattle.cx_alone.specs.Steps.{IsCarried, IsTaken, left_behind, with_items}
use Rattle.cx_alone.specs.declared.fault.Stop.{Stop}
use Rattle.cx_alone.specs.declared.fault.Stop.TheVariants as stop

pub same_map : (f g : Map) → ((a : ℕ) → f a ≡ g a) → f ≡ g
same_map f g h = λ i. λ a. h a i

-- ---- how it goes

goes_by : (w : Known) (i : Items ℕ) (new : Bool) → all_new w i ≡ new → step_alone user w i
    ≡ (if new then option_and_then (if_seen user i.bytes)
    (step_of (with_items w i).words (with_items w i).map i.given) else None)
goes_by w i new is = ap (λ (t : Bool). if t then option_and_then (if_seen user i.bytes)
    (step_of (with_items w i).words (with_items w i).map i.given) else None) is

pub goes_with_items : (w handed : Known) (i : Items ℕ) (stepped : Option Obs) → all_new w i ≡ true
    → handed ≡ with_items w i
    → option_and_then (if_seen user i.bytes) (step_of handed.words handed.map i.given) ≡ stepped
    → step_alone user w i ≡ stepped
goes_with_items w handed i stepped new is went = goes_by w i true new
    ∙ (ap (λ (k : Known). option_and_then (if_seen user i.bytes) (step_of k.words k.map i.given)) (sym is) ∙ went)

pub stands_already : (w : Known) (i : Items ℕ) → all_new w i ≡ false → step_alone user w i ≡ None
stands_already w i old = goes_by w i false old

-- ---- what it leaves

there_at : (seen items : List Byte) (a b : ℕ) → all_there seen items ≡ true → byte_found items a ≡ Some b
    → is_some (byte_found seen a) ≡ true
there_at seen [] a b there found = none_is_some b found
there_at seen (e ∷ items) a b there found =
    let parts : (is_some (byte_found seen e.0) ≡ true) × (all_there seen items ≡ true)
    = and_parts (is_some (byte_found seen e.0)) (all_there seen items) there in
    by_test (e.0 == a) refl parts.0 found (λ rest. there_at seen items a b parts.1 rest)
  where
    by_test : (t : Bool) → (e.0 == a) ≡ t → is_some (byte_found seen e.0) ≡ true
        → (if t then Some e.1 else byte_found items a) ≡ Some b
        → (byte_found items a ≡ Some b → is_some (byte_found seen a) ≡ true) → is_some (byte_found seen a) ≡ true
    by_test true is here found rest = ap (λ (n : ℕ). is_some (byte_found seen n)) (sym (eqb-true e.0 a is)) ∙ here
    by_test false is here found rest = rest found

false_is_true : false ≡ true → ⊥
false_is_true same = cc

-- Where all items are seen, what is seen stands once they were handed: putting it again changes nothing.
seen_stands : (items : List Byte) (map : Map) (seen : List Byte) → Shows (with_bytes items map) seen
    → all_there seen items ≡ true → (a : ℕ) → with_bytes seen map a ≡ with_bytes items map a
seen_stands items map seen shows there a = by_found (byte_found seen a) refl (byte_found items a) refl
  where
    by_found : (saw : Option ℕ) → byte_found seen a ≡ saw → (item : Option ℕ) → byte_found items a ≡ item
        → with_bytes seen map a ≡ with_bytes items map a
    by_found (Some b) is item it = ap (λ (x : Option ℕ). option_or x (map a)) is
        ∙ sym (Shows-at (with_bytes items map) seen a b shows is)
    by_found None is None it = ap (λ (x : Option ℕ). option_or x (map a)) (is ∙ sym it)
    by_found None is (Some b) it =
        absurd (false_is_true (sym (ap is_some is) ∙ there_at seen items a b there it))

or_or : (x y z : Option ℕ) → option_or (option_or x y) z ≡ option_or x (option_or y z)
or_or None y z = refl
or_or (Some b) y z = refl

written_over : (es fs : List Byte) (map : Map) → with_bytes es (with_bytes fs map) ≡ with_bytes (es ++ fs) map
written_over es fs map = same_map (with_bytes es (with_bytes fs map)) (with_bytes (es ++ fs) map)
    (λ a. sym (ap (λ x. option_or x (map a)) (byte_found-append es fs a)
    ∙ or_or (byte_found es a) (byte_found fs a) (map a)))

-- What a step left once these words and bytes were handed, all of which it sees, is what is known behind it.
pub left_as_after : (w handed now : Known) (words : List (Option ℕ)) (bytes : List Byte) (given : Option ℕ) (o : Obs)
    → step_of (changed w.words words) (with_bytes bytes w.map) given ≡ Some o → all_there (seen_by o) bytes ≡ true
    → handed ≡ record { words = changed w.words words; map = with_bytes bytes w.map } → now ≡ left_behind handed o
    → now ≡ after user w o
left_as_after w handed now words bytes given o goes there is left =
    let shows : Shows (with_bytes bytes w.map) (seen_by o) = Shows-sorted (with_bytes bytes w.map) (sights o)
    (step_of-took (changed w.words words) (with_bytes bytes w.map) given o goes).shows in
    let stands : with_bytes (seen_by o) w.map ≡ with_bytes bytes w.map
    = same_map (with_bytes (seen_by o) w.map) (with_bytes bytes w.map) (seen_stands bytes w.map (seen_by o) shows there) in
    left ∙ (ap (λ (k : Known). left_behind k o) is
    ∙ (ap (λ (m : Map). record { words = next_words o; map = with_bytes (bytes_shown o.write) m }) (sym stands)
    ∙ ap (λ (m : Map). record { words = next_words o; map = m })
    (written_over (bytes_shown o.write) (seen_by o) w.map)))

pub leaves : (w handed now : Known) (i : Items ℕ) (o : Obs) → step_alone user w i ≡ Some o → handed ≡ with_items w i
    → now ≡ left_behind handed o → now ≡ after user w o
leaves w handed now i o went is left =
    let goes : GoesAlone user w i o = step_alone-goes user w i o went in
    left_as_after w handed now i.words i.bytes i.given o goes.goes goes.there is left

-- ---- without items

pub none_change : (ws : List ℕ) (n : ℕ) → all_change ws (replicate n None) ≡ true
none_change [] zero = refl
none_change [] (suc n) = refl
none_change (w ∷ ws) zero = refl
none_change (w ∷ ws) (suc n) = none_change ws n

words_stay : (ws : List ℕ) (n : ℕ) → changed ws (replicate n None) ≡ ws
words_stay [] n = refl
words_stay (w ∷ ws) zero = refl
words_stay (w ∷ ws) (suc n) = ap (λ l. w ∷ l) (words_stay ws n)

pub nothing_new : (w : Known) → all_new {G = ℕ} w (no_items 32) ≡ true
nothing_new w = and_from (all_change w.words (replicate 32 None)) true (none_change w.words 32) refl

pub nothing_handed : (w : Known) → w ≡ with_items w (no_items 32)
nothing_handed w = ap (λ (ws : List ℕ). record { words = ws; map = w.map }) (sym (words_stay w.words 32))
    ∙ ap (λ (m : Map). record { words = changed w.words (replicate 32 None); map = m })
    (same_map w.map (with_bytes [] w.map) (λ a. refl))

-- ---- a step alone

pub taken : (w handed now : Known) (i : Items ℕ) (r : Result Obs Stop) → all_new w i ≡ true → handed ≡ with_items w i
    → IsCarried handed i.bytes i.given now r → IsTaken w i now r
taken w handed now i (Ok o) new is went =
    let goes : step_alone user w i ≡ Some o = goes_with_items w handed i (Some o) new is went.0 in
    (goes, leaves w handed now i o goes is went.1)
taken w handed now i (Err stop.Broken) new is went = goes_with_items w handed i None new is went
taken w handed now i (Err stop.NoMemory) new is went = tt
