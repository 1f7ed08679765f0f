-- What is known goes on by a step.
use Rattle.std.proofs.Common.{◌≡◌, ℕ, suc, ◌+◌, ◌^◌, ◌≤◌, ◌==◌, ◌&&◌, Bool, true, false, not, List, [], ◌∷◌, ◌++◌, length, Option, None, Some}
use Rattle.std.proofs.Common.{is_none, if◌then◌else◌, refl, sym, ap, subst, ◌∙◌, arith, eq-eqb}
use Rattle.std.proofs.Math.Logic.{∥∥₁_elim}
use Rattle.std.proofs.lemmas.Bool.{and_from}
use Rattle.std.proofs.lemmas.List.{append-nil}
use Rattle.std.specs.List.{list_all}
use Rattle.std.specs.Option.{option_or}
use denote.Struct.Props.{props}
use Rattle.cx_observe.proofs.Fitting.{first_group}
use Rattle.cx_observe.proofs.Sights.{Shows-sorted}
use Rattle.cx_observe.specs.Effects.{next_words, program_words}
use Rattle.cx_observe.specs.Seeing.{bytes_shown, seen_by, sights}
use Rattle.cx_observe.specs.User.{user}
use Rattle.cx_observe.specs.declared.obs.Obs.{Obs}
use Rattle.cx_process.specs.Slicing.{IsForSome, IsSlicing, added_text, step_text}
use Rattle.cx_program.specs.Knowing.{IsKnown}
use Rattle.cx_slicefmt.specs.Rules.{IsEnd}
use Rattle.cx_slicefmt.specs.Text.{group_text, groups_text, least_behind, slice_body, slice_end_text, slice_magic}
use Rattle.cx_slices.proofs.Bytes.{Shows-at, is_byte-at}
use Rattle.cx_slices.proofs.Groups.{GroupsRise-groups_from, groups_are_below}
use Rattle.cx_slices.proofs.Streams.{groups_of-push}
use Rattle.cx_slices.specs.Bytes.{Byte, Map, Shows, byte_found, missing, with_bytes}
use Rattle.cx_slices.specs.Groups.{Group, GroupsBelow, GroupsRise, groups_from, groups_of}
use Rattle.cx_slices.specs.Items.{Known, after, are_none, is_nil, items_at, items_of, known_at, start}
use Rattle.cx_slices.specs.Observed.{Watch}
use Rattle.cx_slices.specs.Words.{changes}

pub same_map : (f g : Map) → ((a : ℕ) → f a ≡ g a) → f ≡ g
same_map f g h = λ i. λ a. h a i

-- ---- where all stands there are no items

no_changes : (ws : List ℕ) → list_all is_none (changes ws ws) ≡ true
no_changes [] = refl
no_changes (w ∷ ws) = and_from (is_none (if w == w then None else Some w)) (list_all is_none (changes ws ws))
    (ap (λ (t : Bool). is_none (if t then None else Some w)) (eq-eqb w w refl)) (no_changes ws)

pub none_missing : (map : Map) (es : List Byte) → Shows map es → missing map es ≡ []
none_missing map [] shows = refl
none_missing map (e ∷ es) shows =
    ap (λ t. if not t then e ∷ missing map es else missing map es) (is_byte-at (map e.0) e.1 shows.0)
    ∙ none_missing map es shows.1

pub no_items_at : (w : Known) (o : Obs) → IsKnown w o → are_none (items_at user w o) ≡ true
no_items_at w o known =
    and_from (list_all is_none (changes w.words (program_words o.pc o.x)))
    (is_nil (missing w.map (seen_by o)) && is_none o.value)
    (ap (λ ws. list_all is_none (changes w.words ws)) (sym known.words) ∙ no_changes w.words)
    (and_from (is_nil (missing w.map (seen_by o))) (is_none o.value)
    (ap is_nil (none_missing w.map (seen_by o) (Shows-sorted w.map (sights o) known.bytes)))
    (ap is_none known.given))

stands_already : (map : Map) (es : List Byte) → Shows map es → (a : ℕ) → map a ≡ with_bytes es map a
stands_already map es shows a = by_found (byte_found es a) refl
  where
    by_found : (found : Option ℕ) → byte_found es a ≡ found → map a ≡ option_or found (map a)
    by_found None is = refl
    by_found (Some b) is = Shows-at map es a b shows is

map_stays : (w : Known) (o : Obs) → IsKnown w o → w.map ≡ with_bytes (seen_by o) w.map
map_stays w o known = same_map w.map (with_bytes (seen_by o) w.map)
    (stands_already w.map (seen_by o) (Shows-sorted w.map (sights o) known.bytes))

-- the words and the map stay what they are
pub all_stays : (w : Known) (o : Obs) → IsKnown w o
    → w ≡ record { words = program_words o.pc o.x; map = with_bytes (seen_by o) w.map }
all_stays w o known = ap (λ (ws : List ℕ). record { words = ws; map = w.map }) known.words
    ∙ ap (λ (m : Map). record { words = program_words o.pc o.x; map = m }) (map_stays w o known)

pub no_text : (least count : ℕ) (w : Known) (o : Obs) → are_none (items_at user w o) ≡ true
    → [] ≡ step_text least count w o
no_text least count w o none = sym
    (ap (λ (t : Bool). groups_text least (if t then [] else record { index = count; items = items_at user w o } ∷ [])) none)

pub no_least : (least count : ℕ) (w : Known) (o : Obs) → are_none (items_at user w o) ≡ true
    → least ≡ least_behind least (groups_from count (items_at user w o ∷ []))
no_least least count w o none = sym
    (ap (λ (t : Bool). least_behind least (if t then [] else record { index = count; items = items_at user w o } ∷ [])) none)

-- ---- one observation more

pub known_at-push : {O G : Type 0} (m : Watch O G) (w : Known) (os : List O) (o : O)
    → known_at m w (os ++ o ∷ []) ≡ after m (known_at m w os) o
known_at-push m w [] o = refl
known_at-push m w (p ∷ os) o = known_at-push m (after m w p) os o

found_append : (es fs : List Byte) (a : ℕ) → byte_found (es ++ fs) a ≡ option_or (byte_found es a) (byte_found fs a)
found_append [] fs a = refl
found_append (e ∷ es) fs a = by_test (e.0 == a) (found_append es fs a)
  where
    by_test : (t : Bool) → byte_found (es ++ fs) a ≡ option_or (byte_found es a) (byte_found fs a)
        → (if t then Some e.1 else byte_found (es ++ fs) a)
        ≡ option_or (if t then Some e.1 else byte_found es a) (byte_found fs a)
    by_test true rest = refl
    by_test false rest = rest

or_or : (x y z : Option ℕ) → option_or (option_or x y) z ≡ option_or x (option_or y z)
or_or None y z = refl
or_or (Some b) y z = refl

pub written_over : (es fs : List Byte) (map : Map) → with_bytes es (with_bytes fs map) ≡ with_bytes (es ++ fs) map
written_over es fs map = same_map (with_bytes es (with_bytes fs map)) (with_bytes (es ++ fs) map)
    (λ a. sym (ap (λ x. option_or x (map a)) (found_append es fs a)
    ∙ or_or (byte_found es a) (byte_found fs a) (map a)))

pub goes_behind : (w : Known) (o : Obs) (words : List ℕ) (seen behind : Known)
    → seen ≡ record { words = words; map = with_bytes (seen_by o) w.map }
    → behind ≡ record { words = next_words o; map = with_bytes (bytes_shown o.write) seen.map }
    → behind ≡ after user w o
goes_behind w o words seen behind saw left = left
    ∙ (ap (λ (k : Known). record { words = next_words o; map = with_bytes (bytes_shown o.write) k.map }) saw
    ∙ ap (λ (m : Map). record { words = next_words o; map = m }) (written_over (bytes_shown o.write) (seen_by o) w.map))

least_behind-append : (least : ℕ) (gs hs : List (Group ℕ))
    → least_behind least (gs ++ hs) ≡ least_behind (least_behind least gs) hs
least_behind-append least [] hs = refl
least_behind-append least (g ∷ gs) hs = least_behind-append (suc g.index) gs hs

one_longer : (os : List Obs) (o : Obs) (n : ℕ) → n ≡ length os → n + 1 ≡ length (os ++ o ∷ [])
one_longer [] o n is = omega (arith, is)
one_longer (p ∷ os) o n is =
    let rest : length os + 1 ≡ length (os ++ o ∷ []) = one_longer os o (length os) refl in
    omega (arith, is, rest)

-- It stands for one observation more.
pub slices_on : (os : List Obs) (o : Obs) (w behind : Known) (n next least now : ℕ) → IsSlicing os w n least
    → behind ≡ after user w o → next ≡ n + 1
    → now ≡ least_behind least (groups_from n (items_at user w o ∷ [])) → IsSlicing (os ++ o ∷ []) behind next now
slices_on os o w behind n next least now was goes counted last = record {
  known_is = goes ∙ (ap (λ k. after user k o) was.known_is ∙ sym (known_at-push user (start user) os o));
  count_is = counted ∙ one_longer os o n was.count_is;
  least_is = last ∙ (ap (λ (l : ℕ). least_behind l (groups_from n (items_at user w o ∷ []))) was.least_is
      ∙ (ap (λ (k : ℕ). least_behind (least_behind 0 (groups_of user os)) (groups_from k (items_at user w o ∷ [])))
      was.count_is
      ∙ (ap (λ k. least_behind (least_behind 0 (groups_of user os)) (groups_from (length os) (items_at user k o ∷ [])))
      was.known_is
      ∙ (sym (least_behind-append 0 (groups_of user os)
      (groups_from (length os) (items_at user (known_at user (start user) os) o ∷ [])))
      ∙ ap (least_behind 0) (sym (groups_of-push user os o))))));
}

pub text_is_added : (os : List Obs) (o : Obs) (w : Known) (n least : ℕ) → IsSlicing os w n least
    → step_text least n w o ≡ added_text os o
text_is_added os o w n least was =
    ap (λ (l : ℕ). step_text l n w o) was.least_is
    ∙ (ap (λ (k : ℕ). step_text (least_behind 0 (groups_of user os)) k w o) was.count_is
    ∙ ap (λ k. step_text (least_behind 0 (groups_of user os)) (length os) k o) was.known_is)

least_below : (least end : ℕ) (gs : List (Group ℕ)) → least ≤ end → GroupsBelow end gs → least_behind least gs ≤ end
least_below least end [] less below = less
least_below least end (g ∷ gs) less below = least_below (suc g.index) end gs (omega (arith, below.0)) below.1

-- The next group may stand at the next index.
pub in_order : (os : List Obs) (w : Known) (n least : ℕ) → IsSlicing os w n least → least ≤ n
in_order os w n least was =
    let most : least_behind 0 (groups_of user os) ≤ length os
    = least_below 0 (length os) (groups_of user os) (omega arith) (groups_are_below user os) in
    omega (arith, most, was.least_is, was.count_is)

-- The same, where it is only known that it stands for some observations.
pub in_order_of_some : (w : Known) (n least : ℕ) → IsForSome w n least → least ≤ n
in_order_of_some w n least some = ∥∥₁_elim some (search props) (λ x. in_order x.0 w n least x.1)

-- as it was, by other names
pub same_for_some : (w v : Known) (n least same : ℕ) → IsForSome w n least → v ≡ w → same ≡ least → IsForSome v n same
same_for_some w v n least same some known is =
    subst (λ (k : Known). IsForSome k n same) (sym known) (subst (λ (l : ℕ). IsForSome w n l) (sym is) some)

-- A step from its room on: it sees, and leaves what it writes.
pub slices_step : (o : Obs) (w held seen behind : Known) (n least now : ℕ) → held ≡ w
    → now ≡ least_behind least (groups_from n (items_at user held o ∷ []))
    → seen ≡ record { words = program_words o.pc o.x; map = with_bytes (seen_by o) held.map }
    → behind ≡ record { words = next_words o; map = with_bytes (bytes_shown o.write) seen.map }
    → (os : List Obs) → IsSlicing os w n least → IsSlicing (os ++ o ∷ []) behind (n + 1) now
slices_step o w held seen behind n least now known last saw left os was =
    slices_on os o held behind n (n + 1) least now (subst (λ (k : Known). IsSlicing os k n least) (sym known) was)
    (goes_behind held o (program_words o.pc o.x) seen behind saw left) refl last

-- ---- the end

least_grows : (k : ℕ) (gs : List (Group ℕ)) → GroupsRise k gs → k ≤ least_behind k gs
least_grows k [] rises = omega arith
least_grows k (g ∷ gs) rises =
    let rest : suc g.index ≤ least_behind (suc g.index) gs = least_grows (suc g.index) gs rises.1 in
    omega (arith, rises.0, rest)

some_group : (os : List Obs) → 1 ≤ length os → 1 ≤ least_behind 0 (groups_of user os)
some_group [] some = absurd (omega (arith, some))
some_group (o ∷ os) some =
    let least : 1 ≤ least_behind 1 (groups_from 1 (items_of user (after user (start user) o) os))
    = least_grows 1 (groups_from 1 (items_of user (after user (start user) o) os))
    (GroupsRise-groups_from 1 (items_of user (after user (start user) o) os)) in
    let first : least_behind 0 (groups_of user (o ∷ os))
    ≡ least_behind 1 (groups_from 1 (items_of user (after user (start user) o) os))
    = ap (least_behind 0) (first_group o os) in
    omega (arith, least, first)

-- Where it was fed an observation, it can end.
pub can_end : (os : List Obs) (w : Known) (n least : ℕ) → IsSlicing os w n least → 1 ≤ n → n ≤ 2 ^ 48 → IsEnd least n
can_end os w n least was some most =
    let behind : 1 ≤ least_behind 0 (groups_of user os) = some_group os (omega (arith, some, was.count_is)) in
    record {
      behind = omega (arith, behind, was.least_is);
      from = in_order os w n least was;
      most = most;
    }

pub can_end_of_some : (w : Known) (n least : ℕ) → IsForSome w n least → 1 ≤ n → n ≤ 2 ^ 48
    → IsEnd least n
can_end_of_some w n least stands some most =
    let behind : 1 ≤ least = ∥∥₁_elim stands (search props) (λ x. (can_end x.0 w n least x.1 some most).behind) in
    record { behind = behind; from = in_order_of_some w n least stands; most = most }

pub end_is : (os : List Obs) (w : Known) (n least : ℕ) → IsSlicing os w n least
    → slice_end_text least n ≡ slice_end_text (least_behind 0 (groups_of user os)) (length os)
end_is os w n least was = ap (λ (l : ℕ). slice_end_text l n) was.least_is
    ∙ ap (slice_end_text (least_behind 0 (groups_of user os))) was.count_is

-- ---- the text as a whole

append_assoc : (xs ys zs : List ℕ) → (xs ++ ys) ++ zs ≡ xs ++ (ys ++ zs)
append_assoc [] ys zs = refl
append_assoc (x ∷ xs) ys zs = ap (λ l. x ∷ l) (append_assoc xs ys zs)

groups_text-append : (least : ℕ) (gs hs : List (Group ℕ))
    → groups_text least (gs ++ hs) ≡ groups_text least gs ++ groups_text (least_behind least gs) hs
groups_text-append least [] hs = refl
groups_text-append least (g ∷ gs) hs = ap (λ t. group_text least g ++ t) (groups_text-append (suc g.index) gs hs)
    ∙ sym (append_assoc (group_text least g) (groups_text (suc g.index) gs)
    (groups_text (least_behind (suc g.index) gs) hs))

pub body_begins : slice_body (groups_of user []) ≡ slice_magic
unfolding slice_body
body_begins = append-nil slice_magic

pub body_grows : (os : List Obs) (o : Obs)
    → slice_body (groups_of user (os ++ o ∷ [])) ≡ slice_body (groups_of user os) ++ added_text os o
unfolding slice_body
body_grows os o = ap (λ gs. slice_magic ++ groups_text 0 gs) (groups_of-push user os o)
    ∙ (ap (λ t. slice_magic ++ t) (groups_text-append 0 (groups_of user os)
    (groups_from (length os) (items_at user (known_at user (start user) os) o ∷ [])))
    ∙ sym (append_assoc slice_magic (groups_text 0 (groups_of user os)) (added_text os o)))
