-- What is owed, once a step accessed some of it.
use Rattle.std.proofs.Common.{◌≡◌, ℕ, suc, ◌+◌, ◌-◌, ◌==◌, ◌||◌, Bool, true, false, not, ◌⊎◌, inl, inr}
use Rattle.std.proofs.Common.{List, [], ◌∷◌, ◌++◌, length, Option, None, Some, is_some, if◌then◌else◌}
use Rattle.std.proofs.Common.{eq-eqb, ne_eqb, refl, sym, ap, subst, ◌∙◌, arith}
use Rattle.std.proofs.lemmas.Bool.{and_from, cases_eq, eqb-true}
use Rattle.std.specs.List.{list_all}
use Rattle.cx_slices.specs.Bytes.{Byte, BytesRise, byte_found}
use Rattle.cx_slices.specs.Items.{is_nil}
use Rattle.cx_slices.proofs.Bytes.{byte_found-below, byte_found-here, byte_found-other}
use Rattle.cx_slices.proofs.Missing.{BytesRise-filter, byte_found-filter, kept_byte, list_all-from, passes_at}
use Rattle.cx_call_alone.specs.Owed.{Owes, marked_met, owed_behind, without}

-- ---- one byte less

not_there : (a : ℕ) (owed : List Byte) → byte_found owed a ≡ None → without a owed ≡ owed
not_there a [] none = refl
not_there a (e ∷ owed) none = by_test (a == e.0) (e.0 == a) refl refl none (not_there a owed)
  where
    by_test : (t s : Bool) → (a == e.0) ≡ t → (e.0 == a) ≡ s → (if s then Some e.1 else byte_found owed a) ≡ None
        → (byte_found owed a ≡ None → without a owed ≡ owed)
        → (if not t then e ∷ without a owed else without a owed) ≡ e ∷ owed
    by_test t true is it found rest = cc
    by_test true false is it found rest =
        let same : a ≡ e.0 = eqb-true a e.0 is in
        let here : (e.0 == a) ≡ true = eq-eqb e.0 a (sym same) in
        cc
    by_test false false is it found rest = ap (λ l. e ∷ l) (rest found)

pub one_less : (a least : ℕ) (owed : List Byte) → BytesRise least owed → is_some (byte_found owed a) ≡ true
    → length (without a owed) + 1 ≡ length owed
one_less a least [] rises found = cc
one_less a least (e ∷ owed) rises found = by_address (cases_eq e.0 a) (one_less a (e.0 + 1) owed rises.1)
  where
    here : e.0 ≡ a → length (without a (e ∷ owed)) ≡ length owed
    here is = rw (eq-eqb a e.0 (sym is)) (ap length (not_there a owed
        (byte_found-below (e.0 + 1) a owed rises.1 (omega (arith, is)))))

    there : (e.0 ≡ a → ⊥) → length (without a (e ∷ owed)) ≡ suc (length (without a owed))
    there other = rw (ne_eqb a e.0 (λ is. other (sym is))) refl

    by_address : (e.0 ≡ a) ⊎ (e.0 ≡ a → ⊥)
        → (is_some (byte_found owed a) ≡ true → length (without a owed) + 1 ≡ length owed)
        → length (without a (e ∷ owed)) + 1 ≡ suc (length owed)
    by_address (inl is) rest = omega (arith, here is)
    by_address (inr other) rest =
        omega (arith, there other, rest (ap is_some (sym (byte_found-other e owed a other)) ∙ found))

without_it : (a b : ℕ) (found : Option ℕ) → (a ≡ b → ⊥) → found ≡ kept_byte (λ (e : Byte). not (a == e.0)) b found
without_it a b None other = refl
without_it a b (Some x) other = rw (ne_eqb a b other) refl

gone_there : (a : ℕ) (found : Option ℕ) → is_some (kept_byte (λ (e : Byte). not (a == e.0)) a found) ≡ false
gone_there a None = refl
gone_there a (Some x) = rw (eq-eqb a a refl) refl

pub taken_off : (a count count2 : ℕ) (marks marks2 : ℕ → Bool) (owed : List Byte) → Owes marks count owed
    → marks a ≡ true → marks2 a ≡ false → ((c : ℕ) → (c ≡ a → ⊥) → marks2 c ≡ marks c) → count2 ≡ count - 1
    → Owes marks2 count2 (without a owed)
taken_off a count count2 marks marks2 owed owes here gone others less = record {
  rises = BytesRise-filter (λ (e : Byte). not (a == e.0)) 0 owed owes.rises;
  marked = λ b. by_address b (cases_eq a b);
  size = omega (arith, less, owes.size, one_less a 0 owed owes.rises (sym (owes.marked a) ∙ here));
}
  where
    found : (b : ℕ) → byte_found (without a owed) b ≡ kept_byte (λ (e : Byte). not (a == e.0)) b (byte_found owed b)
    found b = byte_found-filter (λ (e : Byte). not (a == e.0)) 0 owed b owes.rises

    at_it : marks2 a ≡ is_some (byte_found (without a owed) a)
    at_it = gone ∙ sym (ap is_some (found a) ∙ gone_there a (byte_found owed a))

    by_address : (b : ℕ) → (a ≡ b) ⊎ (a ≡ b → ⊥) → marks2 b ≡ is_some (byte_found (without a owed) b)
    by_address b (inl is) = subst (λ (n : ℕ). marks2 n ≡ is_some (byte_found (without a owed) n)) is at_it
    by_address b (inr other) = others b (λ is. other (sym is)) ∙ (owes.marked b
        ∙ ap is_some (without_it a b (byte_found owed b) other ∙ sym (found b)))

pub not_owed : (a count : ℕ) (marks : ℕ → Bool) (owed : List Byte) → Owes marks count owed → marks a ≡ false
    → without a owed ≡ owed
not_owed a count marks owed owes free = not_there a owed (no_byte (byte_found owed a) (sym (owes.marked a) ∙ free))
  where
    no_byte : (found : Option ℕ) → is_some found ≡ false → found ≡ None
    no_byte None is = refl
    no_byte (Some b) is = cc

-- ---- what a step accesses

pub found_push : (left : List Byte) (f : Byte) (a : ℕ)
    → is_some (byte_found (left ++ f ∷ []) a) ≡ (is_some (byte_found left a) || f.0 == a)
found_push [] f a = by_test (f.0 == a)
  where
    by_test : (t : Bool) → is_some (if t then Some f.1 else None) ≡ t
    by_test true = refl
    by_test false = refl
found_push (e ∷ left) f a = by_test (e.0 == a) (found_push left f a)
  where
    by_test : (t : Bool) → is_some (byte_found (left ++ f ∷ []) a) ≡ (is_some (byte_found left a) || f.0 == a)
        → is_some (if t then Some e.1 else byte_found (left ++ f ∷ []) a)
        ≡ (is_some (if t then Some e.1 else byte_found left a) || f.0 == a)
    by_test true rest = refl
    by_test false rest = rest

pub owed_behind-push : (left owed : List Byte) (f : Byte)
    → owed_behind (left ++ f ∷ []) owed ≡ without f.0 (owed_behind left owed)
owed_behind-push left [] f = refl
owed_behind-push left (e ∷ owed) f = by_tests (is_some (byte_found left e.0)) (f.0 == e.0)
    (is_some (byte_found (left ++ f ∷ []) e.0)) refl (found_push left f e.0) (owed_behind-push left owed f)
  where
    by_tests : (t s u : Bool) → (f.0 == e.0) ≡ s → u ≡ (t || s)
        → owed_behind (left ++ f ∷ []) owed ≡ without f.0 (owed_behind left owed)
        → (if not u then e ∷ owed_behind (left ++ f ∷ []) owed else owed_behind (left ++ f ∷ []) owed)
        ≡ without f.0 (if not t then e ∷ owed_behind left owed else owed_behind left owed)
    by_tests true s u is or rest = rw or rest
    by_tests false true u is or rest = rw (or, is) rest
    by_tests false false u is or rest = rw (or, is) (ap (λ l. e ∷ l) rest)

pub none_left : (owed : List Byte) → owed_behind [] owed ≡ owed
none_left [] = refl
none_left (e ∷ owed) = ap (λ l. e ∷ l) (none_left owed)

-- ---- what has to be seen

pub list_all-at : (test : ℕ → Bool) (es : List Byte) → ((a : ℕ) → is_some (byte_found es a) ≡ true → test a ≡ true)
    → list_all (λ (e : Byte). test e.0) es ≡ true
list_all-at test [] each = refl
list_all-at test (e ∷ es) each = and_from (test e.0) (list_all (λ (f : Byte). test f.0) es)
    (each e.0 (ap is_some (byte_found-here e.0 e.1 es)))
    (list_all-at test es (λ a there. each a (behind a (e.0 == a) there)))
  where
    behind : (a : ℕ) (t : Bool) → is_some (byte_found es a) ≡ true
        → is_some (if t then Some e.1 else byte_found es a) ≡ true
    behind a true there = refl
    behind a false there = there

same_tests : (s t : Bool) → (s ≡ true → t ≡ true) → (t ≡ true → s ≡ true) → s ≡ t
same_tests true t there back = sym (there refl)
same_tests false true there back = back refl
same_tests false false there back = refl

there_then : (found : Option ℕ) (P : Type 0) → ((b : ℕ) → found ≡ Some b → P) → is_some found ≡ true → P
there_then None P so is = cc
there_then (Some b) P so is = so b refl

implied : (s t : Bool) → (s ≡ true → t ≡ true) → (not s || t) ≡ true
implied true t so = so refl
implied false t so = refl

implies : (s t : Bool) → (not s || t) ≡ true → s ≡ true → t ≡ true
implies s t is here = rw here at is

found_in : (written seen : List Byte) (a : ℕ) → is_some (byte_found (written ++ seen) a) ≡ true
    → (is_some (byte_found written a) ≡ true) ⊎ (is_some (byte_found seen a) ≡ true)
found_in [] seen a there = inr there
found_in (e ∷ written) seen a there = by_test (e.0 == a) there (found_in written seen a)
  where
    by_test : (t : Bool) → is_some (if t then Some e.1 else byte_found (written ++ seen) a) ≡ true
        → (is_some (byte_found (written ++ seen) a) ≡ true
        → (is_some (byte_found written a) ≡ true) ⊎ (is_some (byte_found seen a) ≡ true))
        → (is_some (if t then Some e.1 else byte_found written a) ≡ true) ⊎ (is_some (byte_found seen a) ≡ true)
    by_test true there rest = inl refl
    by_test false there rest = rest there

pub found_first : (written seen : List Byte) (a : ℕ) → is_some (byte_found written a) ≡ true
    → is_some (byte_found (written ++ seen) a) ≡ true
found_first [] seen a there = cc
found_first (e ∷ written) seen a there = by_test (e.0 == a) there (found_first written seen a)
  where
    by_test : (t : Bool) → is_some (if t then Some e.1 else byte_found written a) ≡ true
        → (is_some (byte_found written a) ≡ true → is_some (byte_found (written ++ seen) a) ≡ true)
        → is_some (if t then Some e.1 else byte_found (written ++ seen) a) ≡ true
    by_test true there rest = refl
    by_test false there rest = rest there

-- A test of the bytes that are written is one of all that is owed.
pub met_is : (count : ℕ) (marks : ℕ → Bool) (owed seen written : List Byte) → Owes marks count owed
    → marked_met seen marks written
    ≡ list_all (λ (e : Byte). not (is_some (byte_found (written ++ seen) e.0)) || is_some (byte_found seen e.0)) owed
met_is count marks owed seen written owes = same_tests _ _ to_owed to_written
  where
    by_part : (a b : ℕ) → byte_found owed a ≡ Some b → marked_met seen marks written ≡ true
        → (is_some (byte_found written a) ≡ true) ⊎ (is_some (byte_found seen a) ≡ true)
        → is_some (byte_found seen a) ≡ true
    by_part a b found met (inl wrote) = there_then (byte_found written a) (is_some (byte_found seen a) ≡ true)
        (λ c at. implies (marks a) (is_some (byte_found seen a))
        (passes_at (λ (f : Byte). not (marks f.0) || is_some (byte_found seen f.0)) written a c met at)
        (owes.marked a ∙ ap is_some found)) wrote
    by_part a b found met (inr saw) = saw

    to_owed : marked_met seen marks written ≡ true
        → list_all (λ (e : Byte). not (is_some (byte_found (written ++ seen) e.0)) || is_some (byte_found seen e.0)) owed
        ≡ true
    to_owed met = list_all-from
        (λ (e : Byte). not (is_some (byte_found (written ++ seen) e.0)) || is_some (byte_found seen e.0)) 0 owed
        owes.rises (λ a b found. implied (is_some (byte_found (written ++ seen) a)) (is_some (byte_found seen a))
        (λ there. by_part a b found met (found_in written seen a there)))

    at : (a : ℕ)
        → list_all (λ (e : Byte). not (is_some (byte_found (written ++ seen) e.0)) || is_some (byte_found seen e.0)) owed
        ≡ true → is_some (byte_found written a) ≡ true → (not (marks a) || is_some (byte_found seen a)) ≡ true
    at a met wrote = implied (marks a) (is_some (byte_found seen a))
        (λ marked. there_then (byte_found owed a) (is_some (byte_found seen a) ≡ true)
        (λ b found. implies (is_some (byte_found (written ++ seen) a)) (is_some (byte_found seen a))
        (passes_at (λ (e : Byte). not (is_some (byte_found (written ++ seen) e.0)) || is_some (byte_found seen e.0))
        owed a b met found) (found_first written seen a wrote)) (sym (owes.marked a) ∙ marked))

    to_written :
        list_all (λ (e : Byte). not (is_some (byte_found (written ++ seen) e.0)) || is_some (byte_found seen e.0)) owed
        ≡ true → marked_met seen marks written ≡ true
    to_written met = list_all-at (λ (a : ℕ). not (marks a) || is_some (byte_found seen a)) written
        (λ a wrote. at a met wrote)

pub nil_is : (count : ℕ) (marks : ℕ → Bool) (owed : List Byte) → Owes marks count owed → (count == 0) ≡ is_nil owed
nil_is count marks [] owes = eq-eqb count 0 owes.size
nil_is count marks (e ∷ owed) owes = ne_eqb count 0 (λ none. absurd (omega (arith, none, owes.size)))
