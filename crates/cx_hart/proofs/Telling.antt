-- Looks told one after another, and a record that they leave.
use Rattle.std.proofs.Common.{◌≡◌, ℕ, suc, ◌+◌, ◌-◌, ◌<◌, ◌≤◌, List, [], ◌∷◌, ◌++◌, length, replicate, Option, None}
use Rattle.std.proofs.Common.{Some, refl, sym, ap, subst, ◌∙◌, append_assoc, arith, length-append}
use Rattle.std.specs.Prelude.{slice_set}
use Rattle.std.proofs.lemmas.List.{append-nil}
use Rattle.cx_csr.specs.declared.state.State.{State}
use Rattle.cx_hart.specs.Looks.{Entry, First, Look, Rest, Word, tell, told}
use Rattle.cx_hart.specs.Step.{blank}
use Rattle.cx_hart.specs.Touches.{padded}
use Rattle.cx_hart.specs.declared.record.StepRec.{StepRec}
use Rattle.cx_hart.specs.declared.record.Touch.{Touch}
use Rattle.cx_hart.proofs.Costs.{costs}

pub told_append : (xs ys : List Look) (rec : StepRec) → told (xs ++ ys) rec ≡ told ys (told xs rec)
told_append [] ys rec = refl
told_append (x ∷ xs) ys rec = told_append xs ys (tell x rec)

tell_value : (look : Look) (rec : StepRec) → (tell look rec).value ≡ rec.value
tell_value (Entry place entry) rec = refl
tell_value (Word t) rec = refl
tell_value (First t) rec = refl
tell_value (Rest t) rec = refl

-- no look is a value of the outside
pub told_value : (looks : List Look) (rec : StepRec) → (told looks rec).value ≡ rec.value
told_value [] rec = refl
told_value (look ∷ looks) rec = told_value looks (tell look rec) ∙ tell_value look rec

-- ---- the record that they leave

abbrev pub places_in : List Look → List ℕ
places_in [] = []
places_in (Entry place entry ∷ looks) = place ∷ places_in looks
places_in (Word t ∷ looks) = places_in looks
places_in (First t ∷ looks) = places_in looks
places_in (Rest t ∷ looks) = places_in looks

abbrev pub entries_in : List Look → List ℕ
entries_in [] = []
entries_in (Entry place entry ∷ looks) = entry ∷ entries_in looks
entries_in (Word t ∷ looks) = entries_in looks
entries_in (First t ∷ looks) = entries_in looks
entries_in (Rest t ∷ looks) = entries_in looks

-- the last word, and the last bytes, where there were others before
abbrev pub word_after : List Look → Option Touch → Option Touch
word_after [] o = o
word_after (Entry place entry ∷ looks) o = word_after looks o
word_after (Word t ∷ looks) o = word_after looks (Some t)
word_after (First t ∷ looks) o = word_after looks o
word_after (Rest t ∷ looks) o = word_after looks o

abbrev pub first_after : List Look → Option Touch → Option Touch
first_after [] o = o
first_after (Entry place entry ∷ looks) o = first_after looks o
first_after (Word t ∷ looks) o = first_after looks o
first_after (First t ∷ looks) o = first_after looks (Some t)
first_after (Rest t ∷ looks) o = first_after looks o

abbrev pub rest_after : List Look → Option Touch → Option Touch
rest_after [] o = o
rest_after (Entry place entry ∷ looks) o = rest_after looks o
rest_after (Word t ∷ looks) o = rest_after looks o
rest_after (First t ∷ looks) o = rest_after looks o
rest_after (Rest t ∷ looks) o = rest_after looks (Some t)

abbrev with_seen : StepRec → Option Touch → Option Touch → Option Touch → List ℕ → List ℕ → StepRec
with_seen rec word first rest places entries = record rec {
  fetch = word;
  read = first;
  read_more = rest;
  walked = length places;
  places = padded 6 places;
  entries = padded 6 entries;
}

-- the first of the zeros set
set_behind : (xs : List ℕ) (k x : ℕ) → slice_set (xs ++ replicate (suc k) 0) (length xs) x ≡ (xs ++ x ∷ []) ++ replicate
    k 0
set_behind [] k x = refl
set_behind (y ∷ xs) k x = ap (λ l. y ∷ l) (set_behind xs k x)

set_padded : (xs : List ℕ) (n x : ℕ) → n ≡ length xs → n < 6 → slice_set (padded 6 xs) n x ≡ padded 6 (xs ++ x ∷ [])
set_padded xs n x e few =
    let more : 6 - length xs ≡ suc (5 - length xs) = omega arith in
    let less : 6 - length (xs ++ x ∷ []) ≡ 5 - length xs = omega (arith, length-append xs (x ∷ [])) in
    rw (e, more, less) (set_behind xs (5 - length xs) x)

told_seen : (looks : List Look) (rec : StepRec) (word first rest : Option Touch) (ps es : List ℕ)
    → length es ≡ length ps → length (ps ++ places_in looks) ≤ 6
    → told looks (with_seen rec word first rest ps es) ≡ with_seen rec (word_after looks word) (first_after looks first)
    (rest_after looks rest) (ps ++ places_in looks) (es ++ entries_in looks)
told_seen [] rec word first rest ps es same few = rw (append-nil ps, append-nil es) refl
told_seen (Entry place entry ∷ looks) rec word first rest ps es same few =
    let longer : length (ps ++ place ∷ []) ≡ length ps + 1 = length-append ps (place ∷ []) in
    let here : length ps < 6 = omega (arith, length-append ps (place ∷ places_in looks)) in
    let equal : length (es ++ entry ∷ []) ≡ length (ps ++ place ∷ []) =
    omega (arith, length-append es (entry ∷ []), longer) in
    let one : tell (Entry place entry) (with_seen rec word first rest ps es) ≡ with_seen rec word first rest
    (ps ++ place ∷ []) (es ++ entry ∷ []) =
    rw (set_padded ps (length ps) place refl here, set_padded es (length ps) entry (sym same) here, ← longer) refl in
    let joined_places : (ps ++ place ∷ []) ++ places_in looks ≡ ps ++ (place ∷ places_in looks) =
    append_assoc ps (place ∷ []) (places_in looks) in
    let joined_entries : (es ++ entry ∷ []) ++ entries_in looks ≡ es ++ (entry ∷ entries_in looks) =
    append_assoc es (entry ∷ []) (entries_in looks) in
    let all = told_seen looks rec word first rest (ps ++ place ∷ []) (es ++ entry ∷ []) equal
    (subst (λ l. length l ≤ 6) (sym joined_places) few) in
    ap (told looks) one ∙ (all
    ∙ (ap (λ l. with_seen rec (word_after looks word) (first_after looks first) (rest_after looks rest) l
    ((es ++ entry ∷ []) ++ entries_in looks)) joined_places
    ∙ ap (with_seen rec (word_after looks word) (first_after looks first) (rest_after looks rest)
    (ps ++ (place ∷ places_in looks))) joined_entries))
told_seen (Word t ∷ looks) rec word first rest ps es same few = told_seen looks rec (Some t) first rest ps es same few
told_seen (First t ∷ looks) rec word first rest ps es same few = told_seen looks rec word (Some t) rest ps es same few
told_seen (Rest t ∷ looks) rec word first rest ps es same few = told_seen looks rec word first (Some t) ps es same few

-- the record of a step that looked so
abbrev pub seen_in : State → List Look → StepRec
seen_in s looks = with_seen (blank s) (word_after looks None) (first_after looks None) (rest_after looks None)
    (places_in looks) (entries_in looks)

pub places_costs : (looks : List Look) → length (places_in looks) ≡ costs 1 0 0 0 looks
places_costs [] = refl
places_costs (Entry place entry ∷ looks) = omega (arith, places_costs looks)
places_costs (Word t ∷ looks) = omega (arith, places_costs looks)
places_costs (First t ∷ looks) = omega (arith, places_costs looks)
places_costs (Rest t ∷ looks) = omega (arith, places_costs looks)

-- at most six entries are all told
pub told_is : (looks : List Look) (s : State) → costs 1 0 0 0 looks ≤ 6 → told looks (blank s) ≡ seen_in s looks
told_is looks s few = told_seen looks (blank s) None None None [] [] refl (omega (arith, places_costs looks))

-- ---- looks of one kind, where there are none

pub no_word : (looks : List Look) (o : Option Touch) → costs 0 1 0 0 looks ≤ 0 → word_after looks o ≡ o
no_word [] o none = refl
no_word (Entry place entry ∷ looks) o none = no_word looks o (omega arith)
no_word (Word t ∷ looks) o none = absurd (omega arith)
no_word (First t ∷ looks) o none = no_word looks o (omega arith)
no_word (Rest t ∷ looks) o none = no_word looks o (omega arith)

pub no_first : (looks : List Look) (o : Option Touch) → costs 0 0 1 0 looks ≤ 0 → first_after looks o ≡ o
no_first [] o none = refl
no_first (Entry place entry ∷ looks) o none = no_first looks o (omega arith)
no_first (Word t ∷ looks) o none = no_first looks o (omega arith)
no_first (First t ∷ looks) o none = absurd (omega arith)
no_first (Rest t ∷ looks) o none = no_first looks o (omega arith)

pub no_rest : (looks : List Look) (o : Option Touch) → costs 0 0 0 1 looks ≤ 0 → rest_after looks o ≡ o
no_rest [] o none = refl
no_rest (Entry place entry ∷ looks) o none = no_rest looks o (omega arith)
no_rest (Word t ∷ looks) o none = no_rest looks o (omega arith)
no_rest (First t ∷ looks) o none = no_rest looks o (omega arith)
no_rest (Rest t ∷ looks) o none = absurd (omega arith)

reads_none : (looks : List Look) → costs 0 0 1 1 looks ≤ 0 → (costs 0 0 1 0 looks ≤ 0) × (costs 0 0 0 1 looks ≤ 0)
reads_none [] none = (omega arith, omega arith)
reads_none (Entry place entry ∷ looks) none = let rest = reads_none looks (omega arith) in
    (omega (arith, rest.0), omega (arith, rest.1))
reads_none (Word t ∷ looks) none = let rest = reads_none looks (omega arith) in
    (omega (arith, rest.0), omega (arith, rest.1))
reads_none (First t ∷ looks) none = absurd (omega arith)
reads_none (Rest t ∷ looks) none = absurd (omega arith)

pub reads_no_first : (looks : List Look) (o : Option Touch) → costs 0 0 1 1 looks ≤ 0 → first_after looks o ≡ o
reads_no_first looks o none = no_first looks o (reads_none looks none).0

pub reads_no_rest : (looks : List Look) (o : Option Touch) → costs 0 0 1 1 looks ≤ 0 → rest_after looks o ≡ o
reads_no_rest looks o none = no_rest looks o (reads_none looks none).1

-- ---- looks behind others

pub word_append : (xs ys : List Look) (o : Option Touch) → word_after (xs ++ ys) o ≡ word_after ys (word_after xs o)
word_append [] ys o = refl
word_append (Entry place entry ∷ xs) ys o = word_append xs ys o
word_append (Word t ∷ xs) ys o = word_append xs ys (Some t)
word_append (First t ∷ xs) ys o = word_append xs ys o
word_append (Rest t ∷ xs) ys o = word_append xs ys o

pub first_append : (xs ys : List Look) (o : Option Touch) → first_after (xs ++ ys) o ≡ first_after ys (first_after xs o)
first_append [] ys o = refl
first_append (Entry place entry ∷ xs) ys o = first_append xs ys o
first_append (Word t ∷ xs) ys o = first_append xs ys o
first_append (First t ∷ xs) ys o = first_append xs ys (Some t)
first_append (Rest t ∷ xs) ys o = first_append xs ys o

pub rest_append : (xs ys : List Look) (o : Option Touch) → rest_after (xs ++ ys) o ≡ rest_after ys (rest_after xs o)
rest_append [] ys o = refl
rest_append (Entry place entry ∷ xs) ys o = rest_append xs ys o
rest_append (Word t ∷ xs) ys o = rest_append xs ys o
rest_append (First t ∷ xs) ys o = rest_append xs ys o
rest_append (Rest t ∷ xs) ys o = rest_append xs ys (Some t)

pub as_many_entries : (looks : List Look) → length (entries_in looks) ≡ length (places_in looks)
as_many_entries [] = refl
as_many_entries (Entry place entry ∷ looks) = ap suc (as_many_entries looks)
as_many_entries (Word t ∷ looks) = as_many_entries looks
as_many_entries (First t ∷ looks) = as_many_entries looks
as_many_entries (Rest t ∷ looks) = as_many_entries looks
