-- Where all that a step accesses was accessed before, and all that it is handed stands, there is nothing to gather.
use Rattle.std.proofs.Common.{◌≡◌, ℕ, ◌+◌, ◌≤◌, ◌<◌, ◌^◌, ◌%◌, ◌||◌, Bool, true, false, ◌⊎◌, inl, inr, List, [], ◌∷◌}
use Rattle.std.proofs.Common.{◌++◌, length, replicate, Option, None, Some, is_none, is_some, if◌then◌else◌, refl, sym, ap}
use Rattle.std.proofs.Common.{zero, suc, subst, ap₂, ◌∙◌, arith, eq-eqb, append-nil, mod-eq_of_lt}
use Rattle.std.proofs.lemmas.Bool.{and_parts, cases_eq}
use Rattle.std.specs.List.{list_all}
use Rattle.std.specs.Global.{Vec}
use Rattle.std.specs.Option.{option_or}
use Rattle.cx_callfmt.specs.Text.{records_text}
use Rattle.cx_callfmt.specs.Writing.{Kept, behind_records}
use Rattle.cx_exec.specs.Arithmetic.{wrapped}
use Rattle.cx_observe.proofs.Faithful.{length-program_words}
use Rattle.cx_observe.proofs.Sights.{Shows-sorted}
use Rattle.cx_observe.specs.Effects.{program_words}
use Rattle.cx_observe.specs.Seeing.{bytes_on, bytes_shown, seen_by, sights}
use Rattle.cx_observe.specs.User.{user}
use Rattle.cx_observe.specs.declared.obs.Obs.{Obs}
use Rattle.cx_placing.proofs.Cells.{byte_found-append}
use Rattle.cx_placing.specs.Gathering.{Gathered, behind_now, gathered_by, missed_now}
use Rattle.cx_placing.specs.Placing.{words_placed}
use Rattle.cx_placing.specs.Records.{Record, item_records}
use Rattle.cx_placing.specs.Touched.{Touched, accesses, first_touched, touched_again, touching}
use Rattle.cx_process.proofs.Standing.{none_missing}
use Rattle.cx_program.specs.Knowing.{IsKnown, known_by}
use Rattle.cx_ram.specs.LittleEndian.{low_bytes}
use Rattle.cx_slices.proofs.Bytes.{byte_found-other, byte_found-sorted}
use Rattle.cx_slices.specs.Bytes.{Byte, byte_found, missing}
use Rattle.cx_slices.specs.Items.{Known, after}
use Rattle.cx_slices.specs.Words.{changes}
use Rattle.cx_calls.proofs.Taking.{one_up, same_touched}
use Rattle.cx_marks.specs.Marked.{is_marked}
use Rattle.cx_marks.specs.Marked.{all_marked}
use Rattle.cx_marks.specs.declared.marks.Marks.{Marks}
use Rattle.cx_calls.specs.Gathers.{AllMarked, IsGathered, behind_last}
use Rattle.cx_calls.specs.declared.gatherer.Gatherer.{Gatherer}

-- ---- runs of addresses

pub run_marked : (m : Marks) (va : ℕ) (bs : List ℕ) → va + length bs ≤ 2 ^ 32
    → all_marked m va (length bs) ≡ true → AllMarked (is_marked m) (bytes_on va bs)
run_marked m va [] within marked a there = absurd (no there)
  where
    no : false ≡ true → ⊥
    no is = cc
run_marked m va (b ∷ bs) within marked a there =
    let parts : (is_marked m va ≡ true) × (all_marked m (va + 1) (length bs) ≡ true)
    = and_parts (is_marked m va) (all_marked m (va + 1) (length bs)) marked in
    by_address (cases_eq (wrapped va) a) parts.0 (run_marked m (va + 1) bs (omega (arith, within)) parts.1 a)
  where
    by_address : (wrapped va ≡ a) ⊎ (wrapped va ≡ a → ⊥) → is_marked m va ≡ true
        → (is_some (byte_found (bytes_on (va + 1) bs) a) ≡ true → is_marked m a ≡ true) → is_marked m a ≡ true
    by_address (inl here) first rest =
        let same : wrapped va ≡ va = mod-eq_of_lt (omega (arith, within)) in
        ap (is_marked m) (sym (sym same ∙ here)) ∙ first
    by_address (inr other) first rest =
        rest (ap is_some (sym (byte_found-other (wrapped va, b) (bytes_on (va + 1) bs) a other)) ∙ there)

pub within_addresses : (va n : ℕ) → va < 2 ^ 32 → va % 4096 + n ≤ 4096 → va + n ≤ 2 ^ 32
within_addresses va n low within = omega (arith, low, within)

-- ---- what a step accesses

either : (first second : Option ℕ) → is_some (option_or first second) ≡ true
    → (is_some first ≡ true) ⊎ (is_some second ≡ true)
either None second is = inr is
either (Some b) second is = inl refl

both_marked : (touched : Touched) (es fs : List Byte) → AllMarked touched es → AllMarked touched fs
    → AllMarked touched (es ++ fs)
both_marked touched es fs first second a there = by_side (either (byte_found es a) (byte_found fs a)
    (ap is_some (sym (byte_found-append es fs a)) ∙ there))
  where
    by_side : (is_some (byte_found es a) ≡ true) ⊎ (is_some (byte_found fs a) ≡ true) → touched a ≡ true
    by_side (inl here) = first a here
    by_side (inr here) = second a here

pub step_marked : (touched : Touched) (o : Obs) → AllMarked touched (bytes_on o.pc (low_bytes 4 o.word))
    → AllMarked touched (bytes_shown o.read) → AllMarked touched (bytes_shown o.write) → (a : ℕ)
    → accesses user o a ≡ true → touched a ≡ true
unfolding sights
step_marked touched o word read write a there =
    both_marked touched (bytes_shown o.write) (seen_by o) write
    (λ c is. both_marked touched (bytes_on o.pc (low_bytes 4 o.word)) (bytes_shown o.read) word read c
    (ap is_some (sym (byte_found-sorted (sights o) c)) ∙ is)) a there

pub touching_none : (o : Obs) (touched : Touched) → ((a : ℕ) → accesses user o a ≡ true → touched a ≡ true)
    → touched ≡ touching user o touched
touching_none o touched marked = same_touched touched (touching user o touched)
    (λ a. by_both (touched a) (accesses user o a) (marked a))
  where
    by_both : (was is : Bool) → (is ≡ true → was ≡ true) → was ≡ (was || is)
    by_both true is rest = refl
    by_both false true rest = rest refl
    by_both false false rest = refl

-- ---- what is gathered

same_words : (ws : List ℕ) → changes ws ws ≡ replicate (length ws) None
same_words [] = refl
same_words (w ∷ ws) = ap₂ (λ (x : Option ℕ) (xs : List (Option ℕ)). x ∷ xs)
    (ap (λ (t : Bool). if t then None else Some w) (eq-eqb w w refl)) (same_words ws)

none_there : (n : ℕ) → list_all is_none (replicate {A = Option ℕ} n None) ≡ true
none_there zero = refl
none_there (suc n) = none_there n

no_changes : (w : Known) (o : Obs) → IsKnown w o → length o.x ≡ 32
    → changes w.words (program_words o.pc o.x) ≡ replicate 32 None
no_changes w o known size =
    ap (λ (ws : List ℕ). changes ws (program_words o.pc o.x)) known.words
    ∙ (same_words (program_words o.pc o.x)
    ∙ ap (λ (n : ℕ). replicate n None) (length-program_words o.pc o.x ∙ size))

no_bytes : (w : Known) (o : Obs) → IsKnown w o → missing w.map (seen_by o) ≡ []
no_bytes w o known = none_missing w.map (seen_by o) (Shows-sorted w.map (sights o) known.bytes)

no_records : (k : ℕ) (first : Bool) (words : List (Option ℕ)) (bytes : List Byte) (given : Option ℕ)
    → words ≡ replicate 32 None → bytes ≡ [] → given ≡ None
    → item_records k (record { words = words_placed 32 first words; bytes = bytes; given = given }) ≡ []
no_records k true words bytes given none missed without = rw (missed, without) refl
no_records k false words bytes given none missed without = rw (none, missed, without) refl

pub taken_known : (g : Gathered) (o : Obs) (old new : Gatherer) → IsGathered g old → length o.x ≡ 32
    → IsKnown (known_by old.standing) o
    → ((a : ℕ) → accesses user o a ≡ true → is_marked old.touched a ≡ true) → new.last ≡ old.last → new.first ≡ false
    → new.words ≡ (if old.first then replicate 32 None else old.words) → new.missed ≡ old.missed
    → new.behind ≡ old.behind → new.count ≡ old.count + 1
    → known_by new.standing ≡ after user (known_by old.standing) o → new.touched ≡ old.touched
    → IsGathered (gathered_by user g o None) new
taken_known g o old new was size known marked last first words missed behind count knows touched =
    let has : IsKnown g.known o = subst (λ (w : Known). IsKnown w o) was.known known in
    let none : changes g.known.words (program_words o.pc o.x) ≡ replicate 32 None = no_changes g.known o has size in
    let gone : missing g.known.map (seen_by o) ≡ [] = no_bytes g.known o has in
    let still : g.missed ≡ missed_now user g o = sym
    (ap (λ (es : List Byte). g.missed ++ first_touched g.touched es) gone ∙ append-nil g.missed) in
    let kept : g.behind ≡ behind_now user g o = sym (ap (λ (rs : List Record). g.behind ++ rs)
    (no_records g.count g.first (changes g.known.words (program_words o.pc o.x))
    (touched_again g.touched (missing g.known.map (seen_by o))) o.value none
    (ap (touched_again g.touched) gone) has.given)
    ∙ append-nil g.behind) in
    record {
      last = last ∙ was.last;
      first = first;
      words = words ∙ all_words old.first g.first was.first none;
      missed = ap (λ (v : Vec Byte). v.items) missed ∙ (was.missed ∙ still);
      text = ap (λ (k : Kept). k.text) behind
          ∙ (was.text ∙ ap (λ (rs : List Record). records_text (behind_last g.last).index rs) kept);
      next = ap (λ (k : Kept). k.behind) behind
          ∙ (was.next ∙ ap (λ (rs : List Record). behind_records (behind_last g.last) rs) kept);
      count = one_up old.count g.count new.count count was.count;
      known = knows ∙ ap (λ (k : Known). after user k o) was.known;
      touched = ap is_marked touched ∙ (was.touched ∙ touching_none o g.touched
          (λ a is. ap (λ (t : Touched). t a) (sym was.touched) ∙ marked a is));
    }
  where
    all_words : (s t : Bool) → s ≡ t → changes g.known.words (program_words o.pc o.x) ≡ replicate 32 None
        → (if s then replicate 32 None else old.words)
        ≡ (if t then changes g.known.words (program_words o.pc o.x) else g.words)
    all_words s t same is = rw (same, is, was.words) refl
