-- An observation is taken.
use Rattle.std.proofs.Common.{◌≡◌, ℕ, suc, ◌+◌, ◌||◌, Bool, true, false, List, ◌++◌, Option, None, Some, is_some}
use Rattle.std.proofs.Common.{Result, Ok, Err, OnOk, if◌then◌else◌, refl, sym, ap, ap₂, ◌∙◌, arith}
use Rattle.std.specs.Option.{option_or}
use Rattle.cx_callfmt.proofs.Texts.{behind_index, behind_more, records_more}
use Rattle.cx_callfmt.specs.Rules.{Behind}
use Rattle.cx_callfmt.specs.Text.{records_text}
use Rattle.cx_callfmt.specs.Writing.{behind_records}
use Rattle.cx_marks.specs.Marked.{is_marked}
use Rattle.cx_marks.specs.declared.marks.Marks.{Marks}
use Rattle.cx_observe.specs.Effects.{program_words}
use Rattle.cx_observe.specs.Seeing.{bytes_shown, seen_by, sights}
use Rattle.cx_observe.specs.User.{user}
use Rattle.cx_observe.specs.declared.obs.Obs.{Obs}
use Rattle.cx_placing.proofs.Cells.{byte_found-append}
use Rattle.cx_placing.specs.Gathering.{Gathered, gathered_by}
use Rattle.cx_placing.specs.Placing.{placed_at, words_placed}
use Rattle.cx_placing.specs.Records.{Record, item_records}
use Rattle.cx_placing.specs.Touched.{Touched, first_touched, touched_again, touching}
use Rattle.cx_program.specs.Knowing.{known_by}
use Rattle.cx_program.specs.declared.standing.Standing.{Standing}
use Rattle.cx_shadow.specs.Cells.{byte_of}
use Rattle.cx_slices.proofs.Bytes.{BytesRise-sorted}
use Rattle.cx_slices.proofs.Missing.{BytesRise-filter, BytesRise-missing}
use Rattle.cx_slices.proofs.OneStep.{same_items}
use Rattle.cx_slices.specs.Bytes.{Byte, BytesRise, Map, byte_found, missing}
use Rattle.cx_slices.specs.Items.{Known, after}
use Rattle.cx_slices.specs.Words.{changes}
use Rattle.cx_calls.specs.Gathers.{IsGathered, behind_last}
use Rattle.cx_calls.specs.declared.gatherer.Gatherer.{Gatherer}

pub on_ok : {T E P : Type 0} (r : Result T E) → P → OnOk r P
on_ok (Ok x) p = p
on_ok (Err e) p = tt

pub same_touched : (s t : Touched) → ((a : ℕ) → s a ≡ t a) → s ≡ t
same_touched s t same = λ i. λ a. same a i

-- ---- what is accessed

either : (t : Bool) (first second : Option ℕ)
    → ((t || is_some second) || is_some first) ≡ (t || is_some (option_or first second))
either true first second = refl
either false None second = last (is_some second)
  where
    last : (t : Bool) → (t || false) ≡ t
    last true = refl
    last false = refl
either false (Some b) second = yes (is_some second)
  where
    yes : (t : Bool) → (t || true) ≡ true
    yes true = refl
    yes false = refl

pub accessed : (o : Obs) (old new : Touched) (seen written : List Byte) → seen ≡ seen_by o
    → written ≡ bytes_shown o.write
    → ((a : ℕ) → new a ≡ ((old a || is_some (byte_found seen a)) || is_some (byte_found written a)))
    → new ≡ touching user o old
accessed o old new seen written saw wrote marks = same_touched new (touching user o old)
    (λ a. marks a
    ∙ (ap₂ (λ (es fs : List Byte). (old a || is_some (byte_found es a)) || is_some (byte_found fs a)) saw wrote
    ∙ (either (old a) (byte_found (bytes_shown o.write) a) (byte_found (seen_by o) a)
    ∙ ap (λ found. old a || is_some found) (sym (byte_found-append (bytes_shown o.write) (seen_by o) a)))))

-- ---- what is missing

pub again_rises : (again seen : List Byte) (map : Map) (touched : Touched) (o : Obs) → seen ≡ seen_by o
    → again ≡ touched_again touched (missing map seen) → BytesRise 0 again
again_rises again seen map touched o saw is = rw (is, saw) (BytesRise-filter (λ e. touched e.0) 0
    (missing map (seen_by o)) (BytesRise-missing map (seen_by o) (BytesRise-sorted (sights o))))

-- ---- all of it

text_grows : (b : Behind) (gone items : List Record) (old new : List ℕ) (behind : Behind) (kept : List Record)
    → old ≡ records_text b.index gone → behind ≡ behind_records b gone → kept ≡ items
    → new ≡ old ++ records_text behind.index kept → new ≡ records_text b.index (gone ++ items)
text_grows b gone items old new behind kept was next same is = is
    ∙ (ap₂ (λ (xs ys : List ℕ). xs ++ ys) was
    (ap₂ records_text (ap (λ (b : Behind). b.index) next ∙ behind_index b gone) same)
    ∙ sym (records_more b.index gone items))

next_grows : (b : Behind) (gone items : List Record) (behind now : Behind) (kept : List Record)
    → behind ≡ behind_records b gone → kept ≡ items → now ≡ behind_records behind kept
    → now ≡ behind_records b (gone ++ items)
next_grows b gone items behind now kept next same is =
    is ∙ (ap₂ behind_records next same ∙ sym (behind_more b gone items))

-- what a step was found to be handed, by what was known and accessed before it
pub record AreOfStep (o : Obs) (held : Standing) (marks : Marks) (words : List (Option ℕ)) (first again : List Byte)
    : Type 0 where
  pub words_are : words ≡ changes held.words (program_words o.pc o.x)
  pub first_are : first ≡ first_touched (is_marked marks) (missing (byte_of held.shadow) (seen_by o))
  pub again_are : again ≡ touched_again (is_marked marks) (missing (byte_of held.shadow) (seen_by o))

-- what was kept of it
pub record IsKept (o : Obs) (old new : Gatherer) (words : List (Option ℕ)) (first again : List Byte) : Type 0 where
  pub missed : new.missed.items ≡ old.missed.items ++ first
  pub text : new.behind.text ≡ old.behind.text ++ records_text old.behind.behind.index
      (item_records old.count (record { words = words_placed 32 old.first words; bytes = again; given = o.value }))
  pub next : new.behind.behind ≡ behind_records old.behind.behind
      (item_records old.count (record { words = words_placed 32 old.first words; bytes = again; given = o.value }))
  pub words_are : new.words ≡ (if old.first then words else old.words)
  pub first_is : new.first ≡ false
  pub count : new.count ≡ old.count + 1
  pub last : new.last ≡ old.last

pub one_up : (n k c : ℕ) → c ≡ n + 1 → n ≡ k → c ≡ suc k
one_up n k c is same = omega (arith, is, same)

pub taken : (g : Gathered) (o : Obs) (old new : Gatherer) (held : Standing) (marks : Marks)
    (words : List (Option ℕ)) (first again : List Byte) → IsGathered g old → known_by held ≡ known_by old.standing
    → ((a : ℕ) → is_marked marks a ≡ is_marked old.touched a) → AreOfStep o held marks words first again
    → IsKept o old new words first again → known_by new.standing ≡ after user (known_by held) o
    → is_marked new.touched ≡ touching user o (is_marked marks) → IsGathered (gathered_by user g o None) new
taken g o old new held marks words first again was known marked items kept goes touches =
    let knows : known_by held ≡ g.known = known ∙ was.known in
    let touched : is_marked marks ≡ g.touched
    = same_touched (is_marked marks) (is_marked old.touched) marked ∙ was.touched in
    let changed : words ≡ changes g.known.words (program_words o.pc o.x)
    = items.words_are ∙ ap (λ (k : Known). changes k.words (program_words o.pc o.x)) knows in
    let firsts : first ≡ first_touched g.touched (missing g.known.map (seen_by o))
    = items.first_are ∙ ap₂ (λ (t : Touched) (k : Known). first_touched t (missing k.map (seen_by o))) touched knows in
    let agains : again ≡ touched_again g.touched (missing g.known.map (seen_by o))
    = items.again_are ∙ ap₂ (λ (t : Touched) (k : Known). touched_again t (missing k.map (seen_by o))) touched knows in
    let records : item_records old.count (record {
      words = words_placed 32 old.first words;
      bytes = again;
      given = o.value;
    }) ≡ item_records g.count (placed_at user g.known g.touched g.first o)
    = ap₂ item_records was.count (same_items (record {
      words = words_placed 32 old.first words;
      bytes = again;
      given = o.value;
    }) (placed_at user g.known g.touched g.first o) (ap₂ (words_placed 32) was.first changed) agains refl) in
    record {
      last = kept.last ∙ was.last;
      first = kept.first_is;
      words = kept.words_are ∙ all_words old.first g.first was.first changed;
      missed = kept.missed ∙ ap₂ (λ (xs ys : List Byte). xs ++ ys) was.missed firsts;
      text = text_grows (behind_last g.last) g.behind (item_records g.count (placed_at user g.known g.touched g.first o))
          old.behind.text new.behind.text old.behind.behind (item_records old.count (record {
            words = words_placed 32 old.first words;
            bytes = again;
            given = o.value;
          })) was.text was.next records kept.text;
      next = next_grows (behind_last g.last) g.behind (item_records g.count (placed_at user g.known g.touched g.first o))
          old.behind.behind new.behind.behind (item_records old.count (record {
            words = words_placed 32 old.first words;
            bytes = again;
            given = o.value;
          })) was.next records kept.next;
      count = one_up old.count g.count new.count kept.count was.count;
      known = goes ∙ ap (λ (k : Known). after user k o) knows;
      touched = touches ∙ ap (touching user o) touched;
    }
  where
    all_words : (s t : Bool) → s ≡ t → words ≡ changes g.known.words (program_words o.pc o.x)
        → (if s then words else old.words) ≡ (if t then changes g.known.words (program_words o.pc o.x) else g.words)
    all_words s t same is = rw (same, is, was.words) refl
