-- The words of a state, read one after another.
use Rattle.std.proofs.Common.{◌≡◌, ℕ, zero, suc, ◌+◌, ◌-◌, ◌<◌, ◌≤◌, List, [], ◌∷◌, ◌++◌, length, take, get_or, set}
use Rattle.std.proofs.Common.{arith, refl, ap, sym, ◌∙◌, Result, Ok, Err, IsSome, append_assoc, append-nil, below_more}
use Rattle.std.proofs.Common.{◌≢◌}
use Rattle.std.proofs.lemmas.List.{take_more_set, get_or-set_same, get_or-set_other, take_all}
use Rattle.cx_csr.specs.declared.rules.Rule.{Rule}
use Rattle.cx_csr.specs.declared.rules.Rule.TheVariants.{Aligned}
use Rattle.cx_csr.specs.Rules.{Admits, AllFit, FitsAt, admits, rule_at}
use Rattle.cx_codec.specs.Place.{Place, read_on, done}
use Rattle.cx_codec.specs.Fields.{word_at}
use Rattle.cx_codec.specs.Reads.{Begins, Standing, Follows, Reads, place_in}
use Rattle.cx_codec.proofs.Composing.{meets_along}
use Rattle.cx_codec.proofs.Following.{begins_on, follows_none, follows_on, end_stays}
use Rattle.cx_log.specs.declared.fault.LogFault.{LogFault}
use Rattle.cx_log.specs.Fault.{log_met}
use Rattle.cx_codec.specs.Checks.{checked}
use Rattle.cx_log.specs.Reading.{words_at, state_words_at}

-- these words, in front of those that are read
abbrev pub with_front : List ℕ → Result (List ℕ × Place) ℕ → Result (List ℕ × Place) ℕ
with_front front (Ok x) = Ok (front ++ x.0, x.1)
with_front front (Err o) = Err o

-- The first i words stand in words, the last of them is before, and the others are read from here.
pub record SoFar (pages : ℕ) (first : Place) (words : List ℕ) (i before : ℕ) (here : Place) : Type 0 where
  pub read : state_words_at pages first ≡ with_front (take i words) (words_at pages (58 - i) i before here)

pub none_yet : (pages : ℕ) (first : Place) (words : List ℕ) → SoFar pages first words 0 0 first
unfolding state_words_at
none_yet pages first words = record { read = nothing (words_at pages 58 0 0 first) }
  where
    nothing : (r : Result (List ℕ × Place) ℕ) → r ≡ with_front [] r
    nothing (Ok x) = refl
    nothing (Err o) = refl

-- with a word behind the front
behind_front : (front : List ℕ) (word : ℕ) (r : Result (List ℕ × Place) ℕ)
    → with_front front (read_on r (λ rest. done (word ∷ rest))) ≡ with_front (front ++ word ∷ []) r
behind_front front word (Ok x) = ap (λ (xs : List ℕ). Ok (xs, x.1)) (sym (append_assoc front (word ∷ []) x.0))
behind_front front word (Err o) = refl

words_step : (pages n i before : ℕ) (here : Place) → 0 < n
    → words_at pages n i before here ≡ read_on (checked (λ w. admits pages before (rule_at i) w) word_at here)
    (λ word p. read_on (words_at pages (n - 1) (i + 1) word p) (λ rest. done (word ∷ rest)))
words_step pages zero i before here some = absurd (omega arith)
words_step pages (suc n) i before here some = let e : suc n - 1 ≡ n = omega arith in rw e refl

pub one_more : (pages : ℕ) (first : Place) (words : List ℕ) (i before word : ℕ) (here after : Place) → i < 58
    → length words ≡ 58 → SoFar pages first words i before here → checked (λ w. admits pages before (rule_at i) w)
    word_at here ≡ Ok (word, after) → SoFar pages first (set words i word) (i + 1) word after
one_more pages first words i before word here after few size so_far read =
    let inside : i < length words = omega arith in
    let left : 58 - i - 1 ≡ 58 - (i + 1) = omega arith in
    let step = words_step pages (58 - i) i before here (omega arith) in
    record {
      read = so_far.read
          ∙ rw (step, read, left) (behind_front (take i words) word (words_at pages (58 - (i + 1)) (i + 1) word after)
          ∙ ap (λ (xs : List ℕ). with_front xs (words_at pages (58 - (i + 1)) (i + 1) word after))
          (sym (take_more_set words i word inside)));
    }

pub not_one_more : (pages : ℕ) (first : Place) (words : List ℕ) (i before o : ℕ) (here : Place) → i < 58
    → SoFar pages first words i before here → checked (λ w. admits pages before (rule_at i) w) word_at here ≡ Err o
    → state_words_at pages first ≡ Err o
not_one_more pages first words i before o here few so_far read =
    let step = words_step pages (58 - i) i before here (omega arith) in
    so_far.read ∙ rw (step, read) refl

pub all_words : (pages : ℕ) (first : Place) (words : List ℕ) (i before : ℕ) (here : Place) → i ≡ 58 → length words ≡ 58
    → SoFar pages first words i before here → state_words_at pages first ≡ Ok (words, here)
all_words pages first words i before here all size so_far =
    let none : 58 - i ≡ 0 = omega arith in
    so_far.read ∙ rw none (ap (λ (xs : List ℕ). Ok (xs, here)) (append-nil (take i words)
    ∙ take_all i words (omega arith)))

-- In every input that begins with what was given, the words so far were read.
pub record WordsRead (pages : ℕ) (first here : Standing) (words : List ℕ) (i before : ℕ) : Type 0 where
  pub follows : Follows first here
  pub read : (input : List ℕ) → Begins here.given input → SoFar pages (place_in first input) words i before
      (place_in here input)

pub none_read : (pages : ℕ) (s : Standing) (words : List ℕ) → IsSome s.left → WordsRead pages s s words 0 0
none_read pages s words told = record {
  follows = follows_none s told;
  read =
      λ input begins. none_yet pages (place_in s input) words;
}

pub word_read : {first here new : Standing} (pages : ℕ) (words : List ℕ) (i before word : ℕ) → i < 58
    → length words ≡ 58
    → WordsRead pages first here words i before
    → Reads log_met (λ (w : ℕ). w) (checked (λ w. admits pages before (rule_at i) w) word_at) here new (Ok word)
    → WordsRead pages first new (set words i word) (i + 1) word
word_read {first} {here} {new} pages words i before word few size so_far read = record {
  follows = follows_on so_far.follows read.follows;
  read = λ input begins. one_more pages (place_in first input) words i before word (place_in here input)
      (place_in new input) few size
      (so_far.read input (begins_on read.follows.grows begins)) (read.reads input begins);
}

pub word_missing : {first here new : Standing} {e e' : LogFault} (pages : ℕ) (words : List ℕ) (i before : ℕ) → i < 58
    → log_met e' ≡ log_met e
    → WordsRead pages first here words i before
    → Reads log_met (λ (w : ℕ). w) (checked (λ w. admits pages before (rule_at i) w) word_at) here new (Err e)
    → Reads log_met (λ (ws : List ℕ). ws) (state_words_at pages) first new (Err e')
word_missing {first} {here} {new} {e} pages words i before few same so_far read = record {
  follows = follows_on so_far.follows read.follows;
  reads = λ input begins.
      let earlier = begins_on read.follows.grows begins in
      rw same (meets_along (log_met e) (checked (λ w. admits pages before (rule_at i) w) word_at (place_in here input))
      (state_words_at pages (place_in first input)) _ _ _ _
      (λ o bad. not_one_more pages (place_in first input) words i before o (place_in here input) few
      (so_far.read input earlier) bad)
      (end_stays so_far.follows input earlier) (read.reads input begins));
}

pub words_read : {first here : Standing} (pages : ℕ) (words : List ℕ) (i before : ℕ) → i ≡ 58 → length words ≡ 58
    → WordsRead pages first here words i before
    → Reads log_met (λ (ws : List ℕ). ws) (state_words_at pages) first here (Ok words)
words_read {first} {here} pages words i before all size so_far = record {
  follows = so_far.follows;
  reads = λ input begins. all_words pages (place_in first input) words i before (place_in here input) all size
      (so_far.read input begins);
}

-- The words so far fit, and before is the last of them.
pub record FitsSoFar (pages : ℕ) (words : List ℕ) (i before : ℕ) : Type 0 where
  pub fit : (k : ℕ) → k < i → FitsAt pages words k
  pub last : 0 < i → before ≡ get_or words (i - 1) 0

pub none_fits : (pages : ℕ) (words : List ℕ) → FitsSoFar pages words 0 0
none_fits pages words = record { fit = λ k less. absurd (omega arith); last = λ some. absurd (omega arith) }

fits_along : (pages before before' : ℕ) (rule : Rule) (word word' : ℕ) → before ≡ before' → word ≡ word'
    → Admits pages before rule word → Admits pages before' rule word'
fits_along pages before before' rule word word' e f admitted = rw (← e, ← f) admitted

fits_here : (pages : ℕ) (words : List ℕ) (i before word : ℕ) → i < length words
    → (0 < i → before ≡ get_or words (i - 1) 0) → Admits pages before (rule_at i) word
    → FitsAt pages (set words i word) i
fits_here pages words zero before word inside last admitted = fits_along pages word (get_or (set words 0 word) 0 0)
    Aligned word (get_or (set words 0 word) 0 0) (sym (get_or-set_same words 0 word 0 inside))
    (sym (get_or-set_same words 0 word 0 inside)) admitted
fits_here pages words (suc i) before word inside last admitted =
    let other : suc i - 1 ≢ suc i = omega arith in
    fits_along pages before (get_or (set words (suc i) word) (suc i - 1) 0) (rule_at (suc i)) word
    (get_or (set words (suc i) word) (suc i) 0)
    (last (omega arith) ∙ sym (get_or-set_other words (suc i) (suc i - 1) word 0 other))
    (sym (get_or-set_same words (suc i) word 0 inside)) admitted

fits_before : (pages : ℕ) (words : List ℕ) (i word k : ℕ) → k < i → FitsAt pages words k
    → FitsAt pages (set words i word) k
fits_before pages words i word k less fit =
    let other : k ≢ i = omega arith in
    let before : k - 1 ≢ i = omega arith in
    fits_along pages (get_or words (k - 1) 0) (get_or (set words i word) (k - 1) 0) (rule_at k) (get_or words k 0)
    (get_or (set words i word) k 0)
    (sym (get_or-set_other words i (k - 1) word 0 before)) (sym (get_or-set_other words i k word 0 other)) fit

pub one_more_fits : (pages : ℕ) (words : List ℕ) (i before word : ℕ) → i < 58 → length words ≡ 58
    → FitsSoFar pages words i before → Admits pages before (rule_at i) word
    → FitsSoFar pages (set words i word) (i + 1) word
one_more_fits pages words i before word few size so_far admitted =
    let inside : i < length words = omega arith in
    record {
      fit = below_more (λ k. FitsAt pages (set words i word) k) i (λ k less. fits_before pages words i word k less
          (so_far.fit k less)) (fits_here pages words i before word inside so_far.last admitted);
      last = λ some. let e : i + 1 - 1 ≡ i = omega arith in rw e (sym (get_or-set_same words i word 0 inside));
    }

pub all_fit : (pages : ℕ) (words : List ℕ) (i before : ℕ) → 58 ≤ i → FitsSoFar pages words i before → AllFit pages words
all_fit pages words i before all so_far k less = so_far.fit k (omega arith)
