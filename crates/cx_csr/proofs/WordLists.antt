-- The words of a state that keeps the rules obey theirs, one after another.
use Rattle.std.proofs.Common.{◌≡◌, ℕ, zero, suc, ◌+◌, ◌-◌, ◌*◌, ◌/◌, ◌%◌, ◌^◌, ◌<◌, ◌≤◌, List, [], ◌∷◌, ◌++◌, length}
use Rattle.std.proofs.Common.{take, drop, get_or, All, Option, None, Some, replicate, refl, sym, ap, subst, ◌∙◌, arith}
use Rattle.std.proofs.Common.{add-one, length-take, length-drop, take_all, append-nil, length-append}
use Rattle.std.specs.Prelude.{IfSome}
use Rattle.std.proofs.lemmas.List.Elements.{All-head, All-tail, All-drop, All-take, All-cons, All-append}
use Rattle.std.proofs.lemmas.List.Elements.{All-from_recursion}
use Rattle.std.proofs.lemmas.Nat.{and_le_r}
use Rattle.std.specs.List.{AllByRecursion}
use Rattle.std.proofs.Math.Seq.{drop-cons}
use Rattle.cx_csr.specs.declared.state.State.{State}
use Rattle.cx_csr.specs.declared.rules.Rule.{Rule}
use Rattle.cx_csr.specs.declared.rules.Rule.TheVariants.{Any, Within, Flag, Place}
use Rattle.cx_csr.specs.Rules.{Admits, AllFit, IsPlace, IsPlaceBehind, IsWithin, rules as word_rules, rule_at}
use Rattle.cx_csr.specs.Keeps.{Keeps}
use Rattle.cx_csr.specs.Words.{csr_of, csr_words, reservation_of, reservation_words, rest_words, state_of, words_of}
use Rattle.cx_csr.specs.declared.interrupts.TheConstants.{LINE_INTERRUPTS}
use Rattle.cx_map.specs.declared.TheConstants.{MOST_PAGES}

-- rules and words side by side, behind the word that stands before them
abbrev pub FitFrom : ℕ → ℕ → List Rule → List ℕ → Type 0
FitFrom pages before [] words = Unit {0}
FitFrom pages before (r ∷ rs) [] = ⊥
FitFrom pages before (r ∷ rs) (w ∷ ws) = Admits pages before r w × FitFrom pages w rs ws

pub fit_at : (pages before : ℕ) (rs : List Rule) (ws : List ℕ) (i : ℕ) → FitFrom pages before rs ws → i < length rs
    → Admits pages (get_or (before ∷ ws) i 0) (get_or rs i Any) (get_or ws i 0)
fit_at pages before [] ws i fits h = absurd (omega arith)
fit_at pages before (r ∷ rs) [] i fits h = absurd fits
fit_at pages before (r ∷ rs) (w ∷ ws) zero fits h = fits.0
fit_at pages before (r ∷ rs) (w ∷ ws) (suc i) fits h = fit_at pages w rs ws i fits.1 (omega arith)

-- words of any value
pub fit-any : (pages before n : ℕ) (rs : List Rule) (xs ws : List ℕ) → length xs ≡ n → All (λ v. v < 2 ^ 32) xs
    → ((b : ℕ) → FitFrom pages b rs ws) → FitFrom pages before (replicate n Any ++ rs) (xs ++ ws)
fit-any pages before zero rs [] ws e wide rest = rest before
fit-any pages before zero rs (x ∷ xs) ws e wide rest = absurd (omega arith)
fit-any pages before (suc n) rs [] ws e wide rest = absurd (omega arith)
fit-any pages before (suc n) rs (x ∷ xs) ws e wide rest = (
  All-head (λ v. v < 2 ^ 32) x xs wide,
  fit-any pages x n rs xs ws (omega arith)
      (All-tail (λ v. v < 2 ^ 32) x xs wide) rest,
)

-- the part of a list from i on, spelled by its places
abbrev pub spelled : ℕ → ℕ → List ℕ → List ℕ
spelled zero i words = []
spelled (suc n) i words = get_or words i 0 ∷ spelled n (i + 1) words

pub take-drop_spelled : (n i : ℕ) (words : List ℕ) → i + n ≤ length words → take n (drop i words) ≡ spelled n i words
take-drop_spelled zero i words h = refl
take-drop_spelled (suc n) i words h =
    let at_place : i < length words = omega arith in
    rw (drop-cons words i 0 at_place) (ap (λ (rest : List ℕ). get_or words i 0 ∷ rest)
    (rw (← add-one) (take-drop_spelled n (i + 1) words (omega arith))))

fit-reservation : (pages before lines : ℕ) (r : Option ℕ) → IfSome r (IsPlace pages) → IsWithin LINE_INTERRUPTS lines
    → FitFrom pages before (Flag ∷ Place ∷ Within LINE_INTERRUPTS ∷ []) (reservation_words r ++ lines ∷ [])
fit-reservation pages before lines None place within = (omega arith, (refl, (within, tt)))
fit-reservation pages before lines (Some p) place within = (omega arith, (place, (within, tt)))

fit-rest : (pages before : ℕ) (s : State) → Keeps pages s → FitFrom pages before (drop 32 word_rules) (rest_words s)
fit-rest pages before s k =
    let c = k.csr in (
      k.mode,
      (
        c.mstatus,
        (
          c.medeleg,
          (
            c.mideleg,
            (
              c.mie,
              (
                c.mip,
                (
                  c.mtvec,
                  (
                    c.mcounteren,
                    (
                      c.mscratch,
                      (
                        c.mepc,
                        (
                          c.mcause,
                          (
                            c.mtval,
                            (
                              c.stvec,
                              (
                                c.scounteren,
                                (
                                  c.sscratch,
                                  (
                                    c.sepc,
                                    (
                                      c.scause,
                                      (
                                        c.stval,
                                        (
                                          c.satp,
                                          (
                                            omega (arith, c.mcycle),
                                            (
                                              omega (arith, c.mcycle),
                                              (
                                                omega (arith, c.minstret),
                                                (
                                                  omega (arith, c.minstret),
                                                  fit-reservation pages (s.csr.minstret / 2 ^ 32) s.lines.0
                                                      s.reservation k.reservation k.lines,
                                                ),
                                              ),
                                            ),
                                          ),
                                        ),
                                      ),
                                    ),
                                  ),
                                ),
                              ),
                            ),
                          ),
                        ),
                      ),
                    ),
                  ),
                ),
              ),
            ),
          ),
        ),
      ),
    )

-- the word before a place, where the first word stands before itself
before_at : (w : ℕ) (ws : List ℕ) (i : ℕ) → get_or (w ∷ w ∷ ws) i 0 ≡ get_or (w ∷ ws) (i - 1) 0
before_at w ws zero = refl
before_at w ws (suc i) = ap (λ (k : ℕ). get_or (w ∷ ws) k 0) (omega arith)

pub fit_from_keeps : (pages : ℕ) (s : State) → Keeps pages s → AllFit pages (words_of s)
unfolding words_of
fit_from_keeps pages s k i h =
    let registers : length (drop 1 s.x) ≡ 31 = omega (arith, length-drop 1 s.x, k.registers) in
    let rest : FitFrom pages s.pc (drop 1 word_rules) (drop 1 s.x ++ rest_words s) =
    fit-any pages s.pc 31 (drop 32 word_rules) (drop 1 s.x) (rest_words s) registers
    (All-drop (λ v. v < 2 ^ 32) 1 s.x k.wide) (λ b. fit-rest pages b s k) in
    let at_index = fit_at pages s.pc word_rules (words_of s) i (k.pc, rest) h in
    subst (λ (before : ℕ). Admits pages before (rule_at i) (get_or (words_of s) i 0))
    (before_at s.pc (drop 1 s.x ++ rest_words s) i) at_index

-- the words of a state, where its parts are the parts of 58 words
pub words_from_parts : (words x csr reservation : List ℕ) → length words ≡ 58 → x ≡ take 31 (drop 1 words)
    → csr ≡ take 22 (drop 33 words) → reservation ≡ get_or words 55 0 ∷ get_or words 56 0 ∷ []
    → (get_or words 0 0 ∷ x) ++ ((get_or words 32 0 ∷ csr) ++ reservation ++ get_or words 57 0 ∷ []) ≡ words
words_from_parts words x csr reservation n e f g =
    let whole : words ≡ spelled 58 0 words = sym (take_all 58 words (omega arith))
    ∙ take-drop_spelled 58 0 words (omega arith) in
    let front : x ≡ spelled 31 1 words = e ∙ take-drop_spelled 31 1 words (omega arith) in
    let middle : csr ≡ spelled 22 33 words = f ∙ take-drop_spelled 22 33 words (omega arith) in
    rw (front, middle, g) (sym whole)

pub words_put : (pc : ℕ) (x rest : List ℕ) → length x ≡ 32 → pc ∷ (take 31 (drop 1 x) ++ (rest ++ [])) ≡ (pc ∷ drop 1 x)
    ++ rest
words_put pc x rest n = rw (take_all 31 (drop 1 x) (omega (arith, length-drop 1 x)), append-nil rest) refl

pub csr_words-csr_of : (words : List ℕ) → length words ≡ 58 → get_or words 51 0 < 2 ^ 32 → get_or words 53 0 < 2 ^ 32
    → csr_words (csr_of words) ≡ take 22 (drop 33 words)
csr_words-csr_of words n h i =
    let cycle = parted (get_or words 51 0) (get_or words 52 0) h in
    let instret = parted (get_or words 53 0) (get_or words 54 0) i in
    rw (cycle.0, cycle.1, instret.0, instret.1) (sym (take-drop_spelled 22 33 words (omega arith)))
  where
    parted : (low high : ℕ) → low < 2 ^ 32 → ((low + high * 2 ^ 32) % 2 ^ 32 ≡ low)
        × ((low + high * 2 ^ 32) / 2 ^ 32 ≡ high)
    parted low high h = (omega arith, omega arith)

reservation_words-reservation_of : (pages flag place : ℕ) → flag ≤ 1 → IsPlaceBehind pages flag place
    → reservation_words (reservation_of flag place) ≡ flag ∷ place ∷ []
reservation_words-reservation_of pages zero place h behind = ap (λ (p : ℕ). 0 ∷ p ∷ []) (sym behind)
reservation_words-reservation_of pages (suc flag) place h behind = ap (λ (f : ℕ). f ∷ place ∷ []) (omega arith)

pub words_of-state_of : (pages : ℕ) (words : List ℕ) → length words ≡ 58 → AllFit pages words
    → words_of (state_of words) ≡ words
unfolding words_of state_of
words_of-state_of pages words n fit =
    words_from_parts words (take 31 (drop 1 words)) (csr_words (csr_of words))
    (reservation_words (reservation_of (get_or words 55 0) (get_or words 56 0))) n refl
    (csr_words-csr_of words n (fit 51 (omega arith)) (fit 53 (omega arith)))
    (reservation_words-reservation_of pages (get_or words 55 0) (get_or words 56 0) (fit 55 (omega arith))
    (fit 56 (omega arith)))

from_halves_fits : (low high : ℕ) → low < 2 ^ 32 → high < 2 ^ 32 → low + high * 2 ^ 32 < 2 ^ 64
from_halves_fits low high h i = omega arith

place_from_fit : (pages flag place : ℕ) → IsPlaceBehind pages flag place
    → IfSome (reservation_of flag place) (IsPlace pages)
place_from_fit pages zero place behind = tt
place_from_fit pages (suc flag) place behind = behind

pub keeps-state_of : (pages : ℕ) (words : List ℕ) → length words ≡ 58 → All (λ w. w < 2 ^ 32) words → AllFit pages words
    → Keeps pages (state_of words)
unfolding state_of
keeps-state_of pages words n wide fit =
    let P : ℕ → Type 0 = λ w. w < 2 ^ 32 in
    record {
      pc = fit 0 (omega arith);
      registers = omega (arith, length-take 31 (drop 1 words), length-drop 1 words);
      zero_register = refl;
      wide = All-cons P 0 (take 31 (drop 1 words)) (omega arith)
          (All-take P 31 (drop 1 words) (All-drop P 1 words wide));
      mode = fit 32 (omega arith);
      csr = record {
        mstatus = fit 33 (omega arith);
        medeleg = fit 34 (omega arith);
        mideleg = fit 35 (omega arith);
        mie = fit 36 (omega arith);
        mip = fit 37 (omega arith);
        mtvec = fit 38 (omega arith);
        mcounteren = fit 39 (omega arith);
        mscratch = fit 40 (omega arith);
        mepc = fit 41 (omega arith);
        mcause = fit 42 (omega arith);
        mtval = fit 43 (omega arith);
        stvec = fit 44 (omega arith);
        scounteren = fit 45 (omega arith);
        sscratch = fit 46 (omega arith);
        sepc = fit 47 (omega arith);
        scause = fit 48 (omega arith);
        stval = fit 49 (omega arith);
        satp = fit 50 (omega arith);
        mcycle = from_halves_fits (get_or words 51 0) (get_or words 52 0) (fit 51 (omega arith)) (fit 52 (omega arith));
        minstret = from_halves_fits (get_or words 53 0) (get_or words 54 0) (fit 53 (omega arith))
            (fit 54 (omega arith));
      };
      reservation = place_from_fit pages (get_or words 55 0) (get_or words 56 0) (fit 56 (omega arith));
      lines = fit 57 (omega arith);
    }

length-reservation_words : (r : Option ℕ) → length (reservation_words r) ≡ 2
length-reservation_words None = refl
length-reservation_words (Some place) = refl

pub length-words_of : (pages : ℕ) (s : State) → Keeps pages s → length (words_of s) ≡ 58
unfolding words_of
length-words_of pages s k =
    let registers = length-drop 1 s.x in
    let behind = length-append (reservation_words s.reservation) (s.lines.0 ∷ []) in
    omega (
      arith,
      length-append (drop 1 s.x) (rest_words s),
      registers,
      k.registers,
      behind,
      length-reservation_words
          s.reservation,
    )

pub within_wide : (mask word : ℕ) → mask < 2 ^ 32 → IsWithin mask word → word < 2 ^ 32
within_wide mask word h within = omega (arith, and_le_r word mask, within)

wide_reservation : (pages lines : ℕ) (r : Option ℕ) → pages ≤ MOST_PAGES → IfSome r (IsPlace pages)
    → IsWithin LINE_INTERRUPTS lines → AllByRecursion (λ w. w < 2 ^ 32) (reservation_words r ++ lines ∷ [])
wide_reservation pages lines None h place within =
    (omega arith, (omega arith, (within_wide LINE_INTERRUPTS lines (omega arith) within, tt)))
wide_reservation pages lines (Some p) h place within =
    (omega arith, (omega (arith, place.inside.high), (within_wide LINE_INTERRUPTS lines (omega arith) within, tt)))

wide_rest : (pages : ℕ) (s : State) → pages ≤ MOST_PAGES → Keeps pages s
    → AllByRecursion (λ w. w < 2 ^ 32) (rest_words s)
wide_rest pages s h k =
    let c = k.csr in (
      omega (arith, k.mode.most),
      (
        within_wide _ _ (omega arith) c.mstatus.within,
        (
          within_wide _ _ (omega arith) c.medeleg,
          (
            within_wide _ _ (omega arith) c.mideleg,
            (
              within_wide _ _ (omega arith) c.mie,
              (
                within_wide _ _ (omega arith) c.mip,
                (
                  within_wide _ _ (omega arith) c.mtvec,
                  (
                    within_wide _ _ (omega arith) c.mcounteren,
                    (
                      c.mscratch,
                      (
                        c.mepc.wide,
                        (
                          c.mcause,
                          (
                            c.mtval,
                            (
                              within_wide _ _ (omega arith) c.stvec,
                              (
                                within_wide _ _ (omega arith) c.scounteren,
                                (
                                  c.sscratch,
                                  (
                                    c.sepc.wide,
                                    (
                                      c.scause,
                                      (
                                        c.stval,
                                        (
                                          c.satp,
                                          (
                                            omega (arith, c.mcycle),
                                            (
                                              omega (arith, c.mcycle),
                                              (
                                                omega (arith, c.minstret),
                                                (
                                                  omega (arith, c.minstret),
                                                  wide_reservation pages s.lines.0 s.reservation h k.reservation
                                                      k.lines,
                                                ),
                                              ),
                                            ),
                                          ),
                                        ),
                                      ),
                                    ),
                                  ),
                                ),
                              ),
                            ),
                          ),
                        ),
                      ),
                    ),
                  ),
                ),
              ),
            ),
          ),
        ),
      ),
    )

pub wide-words_of : (pages : ℕ) (s : State) → pages ≤ MOST_PAGES → Keeps pages s → All (λ w. w < 2 ^ 32) (words_of s)
unfolding words_of
wide-words_of pages s h k =
    let P : ℕ → Type 0 = λ w. w < 2 ^ 32 in
    All-append P (s.pc ∷ drop 1 s.x) (rest_words s) (All-cons P s.pc (drop 1 s.x) k.pc.wide (All-drop P 1 s.x k.wide))
    (All-from_recursion P (rest_words s) (wide_rest pages s h k))
