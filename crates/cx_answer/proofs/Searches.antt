-- A search, one stretch after the other.
use Rattle.std.proofs.Common.{◌≡◌, ℕ, zero, suc, ◌+◌, ◌-◌, ◌<◌, ◌≤◌, Option, None, Some, refl, ap, sym, ◌∙◌, arith, subst}
use Rattle.std.proofs.Common.{Bool, true, false, ◌*◌, ◌%◌, IfSome, Ok, mod-lt, unwrap_or}
use Rattle.std.proofs.Math.Nat.{mul-mod_left}
use Rattle.cx_hart.specs.Whole.{machine_of}
use Rattle.cx_hart.specs.declared.record.StepRec.{StepRec}
use Rattle.cx_log.specs.Recording.{Recording}
use Rattle.cx_machine.specs.Machine.{MachineState}
use Rattle.cx_run.specs.Due.{due_at}
use Rattle.cx_run.specs.Run.{run_of}
use Rattle.cx_hart.specs.HartStep.{hart_step}
use Rattle.cx_seek.specs.Seeking.{Forwards, IsOf, Seeking, distance_in, taken, told_as}
use Rattle.cx_seek.proofs.Intervals.{interval-some}
use Rattle.cx_words.specs.declared.question.Query.TheVariants.{State}
use Rattle.cx_words.specs.declared.question.Query.{Query}
use Rattle.cx_answer.specs.AnswerOf.{IsBetween, answer_below, answer_of, found_between, is_covered, met_at, met_in, met_with, state_in}
use Rattle.cx_answer.specs.Latest.{latest, or_earlier}
use Rattle.cx_answer.specs.Lines.{is_listed}
use Rattle.cx_answer.specs.declared.reply.Answer.{Answer}
use Rattle.cx_answer.specs.declared.reply.Answer.TheVariants as answer
use Rattle.cx_answer.proofs.Latest.{joined}

pub none_found : (R : Recording) (query : Query) (n : ℕ) → found_between R query n n ≡ None
unfolding found_between
none_found R query n =
    let none : n - n ≡ 0 = omega arith in ap (latest (met_at R query) n) none

pub found_more : (R : Recording) (query : Query) (from n : ℕ) → from ≤ n
    → found_between R query from (n + 1) ≡ or_earlier (met_at R query n) (found_between R query from n)
unfolding found_between
found_more R query from n above =
    let count : n + 1 - from ≡ suc (n - from) = omega arith in
    let at : from + (n - from) ≡ n = omega arith in
    ap (latest (met_at R query) from) count
    ∙ ap (λ (k : ℕ). or_earlier (met_at R query k) (latest (met_at R query) from (n - from))) at

pub found_joined : (R : Recording) (query : Query) (base from upto : ℕ) → base ≤ from → from ≤ upto
    → found_between R query base upto ≡ or_earlier (found_between R query from upto) (found_between R query base from)
unfolding found_between
found_joined R query base from upto above below =
    let count : upto - base ≡ (from - base) + (upto - from) = omega arith in
    let at : base + (from - base) ≡ from = omega arith in
    ap (latest (met_at R query) base) count
    ∙ joined (met_at R query) base (from - base) (upto - from)
    ∙ ap (λ (k : ℕ). or_earlier (latest (met_at R query) k (upto - from)) (latest (met_at R query) base (from - base)))
    at

-- what a step that is taken answers
pub met_there : (R : Recording) (query : Query) (n : ℕ) (covered : Bool) (after : MachineState) (rec : StepRec)
    → taken R n ≡ Some (record { machine = after; rec = rec }) → covered ≡ is_covered query (due_at R.events n).transfers
    → met_with query n covered rec ≡ met_at R query n
unfolding met_at
met_there R query n covered after rec is covers =
    ap (λ (c : Bool). met_with query n c rec) covers ∙ sym (ap (met_in query n (due_at R.events n)) is)

pub is_multiple : (base distance count : ℕ) → (base + count * distance - base) % distance ≡ 0
is_multiple base distance count =
    let rest : base + count * distance - base ≡ count * distance = omega arith in
    ap (λ (n : ℕ). n % distance) rest ∙ mul-mod_left count distance

-- the record of a step that was taken is the run's own
pub told_taken : (E : Type 0) (R : Recording) (old new : Seeking) (rec : StepRec) (gave : Bool) → gave ≡ true
    → Forwards R old new (told_as {E = E} rec (Ok gave))
    → taken R old.player.at ≡ Some (record { machine = machine_of new.player.machine; rec = rec })
told_taken E R old new rec true is goes = goes.1.1
told_taken E R old new rec false is goes = cc

-- ---- one step more

pub found_next : (R : Recording) (query : Query) (from n at : ℕ) (met found later : Option Answer) → from ≤ n → at ≡ n
    → later ≡ or_earlier met found → met ≡ met_at R query at → found ≡ found_between R query from n
    → later ≡ found_between R query from (n + 1)
found_next R query from n at met found later above here is met_is found_is =
    is ∙ ap (λ (m : Option Answer). or_earlier m found) (met_is ∙ ap (met_at R query) here)
    ∙ ap (or_earlier (met_at R query n)) found_is ∙ sym (found_more R query from n above)

wider : (from n k m : ℕ) (a : Answer) → k ≤ from → n ≤ m → IsBetween from n a → IsBetween k m a
wider from n k m (answer.Step i ended) low high is = (omega arith, omega arith)
wider from n k m (answer.Dma i) low high is = (omega arith, omega arith)
wider from n k m (answer.State s) low high is = is
wider from n k m answer.Nothing low high is = is

pub between_next : (from n at : ℕ) (met found later : Option Answer) → from ≤ n → at ≡ n
    → later ≡ or_earlier met found → IfSome met (IsBetween at (at + 1)) → IfSome found (IsBetween from n)
    → IfSome later (IsBetween from (n + 1))
between_next from n at None None later above here is met_is found_is = rw is tt
between_next from n at None (Some a) later above here is met_is found_is =
    rw is (wider from n from (n + 1) a (omega arith) (omega arith) found_is)
between_next from n at (Some a) found later above here is met_is found_is =
    rw is (wider at (at + 1) from (n + 1) a (omega arith) (omega arith) met_is)

pub listed_next : (query : Query) (met found later : Option Answer) → later ≡ or_earlier met found
    → IfSome met (λ a. is_listed query a ≡ true) → IfSome found (λ a. is_listed query a ≡ true)
    → IfSome later (λ a. is_listed query a ≡ true)
listed_next query None found later is first then = rw is then
listed_next query (Some a) found later is first then = rw is first

-- ---- one stretch more

pub answer_there : (R : Recording) (query : Query) (base from upto n : ℕ) (a : Answer) → base ≡ R.base → base ≤ from
    → from ≤ upto → found_between R query base n ≡ found_between R query base upto
    → Some a ≡ found_between R query from upto → a ≡ answer_below R query n
answer_there R query base from upto n a base_is above below same is =
    let all = same ∙ found_joined R query base from upto above below
    ∙ ap (λ (f : Option Answer). or_earlier f (found_between R query base from)) (sym is) in
    ap (λ (f : Option Answer). unwrap_or f answer.Nothing)
    (sym all ∙ ap (λ (b : ℕ). found_between R query b n) base_is)

pub found_before : (R : Recording) (query : Query) (base from upto n : ℕ) → base ≤ from → from ≤ upto
    → found_between R query base n ≡ found_between R query base upto → None ≡ found_between R query from upto
    → found_between R query base n ≡ found_between R query base from
found_before R query base from upto n above below same is =
    same ∙ found_joined R query base from upto above below
    ∙ ap (λ (f : Option Answer). or_earlier f (found_between R query base from)) (sym is)

pub nothing_there : (R : Recording) (query : Query) (base upto n : ℕ) → base ≡ R.base → upto ≡ base
    → found_between R query base n ≡ found_between R query base upto → answer.Nothing ≡ answer_below R query n
nothing_there R query base upto n base_is end same =
    let all = same ∙ ap (found_between R query base) end ∙ none_found R query base in
    ap (λ (f : Option Answer). unwrap_or f answer.Nothing)
    (sym all ∙ ap (λ (b : ℕ). found_between R query b n) base_is)

-- ---- a state

pub state_there : (R : Recording) (s : Seeking) (n : ℕ) → IsOf R s → s.player.at ≡ n
    → answer.State s.player.machine.state ≡ answer_of R (State n)
unfolding answer_of
state_there R s n of at =
    let there = of.stands.there in
    ap (λ (m : MachineState). answer.State m.state) (sym there.is) ∙ sym (ap state_in there.there)
    ∙ ap (λ (k : ℕ). state_in (run_of (hart_step R.split) R (k - R.base))) at

pub below_distance : (n : ℕ) (s : Seeking) → n % distance_in s ≤ distance_in s - 1
below_distance n s =
    let some = interval-some (s.course.end - s.course.base) in
    let less = mod-lt n {m = distance_in s} (omega (arith, some)) in
    omega (arith, less)
