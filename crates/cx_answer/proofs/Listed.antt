-- An answer is one that its query may have.
use Rattle.std.proofs.Common.{◌≡◌, ℕ, ◌-◌, ◌≤◌, Bool, true, false, cond, ◌&&◌, nat_le, Option, None, Some, IsSome, refl, ap, sym, ◌∙◌, arith}
use Rattle.std.proofs.Common.{unwrap_or, subst}
use Rattle.std.proofs.lemmas.Bool.Decides.{nat_tests}
use Rattle.cx_hart.specs.HartStep.{hart_step}
use Rattle.cx_hart.specs.declared.record.StepRec.{StepRec}
use Rattle.cx_log.specs.Recording.{Recording}
use Rattle.cx_machine.specs.Due.{Due}
use Rattle.cx_machine.specs.Step.{Stepped}
use Rattle.cx_run.specs.Due.{due_at}
use Rattle.cx_run.specs.Run.{run_of}
use Rattle.cx_run.proofs.Runs.{run_of-fewer, some_run}
use Rattle.cx_seek.specs.Seeking.{taken}
use Rattle.cx_words.specs.declared.question.Query.{Query}
use Rattle.cx_words.specs.declared.question.Query.TheVariants.{State, Writer, Reader, Trap}
use Rattle.cx_answer.specs.AnswerOf.{answer_of, found_between, is_covered, is_met, is_query_there, met_at, met_in, met_with, state_in}
use Rattle.cx_answer.specs.Latest.{latest}
use Rattle.cx_answer.specs.Lines.{is_listed}
use Rattle.cx_answer.specs.declared.reply.Answer.{Answer}
use Rattle.cx_answer.specs.declared.reply.Answer.TheVariants as answer
use Rattle.cx_answer.proofs.Latest.{latest_is}

-- what is met at a step
listed_by : (query : Query) (n : ℕ) (rec : StepRec) (due : Due) (met covered : Bool) (a : Answer)
    → is_met query rec ≡ met → is_covered query due.transfers ≡ covered
    → cond met (Some (answer.Step n rec.ended)) (cond covered (Some (answer.Dma n)) None) ≡ Some a
    → is_listed query a ≡ true
listed_by (State k) n rec due true covered a is covers e = cc
listed_by (State k) n rec due false true a is covers e = cc
listed_by (State k) n rec due false false a is covers e = cc
listed_by (Writer place k) n rec due true covered a is covers e =
    let same : answer.Step n rec.ended ≡ a = cc in subst (λ b. is_listed (Writer place k) b ≡ true) same refl
listed_by (Writer place k) n rec due false true a is covers e =
    let same : answer.Dma n ≡ a = cc in subst (λ b. is_listed (Writer place k) b ≡ true) same refl
listed_by (Writer place k) n rec due false false a is covers e = cc
listed_by (Reader place k) n rec due true covered a is covers e =
    let same : answer.Step n rec.ended ≡ a = cc in subst (λ b. is_listed (Reader place k) b ≡ true) same refl
listed_by (Reader place k) n rec due false true a is covers e = cc
listed_by (Reader place k) n rec due false false a is covers e = cc
listed_by (Trap k) n rec due true covered a is covers e =
    let same : answer.Step n rec.ended ≡ a = cc in subst (λ b. is_listed (Trap k) b ≡ true) same is
listed_by (Trap k) n rec due false true a is covers e = cc
listed_by (Trap k) n rec due false false a is covers e = cc

listed_in : (query : Query) (n : ℕ) (due : Due) (s : Option (Stepped StepRec)) (a : Answer)
    → met_in query n due s ≡ Some a → is_listed query a ≡ true
listed_in query n due None a e = cc
listed_in query n due (Some s) a e = listed_by query n s.rec due _ _ a refl refl e

listed_at : (R : Recording) (query : Query) (n : ℕ) (a : Answer) → met_at R query n ≡ Some a
    → is_listed query a ≡ true
unfolding met_at
listed_at R query n a e = listed_in query n (due_at R.events n) (taken R n) a e

listed_found : (R : Recording) (query : Query) (from upto : ℕ) (found : Option Answer)
    → is_listed query answer.Nothing ≡ true → found_between R query from upto ≡ found
    → is_listed query (unwrap_or found answer.Nothing) ≡ true
unfolding found_between
listed_found R query from upto None nothing e = nothing
listed_found R query from upto (Some a) nothing e =
    let last = latest_is (met_at R query) from (upto - from) a e in
    listed_at R query last.place a last.is

listed_state : (n : ℕ) (R : Recording) → IsSome (run_of (hart_step R.split) R (n - R.base))
    → is_listed (State n) (state_in (run_of (hart_step R.split) R (n - R.base))) ≡ true
listed_state n R there =
    let run = some_run (run_of (hart_step R.split) R (n - R.base)) there in
    ap (λ r. is_listed (State n) (state_in r)) run.1

in_range : (base end n : ℕ) → (nat_le base n && nat_le n end && true) ≡ true → n - base ≤ end - base
in_range base end n e = grind (arith, nat_tests)

pub listed : (R : Recording) (query : Query) → IsSome (run_of (hart_step R.split) R (R.end - R.base))
    → is_query_there R.base R.end R.pages query ≡ true → is_listed query (answer_of R query) ≡ true
unfolding answer_of
listed R (State n) there is =
    listed_state n R (run_of-fewer (hart_step R.split) R (n - R.base) (R.end - R.base) (in_range R.base R.end n is) there)
listed R (Writer place n) there is = listed_found R (Writer place n) R.base n _ refl refl
listed R (Reader place n) there is = listed_found R (Reader place n) R.base n _ refl refl
listed R (Trap n) there is = listed_found R (Trap n) R.base n _ refl refl
