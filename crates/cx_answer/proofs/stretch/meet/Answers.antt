-- The record is the run's own.
use Rattle.std.proofs.Common.{◌≡◌, ℕ, ap, ◌∙◌}
use Rattle.cx_answer.specs.AnswerOf.{met_with}
use Rattle.cx_answer.proofs.Searches.{met_there, told_taken}
use Rattle.cx_answer.proofs.stretch.meet.Goals as goal

pub returns-clause-met : goal.returns-clause-met
returns-clause-met g c R of =
    let query = c.args.query.now in
    let covered = c.is_covered-covered.result in
    let rec = c.forward_into.new.rec in
    let is = told_taken _ R c.args.seeker.now c.forward_into.new.self rec c.in_ok-forward_into.field-0 (cc)
    (c.in_ok-forward_into.ensures.step R of) in
    c.met_with.ensures.met
    ∙ ap (λ (n : ℕ). met_with query n covered rec) c.at-n.ensures.at
    ∙ met_there R query c.args.seeker.now.player.at covered _ rec is (c.is_covered-covered.ensures.covered R of)
