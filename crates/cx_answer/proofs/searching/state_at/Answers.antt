-- The seeker stands at the state.
use Rattle.std.proofs.Common.{◌≡◌, ◌-◌, ap, sym, arith, ◌∙◌}
use Rattle.cx_answer.specs.declared.reply.Answer.TheVariants as answer
use Rattle.cx_answer.proofs.Searches.{below_distance, state_there}
use Rattle.cx_answer.proofs.searching.state_at.Goals as goal

pub returns-clause-answer : goal.returns-clause-answer
returns-clause-answer g c R of =
    ap answer.State c.state.ensures
    ∙ state_there R c.seek.new.self c.args.n (c.in_ok-seek.ensures.run R of) c.in_ok-seek.ensures.at

pub returns-clause-ticks : goal.returns-clause-ticks
returns-clause-ticks g c =
    let less = below_distance (c.args.n - c.args.seeker.now.course.base) c.args.seeker.now in
    omega (arith, less, c.in_ok-seek.ensures.ticks)
