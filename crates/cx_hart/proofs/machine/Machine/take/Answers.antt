use Rattle.std.proofs.Common.{◌/◌, subst, sym, ap}
use Rattle.cx_csr.specs.Keeps.{Keeps}
use Rattle.cx_machine.specs.Machine.{pages_of}
use Rattle.cx_map.specs.declared.TheConstants.{PAGE_SIZE}
use Rattle.cx_hart.specs.Outcomes.{Goes, here_of, machine}
use Rattle.cx_hart.specs.Step.{blank, step, ticks_of, without_transfers}
use Rattle.cx_hart.specs.Surroundings.{Surroundings}
use Rattle.cx_hart.specs.Whole.{Whole, machine_of}
use Rattle.cx_hart.specs.declared.answer.Went.TheVariants as went
use Rattle.cx_hart.proofs.Ends.{goes_keeps, lines_keep}
use Rattle.cx_hart.proofs.Goings.{counts_none, counts_one, lines_back, step_goes, unended_blank}
use Rattle.cx_hart.proofs.machine.Machine.take.Goals as goal

pub invariant_of-self : goal.invariant_of-self
invariant_of-self g c =
    let memory = c.self.inside.ram.memory in
    let set = c.set_lines.new.state in
    let here : Surroundings = here_of c.self.inside.split c.args.due.value memory set in
    let kept = subst (Keeps (pages_of memory)) (sym c.set_lines.ensures)
    (lines_keep (pages_of memory) c.self.inside.state c.args.due.lines c.self.invariant c.requires.lines) in
    subst (λ n. Keeps n c.turn-went.new.state) (sym (ap (λ n. n / PAGE_SIZE) c.turn-went.ensures.size))
    (goes_keeps (g.R.Tells.knows c.turn-went.new.rec) here (machine c.turn-went.new.state c.turn-went.new.ram.memory)
    kept c.pages.ensures.bytes c.is_word.ensures
    (c.in-Stepped.ensures.ends (blank set) (unended_blank set) c.begin.ensures.told))

pub returns-in-Stepped-clause-outcome : goal.returns-in-Stepped-clause-outcome
returns-in-Stepped-clause-outcome g c =
    let memory = c.self.inside.ram.memory in
    let set = c.set_lines.new.state in
    let new = machine c.turn-went.new.state c.turn-went.new.ram.memory in
    subst
    (λ (m : Whole). Goes (g.R.Tells.knows c.turn-went.new.rec) went.Stepped (machine_of m) new
    (step m.split (without_transfers c.args.due) (machine_of m))) c.self.view_is
    (step_goes (g.R.Tells.knows c.turn-went.new.rec) c.self.inside.split c.args.due.value memory c.self.inside.state set
    c.args.due.lines went.Stepped new c.set_lines.ensures
    (c.in-Stepped.ensures.ends (blank set) (unended_blank set) c.begin.ensures.told))

pub returns-in-Stepped-clause-ticks : goal.returns-in-Stepped-clause-ticks
returns-in-Stepped-clause-ticks g c =
    let goes = returns-in-Stepped-clause-outcome g c in
    counts_one _ _ _ _ goes.0 goes.1.0 c.tick.ensures

pub returns-in-NeedsValue-clause-outcome : goal.returns-in-NeedsValue-clause-outcome
returns-in-NeedsValue-clause-outcome g c =
    let memory = c.self.inside.ram.memory in
    let set = c.set_lines.new.state in
    let new = machine c.turn-went.new.state c.turn-went.new.ram.memory in
    let goes = step_goes (g.R.Tells.knows c.turn-went.new.rec) c.self.inside.split c.args.due.value memory
    c.self.inside.state set c.args.due.lines (went.NeedsValue c.in-NeedsValue.what) new c.set_lines.ensures
    (c.in-NeedsValue.ensures.ends (blank set) (unended_blank set) c.begin.ensures.told) in
    subst
    (λ (m : Whole). Goes (g.R.Tells.knows c.turn-went.new.rec) (went.NeedsValue c.in-NeedsValue.what) (machine_of m)
    (machine (record c.turn-went.new.state { lines = c.self.inside.state.lines }) c.turn-went.new.ram.memory)
    (step m.split (without_transfers c.args.due) (machine_of m))) c.self.view_is
    (lines_back c.self.inside.state memory c.args.due.lines new goes.0, goes.1)

pub returns-in-NeedsValue-clause-ticks : goal.returns-in-NeedsValue-clause-ticks
returns-in-NeedsValue-clause-ticks g c =
    let goes = returns-in-NeedsValue-clause-outcome g c in
    counts_none c.args.steps.now _ (ap ticks_of goes.1)

pub returns-in-ValueLeft-clause-outcome : goal.returns-in-ValueLeft-clause-outcome
returns-in-ValueLeft-clause-outcome g c =
    let memory = c.self.inside.ram.memory in
    let set = c.set_lines.new.state in
    let new = machine c.turn-went.new.state c.turn-went.new.ram.memory in
    let goes = step_goes (g.R.Tells.knows c.turn-went.new.rec) c.self.inside.split c.args.due.value memory
    c.self.inside.state set c.args.due.lines went.ValueLeft new c.set_lines.ensures
    (c.in-ValueLeft.ensures.ends (blank set) (unended_blank set) c.begin.ensures.told) in
    subst
    (λ (m : Whole). Goes (g.R.Tells.knows c.turn-went.new.rec) went.ValueLeft (machine_of m)
    (machine (record c.turn-went.new.state { lines = c.self.inside.state.lines }) c.turn-went.new.ram.memory)
    (step m.split (without_transfers c.args.due) (machine_of m))) c.self.view_is
    (lines_back c.self.inside.state memory c.args.due.lines new goes.0, goes.1)

pub returns-in-ValueLeft-clause-ticks : goal.returns-in-ValueLeft-clause-ticks
returns-in-ValueLeft-clause-ticks g c =
    let goes = returns-in-ValueLeft-clause-outcome g c in
    counts_none c.args.steps.now _ (ap ticks_of goes.1)
