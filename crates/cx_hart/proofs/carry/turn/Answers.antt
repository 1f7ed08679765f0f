use Rattle.std.proofs.Common.{Err}
use Rattle.cx_hart.specs.Begin.{begun}
use Rattle.cx_hart.specs.Outcomes.{here_of, machine}
use Rattle.cx_hart.specs.Phases.{unseen}
use Rattle.cx_hart.specs.Surroundings.{Surroundings}
use Rattle.cx_hart.specs.Turn.{executed, turn}
use Rattle.cx_hart.proofs.Beginnings.{begun_cause, turn_goes, turn_stops}
use Rattle.cx_hart.proofs.GoingOn.{ends_as}
use Rattle.cx_hart.proofs.carry.turn.Goals as goal

pub stopped-requires : goal.stopped-requires
stopped-requires g c =
    begun_cause (here_of c.args.split c.args.given c.args.ram.now.memory c.args.state.now) c.in-Err.stop
    c.requires.keeps c.pages.ensures.bytes c.is_word.ensures c.in-Err.ensures.going

pub returns-in-Ok-clause-ends : goal.returns-in-Ok-clause-ends
returns-in-Ok-clause-ends g c =
    let here : Surroundings = here_of c.args.split c.args.given c.args.ram.now.memory c.args.state.now in
    ends_as (g.R.Tells.knows c.args.rec.now) (g.R.Tells.knows c.begun.new.rec) (g.R.Tells.knows c.carry.new.rec) here
    c.carry.result (machine c.carry.new.state c.carry.new.ram.memory) (turn here)
    (executed here c.in-Ok.going.word c.in-Ok.going.ins) (begun here).looks
    (turn_goes here c.in-Ok.going c.in-Ok.ensures.going) c.begun.ensures.told c.carry.ensures.ends

pub returns-in-Err-clause-ends : goal.returns-in-Err-clause-ends
returns-in-Err-clause-ends g c =
    let here : Surroundings = here_of c.args.split c.args.given c.args.ram.now.memory c.args.state.now in
    ends_as (g.R.Tells.knows c.args.rec.now) (g.R.Tells.knows c.begun.new.rec) (g.R.Tells.knows c.stopped.new.rec) here
    c.stopped.result (machine c.stopped.new.state c.args.ram.now.memory) (turn here) (unseen (Err c.in-Err.stop))
    (begun here).looks (turn_stops here c.in-Err.stop c.in-Err.ensures.going) c.begun.ensures.told
    (c.stopped.ensures c.args.split c.args.ram.now.memory)
