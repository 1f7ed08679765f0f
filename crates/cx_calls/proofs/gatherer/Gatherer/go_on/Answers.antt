use Rattle.std.proofs.Common.{◌∙◌}
use Rattle.cx_marks.specs.Marked.{is_marked}
use Rattle.cx_observe.specs.Effects.{program_words}
use Rattle.cx_process.proofs.Standing.{goes_behind}
use Rattle.cx_program.specs.Knowing.{known_by}
use Rattle.cx_calls.proofs.Taking.{accessed}
use Rattle.cx_calls.proofs.gatherer.Gatherer.go_on.Goals as goal

pub returns-clause-known : goal.returns-clause-known
returns-clause-known c = goes_behind (known_by c.args.self.now.standing) c.args.obs.now
    (program_words c.args.obs.now.pc c.args.obs.now.x) (known_by c.see.new.self) (known_by c.go_on.new.self)
    c.see.ensures.known c.go_on.ensures.known

pub returns-clause-touched : goal.returns-clause-touched
returns-clause-touched c = accessed c.args.obs.now (is_marked c.args.self.now.touched) (is_marked c.mark.new.touched)
    c.as_slice.result.now c.as_slice-2.result.now (c.as_slice.ensures.value ∙ c.requires.saw)
    (c.as_slice-2.ensures.value ∙ c.requires.wrote) c.mark.ensures
