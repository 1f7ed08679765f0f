use Rattle.std.proofs.Common.{ap, refl, ◌∙◌}
use Rattle.cx_observe.specs.Effects.{program_words}
use Rattle.cx_process.proofs.Standing.{all_stays, goes_behind}
use Rattle.cx_program.specs.Knowing.{known_by}
use Rattle.cx_slices.specs.Items.{Known}
use Rattle.cx_calls.proofs.Accessed.{taken_known}
use Rattle.cx_calls.proofs.gatherer.Gatherer.pass.Goals as goal

pub go_on-requires-clause-words : goal.go_on-requires-clause-words
go_on-requires-clause-words c =
    ap (λ (k : Known). k.words) c.in_ok-hold_for.ensures.known ∙ c.requires.known.words

pub returns-clause-takes : goal.returns-clause-takes
returns-clause-takes c = λ g was. taken_known g c.args.obs.now c.args.self.now _ was c.requires.possible.count
    c.requires.known c.requires.touched refl refl c.pass_first.ensures refl refl refl
    (goes_behind (known_by c.args.self.now.standing) c.args.obs.now
    (program_words c.args.obs.now.pc c.args.obs.now.x) (known_by c.hold_for.new.self) (known_by c.go_on.new.self)
    (c.in_ok-hold_for.ensures.known ∙ all_stays (known_by c.args.self.now.standing) c.args.obs.now c.requires.known)
    c.go_on.ensures.known) refl
