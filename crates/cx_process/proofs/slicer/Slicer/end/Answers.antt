use Rattle.std.proofs.Common.{subst}
use Rattle.cx_codec.specs.Puts.{Finishes, onto}
use Rattle.cx_codec.specs.declared.fault.OutFault.TheVariants.{WriteFault}
use Rattle.cx_program.specs.Knowing.{known_by}
use Rattle.cx_process.proofs.Standing.{can_end_of_some, end_is}
use Rattle.cx_process.proofs.slicer.Slicer.end.Goals as goal

pub end-requires-clause-rules : goal.end-requires-clause-rules
end-requires-clause-rules g c = can_end_of_some (known_by c.args.self.standing) c.args.self.count
    c.args.self.groups.least c.args.self.slicing c.requires.some c.args.self.most

pub returns : goal.returns
returns g c = λ os was. subst (λ t. Finishes WriteFault t
    (onto c.args.self.groups.output (g.T.Sink.held c.args.sink.now) (g.T.Sink.faults c.args.sink.now))
    (g.T.Sink.held c.end.new.sink) (g.T.Sink.faults c.end.new.sink) c.end.result)
    (end_is os (known_by c.args.self.standing) c.args.self.count c.args.self.groups.least was)
    c.end.ensures
