use Rattle.cx_calls.proofs.Fed.{calling_still}
use Rattle.cx_calls.proofs.caller.Caller.feed.Goals as goal

pub invariant_of-self : goal.invariant_of-self
invariant_of-self g c = record {
  calling = λ live. calling_still c.args.obs.now c.args.self.now.gatherer c.take_next.new.gatherer
      c.args.self.now.writer c.take_next.new.writer c.args.sink.now c.take_next.new.sink c.take_next.result (c.args.self.now.calling c.requires.live) live
      c.take_next.ensures.stands c.take_next.ensures.refused;
  most = c.take_next.ensures.most;
}
