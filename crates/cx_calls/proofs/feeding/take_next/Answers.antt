use Rattle.std.proofs.Common.{◌∙◌, sym, inr}
use Rattle.cx_calls.proofs.Fed.{
  apart_behind,
  kept_behind,
  may_put_behind,
  order_of_some,
  stands_called,
  stands_plain,
  text_added,
}
use Rattle.cx_calls.specs.Begun.{calls_added, last_text}
use Rattle.cx_codec.proofs.Putting.{puts_along}
use Rattle.cx_slices.specs.Bytes.{sorted}
use Rattle.std.proofs.Common.{◌++◌}
use Rattle.cx_calls.proofs.feeding.take_next.Goals as goal

pub take-requires-clause-order : goal.take-requires-clause-order
take-requires-clause-order g c =
    order_of_some c.args.gatherer.now c.args.writer.now c.requires.calling c.requires.most

pub pass_call-requires-clause-comes : goal.pass_call-requires-clause-comes
pass_call-requires-clause-comes g c = may_put_behind c.args.obs.now c.args.gatherer.now c.take.new.self
    c.args.writer.now c.requires.calling c.requires.most c.in_ok-take.ensures.takes

pub pass_call-requires-clause-apart : goal.pass_call-requires-clause-apart
pass_call-requires-clause-apart g c = apart_behind c.args.obs.now c.args.gatherer.now c.take.new.self
    c.args.writer.now c.requires.calling c.in_ok-take.ensures.takes

pub pass_call-requires-clause-kept : goal.pass_call-requires-clause-kept
pass_call-requires-clause-kept g c = kept_behind c.args.obs.now c.args.gatherer.now c.take.new.self
    c.args.writer.now c.requires.calling c.in_ok-take.ensures.takes

pub returns-in-None-clause-stands : goal.returns-in-None-clause-stands
returns-in-None-clause-stands g c = λ os was. stands_plain os c.args.obs.now c.args.gatherer.now c.take.new.self
    c.args.writer.now (sym c.called.ensures ∙ c.in-None.is) was c.in_ok-take.ensures.takes

pub returns-in-Some-clause-stands : goal.returns-in-Some-clause-stands
returns-in-Some-clause-stands g c = λ os was. stands_called os c.args.obs.now c.in-Some.number
    c.args.gatherer.now c.take.new.self c.pass_call.new.gatherer c.args.writer.now c.pass_call.new.writer
    c.pass_call.result (sym c.called.ensures ∙ c.in-Some.is) was c.in_ok-take.ensures.takes c.pass_call.ensures.anew
    c.pass_call.ensures.behind

pub returns-in-Some-clause-puts : goal.returns-in-Some-clause-puts
returns-in-Some-clause-puts g c = inr (λ os was. puts_along
    (last_text c.args.writer.now.behind.index c.take.new.self.last
    (record { words = c.take.new.self.words; bytes = sorted c.take.new.self.missed.items })
    ++ c.take.new.self.behind.text) (calls_added os c.args.obs.now)
    (text_added os c.args.obs.now c.in-Some.number c.args.gatherer.now c.take.new.self c.args.writer.now
    (sym c.called.ensures ∙ c.in-Some.is) was c.in_ok-take.ensures.takes) c.pass_call.ensures.puts)
