use Rattle.std.proofs.Common.{◌≡◌, ◌≢◌, ℕ, suc, ◌+◌, Bool, Some, IfSome, inl, inr, arith, sym, ap, subst, ◌∙◌, unwrap_or}
use Rattle.std.proofs.lemmas.Result.{err_from_is_err_and}
use Rattle.cx_csr.specs.declared.lines.Lines.{Lines}
use Rattle.cx_hart.proofs.StepSizes.{sets_lines}
use Rattle.cx_live.specs.Rules.{KeepsLive}
use Rattle.cx_live.specs.Seen.{due_of}
use Rattle.cx_live.specs.Turn.{Turned, live_turn}
use Rattle.cx_live.proofs.TurnRules.{turn_is}
use Rattle.cx_run.specs.Taping.{Ready}
use Rattle.cx_run.proofs.TapedOrder.{step_is_done}
use Rattle.cx_record.proofs.Recording.{memory_refused, put_more, put_refused, refused_turn}
use Rattle.cx_record.proofs.turn.take_turn.Goals as goal

pub returns-in_err-happened-clause-turns : goal.returns-in_err-happened-clause-turns
returns-in_err-happened-clause-turns g c =
    let p = err_from_is_err_and c.from_residual-in_err-happened.result c.from_residual-in_err-happened.ensures.1 in
    λ image given base is split put.
    rw (p.1, p.2) (memory_refused image c.args.step given (g.W.World.answers c.args.world.now)
    (g.W.World.answers c.turn.new.self) base (g.T.Sink.held c.args.sink.now) c.args.writer.now c.args.live.now.live
    c.in_ok-out.out put c.requires.on c.in_ok-out.ensures.answer is c.requires.few)

pub put_step-requires-clause-due : goal.put_step-requires-clause-due
put_step-requires-clause-due g c =
    let turn = turn_is c.args.writer.now.header.pages c.args.live.now.split c.in_ok-out.out c.args.live.now.live
    c.requires.stands.keeps _ c.in_ok-happened.ensures.turn in
    rw c.dma_bytes.ensures turn.due

pub put_step-requires-clause-change : goal.put_step-requires-clause-change
put_step-requires-clause-change g c =
    let turn = turn_is c.args.writer.now.header.pages c.args.live.now.split c.in_ok-out.out c.args.live.now.live
    c.requires.stands.keeps _ c.in_ok-happened.ensures.turn in
    subst (λ (standing : Lines). IfSome c.in_ok-happened.happened.lines (λ (set : Lines). set ≢ standing))
    (sym c.requires.stands.lines) turn.change

pub returns-in_err-put_step-clause-turns : goal.returns-in_err-put_step-clause-turns
returns-in_err-put_step-clause-turns g c =
    let p = err_from_is_err_and c.from_residual-in_err-put_step.result c.from_residual-in_err-put_step.ensures.1 in
    let l = c.args.live.now.live in
    let puts = rw c.dma_bytes.ensures at c.in_err-put_step.ensures.puts in
    let t : Turned = record {
      due = due_of c.in_ok-happened.happened c.turn_into.new.self.moved;
      rec = c.turn_into.new.rec;
      live = c.turn_into.new.self.live;
    } in
    λ image given base is split put.
    let turn : live_turn image.split c.in_ok-out.out l ≡ Some t =
    subst (λ (s : Bool). live_turn s c.in_ok-out.out l ≡ Some t) (sym split) c.in_ok-happened.ensures.turn in
    rw (p.1, p.2) (refused_turn image c.args.step given (g.W.World.answers c.turn.new.self) base
    (g.T.Sink.held c.put_step.new.sink) c.put_step.new.writer c.turn_into.new.self.live _
    (put_refused image c.args.step given (g.W.World.answers c.args.world.now) (g.W.World.answers c.turn.new.self) base
    (g.T.Sink.held c.args.sink.now) c.args.writer.now l put c.in_ok-out.out t c.requires.on turn
    c.in_ok-out.ensures.answer (g.T.Sink.held c.put_step.new.sink) is c.requires.few puts.front))

pub returns-clause-turns : goal.returns-clause-turns
returns-clause-turns g c =
    let l = c.args.live.now.live in
    let puts = rw c.dma_bytes.ensures at c.in_ok-put_step.ensures.puts in
    let t : Turned = record {
      due = due_of c.in_ok-happened.happened c.turn_into.new.self.moved;
      rec = c.turn_into.new.rec;
      live = c.turn_into.new.self.live;
    } in
    λ image given base is split put.
    let turn : live_turn image.split c.in_ok-out.out l ≡ Some t =
    subst (λ (s : Bool). live_turn s c.in_ok-out.out l ≡ Some t) (sym split) c.in_ok-happened.ensures.turn in
    put_more image c.args.step given (g.W.World.answers c.args.world.now) (g.W.World.answers c.turn.new.self) base
    (g.T.Sink.held c.args.sink.now) c.args.writer.now l put c.in_ok-out.out t c.requires.on turn
    c.in_ok-out.ensures.answer c.put_step.new.writer (g.T.Sink.held c.put_step.new.sink) puts.all

pub returns-clause-stands : goal.returns-clause-stands
returns-clause-stands g c =
    let turn = turn_is c.args.writer.now.header.pages c.args.live.now.split c.in_ok-out.out c.args.live.now.live
    c.requires.stands.keeps _ c.in_ok-happened.ensures.turn in
    let next : suc c.args.step ≡ c.args.step + 1 = omega arith in
    let set = sets_lines c.args.live.now.split c.args.live.now.live.machine _ _ turn.step in
    record {
      output = c.in_ok-put_step.ensures.puts.all.live;
      none_owed = c.in_ok-put_step.ensures.left ∙ c.requires.stands.none_owed;
      ready = subst (λ (n : ℕ). Ready n c.put_step.new.writer.behind) next
          (step_is_done c.args.step c.put_step.new.writer.behind c.in_ok-put_step.ensures.within);
      above = λ some. elim c.in_ok-put_step.ensures.within.order [
        | inl below ↦ omega (arith, below)
        | inr here ↦ omega (arith, here.0)
      ];
      lines =
          c.in_ok-put_step.ensures.lines
          ∙ ap (unwrap_or c.in_ok-happened.happened.lines) c.requires.stands.lines
          ∙ sym set;
      keeps = subst (λ (pages : ℕ). KeepsLive pages c.turn_into.new.self.live)
          (sym (ap (λ h. h.pages) c.in_ok-put_step.ensures.header)) turn.keeps;
    }
