use Rattle.std.proofs.Common.{true, false, ◌∙◌, sym}
use Rattle.std.proofs.lemmas.Result.{err_from_is_err_and}
use Rattle.cx_call_alone.specs.Stepping.{placed_held}
use Rattle.cx_call_alone.proofs.Steps.{
  behind,
  its_call,
  its_result,
  not_called,
  owes_kept,
  put_refused,
  step_tried,
  taken,
  were_put,
}
use Rattle.cx_call_alone.proofs.taking.take_step.Goals as goal

pub returns-in_err-put_items : goal.returns-in_err-put_items
returns-in_err-put_items c = λ s stands rises.
    let p = err_from_is_err_and c.from_residual.result c.from_residual.ensures.1 in
    rw (p.1, p.2) (put_refused s c.args.standing.now c.put_items.new.standing c.args.items.now c.args.given
    c.args.call.now c.in_err-put_items.field-0.0 c.as_slice.result.now stands c.as_slice.ensures.value
    c.in_err-put_items.ensures)

pub returns-then-not-is_its_call : goal.returns-then-not-is_its_call
returns-then-not-is_its_call c = λ s stands rises.
    let put = were_put c.args.standing.now c.put_items.new.standing c.args.items.now c.args.given c.args.call.now
    c.as_slice.result.now c.in_ok-put_items.field-0 c.as_slice.ensures.value c.in_ok-put_items.ensures in
    not_called s c.args.standing.now c.put_items.new.standing
    (placed_held c.args.items.now c.args.given c.args.call.now) c.in-Some.obs stands put.may put.known
    (step_tried c.as_slice-2.result.now c.args.items.now.bytes.items _ c.in-Some.obs c.as_slice-2.ensures.value
    c.in-Some.ensures.is)
    (its_call _ c.args.call.now _ c.access_all.new.standing.owes _ false
    (c.in_ok-access_all.ensures.owes s.owed
    (owes_kept s c.args.standing.now c.put_items.new.standing stands put.keeps))
    (its_result _ _ _ _ _ c.is_its_call.result false c.called.ensures c.number_placed.ensures c.is_its_call.ensures
    c.if-not-is_its_call.true))

pub returns : goal.returns
returns c = λ s stands rises.
    let put = were_put c.args.standing.now c.put_items.new.standing c.args.items.now c.args.given c.args.call.now
    c.as_slice.result.now c.in_ok-put_items.field-0 c.as_slice.ensures.value c.in_ok-put_items.ensures in
    let went = step_tried c.as_slice-2.result.now c.args.items.now.bytes.items _ c.in-Some.obs
    c.as_slice-2.ensures.value c.in-Some.ensures.is in
    let kept = owes_kept s c.args.standing.now c.put_items.new.standing stands put.keeps in
    let owes = c.in_ok-access_all.ensures.owes s.owed kept in (
      taken s c.args.standing.now c.put_items.new.standing
          (placed_held c.args.items.now c.args.given c.args.call.now) c.in-Some.obs true true stands put.may put.known
          went (sym (c.meets.ensures s.owed kept) ∙ c.if-not-meets.false)
          (its_call _ c.args.call.now _ c.access_all.new.standing.owes _ true owes
          (its_result _ _ _ _ _ c.is_its_call.result true c.called.ensures c.number_placed.ensures
          c.is_its_call.ensures c.if-not-is_its_call.false)),
      behind s c.args.standing.now c.put_items.new.standing c.access_all.new.standing c.go_behind.new.standing
          (placed_held c.args.items.now c.args.given c.args.call.now) c.args.call.now c.in-Some.obs stands put.keeps
          put.known went c.in_ok-access_all.ensures.known c.in_ok-access_all.ensures.touched owes rises
          c.in_ok-go_behind.ensures,
    )
