use Rattle.std.proofs.Common.{rules, arith, ap, ◌∙◌, ◌-◌, length, take, drop, length-drop}
use Rattle.std.proofs.lemmas.List.{take_rest, length-take}
use Rattle.std.proofs.lemmas.Result.{err_from_is_err_and}
use Rattle.cx_codec.proofs.Blocks.{piece_full, piece_kept, piece_refused}
use Rattle.cx_codec.proofs.output.Out.put_bytes.Goals as goal

pub returns-in_err-fill : goal.returns-in_err-fill
returns-in_err-fill g c =
    let p = err_from_is_err_and c.from_residual.result c.from_residual.ensures.1 in
    rw (p.1, p.2) (record {
      told = λ told. c.in_err-fill.ensures.told (c.loop-done.invariant.told told);
      stands = tt;
      refused = λ base put before. piece_refused _ _ _ _ _ _ _ _ (c.loop-done.invariant.stands base put before) c.in_err-fill.ensures.err;
      live = c.in_err-fill.ensures.ended;
      cause = record {
        later = omega (arith, c.in_err-fill.ensures.cause.later);
        fits = λ small. c.in_err-fill.ensures.cause.fits (c.loop-done.invariant.fits small);
        failed = λ is. let rose = c.in_err-fill.ensures.cause.failed is in omega arith;
      };
    })

pub loop-done-preserved : goal.loop-done-preserved
loop-done-preserved g c = record {
  within = omega (arith, c.loop-done-test.true);
  live = c.in_ok-fill.ensures.live ∙ c.loop-done.invariant.live;
  told = λ told. c.in_ok-fill.ensures.told (c.loop-done.invariant.told told);
  stands = λ base put before. piece_full _ _ _ _ _ _ _ _ _ _ (c.loop-done.invariant.stands base put before) c.room-in-loop-done.ensures.fills (omega (arith, c.loop-done-test.true)) (omega arith) c.in_ok-fill.ensures.ok c.in_ok-fill.ensures.empty;
  later = omega (arith, c.in_ok-fill.ensures.cause.later);
  fits = λ small. c.in_ok-fill.ensures.cause.fits (c.loop-done.invariant.fits small);
}

pub returns : goal.returns
returns g c =
    let bytes = c.args.bytes.now in
    let done = c.loop-done.done in
    record {
      told = c.loop-done.invariant.told;
      stands = λ base put before. piece_kept _ _ _ _ _ bytes (take (length bytes - done) (drop done bytes)) done (c.loop-done.invariant.stands base put before) (take_rest bytes done) (ap (λ o. o.bytes) c.keep.ensures) (omega (arith, c.loop-done-test.false, c.room.ensures.fills, length-drop done bytes, length-take (length bytes - done) (drop done bytes)));
      refused = tt;
      live = search rules;
      cause = search rules;
    }
