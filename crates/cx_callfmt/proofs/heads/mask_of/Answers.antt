use Rattle.std.proofs.Common.{◌≤◌, arith, sym, ap}
use Rattle.std.proofs.lemmas.List.{drop_all}
use Rattle.cx_slicefmt.specs.Text.{mask_of}
use Rattle.cx_slicefmt.proofs.Presents.{bit_small, mask_fits}
use Rattle.cx_callfmt.proofs.heads.mask_of.Goals as goal

pub loop-left-init : goal.loop-left-init
loop-left-init c = record {
  within = omega arith;
  mask = sym (ap mask_of (drop_all 32 c.args.words.now (omega (arith, c.told-words))));
}

pub overflow_mul-mask : goal.overflow_mul-mask
overflow_mul-mask c =
    let small = mask_fits c.args.words.now c.loop-left.left c.loop-left.mask c.told-words c.loop-left-test.true
    c.loop-left.invariant.mask in
    omega (arith, small)

pub overflow_add-mask : goal.overflow_add-mask
overflow_add-mask c =
    let small = mask_fits c.args.words.now c.loop-left.left c.loop-left.mask c.told-words c.loop-left-test.true
    c.loop-left.invariant.mask in
    let one : c.bit.result ≤ 1 = rw c.bit.ensures (bit_small _) in
    omega (arith, small, one, c.from.ensures)
