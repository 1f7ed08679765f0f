use Rattle.std.proofs.Common.{◌+◌, ◌^◌, ◌<◌, ◌≤◌, arith}
use Rattle.cx_hart.proofs.SplitValues.{small_value}
use Rattle.cx_hart.proofs.access.joined.Goals as goal

pub overflow_mul-result : goal.overflow_mul-result
overflow_mul-result c =
    let whole : 1 + c.args.more.len ≤ 4 = omega (arith, c.requires.rest.whole, c.in-1.is) in
    let small : c.args.high < 2 ^ 24 = small_value c.args.high c.args.more.len 1 c.requires.high whole in
    omega arith

pub overflow_add-result : goal.overflow_add-result
overflow_add-result c =
    let whole : 1 + c.args.more.len ≤ 4 = omega (arith, c.requires.rest.whole, c.in-1.is) in
    let small : c.args.high < 2 ^ 24 = small_value c.args.high c.args.more.len 1 c.requires.high whole in
    let low : c.args.low < 2 ^ 8 = rw c.in-1.is at c.requires.low in
    omega arith
