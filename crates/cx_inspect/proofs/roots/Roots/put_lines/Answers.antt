use Rattle.std.proofs.Common.{◌≤◌, length, arith}
use Rattle.std.proofs.lemmas.Result.{err_from_is_err_and}
use Rattle.cx_codec.proofs.Putting.{puts_none}
use Rattle.cx_inspect.specs.Lines.{root_lines}
use Rattle.cx_inspect.proofs.RootLines.{root_put, root_refused, roots_put}
use Rattle.cx_inspect.proofs.roots.Roots.put_lines.Goals as goal

pub loop-index-init : goal.loop-index-init
unfolding root_lines
loop-index-init g c = puts_none c.requires

pub root_line-requires : goal.root_line-requires
root_line-requires g c = c.loop-index.invariant.live

pub loop-index-preserved : goal.loop-index-preserved
loop-index-preserved g c =
    root_put c.args.self.now c.loop-index.index _ c.at-root.ensures c.loop-index.invariant c.in_ok-root_line.ensures

pub returns-in_err-root_line : goal.returns-in_err-root_line
returns-in_err-root_line g c =
    let p = err_from_is_err_and c.from_residual.result c.from_residual.ensures.1 in
    rw (p.1, p.2) (root_refused c.args.self.now c.loop-index.index _ c.at-root.ensures c.loop-index.invariant
    c.in_err-root_line.ensures)

pub returns : goal.returns
returns g c =
    let all : length c.args.self.now ≤ c.loop-index.index =
    omega (arith, c.loop-index-test.false, c.len-index-end.ensures) in
    roots_put c.args.self.now c.loop-index.index all c.loop-index.invariant
