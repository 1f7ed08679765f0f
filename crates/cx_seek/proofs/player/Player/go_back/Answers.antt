use Rattle.std.proofs.Common.{◌-◌, ◌/◌}
use Rattle.cx_seek.proofs.Playing.{is_back, keeps_back, stands_back}
use Rattle.cx_seek.proofs.player.Player.go_back.Goals as goal

pub restore-requires-clause-keeps : goal.restore-requires-clause-keeps
restore-requires-clause-keeps c =
    keeps_back c.args.course.now c.args.self.now.machine c.args.n c.index-checkpoint.result.now c.requires.course
    c.requires.from c.requires.to c.index-checkpoint.ensures

pub returns-clause-stands : goal.returns-clause-stands
returns-clause-stands c run follows =
    let course = c.args.course.now in
    stands_back run course c.args.self.now.machine c.restore.new.self c.index-checkpoint.result.now c.args.n
    ((c.args.n - course.base) / course.distance) follows
    (is_back course c.args.self.now.machine c.args.n c.index-checkpoint.result.now c.requires.course c.requires.from
    c.requires.to c.index-checkpoint.ensures) c.restore.ensures.machine
