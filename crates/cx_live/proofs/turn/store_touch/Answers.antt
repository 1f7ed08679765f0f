use Rattle.cx_walk.specs.Devices.{device_at}
use Rattle.cx_live.proofs.Inside.{store_keeps}
use Rattle.cx_live.proofs.turn.store_touch.Goals as goal

pub returns-clause-inside : goal.returns-clause-inside
returns-clause-inside c =
    rw c.store-2.ensures (store_keeps (device_at c.args.touch.pa) c.args.pages c.word_of-value.result c.args.block.now
    c.requires)
