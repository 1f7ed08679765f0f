use Rattle.cx_replay.proofs.Taking.{rules_kept}
use Rattle.cx_replay.proofs.advance.keeps_rules.Goals as goal

pub returns : goal.returns
returns c = λ pages size. rules_kept c.args.machine.now c.ram.result.now.memory pages c.state.ensures.keeps
    c.pages.ensures.bytes c.ram.ensures.memory size
