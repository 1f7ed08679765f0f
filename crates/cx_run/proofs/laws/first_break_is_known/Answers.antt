use Rattle.cx_run.proofs.FirstBreak.{break_is_first, scan_rises}
use Rattle.cx_run.proofs.laws.first_break_is_known.Goals as goal

pub returns-clause-rises : goal.returns-clause-rises
returns-clause-rises g c = λ pages behind p are. (let rises = scan_rises pages behind p are in
    (rises.events, rises.upto))

pub returns-clause-first : goal.returns-clause-first
returns-clause-first g c = break_is_first
