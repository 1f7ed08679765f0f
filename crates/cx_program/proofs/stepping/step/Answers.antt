use Rattle.std.proofs.Common.{◌≡◌, rules, sym, ◌∙◌}
use Rattle.cx_observe.specs.Stepping.{step_of}
use Rattle.cx_shadow.specs.Cells.{byte_of}
use Rattle.cx_program.proofs.Fetched.{fetched, is_possible}
use Rattle.cx_program.proofs.stepping.step.Goals as goal

went : (c : goal.After-carry) → c.carry.result ≡ step_of c.args.words.now (byte_of c.args.shadow.now) c.args.given
went c = fetched c.args.words.now (byte_of c.args.shadow.now) c.args.given c.in_ok-bytes.bytes c.registers.result
    c.from_le_bytes.result c.carry.result (search rules) c.words_fit.ensures (search rules) c.if-pc-ne0.false
    (sym c.in_ok-bytes.was ∙ c.four_at.ensures) (search rules) c.registers.ensures (search rules) c.carry.ensures

pub returns-clause-is : goal.returns-clause-is
returns-clause-is c = went c

pub returns-clause-possible : goal.returns-clause-possible
returns-clause-possible c =
    is_possible c.args.words.now (byte_of c.args.shadow.now) c.args.given c.carry.result (search rules) (went c)
