-- Only the control registers change, and each write keeps their rules.
use Rattle.std.proofs.Common.{subst, sym, arith}
use Rattle.cx_csr.specs.Keeps.{KeepsCsr}
use Rattle.cx_csr.proofs.KeptRules.{csr-written}
use Rattle.cx_csr.proofs.access.write.Goals as goal

pub returns-clause-keeps : goal.returns-clause-keeps
returns-clause-keeps c pages k =
    let csr : KeepsCsr c.put.new.csr =
    subst KeepsCsr (sym c.put.ensures) (csr-written _ c.args.value c.args.state.now.csr (omega arith) k.csr) in
    record {
      pc = k.pc;
      registers = k.registers;
      zero_register = k.zero_register;
      wide = k.wide;
      mode = k.mode;
      csr =
          csr;
      reservation = k.reservation;
      lines = k.lines;
    }
