-- Commands that do the same of an input.
use Rattle.std.proofs.Common.{◌≡◌, List, ℕ, Option, Result, Ok, Err}
use Rattle.cx_commands.specs.Doing.{Does, Doing}
use Rattle.cx_commands.specs.declared.status.Status.{Status}
use Rattle.cx_commands.specs.declared.status.Status.TheVariants as status

-- The second does of it what the first does.
pub record IsSameOn (d e : Doing) (bytes : List ℕ) : Type 0 where
  pub streams : e.streams ≡ d.streams
  pub refusal : e.refusal bytes ≡ d.refusal bytes
  pub full : e.full bytes ≡ d.full bytes
  pub settled : e.settled bytes ≡ d.settled bytes
  pub cut_off : e.cut_off bytes ≡ d.cut_off bytes
  pub refusal_so_far : e.refusal_so_far bytes ≡ d.refusal_so_far bytes
  pub settled_so_far : e.settled_so_far bytes ≡ d.settled_so_far bytes
  pub lasts : e.lasts bytes ≡ d.lasts bytes

pub does_same : (d e : Doing) (bytes : List ℕ) (may cut : Type 0) (base held : Option (List ℕ))
    (r : Result (Unit {0}) Status) → IsSameOn d e bytes → Does d bytes may cut base held r
    → Does e bytes may cut base held r
does_same d e bytes may cut base held (Ok u) same does = rw (same.refusal, same.full) does
does_same d e bytes may cut base held (Err status.Done) same does = rw (same.refusal, same.full) does
does_same d e bytes may cut base held (Err status.NotThere) same does = rw (same.refusal, same.streams) does
does_same d e bytes may cut base held (Err (status.Format o)) same does = rw (same.refusal, same.settled) does
does_same d e bytes may cut base held (Err (status.Broken n)) same does =
    rw (same.lasts, same.refusal, same.settled) does
does_same d e bytes may cut base held (Err (status.NotBuilt n)) same does = rw same.refusal does
does_same d e bytes may cut base held (Err status.Usage) same does = rw same.refusal does
does_same d e bytes may cut base held (Err status.ReadFault) same does =
    rw (same.refusal_so_far, same.settled_so_far) does
does_same d e bytes may cut base held (Err status.WriteFault) same does =
    rw (same.streams, same.lasts, same.refusal, same.settled, same.full) does
does_same d e bytes may cut base held (Err status.NoMemory) same does =
    rw (same.lasts, same.refusal, same.settled, same.full) does
does_same d e bytes may cut base held (Err status.WorldFault) same does = rw (same.refusal, same.cut_off) does
