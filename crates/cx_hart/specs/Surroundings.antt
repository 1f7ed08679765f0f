-- What a turn of the hart stands in.
use Rattle.std.specs.Prelude.{ℕ, Bool, List, Option}
use Rattle.cx_csr.specs.declared.state.State.{State}

-- Whether the hart carries out misaligned loads and stores, the value of the outside that is due, the bytes of RAM, and
-- the state of the hart.
pub record Surroundings : Type 0 where
  pub split : Bool
  pub given : Option ℕ
  pub memory : List ℕ
  pub state : State
