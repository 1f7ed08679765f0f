-- What a reader of call slices keeps within bounds.
use Rattle.std.specs.Prelude.{ℕ, ◌<◌, ◌^◌}
use Rattle.cx_callfmt.specs.declared.handing.Rest.{Rest}
use Rattle.cx_callfmt.specs.Engine.{RestFits}

pub record ReaderFits (index : ℕ) (rest : Rest) : Type 0 where
  pub below : index < 2 ^ 48
  pub fits : RestFits rest
