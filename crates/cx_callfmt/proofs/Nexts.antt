-- Where there is a next byte.
use Rattle.std.proofs.Common.{IfOk, IsSome, Option, None, Some, Result, Ok, Err}
use Rattle.cx_slicefmt.specs.declared.fault.SliceFault.{SliceFault}
use Rattle.cx_callfmt.specs.declared.handing.NextByte.{NextByte}
use Rattle.cx_callfmt.specs.declared.handing.Rest.{Rest}
use Rattle.cx_callfmt.specs.Engine.{EndsRest}

pub there_is_one : (left : Rest) (r : Result (Option NextByte) SliceFault) → IfOk r (λ n. IsSome n)
    → IfOk r (EndsRest left)
there_is_one left (Ok None) some = cc
there_is_one left (Ok (Some n)) some = tt
there_is_one left (Err e) some = tt
