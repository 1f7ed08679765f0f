-- The bytes of a head that are gathered, behind those that there are.
use Rattle.std.specs.Prelude.{◌^◌, Bool, true, false, List, [], ◌∷◌, ◌++◌, Option, None, Some}
use Rattle.cx_codec.specs.Place.{Reader, ◌>>=◌, done}
use Rattle.cx_codec.specs.Reads.{BadAt, Cut, Met, Other}
use Rattle.cx_slices.specs.Bytes.{Byte}
use Rattle.cx_slicefmt.specs.declared.fault.SliceFault.{SliceFault}
use Rattle.cx_slicefmt.specs.declared.fault.SliceFault.TheVariants.{Format, ReadFault}
use Rattle.cx_callfmt.specs.declared.fault.CallFault.{CallFault}
use Rattle.cx_callfmt.specs.declared.fault.CallFault.TheVariants.{
  Format as bad_field,
  ReadFault as read_fault,
  NoMemory as no_memory,
}
use Rattle.cx_callfmt.specs.Handing.{Handed, Pending, next_byte_at, rest_at}

-- What a fault says of the input; where memory is refused, nothing.
abbrev pub call_met : CallFault → Met
call_met (bad_field o) = BadAt o
call_met read_fault = Cut
call_met no_memory = Other

abbrev pub call_fault_of : SliceFault → CallFault
call_fault_of (Format o) = bad_field o
call_fault_of ReadFault = read_fault

-- all that are left
unfoldable pub bytes_onto : List Byte → Pending → Reader (List Byte)
bytes_onto front w = do
  bytes ← rest_at (2 ^ 32) w
  done (front ++ bytes)

-- the next one, and what is left behind it
pub data Taken : Type 0 where
  NoMore : List Byte → Taken
  More : List Byte → Pending → Taken

abbrev pub taken_by : List Byte → Option Handed → Taken
taken_by front None = NoMore front
taken_by front (Some h) = More (front ++ h.byte ∷ []) h.left

unfoldable pub one_onto : List Byte → Pending → Reader Taken
one_onto front w = do
  next ← next_byte_at (2 ^ 32) w
  done (taken_by front next)

-- whether there was one, by the bytes that there are now and what is left
abbrev pub as_taken : List Byte → Pending → Bool → Taken
as_taken bytes left false = NoMore bytes
as_taken bytes left true = More bytes left
