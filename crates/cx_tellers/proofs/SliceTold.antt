-- The slice of a process, as what is told of its observations.
use Rattle.std.proofs.Common.{◌≡◌, ◌⊎◌, ℕ, List, [], ◌++◌, Result, inl, inr}
use Rattle.std.proofs.lemmas.List.{append-nil}
use Rattle.cx_codec.specs.declared.fault.OutFault.{OutFault}
use Rattle.cx_process.specs.Stands.{IsRoomRefused}
use Rattle.cx_process.specs.declared.slicer.Slicer.{Slicer}
use Rattle.cx_slicefmt.specs.Text.{slice_body, slice_magic}
use Rattle.cx_commands.specs.Process.{slice_begun}
use Rattle.cx_tellers.proofs.FedTold.{IsRefused}

pub begun_is : slice_begun [] ≡ slice_magic
unfolding slice_body
begun_is = append-nil slice_magic

pub room_or : {S Put : Type 0} {result : Result (Unit {0}) OutFault} {old new : Slicer} {sink sink_now : S}
    → IsRoomRefused result old new sink sink_now ⊎ Put → IsRefused result sink sink_now ⊎ Put
room_or (inl refused) = inl (record { answer = refused.answer; sink_same = refused.sink_same })
room_or (inr put) = inr put
