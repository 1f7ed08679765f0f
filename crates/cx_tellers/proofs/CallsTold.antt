-- The slice of a program by its calls, as what is told of its observations.
use Rattle.std.proofs.Common.{◌≡◌, ◌⊎◌, Result, inl, inr}
use Rattle.cx_calls.specs.Stands.{IsRoomRefused}
use Rattle.cx_calls.specs.declared.caller.Caller.{Caller}
use Rattle.cx_codec.specs.declared.fault.OutFault.{OutFault}
use Rattle.cx_tellers.proofs.FedTold.{IsRefused}

pub room_or : {S Put : Type 0} {result : Result (Unit {0}) OutFault} {old new : Caller} {sink sink_now : S}
    → IsRoomRefused result old new sink sink_now ⊎ Put → IsRefused result sink sink_now ⊎ Put
room_or (inl refused) = inl (record { answer = refused.answer; sink_same = refused.sink_same })
room_or (inr put) = inr put
