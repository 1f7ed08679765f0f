use Rattle.std.proofs.Common.{◌≡◌, ℕ, ◌<◌, ◌≤◌, ◌^◌, false, List, Option}
use Rattle.cx_io.specs.declared.outside.Outside.{Outside}
use Rattle.cx_live.specs.Image.{Image, IsImage}
use Rattle.cx_record.specs.Promise.{IsPut, Stands}
use Rattle.cx_record.proofs.play.play.Given as goal

abbrev pub invariant-loop-step : goal.invariant-loop-step
invariant-loop-step g l =
    let held = g.T.Sink.held in
    let answers = g.W.World.answers in
    record {
      on : l.live.live.devices.off ≡ false;
      stands : Stands l.step l.writer l.live.live;
      split : l.live.split ≡ l.fn.live.split;
      puts : (image : Image) (given : Option (List Outside)) (base : Option (List ℕ)) → IsImage image
          → image.split ≡ l.fn.live.split
          → IsPut image 0 given (answers l.fn.world) base (held l.fn.sink) l.fn.writer l.fn.live.live
          → IsPut image l.step given (answers l.world) base (held l.sink) l.writer l.live.live;
      world : g.W.World.faults l.fn.world ≤ g.W.World.faults l.world;
      world_fits : g.W.World.faults l.fn.world < 2 ^ 64 → g.W.World.faults l.world < 2 ^ 64;
      sink : g.T.Sink.faults l.fn.sink ≤ g.T.Sink.faults l.sink;
      sink_fits : g.T.Sink.faults l.fn.sink < 2 ^ 64 → g.T.Sink.faults l.sink < 2 ^ 64;
    }
