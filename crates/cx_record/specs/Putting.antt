-- Records that are put by a writer, one behind another.
use Rattle.std.specs.Prelude.{◌≡◌, ℕ, List, ◌++◌, Option, IsTrue, Result, OnOk, OnErr}
use Rattle.cx_codec.specs.Blocks.{HasFront, StandsFor}
use Rattle.cx_codec.specs.declared.fault.OutFault.{OutFault}
use Rattle.cx_log.specs.Engine.{Writing}
use Rattle.cx_log.specs.Recording.{Recorded}
use Rattle.cx_run.specs.SoFar.{behind_all, events_text}

-- these records were put
pub record PutAll (events : List Recorded) (old : Writing) (held : Option (List ℕ)) (new : Writing)
    (held_now : Option (List ℕ)) : Type 0 where
  pub stands : (base : Option (List ℕ)) (put : List ℕ) → StandsFor base put old.output.bytes held
      → StandsFor base (put ++ events_text old.behind events) new.output.bytes held_now
  pub behind : new.behind ≡ behind_all old.behind events
  pub header : new.header ≡ old.header
  pub live : IsTrue new.output.live

-- or a front of them
pub record PutsEvents (events : List Recorded) (old : Writing) (held : Option (List ℕ)) (new : Writing)
    (held_now : Option (List ℕ)) (result : Result (Unit {0}) OutFault) : Type 0 where
  pub all : OnOk result (PutAll events old held new held_now)
  pub front : OnErr result ((base : Option (List ℕ)) (put : List ℕ) → StandsFor base put old.output.bytes held
      → HasFront base (put ++ events_text old.behind events) held_now)
