-- What a call that puts a text says of the sink.
use Rattle.std.specs.Prelude.{◌≡◌, ℕ, List, ◌++◌, Option, IsSome, IsTrue, Result, IfOk, OnOk, OnErr, is_ok}
use Rattle.std.specs.Io.KnownBytes.{Appends}
use Rattle.cx_io.specs.Cause.{HasCause}
use Rattle.cx_codec.specs.Blocks.{Waiting, StandsFor, HasFront}

-- An output over its sink: what waits, the bytes that the sink holds, where it tells them, and how often it has failed.
pub record Putting : Type 0 where
  pub output : Waiting
  pub held : Option (List ℕ)
  pub faults : ℕ

abbrev pub onto : Waiting → Option (List ℕ) → ℕ → Putting
onto output held faults = record { output = output; held = held; faults = faults }

-- A call puts this text: the output then stands for what was put before and the text. After a refusal, which ends the
-- output, the sink has received a front of that.
pub record Puts {X E : Type 0} (fault : E) (text : List ℕ) (old new : Putting) (result : Result X E) : Type 0 where
  pub told : IsSome old.held → IsSome new.held
  pub stands : OnOk result ((base : Option (List ℕ)) (put : List ℕ)
      → StandsFor base put old.output.bytes old.held → StandsFor base (put ++ text) new.output.bytes new.held)
  pub refused : OnErr result ((base : Option (List ℕ)) (put : List ℕ)
      → StandsFor base put old.output.bytes old.held → HasFront base (put ++ text) new.held)
  pub live : new.output.live ≡ is_ok result
  pub cause : HasCause fault old.faults new.faults result

-- A call makes an output, kept in what it gives, and puts this text as the first one.
pub record Starts {X E : Type 0} (fault : E) (text : List ℕ) (kept : X → Waiting) (held held_now : Option (List ℕ))
    (faults faults_now : ℕ) (result : Result X E) : Type 0 where
  pub told : IsSome held → IsSome held_now
  pub stands : IfOk result (λ x. StandsFor held text (kept x).bytes held_now)
  pub refused : OnErr result (HasFront held text held_now)
  pub live : IfOk result (λ x. IsTrue (kept x).live)
  pub cause : HasCause fault faults faults_now result

-- A call puts this text as the last one, and hands all to the sink, which holds all that was put then; after a refusal
-- a front of it.
pub record Finishes {X E : Type 0} (fault : E) (text : List ℕ) (old : Putting) (held : Option (List ℕ)) (faults : ℕ)
    (result : Result X E) : Type 0 where
  pub told : IsSome old.held → IsSome held
  pub written : OnOk result ((base : Option (List ℕ)) (put : List ℕ)
      → StandsFor base put old.output.bytes old.held → Appends base held (put ++ text))
  pub refused : OnErr result ((base : Option (List ℕ)) (put : List ℕ)
      → StandsFor base put old.output.bytes old.held → HasFront base (put ++ text) held)
  pub cause : HasCause fault old.faults faults result
