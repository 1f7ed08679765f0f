-- What a sink has received of the bytes that were put, which go to it in whole blocks of 4,096 bytes.
use Rattle.std.specs.Prelude.{◌≡◌, ℕ, ◌*◌, ◌/◌, ◌<◌, ◌≤◌, List, length, take, drop, Option, Bool}
use Rattle.std.specs.Io.KnownBytes.{Appends}

-- What is kept of an output: the bytes that wait for their block to be full, and whether it goes on.
pub record Waiting : Type 0 where
  pub bytes : List ℕ
  pub live : Bool

-- the whole blocks at the front, and what is over
unfoldable pub whole : List ℕ → List ℕ
whole bytes = take (4096 * (length bytes / 4096)) bytes

unfoldable pub part : List ℕ → List ℕ
part bytes = drop (4096 * (length bytes / 4096)) bytes

-- Since the sink held base these bytes were put: it has received the whole blocks, and the rest waits.
pub record StandsFor (base : Option (List ℕ)) (put waiting : List ℕ) (held : Option (List ℕ)) : Type 0 where
  pub waits : waiting ≡ part put
  pub written : Appends base held (whole put)

-- the sink has received a front of the text since it held base
pub record HasFront (base : Option (List ℕ)) (text : List ℕ) (held : Option (List ℕ)) : Type 0 where
  pub count : ℕ
  pub within : count ≤ length text
  pub written : Appends base held (take count text)

-- the first count places of a block are in use
pub record IsFront (block : List ℕ) (count : ℕ) : Type 0 where
  pub whole : length block ≡ 4096
  pub within : count < 4096
