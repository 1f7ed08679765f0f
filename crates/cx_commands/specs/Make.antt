-- What `make` does: it writes the image of a number, and reads nothing.
use Rattle.std.specs.Prelude.{◌≡◌, ◌⊎◌, ℕ, true, false, List, [], Option, None}
use Rattle.std.specs.Io.KnownBytes.{Appends}
use Rattle.cx_codec.specs.Blocks.{HasFront}
use Rattle.cx_gen.specs.Made.{IsMade}
use Rattle.cx_commands.specs.Doing.{Doing}
use Rattle.cx_commands.specs.declared.status.Status.{Status}
use Rattle.cx_commands.specs.declared.status.Status.TheVariants as status

-- this text is written, whatever the input is, which isn't read
abbrev pub writing : List ℕ → Doing
writing text = record {
  reads = false;
  streams = false;
  refusal = λ bytes. None;
  full = λ bytes. text;
  settled = λ bytes. [];
  cut_off = λ bytes. [];
  refusal_so_far = λ bytes. None;
  settled_so_far = λ bytes. [];
  lasts = λ bytes. true;
}

-- `make`, by the image that was made
abbrev pub making : List ℕ → Doing
making image = writing image

-- The answers of a command that reads nothing and asks for nothing that may not be there.
abbrev pub IsWritingStatus : Status → Type 0
IsWritingStatus status.Done = Unit {0}
IsWritingStatus status.WriteFault = Unit {0}
IsWritingStatus status.NoMemory = Unit {0}
IsWritingStatus _ = ⊥

-- The image that a command of a number rests on is one of this number; where memory was refused there may be none.
abbrev pub IsImageOf : ℕ → List ℕ → Status → Type 0
IsImageOf n image status.NoMemory = IsMade n image ⊎ (image ≡ [])
IsImageOf n image _ = IsMade n image

-- What a command leaves of a text that it writes, whatever the input is.
abbrev pub Writes : List ℕ → Option (List ℕ) → Option (List ℕ) → Status → Type 0
Writes text held now status.Done = Appends held now text
Writes text held now status.WriteFault = HasFront held text now
Writes text held now status.NoMemory = HasFront held text now
Writes text held now _ = ⊥

-- The same of one whose text rests on the image of a number.
pub record WritesByImage (n : ℕ) (text : List ℕ → List ℕ) (held held_now : Option (List ℕ)) (answer : Status) : Type 0
  where
    pub image : List ℕ
    pub is : IsImageOf n image answer
    pub writes : Writes (text image) held held_now answer
