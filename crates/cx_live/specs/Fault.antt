-- What a fault of reading an image says of the input.
use Rattle.std.specs.Prelude.{◌≡◌, ℕ, List, Option, Result, Ok, Err, IfErr}
use Rattle.cx_codec.specs.Place.{Buffered, end_of}
use Rattle.cx_codec.specs.Reads.{Begins, Follows, MayBe, Standing, over, place_in}
use Rattle.cx_log.specs.declared.fault.LogFault.{LogFault}
use Rattle.cx_log.specs.declared.fault.LogFault.TheVariants as log
use Rattle.cx_live.specs.Image.{Image}
use Rattle.cx_live.specs.Reading.{image_or_bad, whole_image_at}
use Rattle.cx_live.specs.declared.fault.ImageFault.{ImageFault}
use Rattle.cx_live.specs.declared.fault.ImageFault.TheVariants.{Format, ReadFault, NoMemory}

abbrev pub image_fault_of : LogFault → ImageFault
image_fault_of (log.Format o) = Format o
image_fault_of log.ReadFault = ReadFault
image_fault_of log.NoMemory = NoMemory

-- What an answer says of an input that reads so and ends there: whole says that the input may be so, as far as the
-- source told its end, and cut that it is what was given and no more. An answer is the image that the input is, or its
-- first bad field. What was given before a fault of the source is bad at its very end at most.
abbrev pub IsImageRead : Result Image ℕ → ℕ → (whole cut : Type 0) → Result Image ImageFault → Type 0
IsImageRead read end whole cut (Ok image) = whole → read ≡ Ok image
IsImageRead read end whole cut (Err (Format o)) = whole → read ≡ Err o
IsImageRead read end whole cut (Err ReadFault) = cut → IfErr read (λ o. o ≡ end)
IsImageRead read end whole cut (Err NoMemory) = Unit {0}

-- The image that an input is, up to its end, was read: of every input that begins with what the source gave.
pub record ReadsImage (old : Standing) (left : Option (List ℕ)) (given : List ℕ)
    (result : Result Image ImageFault) : Type 0 where
  pub behind : Buffered
  pub follows : Follows old (over behind left given)
  pub reads : (input : List ℕ) → Begins given input
      → IsImageRead (image_or_bad (whole_image_at (place_in old input))) (end_of (place_in old input))
      (MayBe (over behind left given) input) (input ≡ given) result
