-- The text of the image of a number is read as this image.
use Rattle.std.proofs.Common.{◌≡◌, ℕ, ◌≤◌, ◌^◌, ◌∙◌, List, [], length, Ok, refl, sym}
use Rattle.std.proofs.lemmas.List.{append-nil}
use Rattle.cx_codec.specs.Place.{Takes, behind_text}
use Rattle.cx_log.specs.Reading.{start_of}
use Rattle.cx_live.specs.Image.{Image}
use Rattle.cx_live.specs.Reading.{image_of}
use Rattle.cx_live.specs.Text.{image_text}
use Rattle.cx_live.proofs.Images.{whole_again}
use Rattle.cx_gen.specs.Made.{IsMade, made_image}

takes_all : (text bytes : List ℕ) → bytes ≡ text → length bytes ≤ 2 ^ 60
    → Takes (start_of bytes) text (behind_text (start_of bytes) text [])
takes_all text bytes is short = record {
  ahead = is ∙ sym (append-nil text);
  there = refl;
  limit = refl;
  within = rw (← is) short;
}

pub read_back : (n : ℕ) (bytes : List ℕ) (made : IsMade n bytes) → length bytes ≤ 2 ^ 60
    → image_of bytes ≡ Ok (made_image n made.memory)
read_back n bytes made short =
    let image : Image = made_image n made.memory in
    rw (whole_again image (start_of bytes) (behind_text (start_of bytes) (image_text image) []) made.rules
    (takes_all (image_text image) bytes made.text short) refl) refl
