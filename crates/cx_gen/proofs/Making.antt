-- The parts of an image of a number make it one.
use Rattle.std.proofs.Common.{◌≡◌, ℕ, List, length, inl, refl, arith}
use Rattle.cx_map.specs.Bytes.{AreBytes}
use Rattle.cx_map.specs.Map.{size_of_pages}
use Rattle.cx_live.specs.Image.{IsImage}
use Rattle.cx_live.specs.Text.{image_text}
use Rattle.cx_gen.specs.Made.{IsMade, console_of, disk_byte, disk_of, letter, plain_image}
use Rattle.cx_gen.proofs.Drawn.{drawn_size}

pub made_of_parts : (n : ℕ) (memory disk console bytes : List ℕ) → length memory ≡ size_of_pages 256 → AreBytes memory
    → disk ≡ disk_of n → AreBytes disk → console ≡ console_of n → AreBytes console
    → bytes ≡ image_text (plain_image 256 memory disk console) → IsMade n bytes
made_of_parts n memory disk console bytes size are_memory is are_disk letters are_letters text =
    let whole : length disk ≡ 8192 = rw is (drawn_size (disk_byte n) 8192) in
    let few : length console ≡ 64 = rw letters (drawn_size (letter n) 64) in
    record {
      memory = memory;
      text = rw (← is, ← letters) text;
      rules = rw (← is, ← letters) (rules whole few);
    }
  where
    rules : length disk ≡ 8192 → length console ≡ 64 → IsImage (plain_image 256 memory disk console)
    rules whole few = record {
      version = inl (refl, refl);
      pages = record { some = omega arith; most = omega arith };
      memory = record { size = size; bytes = are_memory };
      disk = record { whole = rw whole refl; most = rw whole (omega arith) };
      disk_bytes = are_disk;
      console = rw few (omega arith);
      console_bytes = are_letters;
    }
