-- Frames, by their numbers.
use Rattle.std.specs.Prelude.{◌≡◌, ℕ, List, [], length, get_or, replicate, All}
use Rattle.cx_map.specs.Bytes.{AreBytes}
use Rattle.cx_map.specs.declared.TheConstants.{PAGE_SIZE}

-- a page of zeros
abbrev pub zero_page : List ℕ
zero_page = replicate {A = ℕ} PAGE_SIZE 0

-- the bytes of a frame
abbrev pub frame_of : List (List ℕ) → ℕ → List ℕ
frame_of frames f = get_or frames f []

-- A page or a frame has 4,096 bytes.
pub record IsWhole (page : List ℕ) : Type 0 where
  pub size : length page ≡ PAGE_SIZE
  pub bytes : AreBytes page

-- all frames are whole
abbrev pub AreFrames : List (List ℕ) → Type 0
AreFrames frames = All IsWhole frames
