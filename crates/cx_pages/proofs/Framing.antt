-- Frames, and the bytes of one.
use Rattle.std.proofs.Common.{◌≡◌, ℕ, ◌+◌, ◌<◌, ◌≤◌, List, [], ◌∷◌, ◌++◌, length, get_or, set}
use Rattle.std.proofs.Common.{take, drop, sym, ap, ◌∙◌, arith, length-append, length-take, length-drop}
use Rattle.std.proofs.Common.{add-one}
use Rattle.std.specs.List.{splice}
use Rattle.std.proofs.lemmas.List.{length-replicate, get_or-take, drop_all, append-nil, set_split}
use Rattle.std.proofs.lemmas.List.Elements.{All-get_or}
use Rattle.cx_map.specs.Bytes.{AreBytes}
use Rattle.cx_map.proofs.BytesLemmas.{AreBytes-append, AreBytes-take, AreBytes-drop, AreBytes-zeros}
use Rattle.cx_map.specs.declared.TheConstants.{PAGE_SIZE}
use Rattle.cx_pages.specs.Frames.{frame_of, zero_page, IsWhole, AreFrames}

-- A page of zeros is whole.
pub zero_page-whole : IsWhole zero_page
zero_page-whole = record { size = length-replicate {A = ℕ} PAGE_SIZE 0; bytes = AreBytes-zeros PAGE_SIZE }

-- A frame is whole.
pub frame_whole : (frames : List (List ℕ)) (f : ℕ) → AreFrames frames → f < length frames → IsWhole (frame_of frames f)
frame_whole frames f whole here = All-get_or IsWhole frames f [] here whole

-- A part of a frame is replaced.
pub splice_part-whole : (bytes part : List ℕ) (offset : ℕ) → IsWhole bytes → AreBytes part
    → offset + length part ≤ PAGE_SIZE → IsWhole (splice bytes offset (offset + length part) part)
splice_part-whole bytes part offset whole are fits = record {
  size = omega (
    arith,
    whole.size,
    length-append (take offset bytes) (part ++ drop (offset + length part) bytes),
    length-append part (drop (offset + length part) bytes),
    length-take offset bytes,
    length-drop (offset + length part) bytes,
  );
  bytes = AreBytes-append _ _ (AreBytes-take offset bytes whole.bytes)
      (AreBytes-append _ _ are (AreBytes-drop (offset + length part) bytes whole.bytes));
}

-- All bytes of a list replaced.
pub splice_whole : (xs ys : List ℕ) → length xs ≡ length ys → splice xs 0 (0 + length ys) ys ≡ ys
splice_whole xs ys e = rw (drop_all (0 + length ys) xs (omega arith)) (append-nil ys)

-- The first frames.
pub frame_kept : (old new : List (List ℕ)) (f : ℕ) → take (length old) new ≡ old → f < length old
    → frame_of new f ≡ frame_of old f
frame_kept old new f e here = sym (get_or-take (length old) new f [] here)
    ∙ ap (λ (frames : List (List ℕ)). get_or frames f []) e

-- One byte of a frame replaced.
pub splice_one : (bytes : List ℕ) (offset byte : ℕ) → offset < length bytes
    → splice bytes offset (offset + 1) (byte ∷ []) ≡ set bytes offset byte
splice_one bytes offset byte here = rw add-one (sym (set_split bytes offset byte here))
