-- The fields that every format is made of.
use Rattle.std.specs.Prelude.{
  ℕ,
  ◌+◌,
  List,
  length,
  take,
  nat_lt,
  slice_index,
  ◌==◌,
  Bool,
  true,
  false,
  Ok,
  Err,
  if◌then◌else◌,
}
use Rattle.std.specs.Int.{w32, from_le_bytes}
use Rattle.cx_codec.specs.Place.{Reader, room, advance, ◌>>=◌, done, here, bad}
use Rattle.cx_codec.specs.Varint.{varint_length, varint_value, is_varint}

-- n bytes. Where the input or the limit comes first, the field is bad there.
unfoldable pub bytes_at : ℕ → Reader (List ℕ)
bytes_at n p = if nat_lt (room p) n then Err (p.at + room p) else Ok (take n p.ahead, advance n p)

-- one byte
unfoldable pub byte_at : Reader ℕ
byte_at = do
  bytes ← bytes_at 1
  done (slice_index bytes 0)

-- a word: four bytes, the low one first
unfoldable pub word_at : Reader ℕ
word_at = do
  bytes ← bytes_at 4
  done (from_le_bytes w32 bytes)

-- the bytes of one varint, whatever they stand for
unfoldable pub varint_bytes_at : Reader (List ℕ)
varint_bytes_at p = bytes_at (varint_length 10 p.ahead) p

-- a varint, judged once it is whole; one that breaks the rule is bad at its first byte
unfoldable pub varint_at : Reader ℕ
varint_at = do
  start ← here
  bytes ← varint_bytes_at
  if is_varint bytes then done (varint_value bytes) else bad start

-- whether the input ends here; a byte at the limit is bad there
unfoldable pub end_at : Reader Bool
end_at p = if length p.ahead == 0 then Ok (true, p) else if p.at == p.limit then Err p.limit else Ok (false, p)
