-- Bytes at addresses: as lists, and as maps.
use Rattle.std.specs.Prelude.{◌≡◌, ℕ, ◌+◌, ◌≤◌, ◌==◌, nat_lt, Bool, false, not, List, [], ◌∷◌, filter}
use Rattle.std.specs.Prelude.{Option, None, Some, is_some, if◌then◌else◌}
use Rattle.std.specs.List.{list_all}
use Rattle.std.specs.Option.{option_or}

-- a byte at an address: the address, and the byte
abbrev pub Byte : Type 0
Byte = ℕ × ℕ

-- The byte at an address, which is the first of those that the list has there.
abbrev pub byte_found : List Byte → ℕ → Option ℕ
byte_found [] a = None
byte_found (e ∷ es) a = if e.0 == a then Some e.1 else byte_found es a

-- Each address is above the one before it, and none is below the first number.
abbrev pub BytesRise : ℕ → List Byte → Type 0
BytesRise least [] = Unit {0}
BytesRise least (e ∷ es) = (least ≤ e.0) × BytesRise (e.0 + 1) es

-- A list that rises, with one more byte: in its place, or for that which stands there.
abbrev pub inserted : Byte → List Byte → List Byte
inserted e [] = e ∷ []
inserted e (f ∷ fs) = if nat_lt e.0 f.0 then e ∷ f ∷ fs else if e.0 == f.0 then e ∷ fs else f ∷ inserted e fs

-- The bytes in rising order, each address once: of several at one address the first.
abbrev pub sorted : List Byte → List Byte
sorted [] = []
sorted (e ∷ es) = inserted e (sorted es)

-- ---- a map from addresses to bytes, with none where nothing was put

abbrev pub Map : Type 0
Map = ℕ → Option ℕ

abbrev pub nothing : Map
nothing a = None

-- the map with these bytes put, of several at one address the first
abbrev pub with_bytes : List Byte → Map → Map
with_bytes es map a = option_or (byte_found es a) (map a)

abbrev pub is_byte : Option ℕ → ℕ → Bool
is_byte None byte = false
is_byte (Some there) byte = there == byte

-- The map has this byte.
abbrev pub stands : Map → Byte → Bool
stands map e = is_byte (map e.0) e.1

-- those that don't stand in the map
abbrev pub missing : Map → List Byte → List Byte
missing map es = filter (λ e. not (stands map e)) es

abbrev pub none_stands : Map → List Byte → Bool
none_stands map es = list_all (λ e. not (stands map e)) es

-- Each of these addresses has a byte in the list.
abbrev pub all_there : List Byte → List Byte → Bool
all_there es items = list_all (λ i. is_some (byte_found es i.0)) items

-- The map has each of these bytes.
abbrev pub Shows : Map → List Byte → Type 0
Shows map [] = Unit {0}
Shows map (e ∷ es) = (map e.0 ≡ Some e.1) × Shows map es

-- One of these addresses has no byte in the map.
abbrev pub lacks : Map → List ℕ → Bool
lacks map addresses = not (list_all (λ a. is_some (map a)) addresses)
