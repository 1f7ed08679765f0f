-- Reading a format: a reader takes a value from a place of an input, or answers the offset of the first bad field.
use Rattle.std.specs.Prelude.{
  ◌≡◌,
  ℕ,
  ◌+◌,
  ◌-◌,
  ◌≤◌,
  List,
  [],
  ◌++◌,
  length,
  drop,
  min,
  Option,
  unwrap_or,
  Result,
  Ok,
  Err,
  Bool,
}

-- A place of an input: its offset, the offset that no field may pass, and the bytes from here to the input's end.
pub record Place : Type 0 where
  pub at : ℕ
  pub limit : ℕ
  pub ahead : List ℕ

-- how many bytes can be taken here, by the limit and by the input's end
abbrev pub room : Place → ℕ
room p = min (p.limit - p.at) (length p.ahead)

-- the place n bytes further on
abbrev pub advance : ℕ → Place → Place
advance n p = record { at = p.at + n; limit = p.limit; ahead = drop n p.ahead }

-- the offset at which the input ends
abbrev pub end_of : Place → ℕ
end_of p = p.at + length p.ahead

abbrev pub Reader : Type 0 → Type 0
Reader Y = Place → Result (Y × Place) ℕ

-- one reader, and then the next from where it ended
abbrev pub read_on : {A B : Type 0} → Result (A × Place) ℕ → (A → Reader B) → Result (B × Place) ℕ
read_on (Ok x) f = f x.0 x.1
read_on (Err o) f = Err o

infixl 10 ◌>>=◌
abbrev pub ◌>>=◌ : {A B : Type 0} → Reader A → (A → Reader B) → Reader B
(r >>= f) p = read_on (r p) f

-- a value that takes no byte
abbrev pub done : {Y : Type 0} → Y → Reader Y
done y p = Ok (y, p)

-- the offset here
abbrev pub here : Reader ℕ
here p = Ok (p.at, p)

-- a bad field at an offset
abbrev pub bad : {Y : Type 0} → ℕ → Reader Y
bad o p = Err o

-- What is kept of an input that is read through a buffer: the bytes that wait, the offset, the limit, and whether it
-- goes on.
pub record Buffered : Type 0 where
  pub ready : List ℕ
  pub at : ℕ
  pub limit : ℕ
  pub live : Bool

-- the place at hand: where it stands, with the bytes that wait as all that there are
abbrev pub at_hand : Buffered → Place
at_hand b = record { at = b.at; limit = b.limit; ahead = b.ready }

-- the place where it stands, over a source that has these bytes left
abbrev pub seen : Buffered → Option (List ℕ) → Place
seen b left = record { at = b.at; limit = b.limit; ahead = b.ready ++ unwrap_or left [] }

-- A text stands at a place, within its limit, and ends at the place after it.
pub record Takes (p : Place) (text : List ℕ) (after : Place) : Type 0 where
  pub ahead : p.ahead ≡ text ++ after.ahead
  pub there : after.at ≡ p.at + length text
  pub limit : after.limit ≡ p.limit
  pub within : length text ≤ p.limit - p.at

-- the place behind a text, with these bytes ahead
abbrev pub behind_text : Place → List ℕ → List ℕ → Place
behind_text p text rest = record { at = p.at + length text; limit = p.limit; ahead = rest }
