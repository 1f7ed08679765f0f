-- A format's text and its reader: what the text of a value is read as, and what stands where a value was read.
use Rattle.std.specs.Prelude.{◌≡◌, ℕ, ◌-◌, ◌≤◌, List, ◌++◌, length, Ok, Err}
use Rattle.cx_map.specs.Bytes.{AreBytes}
use Rattle.cx_codec.specs.Place.{Place, Reader, Takes, end_of}

-- Where the text stands the value is read, whatever follows.
abbrev pub Again : {A : Type 0} → Reader A → List ℕ → A → Type 0
Again r text x = (p after : Place) → Takes p text after → r p ≡ Ok (x, after)

-- The input ends inside the text, and the text is within the limit.
pub record IsCut (p : Place) (text : List ℕ) : Type 0 where
  pub more : List ℕ
  pub parts : text ≡ p.ahead ++ more
  pub some : 1 ≤ length more
  pub within : length text ≤ p.limit - p.at

-- The text is read as the value, and where the input ends inside it that end is bad.
pub record ReadsAs {A : Type 0} (r : Reader A) (text : List ℕ) (x : A) : Type 0 where
  pub again : Again r text x
  pub cut : (p : Place) → IsCut p text → r p ≡ Err (end_of p)

-- What was read among bytes keeps a rule, and its text stands there.
abbrev pub Once : {A : Type 0} → Reader A → (A → Type 0) → (A → List ℕ) → Type 0
Once {A} r is text = (p after : Place) → AreBytes p.ahead → (x : A) → r p ≡ Ok (x, after) → is x × Takes p (text x) after
