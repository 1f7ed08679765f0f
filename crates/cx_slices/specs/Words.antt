-- Words that change: for each word a new one, or none where it stays.
use Rattle.std.specs.Prelude.{ℕ, ◌==◌, ◌&&◌, Bool, true, not, List, [], ◌∷◌, Option, None, Some, unwrap_or}
use Rattle.std.specs.Prelude.{if◌then◌else◌}

-- from the words that stand to those that are wanted
abbrev pub changes : List ℕ → List ℕ → List (Option ℕ)
changes [] wanted = []
changes (w ∷ ws) [] = []
changes (w ∷ ws) (v ∷ vs) = (if w == v then None else Some v) ∷ changes ws vs

-- the words once they have changed so
abbrev pub changed : List ℕ → List (Option ℕ) → List ℕ
changed [] items = []
changed (w ∷ ws) [] = w ∷ ws
changed (w ∷ ws) (i ∷ is) = unwrap_or i w ∷ changed ws is

abbrev pub is_change : ℕ → Option ℕ → Bool
is_change w None = true
is_change w (Some v) = not (w == v)

-- No new word is the one that stands.
abbrev pub all_change : List ℕ → List (Option ℕ) → Bool
all_change [] items = true
all_change (w ∷ ws) [] = true
all_change (w ∷ ws) (i ∷ is) = is_change w i && all_change ws is
