-- The place of a name in a list of names.
use Rattle.std.specs.Prelude.{ℕ, suc, cond, List, [], ◌∷◌, Some, None, Option}
use Rattle.std.specs.Str.{bytes_eq}

-- one place further on
abbrev pub further : Option ℕ → Option ℕ
further (Some k) = Some (suc k)
further None = None

-- the first place of a name in a list of names, counted from 0
abbrev pub index_of : List ℕ → List (List ℕ) → Option ℕ
index_of w [] = None
index_of w (x ∷ xs) = cond (bytes_eq w x) (Some 0) (further (index_of w xs))
