-- The place of a name, as the library's search finds it.
use Rattle.std.proofs.Common.{◌≡◌, ℕ, suc, ◌+◌, List, [], ◌∷◌, length, Bool, true, false, cond, not, ltb, Some, None, refl, ap, ◌∙◌, arith}
use Rattle.std.specs.List.{position, position_or_len}
use Rattle.std.specs.Str.{bytes_eq}
use Rattle.alphabets.specs.Names.{index_of, further}

pub index_of-position : (w : List ℕ) (ws : List (List ℕ)) → index_of w ws ≡ position (bytes_eq w) ws
index_of-position w [] = refl
index_of-position w (x ∷ xs) = at_first (bytes_eq w x) (ap further (index_of-position w xs) ∙ grind arith)
  where
    at_first : (b : Bool)
        → further (index_of w xs) ≡ cond (ltb (1 + position_or_len (bytes_eq w) xs) (suc (length xs))) (Some (1 + position_or_len (bytes_eq w) xs)) None
        → cond b (Some 0) (further (index_of w xs))
        ≡ cond (ltb (cond (not b) (1 + position_or_len (bytes_eq w) xs) 0) (suc (length xs))) (Some (cond (not b) (1 + position_or_len (bytes_eq w) xs) 0)) None
    at_first true later = grind arith
    at_first false later = later
