-- Regular expressions over letters, and their derivatives by a letter.
use Rattle.std.specs.Prelude.{ℕ, ◌+◌, Bool, true, false, cond, ◌&&◌, ◌||◌, List, [], ◌∷◌}
use Rattle.bitsets.specs.Sets.{has}

-- A leaf stands for one letter of the set s: letter k counts 2 ^ k.
pub data Expr : Type 0 where
  never empty : Expr
  leaf : (s : ℕ) → Expr
  seq alt : (e f : Expr) → Expr
  star : (e : Expr) → Expr

-- whether the empty word is a session
abbrev pub nullable : Expr → Bool
nullable never = false
nullable empty = true
nullable (leaf s) = false
nullable (seq e f) = nullable e && nullable f
nullable (alt e f) = nullable e || nullable f
nullable (star e) = true

-- what may come after the letter a
abbrev pub derive : ℕ → Expr → Expr
derive a never = never
derive a empty = never
derive a (leaf s) = cond (has s a) empty never
derive a (seq e f) = cond (nullable e) (alt (seq (derive a e) f) (derive a f)) (seq (derive a e) f)
derive a (alt e f) = alt (derive a e) (derive a f)
derive a (star e) = seq (derive a e) (star e)

-- what may come after a word
abbrev pub derives : List ℕ → Expr → Expr
derives [] e = e
derives (a ∷ w) e = derives w (derive a e)

-- how many leaves stand in e
abbrev pub leaves : Expr → ℕ
leaves never = 0
leaves empty = 0
leaves (leaf s) = 1
leaves (seq e f) = leaves e + leaves f
leaves (alt e f) = leaves e + leaves f
leaves (star e) = leaves e
