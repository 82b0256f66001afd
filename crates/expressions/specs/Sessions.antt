-- The sessions of an expression: the words that it stands for. A word is a list of letters, each a kind of bus event; a session is
-- a whole run of a procedure, or of a part of one.
use Rattle.std.specs.Prelude.{◌≡◌, ℕ, ◌⊎◌, List, [], ◌∷◌, ◌++◌}
use Rattle.bitsets.specs.Sets.{Has}
use Rattle.expressions.specs.Expr.{Expr, never, empty, leaf, seq, alt, star}

-- w is a word of P followed by a word of Q
abbrev pub Cut : (List ℕ → Type 0) → (List ℕ → Type 0) → List ℕ → Type 0
Cut P Q w = (u : List ℕ) × (v : List ℕ) × (w ≡ u ++ v) × P u × Q v

-- the words of a list, one after the other
abbrev pub joined : List (List ℕ) → List ℕ
joined [] = []
joined (u ∷ us) = u ++ joined us

-- each word of a list is one of P
abbrev pub Every : (List ℕ → Type 0) → List (List ℕ) → Type 0
Every P [] = Unit {0}
Every P (u ∷ us) = P u × Every P us

-- w is a session of e
abbrev pub Session : Expr → List ℕ → Type 0
Session never w = ⊥
Session empty w = w ≡ []
Session (leaf s) w = (a : ℕ) × (w ≡ a ∷ []) × Has s a
Session (seq e f) w = Cut (Session e) (Session f) w
Session (alt e f) w = Session e w ⊎ Session f w
Session (star e) w = (us : List (List ℕ)) × (w ≡ joined us) × Every (Session e) us
