-- A text of bytes and its parts.
use Rattle.std.specs.Prelude.{◌≡◌, ℕ, ◌+◌, ◌<◌, ◌≤◌, cond, List, [], ◌∷◌, ◌++◌, length, drop, Some, None, Option, ◌==◌, ◌≢◌, slice_index, slice_range}

-- the byte c does not stand in xs
abbrev pub Lacks : ℕ → List ℕ → Type 0
Lacks c xs = (k : ℕ) → k < length xs → slice_index xs k ≢ c

-- a stands before the first c of xs, and b after it
pub record Parts (c : ℕ) (xs a b : List ℕ) : Type 0 where
  pub whole : xs ≡ a ++ (c ∷ b)
  pub first : Lacks c a

-- one more byte at the front of the first piece
abbrev pub onto : ℕ → List (List ℕ) → List (List ℕ)
onto x [] = (x ∷ []) ∷ []
onto x (p ∷ ps) = (x ∷ p) ∷ ps

-- the pieces between the c's of a text: one more than there are c's
abbrev pub split : ℕ → List ℕ → List (List ℕ)
split c [] = [] ∷ []
split c (x ∷ xs) = cond (x == c) ([] ∷ split c xs) (onto x (split c xs))

-- pieces, joined by c's
abbrev pub joined : ℕ → List (List ℕ) → List ℕ
joined c [] = []
joined c (p ∷ []) = p
joined c (p ∷ q ∷ ps) = p ++ (c ∷ joined c (q ∷ ps))

-- where the first c at or after the index `from` stands in xs
abbrev pub Found : ℕ → List ℕ → ℕ → Option ℕ → Type 0
Found c xs from (Some k) = (from ≤ k) × (k < length xs) × Parts c (drop from xs) (slice_range xs from k) (drop (k + 1) xs)
Found c xs from None = Lacks c (drop from xs)
