-- The places of an expression: place 0 is the start, and place k the k-th leaf from the left.
-- Where k leaves stand before e, its first leaf is place k + 1.
use Rattle.std.specs.Prelude.{◌≡◌, ℕ, ◌+◌, true, ◌⊎◌, ◌↔◌, List, [], ◌∷◌}
use Rattle.bitsets.specs.Sets.{Has}
use Rattle.expressions.specs.Expr.{Expr, never, empty, leaf, seq, alt, star, nullable, leaves}

-- a session of e can begin at the place p
abbrev pub First : ℕ → Expr → ℕ → Type 0
First k never p = ⊥
First k empty p = ⊥
First k (leaf s) p = p ≡ k + 1
First k (seq e f) p = First k e p ⊎ ((nullable e ≡ true) × First (k + leaves e) f p)
First k (alt e f) p = First k e p ⊎ First (k + leaves e) f p
First k (star e) p = First k e p

-- a session of e can end at the place p
abbrev pub Last : ℕ → Expr → ℕ → Type 0
Last k never p = ⊥
Last k empty p = ⊥
Last k (leaf s) p = p ≡ k + 1
Last k (seq e f) p = ((nullable f ≡ true) × Last k e p) ⊎ Last (k + leaves e) f p
Last k (alt e f) p = Last k e p ⊎ Last (k + leaves e) f p
Last k (star e) p = Last k e p

-- inside e, the place q can follow the place p
abbrev pub Inner : ℕ → Expr → ℕ → ℕ → Type 0
Inner k never p q = ⊥
Inner k empty p q = ⊥
Inner k (leaf s) p q = ⊥
Inner k (seq e f) p q = (Inner k e p q ⊎ Inner (k + leaves e) f p q) ⊎ (Last k e p × First (k + leaves e) f q)
Inner k (alt e f) p q = Inner k e p q ⊎ Inner (k + leaves e) f p q
Inner k (star e) p q = Inner k e p q ⊎ (Last k e p × First k e q)

-- p is a place of e, and its leaf holds the letter a
abbrev pub Holds : ℕ → Expr → ℕ → ℕ → Type 0
Holds k never p a = ⊥
Holds k empty p a = ⊥
Holds k (leaf s) p a = (p ≡ k + 1) × Has s a
Holds k (seq e f) p a = Holds k e p a ⊎ Holds (k + leaves e) f p a
Holds k (alt e f) p a = Holds k e p a ⊎ Holds (k + leaves e) f p a
Holds k (star e) p a = Holds k e p a

-- q can follow p, from the start on
abbrev pub Follows : Expr → ℕ → ℕ → Type 0
Follows e p q = ((p ≡ 0) × First 0 e q) ⊎ Inner 0 e p q

-- a session of e can end at p, the start too where the empty word is a session
abbrev pub Ending : Expr → ℕ → Type 0
Ending e p = Last 0 e p ⊎ ((p ≡ 0) × (nullable e ≡ true))

-- the letter a leads from the places of s to those of t: to each that holds a and follows one of s
abbrev pub Takes : Expr → ℕ → ℕ → ℕ → Type 0
Takes e s a t = (q : ℕ) → Has t q ↔ ((p : ℕ) × Has s p × Follows e p q × Holds 0 e q a)

-- a session of e can end at one of the places of s
abbrev pub Ends : Expr → ℕ → Type 0
Ends e s = (p : ℕ) × Has s p × Ending e p

-- the word leads from s to t, letter by letter
abbrev pub Leads : Expr → ℕ → List ℕ → ℕ → Type 0
Leads e s [] t = s ≡ t
Leads e s (a ∷ w) t = (m : ℕ) × Takes e s a m × Leads e m w t
