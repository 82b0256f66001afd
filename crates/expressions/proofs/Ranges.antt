-- Every place of e lies behind the k leaves that stand before e, and not behind e's own.
use Rattle.std.proofs.Common.{ℕ, ◌+◌, ◌<◌, ◌≤◌, inl, inr, arith}
use Rattle.expressions.specs.Expr.{Expr, never, empty, leaf, seq, alt, star, leaves}
use Rattle.expressions.specs.Places.{First, Last, Inner, Holds}

abbrev pub Within : ℕ → Expr → ℕ → Type 0
Within k e p = (k < p) × (p ≤ k + leaves e)

pub first_within : (k : ℕ) (e : Expr) (p : ℕ) → First k e p → Within k e p
first_within k never p h = absurd h
first_within k empty p h = absurd h
first_within k (leaf s) p h = omega arith
first_within k (seq e f) p (inl h) = omega (arith, first_within k e p h)
first_within k (seq e f) p (inr h) = omega (arith, first_within (k + leaves e) f p h.1)
first_within k (alt e f) p (inl h) = omega (arith, first_within k e p h)
first_within k (alt e f) p (inr h) = omega (arith, first_within (k + leaves e) f p h)
first_within k (star e) p h = first_within k e p h

pub last_within : (k : ℕ) (e : Expr) (p : ℕ) → Last k e p → Within k e p
last_within k never p h = absurd h
last_within k empty p h = absurd h
last_within k (leaf s) p h = omega arith
last_within k (seq e f) p (inl h) = omega (arith, last_within k e p h.1)
last_within k (seq e f) p (inr h) = omega (arith, last_within (k + leaves e) f p h)
last_within k (alt e f) p (inl h) = omega (arith, last_within k e p h)
last_within k (alt e f) p (inr h) = omega (arith, last_within (k + leaves e) f p h)
last_within k (star e) p h = last_within k e p h

pub holds_within : (k : ℕ) (e : Expr) (p a : ℕ) → Holds k e p a → Within k e p
holds_within k never p a h = absurd h
holds_within k empty p a h = absurd h
holds_within k (leaf s) p a h = omega arith
holds_within k (seq e f) p a (inl h) = omega (arith, holds_within k e p a h)
holds_within k (seq e f) p a (inr h) = omega (arith, holds_within (k + leaves e) f p a h)
holds_within k (alt e f) p a (inl h) = omega (arith, holds_within k e p a h)
holds_within k (alt e f) p a (inr h) = omega (arith, holds_within (k + leaves e) f p a h)
holds_within k (star e) p a h = holds_within k e p a h

-- both the place that is followed and the one that follows
pub inner_within : (k : ℕ) (e : Expr) (p q : ℕ) → Inner k e p q → Within k e p × Within k e q
inner_within k never p q h = absurd h
inner_within k empty p q h = absurd h
inner_within k (leaf s) p q h = absurd h
inner_within k (seq e f) p q (inl (inl h)) = omega (arith, inner_within k e p q h)
inner_within k (seq e f) p q (inl (inr h)) = omega (arith, inner_within (k + leaves e) f p q h)
inner_within k (seq e f) p q (inr h) =
    omega (arith, last_within k e p h.0, first_within (k + leaves e) f q h.1)
inner_within k (alt e f) p q (inl h) = omega (arith, inner_within k e p q h)
inner_within k (alt e f) p q (inr h) = omega (arith, inner_within (k + leaves e) f p q h)
inner_within k (star e) p q (inl h) = inner_within k e p q h
inner_within k (star e) p q (inr h) = (last_within k e p h.0, first_within k e q h.1)
