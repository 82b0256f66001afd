-- The relations of places as numbers: each a set of places, place k counting 2 ^ k.
use Rattle.std.specs.Prelude.{ℕ, zero, suc, ◌+◌, ◌^◌, cond, ◌==◌, bit_and, bit_or}
use Rattle.bitsets.specs.Sets.{has}
use Rattle.expressions.specs.Expr.{Expr, never, empty, leaf, seq, alt, star, nullable, leaves}

-- where a session of e can begin; k leaves stand before e, here and below
abbrev pub firsts : ℕ → Expr → ℕ
firsts k never = 0
firsts k empty = 0
firsts k (leaf s) = 2 ^ (k + 1)
firsts k (seq e f) = bit_or (firsts k e) (cond (nullable e) (firsts (k + leaves e) f) 0)
firsts k (alt e f) = bit_or (firsts k e) (firsts (k + leaves e) f)
firsts k (star e) = firsts k e

-- where a session of e can end
abbrev pub lasts : ℕ → Expr → ℕ
lasts k never = 0
lasts k empty = 0
lasts k (leaf s) = 2 ^ (k + 1)
lasts k (seq e f) = bit_or (cond (nullable f) (lasts k e) 0) (lasts (k + leaves e) f)
lasts k (alt e f) = bit_or (lasts k e) (lasts (k + leaves e) f)
lasts k (star e) = lasts k e

-- what can follow the place p inside e
abbrev pub inner : ℕ → Expr → ℕ → ℕ
inner k never p = 0
inner k empty p = 0
inner k (leaf s) p = 0
inner k (seq e f) p = bit_or (bit_or (inner k e p) (inner (k + leaves e) f p)) (cond (has (lasts k e) p) (firsts (k + leaves e) f) 0)
inner k (alt e f) p = bit_or (inner k e p) (inner (k + leaves e) f p)
inner k (star e) p = bit_or (inner k e p) (cond (has (lasts k e) p) (firsts k e) 0)

-- the places of e whose leaf holds the letter a
abbrev pub holders : ℕ → Expr → ℕ → ℕ
holders k never a = 0
holders k empty a = 0
holders k (leaf s) a = cond (has s a) (2 ^ (k + 1)) 0
holders k (seq e f) a = bit_or (holders k e a) (holders (k + leaves e) f a)
holders k (alt e f) a = bit_or (holders k e a) (holders (k + leaves e) f a)
holders k (star e) a = holders k e a

-- what can follow p, from the start on
abbrev pub followers : Expr → ℕ → ℕ
followers e p = bit_or (cond (p == 0) (firsts 0 e) 0) (inner 0 e p)

-- where a session can end, the start too where the empty word is a session
abbrev pub endings : Expr → ℕ
endings e = bit_or (lasts 0 e) (cond (nullable e) 1 0)

-- the union of f p over the p below n that are in s
abbrev pub united : (ℕ → ℕ) → ℕ → ℕ → ℕ
united f s zero = 0
united f s (suc n) = bit_or (united f s n) (cond (has s n) (f n) 0)

-- where the letter a leads from the places of s, all below 64
abbrev pub taken : Expr → ℕ → ℕ → ℕ
taken e s a = bit_and (united (followers e) s 64) (holders 0 e a)
