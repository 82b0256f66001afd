-- The tables hold just the places that the relations name.
use Rattle.std.proofs.Common.{◌≡◌, ℕ, zero, suc, ◌+◌, ◌^◌, ◌<◌, ◌≤◌, cond, not, eqb, ◌⊎◌, ◌↔◌, Decides, subst, inl, inr, arith}
use lib.Bits.{bit_and, bit_or}
use Rattle.std.proofs.lemmas.Bool.{cases_eq}
use Rattle.std.proofs.lemmas.Bool.Decides.{Decides-eqb, Decides-like}
use Rattle.bitsets.specs.Sets.{Has, has}
use Rattle.bitsets.proofs.Iff.{◌⇄◌, back, same, both, either, neither}
use Rattle.bitsets.proofs.Sets.{Decides-Has, Decides_meet, Has-or, Has-and, Has-zero, Has-pow, Has-cond, Has_ext, Has-below, below-pow}
use Rattle.expressions.specs.Expr.{Expr, never, empty, leaf, seq, alt, star, nullable, leaves}
use Rattle.expressions.specs.Places.{First, Last, Inner, Holds, Follows, Ending, Takes, Ends}
use Rattle.expressions.specs.Tables.{firsts, lasts, inner, holders, followers, endings, united, taken}
use Rattle.expressions.proofs.Ranges.{first_within, last_within, inner_within, holds_within}

pub firsts_iff : (k : ℕ) (e : Expr) (q : ℕ) → Has (firsts k e) q ↔ First k e q
firsts_iff k never q = neither (Has-zero q) (λ h. h)
firsts_iff k empty q = neither (Has-zero q) (λ h. h)
firsts_iff k (leaf s) q = Has-pow (k + 1) q
firsts_iff k (seq e f) q =
    Has-or (firsts k e) (cond (nullable e) (firsts (k + leaves e) f) 0) q
    ⇄ either (firsts_iff k e q) (Has-cond (nullable e) (firsts (k + leaves e) f) q ⇄ both same (firsts_iff (k + leaves e) f q))
firsts_iff k (alt e f) q =
    Has-or (firsts k e) (firsts (k + leaves e) f) q ⇄ either (firsts_iff k e q) (firsts_iff (k + leaves e) f q)
firsts_iff k (star e) q = firsts_iff k e q

pub lasts_iff : (k : ℕ) (e : Expr) (q : ℕ) → Has (lasts k e) q ↔ Last k e q
lasts_iff k never q = neither (Has-zero q) (λ h. h)
lasts_iff k empty q = neither (Has-zero q) (λ h. h)
lasts_iff k (leaf s) q = Has-pow (k + 1) q
lasts_iff k (seq e f) q =
    Has-or (cond (nullable f) (lasts k e) 0) (lasts (k + leaves e) f) q
    ⇄ either (Has-cond (nullable f) (lasts k e) q ⇄ both same (lasts_iff k e q)) (lasts_iff (k + leaves e) f q)
lasts_iff k (alt e f) q =
    Has-or (lasts k e) (lasts (k + leaves e) f) q ⇄ either (lasts_iff k e q) (lasts_iff (k + leaves e) f q)
lasts_iff k (star e) q = lasts_iff k e q

-- the firsts that follow p where p is a last place
joins_iff : (k : ℕ) (e : Expr) (p j : ℕ) (f : Expr) (q : ℕ)
    → Has (cond (has (lasts k e) p) (firsts j f) 0) q ↔ (Last k e p × First j f q)
joins_iff k e p j f q =
    Has-cond (has (lasts k e) p) (firsts j f) q ⇄ both (Decides-Has (lasts k e) p ⇄ lasts_iff k e p) (firsts_iff j f q)

pub inner_iff : (k : ℕ) (e : Expr) (p q : ℕ) → Has (inner k e p) q ↔ Inner k e p q
inner_iff k never p q = neither (Has-zero q) (λ h. h)
inner_iff k empty p q = neither (Has-zero q) (λ h. h)
inner_iff k (leaf s) p q = neither (Has-zero q) (λ h. h)
inner_iff k (seq e f) p q =
    Has-or (bit_or (inner k e p) (inner (k + leaves e) f p)) (cond (has (lasts k e) p) (firsts (k + leaves e) f) 0) q
    ⇄ either
    (Has-or (inner k e p) (inner (k + leaves e) f p) q
    ⇄ either (inner_iff k e p q) (inner_iff (k + leaves e) f p q))
    (joins_iff k e p (k + leaves e) f q)
inner_iff k (alt e f) p q =
    Has-or (inner k e p) (inner (k + leaves e) f p) q ⇄ either (inner_iff k e p q) (inner_iff (k + leaves e) f p q)
inner_iff k (star e) p q =
    Has-or (inner k e p) (cond (has (lasts k e) p) (firsts k e) 0) q ⇄ either (inner_iff k e p q) (joins_iff k e p k e q)

pub holders_iff : (k : ℕ) (e : Expr) (q a : ℕ) → Has (holders k e a) q ↔ Holds k e q a
holders_iff k never q a = neither (Has-zero q) (λ h. h)
holders_iff k empty q a = neither (Has-zero q) (λ h. h)
holders_iff k (leaf s) q a =
    Has-cond (has s a) (2 ^ (k + 1)) q ⇄ both (Decides-Has s a) (Has-pow (k + 1) q) ⇄ (λ h. (h.1, h.0), λ h. (h.1, h.0))
holders_iff k (seq e f) q a =
    Has-or (holders k e a) (holders (k + leaves e) f a) q ⇄ either (holders_iff k e q a) (holders_iff (k + leaves e) f q a)
holders_iff k (alt e f) q a =
    Has-or (holders k e a) (holders (k + leaves e) f a) q ⇄ either (holders_iff k e q a) (holders_iff (k + leaves e) f q a)
holders_iff k (star e) q a = holders_iff k e q a

-- no table reaches past the last leaf
pub firsts-lt : (k : ℕ) (e : Expr) → firsts k e < 2 ^ (k + leaves e + 1)
firsts-lt k e =
    below-pow (k + leaves e + 1) (firsts k e) (λ q h. omega (arith, first_within k e q ((firsts_iff k e q).0 h)))

pub lasts-lt : (k : ℕ) (e : Expr) → lasts k e < 2 ^ (k + leaves e + 1)
lasts-lt k e =
    below-pow (k + leaves e + 1) (lasts k e) (λ q h. omega (arith, last_within k e q ((lasts_iff k e q).0 h)))

pub inner_lt : (k : ℕ) (e : Expr) (p : ℕ) → inner k e p < 2 ^ (k + leaves e + 1)
inner_lt k e p =
    below-pow (k + leaves e + 1) (inner k e p) (λ q h. omega (arith, inner_within k e p q ((inner_iff k e p q).0 h)))

pub holders-lt : (k : ℕ) (e : Expr) (a : ℕ) → holders k e a < 2 ^ (k + leaves e + 1)
holders-lt k e a =
    below-pow (k + leaves e + 1) (holders k e a) (λ q h. omega (arith, holds_within k e q a ((holders_iff k e q a).0 h)))

pub followers_iff : (e : Expr) (p q : ℕ) → Has (followers e p) q ↔ Follows e p q
followers_iff e p q =
    Has-or (cond (eqb p 0) (firsts 0 e) 0) (inner 0 e p) q
    ⇄ either (Has-cond (eqb p 0) (firsts 0 e) q ⇄ both (Decides-eqb p 0) (firsts_iff 0 e q)) (inner_iff 0 e p q)

pub endings_iff : (e : Expr) (p : ℕ) → Has (endings e) p ↔ Ending e p
endings_iff e p =
    Has-or (lasts 0 e) (cond (nullable e) 1 0) p
    ⇄ either (lasts_iff 0 e p) (Has-cond (nullable e) 1 p ⇄ both same (Has-pow 0 p) ⇄ (λ h. (h.1, h.0), λ h. (h.1, h.0)))

pub followers-lt : (e : Expr) (p : ℕ) → followers e p < 2 ^ (leaves e + 1)
followers-lt e p = below-pow (leaves e + 1) (followers e p) (λ q h. in_range q ((followers_iff e p q).0 h))
  where
    in_range : (q : ℕ) → Follows e p q → q < leaves e + 1
    in_range q (inl h) = omega (arith, first_within 0 e q h.1)
    in_range q (inr h) = omega (arith, inner_within 0 e p q h)

pub endings-lt : (e : Expr) → endings e < 2 ^ (leaves e + 1)
endings-lt e = below-pow (leaves e + 1) (endings e) (λ p h. in_range p ((endings_iff e p).0 h))
  where
    in_range : (p : ℕ) → Ending e p → p < leaves e + 1
    in_range p (inl h) = omega (arith, last_within 0 e p h)
    in_range p (inr h) = omega arith

-- a union over the places of s below n
pub united_iff : (f : ℕ → ℕ) (s n q : ℕ) → Has (united f s n) q ↔ ((p : ℕ) × (p < n) × Has s p × Has (f p) q)
united_iff f s zero q = neither (Has-zero q) (λ h. omega (arith, h.1))
united_iff f s (suc n) q =
    Has-or (united f s n) (cond (has s n) (f n) 0) q
    ⇄ either (united_iff f s n q) (Has-cond (has s n) (f n) q ⇄ both (Decides-Has s n) same)
    ⇄ (put, take)
  where
    put : ((p : ℕ) × (p < n) × Has s p × Has (f p) q) ⊎ (Has s n × Has (f n) q) → (p : ℕ) × (p < suc n) × Has s p × Has (f p) q
    put (inl h) = (h.0, omega arith, h.2, h.3)
    put (inr h) = (n, omega arith, h.0, h.1)

    take : (p : ℕ) × (p < suc n) × Has s p × Has (f p) q → ((p : ℕ) × (p < n) × Has s p × Has (f p) q) ⊎ (Has s n × Has (f n) q)
    take h =
        elim (cases_eq h.0 n) [
          | inl e ↦ inr (subst (λ x. Has s x) e h.2, subst (λ x. Has (f x) q) e h.3)
          | inr d ↦ inl (h.0, omega (arith, h.1, d), h.2, h.3)
        ]

pub united-lt : (f : ℕ → ℕ) (s n k : ℕ) → ((p : ℕ) → f p < 2 ^ k) → united f s n < 2 ^ k
united-lt f s n k l =
    below-pow k (united f s n) (λ q h. let u = (united_iff f s n q).0 h in Has-below (f u.0) q k (l u.0) u.3)

-- where a letter leads, where only places below 64 are followed by others
pub taken_takes_followed : (e : Expr) (s a : ℕ) → ((p q : ℕ) → Has s p → Follows e p q → p < 64) → Takes e s a (taken e s a)
taken_takes_followed e s a l q =
    Has-and (united (followers e) s 64) (holders 0 e a) q
    ⇄ both (united_iff (followers e) s 64 q) (holders_iff 0 e q a)
    ⇄ (put, take)
  where
    put : ((p : ℕ) × (p < 64) × Has s p × Has (followers e p) q) × Holds 0 e q a
        → (p : ℕ) × Has s p × Follows e p q × Holds 0 e q a
    put h = (h.0.0, h.0.2, (followers_iff e h.0.0 q).0 h.0.3, h.1)

    take : (p : ℕ) × Has s p × Follows e p q × Holds 0 e q a
        → ((p : ℕ) × (p < 64) × Has s p × Has (followers e p) q) × Holds 0 e q a
    take h = ((h.0, l h.0 q h.1 h.2, h.1, (followers_iff e h.0 q).1 h.2), h.3)

-- where a letter leads, from places below 64
pub taken_takes : (e : Expr) (s a : ℕ) → s < 2 ^ 64 → Takes e s a (taken e s a)
taken_takes e s a small = taken_takes_followed e s a (λ p q h _. Has-below s p 64 small h)

-- a letter leads to one set only
pub takes_unique : (e : Expr) (s a t u : ℕ) → Takes e s a t → Takes e s a u → t ≡ u
takes_unique e s a t u h k = Has_ext t u (λ q. h q ⇄ back (k q))

pub taken-lt : (e : Expr) (s a : ℕ) → leaves e ≤ 63 → taken e s a < 2 ^ 64
taken-lt e s a l =
    below-pow 64 (taken e s a)
    (λ q h.
    omega (
      arith,
      holds_within 0 e q a ((holders_iff 0 e q a).0 ((Has-and (united (followers e) s 64) (holders 0 e a) q).0 h).1),
    ))

-- whether a session can end at one of the places of s
pub Decides_ends : (e : Expr) (s : ℕ) → Decides (not (eqb (bit_and s (endings e)) 0)) (Ends e s)
Decides_ends e s =
    Decides-like (not (eqb (bit_and s (endings e)) 0))
    (λ h. (h.0, h.1, (endings_iff e h.0).0 h.2))
    (λ h. (h.0, h.1, (endings_iff e h.0).1 h.2))
    (Decides_meet s (endings e))
