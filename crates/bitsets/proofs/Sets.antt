-- The numbers of a set: what each operation on the number does to them.
use Rattle.std.proofs.Common.{◌≡◌, ℕ, zero, suc, ◌+◌, ◌/◌, ◌%◌, ◌^◌, ◌<◌, ◌≤◌, Bool, true, false, cond, not, eqb, ◌⊎◌, ◌↔◌, Decides, sym, refl, ap, ◌∙◌, inl, inr, add-zero, add_comm, one-mul, pow-suc, one-add, arith, pow_pos, pow_mono, shr-shr}
use mathlib.Core.Bool.{false≢true}
use native.Mathlib.Nat.{div-eq_of_lt}
use lib.Bits.{bit_and, bit_or, or_step, and_step, or_shr, and_shr}
use lib.Pow.{pow-lt}
use Rattle.std.proofs.lemmas.Nat.{or_shifted}
use Rattle.std.proofs.lemmas.Bool.{cases_eq, cases_lt}
use Rattle.std.proofs.lemmas.Bool.Decides.{Decides-eqb, Decides-like, Decides-not}
use Rattle.bitsets.specs.Sets.{Has, has, below}
use Rattle.bitsets.proofs.Iff.{◌⇄◌, back, same, both, either, neither, regroup}

pub Decides-Has : (s k : ℕ) → Decides (has s k) (Has s k)
Decides-Has s k = Decides-eqb (s / 2 ^ k % 2) 1

-- one digit of a union and of a common part
or_odd : (a b : ℕ) → (bit_or a b % 2 ≡ 1) ↔ ((a % 2 ≡ 1) ⊎ (b % 2 ≡ 1))
or_odd a b = (
  λ h. elim (cases_eq (a % 2) 1) [ inl e ↦ inl e | inr n ↦ inr (omega (arith, or_step a b, n)) ],
  elim [ inl e ↦ omega (arith, or_step a b) | inr e ↦ omega (arith, or_step a b) ],
)

and_odd : (a b : ℕ) → (bit_and a b % 2 ≡ 1) ↔ ((a % 2 ≡ 1) × (b % 2 ≡ 1))
and_odd a b = (λ h. (omega (arith, and_step a b), omega (arith, and_step a b)), λ h. omega (arith, and_step a b))

pub Has-or : (a b k : ℕ) → Has (bit_or a b) k ↔ (Has a k ⊎ Has b k)
Has-or a b k = rw (or_shr a b k) (or_odd (a / 2 ^ k) (b / 2 ^ k))

pub Has-and : (a b k : ℕ) → Has (bit_and a b) k ↔ (Has a k × Has b k)
Has-and a b k = rw (and_shr a b k) (and_odd (a / 2 ^ k) (b / 2 ^ k))

-- no member stands past the number's digits
pub Has_past : (s k : ℕ) → s < 2 ^ k → Has s k → ⊥
Has_past s k h m = omega (arith, div-eq_of_lt h)

-- a member of a number below 2 ^ n is below n
pub Has-below : (s k n : ℕ) → s < 2 ^ n → Has s k → k < n
Has-below s k n h m = elim (cases_lt k n) [ inl l ↦ l | inr g ↦ absurd (Has_past s k (past g) m) ]
  where
    past : n ≤ k → s < 2 ^ k
    past g = omega (arith, pow_mono g)

pub Has-zero : (k : ℕ) → Has 0 k → ⊥
Has-zero k = Has_past 0 k (pow_pos k)

-- the members of s / 2 are those of s, each one less
Has_half : (s k : ℕ) → Has (s / 2) k ↔ Has s (suc k)
Has_half s k = rw (shr-shr s 1 k, one-add) same

-- 2 ^ k holds k alone
pub Has-pow : (k j : ℕ) → Has (2 ^ k) j ↔ (j ≡ k)
Has-pow zero zero = (λ _. refl, λ _. refl)
Has-pow zero (suc j) = neither (Has_past 1 (suc j) (pow-lt {i = 0} {j = suc j} (omega arith))) (λ e. omega arith)
Has-pow (suc k) zero = neither (λ h. omega (arith, pow-suc 2 k)) (λ e. omega arith)
Has-pow (suc k) (suc j) =
    back (Has_half (2 ^ suc k) j) ⇄ rw half (Has-pow k j) ⇄ (λ e. ap suc e, λ e. omega arith)
  where
    half : 2 ^ suc k / 2 ≡ 2 ^ k
    half = omega (arith, pow-suc 2 k)

-- a set that is there only where a test passes
pub Has-cond : (b : Bool) (s k : ℕ) → Has (cond b s 0) k ↔ ((b ≡ true) × Has s k)
Has-cond true s k = (λ h. (refl, h), λ h. h.1)
Has-cond false s k = neither (Has-zero k) (λ h. false≢true h.0)

-- two numbers with the same members are one
ext_upto : (n a b : ℕ) → a ≤ n → b ≤ n → ((k : ℕ) → Has a k ↔ Has b k) → a ≡ b
ext_upto zero a b ha hb h = omega arith
ext_upto (suc n) a b ha hb h =
    join
    (ext_upto n (a / 2) (b / 2) (omega arith) (omega arith) (λ k. Has_half a k ⇄ h (suc k) ⇄ back (Has_half b k)))
    (cases_eq (a % 2) 1)
  where
    join : a / 2 ≡ b / 2 → (a % 2 ≡ 1) ⊎ (a % 2 ≡ 1 → ⊥) → a ≡ b
    join e (inl o) = omega (arith, (h 0).0 (omega arith))
    join e (inr o) =
        elim (cases_eq (b % 2) 1) [ inl p ↦ absurd (o (omega (arith, (h 0).1 (omega arith)))) | inr p ↦ omega (arith, o, p) ]

pub Has_ext : (a b : ℕ) → ((k : ℕ) → Has a k ↔ Has b k) → a ≡ b
Has_ext a b h = ext_upto (a + b) a b (omega arith) (omega arith) h

-- where nothing is in it, the number is 0
pub no_members : (s : ℕ) → ((k : ℕ) → Has s k → ⊥) → s ≡ 0
no_members s h = Has_ext s 0 (λ k. neither (h k) (Has-zero k))

-- a number other than 0 has a member
member_upto : (n s : ℕ) → s ≤ n → (s ≡ 0 → ⊥) → (k : ℕ) × Has s k
member_upto zero s hs h = absurd (h (omega arith))
member_upto (suc n) s hs h =
    elim (cases_eq (s / 2) 0) [
      | inl e ↦ (0, omega (arith, h))
      | inr e ↦ let m = member_upto n (s / 2) (omega arith) e in (suc m.0, (Has_half s m.0).0 m.1)
    ]

pub some_member : (s : ℕ) → (s ≡ 0 → ⊥) → (k : ℕ) × Has s k
some_member s h = member_upto s s (omega arith) h

-- where all members are below n, the number is below 2 ^ n
pub below-pow : (n s : ℕ) → ((k : ℕ) → Has s k → k < n) → s < 2 ^ n
below-pow zero s h = omega (arith, no_members s (λ k m. omega (arith, h k m)))
below-pow (suc n) s h =
    let p : s / 2 < 2 ^ n = below-pow n (s / 2) (λ k m. omega (arith, h (suc k) ((Has_half s k).0 m))) in
    omega (arith, pow-suc 2 n)

-- the numbers below n that pass a test
pub below-lt : (f : ℕ → Bool) (n : ℕ) → below f n < 2 ^ n
below-lt f zero = pow_pos 0
below-lt f (suc n) = more (f n) (below-lt f n)
  where
    more : (b : Bool) → below f n < 2 ^ n → below f n + cond b (2 ^ n) 0 < 2 ^ suc n
    more true h = omega (arith, pow-suc 2 n)
    more false h = omega (arith, pow-suc 2 n)

-- one more digit, set or not
or_digit : (b : Bool) (s n : ℕ) → s < 2 ^ n → s + cond b (2 ^ n) 0 ≡ bit_or (cond b (2 ^ n) 0) s
or_digit true s n h = add_comm s (2 ^ n) ∙ sym (simp one-mul at (or_shifted 1 n s h))
or_digit false s n h = add-zero s

pub Has_test : (f : ℕ → Bool) (n k : ℕ) → Has (below f n) k ↔ ((k < n) × (f k ≡ true))
Has_test f zero k = neither (Has-zero k) (λ h. omega arith)
Has_test f (suc n) k =
    rw (or_digit (f n) (below f n) n (below-lt f n))
    (Has-or (cond (f n) (2 ^ n) 0) (below f n) k
    ⇄ either (Has-cond (f n) (2 ^ n) k ⇄ both same (Has-pow n k)) (Has_test f n k)
    ⇄ (put, take))
  where
    put : ((f n ≡ true) × (k ≡ n)) ⊎ ((k < n) × (f k ≡ true)) → (k < suc n) × (f k ≡ true)
    put (inl h) = (omega arith, rw h.1 h.0)
    put (inr h) = (omega arith, h.1)

    take : (k < suc n) × (f k ≡ true) → ((f n ≡ true) × (k ≡ n)) ⊎ ((k < n) × (f k ≡ true))
    take h = elim (cases_eq k n) [ inl e ↦ inl (rw e at h.1, e) | inr d ↦ inr (omega (arith, d), h.1) ]

-- whether two sets have a member in common
pub Decides_meet : (s t : ℕ) → Decides (not (eqb (bit_and s t) 0)) ((k : ℕ) × Has s k × Has t k)
Decides_meet s t = Decides-like (not (eqb (bit_and s t) 0)) some_one none (Decides-not (eqb (bit_and s t) 0) (Decides-eqb (bit_and s t) 0))
  where
    some_one : (bit_and s t ≡ 0 → ⊥) → (k : ℕ) × Has s k × Has t k
    some_one h = let m = some_member (bit_and s t) h in let p = (Has-and s t m.0).0 m.1 in (m.0, p.0, p.1)

    none : (k : ℕ) × Has s k × Has t k → bit_and s t ≡ 0 → ⊥
    none h e = Has-zero h.0 (rw e at ((Has-and s t h.0).1 (h.1, h.2)))

-- a union is the same however it is grouped
pub or_assoc : (a b c : ℕ) → bit_or (bit_or a b) c ≡ bit_or a (bit_or b c)
or_assoc a b c =
    Has_ext (bit_or (bit_or a b) c) (bit_or a (bit_or b c))
    (λ k. Has-or (bit_or a b) c k ⇄ either (Has-or a b k) same ⇄ regroup ⇄ either same (back (Has-or b c k)) ⇄ back (Has-or a (bit_or b c) k))

-- a set within another: what is below 2 ^ n stays so
pub Has_within : (n s t : ℕ) → ((k : ℕ) → Has s k → Has t k) → t < 2 ^ n → s < 2 ^ n
Has_within n s t h l = below-pow n s (λ k m. Has-below t k n l (h k m))
