-- The letters of a code.
use Rattle.std.proofs.Common.{◌≡◌, ℕ, zero, suc, ◌+◌, ◌^◌, ◌<◌, ◌≤◌, Bool, true, false, ◌↔◌, sym, ap, ◌∙◌, inl, inr, add-zero, add_comm, one-mul, add-one, arith}
use lib.Bits.{bit_or}
use Rattle.std.proofs.lemmas.Nat.{or_shifted, or_comm}
use Rattle.std.proofs.lemmas.Bool.{cases_Bool, cases_lt}
use Rattle.bitsets.specs.Sets.{Has, below}
use Rattle.bitsets.proofs.Sets.{Has_test, below-lt, below-pow}
use Rattle.alphabets.specs.Meaning.{Meaning, Sound, held_letters}

-- a letter is in the set just where the code holds it
pub Has_letters : (m : Meaning) → Sound m → (c k : ℕ) → Has (held_letters m c) k ↔ (m.holds c k ≡ true)
unfolding held_letters
Has_letters m s c k =
    let t = Has_test (m.holds c) 16 k in
    (λ h. (t.0 h).1, λ e. t.1 (omega (arith, s.within c k e, s.few), e))

-- the set has letters alone
pub letters_below : (m : Meaning) → Sound m → (c : ℕ) → held_letters m c < 2 ^ m.n
unfolding held_letters
letters_below m s c = below-pow m.n (held_letters m c) (λ k h. s.within c k ((Has_letters m s c k).0 h))

-- the set up to n is the whole set, where nothing from n on is in it
pub below_rest : (f : ℕ → Bool) (n m : ℕ) → n ≤ m → ((k : ℕ) → f k ≡ true → k < n) → below f m ≡ below f n
below_rest f n zero h nay = let e : n ≡ 0 = omega arith in ap (below f) (sym e)
below_rest f n (suc m) h nay =
    elim (cases_lt m n) [
      | inl l ↦ (let e : suc m ≡ n = omega arith in ap (below f) e)
      | inr l ↦ elim (cases_Bool (f m)) [
        | inl t ↦ absurd (omega (arith, nay m t))
        | inr u ↦ (rw u (add-zero (below f m) ∙ below_rest f n m l nay))
      ]
    ]

-- one more letter in the set
pub below_joins : (f : ℕ → Bool) (n : ℕ) → f n ≡ true → bit_or (below f n) (2 ^ n) ≡ below f (n + 1)
below_joins f n t =
    let e : bit_or (2 ^ n) (below f n) ≡ 2 ^ n + below f n = rw one-mul at (or_shifted 1 n (below f n) (below-lt f n)) in
    or_comm (below f n) (2 ^ n) ∙ e ∙ add_comm (2 ^ n) (below f n) ∙ sym (rw (add-one, t))

-- one letter passed over
pub below_passes : (f : ℕ → Bool) (n : ℕ) → f n ≡ false → below f n ≡ below f (n + 1)
below_passes f n u = sym (rw (add-one, u) (add-zero (below f n)))
