-- Tables of sets, one write at a time.
use Rattle.std.proofs.Common.{◌≡◌, ℕ, ◌+◌, ◌<◌, ◌≤◌, true, false, cond, List, length, set, sym, ap, ◌∙◌, arith, below_more}
use Rattle.bitsets.specs.Sets.{has}
use Rattle.bitsets.specs.declared.SmallSet.{SmallSet}
use Rattle.patterns.specs.Tables.{at}
use Rattle.std.proofs.lemmas.List.{get_or-set_same, get_or-set_other}
use lib.Bits.{bit_or, or_zero_r}

-- what a table becomes where the sets at the indices of w below k have taken in m
abbrev pub United : List SmallSet → ℕ → ℕ → ℕ → List SmallSet → Type 0
United xs w m k ys =
    ((j : ℕ) → j < k → at ys j ≡ bit_or (at xs j) (cond (has w j) m 0)) × ((j : ℕ) → k ≤ j → at ys j ≡ at xs j)

module _ (xs ys zs : List SmallSet) (w m k : ℕ) (so_far : United xs w m k ys) where
  united_more : at zs k ≡ bit_or (at ys k) (cond (has w k) m 0)
      → ((j : ℕ) → (j ≡ k → ⊥) → at zs j ≡ at ys j) → United xs w m (k + 1) zs
  united_more here other = (
    below_more _ k (λ j h. other j (λ e. omega arith) ∙ so_far.0 j h)
        (here ∙ ap (λ x. bit_or x (cond (has w k) m 0)) (so_far.1 k (omega arith))),
    λ j h. other j (λ e. omega arith) ∙ so_far.1 j (omega arith),
  )

  -- the set at k takes in m
  pub united_put : (x : SmallSet) → k < length ys → has w k ≡ true → x.bits ≡ bit_or (at ys k) m → zs ≡ set ys k x
      → United xs w m (k + 1) zs
  united_put x within held is e =
      united_more
      (ap (λ l. at l k) e ∙ ap (λ (s : SmallSet). s.bits) (get_or-set_same ys k x (record { bits = 0 }) within) ∙ is ∙ ap (λ b. bit_or (at ys k) (cond b m 0)) (sym held))
      (λ j ne. ap (λ l. at l j) e ∙ ap (λ (s : SmallSet). s.bits) (get_or-set_other ys k j x (record { bits = 0 }) ne))

  -- the set at k is left alone
  pub united_skip : has w k ≡ false → zs ≡ ys → United xs w m (k + 1) zs
  united_skip lacking e =
      united_more
      (ap (λ l. at l k) e ∙ sym (or_zero_r (at ys k)) ∙ ap (λ b. bit_or (at ys k) (cond b m 0)) (sym lacking))
      (λ j ne. ap (λ l. at l j) e)
