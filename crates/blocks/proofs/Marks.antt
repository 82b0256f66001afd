-- Marking the rows that come next.
use Rattle.std.proofs.Common.{◌≡◌, ℕ, zero, suc, ◌+◌, Bool, true, false, ◌⊎◌, List, ◌∷◌, get_or, replicate, Decides, sym, refl, subst, inl, inr, ⊎_elim, arith}
use Rattle.blocks.proofs.Numbers.{get_or-blank}
use Rattle.blocks.specs.Blocks.{Named, next, origin}
use Rattle.blocks.specs.Marks.{Among, Marked, Tracked}
use Rattle.blocks.specs.Moves.{Moves}
use Rattle.blocks.specs.declared.row.Row.{Row}
use Rattle.std.proofs.lemmas.Bool.{both_ways, cases_eq}
use Rattle.std.proofs.lemmas.Bool.Decides.{Decides-like}

-- row 0 alone is marked
pub first_alone : (n j : ℕ) → Decides (get_or (true ∷ replicate n false) j false) (j ≡ 0)
first_alone n zero = (λ _. refl, λ _. refl)
first_alone n (suc j) = (λ yes. absurd (both_ways (get_or (replicate n false) j false) (get_or-blank false n j) yes), λ e. absurd (omega arith))

module _ {S : Type 0} (m : Moves S) (rows : List (Row S)) where
  -- before any row
  pub tracked_none : (named : List Bool) → ((j : ℕ) → Decides (get_or named j false) (j ≡ 0)) → Tracked m rows 0 named
  tracked_none named only =
      record {
        marks = λ j. Decides-like (get_or named j false) (λ e. inl e) (λ h. ⊎_elim (λ e. e) (λ (k, a, lt, letter, e). absurd (omega arith)) h) (only j);
        timely = λ j some lt. absurd (omega arith);
      }

  named_more : (k j : ℕ) → Named m rows k j → Named m rows (k + 1) j
  named_more k j (i, a, lt, letter, e) = (i, a, omega arith, letter, e)

  named_last : (k j : ℕ) → Named m rows (k + 1) j → Named m rows k j ⊎ Among m.letters (get_or rows k (origin m)).next j
  named_last k j (i, a, lt, letter, e) =
      ⊎_elim
      (λ (same : i ≡ k). inr (a, letter, subst (λ (x : ℕ). next m rows x a ≡ j) same e))
      (λ (differs : i ≡ k → ⊥). inl (i, a, omega arith, letter, e))
      (cases_eq i k)

  -- one row more: it was marked, and its next rows are
  pub tracked_more : (k : ℕ) (before after : List Bool) → Tracked m rows k before → get_or before k false ≡ true → Marked m.letters (get_or rows k (origin m)).next before after → Tracked m rows (k + 1) after
  tracked_more k before after t here marked =
      record {
        marks = λ j. (
          λ yes. ⊎_elim
              (λ b. ⊎_elim (λ e. inl e) (λ n. inr (named_more k j n)) ((t.marks j).0 b))
              (λ (a, letter, e). inr (k, a, omega arith, letter, e))
              ((marked j).0 yes),
          λ h. (marked j).1 (⊎_elim
              (λ e. inl ((t.marks j).1 (inl e)))
              (λ n. ⊎_elim (λ earlier. inl ((t.marks j).1 (inr earlier))) (λ now. inr now) (named_last k j n))
              h),
        );
        timely = λ j some lt. ⊎_elim
            (λ (same : j ≡ k). subst (λ (x : ℕ). Named m rows x x) (sym same) (⊎_elim (λ zero. absurd (omega arith)) (λ n. n) ((t.marks k).0 here)))
            (λ (differs : j ≡ k → ⊥). t.timely j some (omega arith))
            (cases_eq j k);
      }
