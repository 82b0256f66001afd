-- A block with one more row at its end.
use Rattle.std.proofs.Common.{◌≡◌, ℕ, zero, suc, ◌<◌, List, [], ◌∷◌, ◌++◌, length, get_or, sym, refl, ap, subst, ⊎_elim, arith}
use Rattle.blocks.specs.Blocks.{Differ, next, origin, state}
use Rattle.blocks.specs.Moves.{Moves}
use Rattle.blocks.specs.Search.{Fresh}
use Rattle.blocks.specs.declared.row.Row.{Row}
use Rattle.std.proofs.lemmas.List.{get_or_append_left, get_or_push, length_push}
use Rattle.std.proofs.lemmas.Bool.{cases_lt}

module _ {S : Type 0} (m : Moves S) (rows : List (Row S)) (row : Row S) where
  abbrev more : List (Row S)
  more = rows ++ row ∷ []

  -- the rows before it have the states that they had
  pub old : (k : ℕ) → k < length rows → state m more k ≡ state m rows k
  old k h = ap (λ row. row.state) (get_or_append_left rows (row ∷ []) (origin m) k h)

  pub new : state m more (length rows) ≡ row.state
  new = ap (λ row. row.state) (get_or_push rows row (origin m) (length rows) refl)

  -- what holds of each row and of the new one
  pub each_row : (P : ℕ → S → Type 0) → ((k : ℕ) → k < length rows → P k (state m rows k)) → P (length rows) row.state → (k : ℕ) → k < length more → P k (state m more k)
  each_row P olds news k h =
      ⊎_elim
      (λ l. subst (P k) (sym (old k l)) (olds k l))
      (λ l. let last : length rows ≡ k = omega (arith, length_push rows row) in
      subst (λ i. P i (state m more i)) last (subst (P (length rows)) (sym new) news))
      (cases_lt k (length rows))

  pub differ_more : Differ m rows → Fresh m rows row.state → Differ m more
  differ_more differ fresh i j l h =
      each_row (λ k t. i < k → m.alike (state m more i) t → ⊥)
      (λ k b l e. differ i k l b (subst (λ t. m.alike t (state m rows k)) (old i (omega arith)) e))
      (λ l e. fresh i l (subst (λ t. m.alike t row.state) (old i l) e))
      j h l

-- a new row without next rows leaves the next rows of all others as they were
pub next_more : {S : Type 0} (m : Moves S) (rows : List (Row S)) (row : Row S) → ((b : ℕ) → get_or row.next b 0 ≡ 0) → (k b : ℕ) → next m (rows ++ row ∷ []) k b ≡ next m rows k b
next_more m [] row bare zero b = bare b
next_more m [] row bare (suc k) b = refl
next_more m (r ∷ rows) row bare zero b = refl
next_more m (r ∷ rows) row bare (suc k) b = next_more m rows row bare k b
