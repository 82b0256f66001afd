-- Tests of sameness, by what they tell.
use Rattle.std.proofs.Common.{◌≡◌, ℕ, ◌<◌, true, false, List, length, get_or, take, is_some, Some, None, Decides, Option, refl, ap, subst, arith}
use Rattle.blocks.specs.Blocks.{Differ, state, origin}
use Rattle.blocks.specs.Moves.{Moves}
use Rattle.blocks.specs.Search.{Finds}
use Rattle.blocks.specs.declared.row.Row.{Row}
use Rattle.std.proofs.lemmas.List.{get_or_read, get_or-take, length-take}
use Rattle.std.proofs.lemmas.Bool.{both_ways}

-- no is the right answer where it does not hold
pub refutes : {P : Type 0} → (P → ⊥) → Decides false P
refutes n = (λ e. absurd (both_ways false refl e), λ p. absurd (n p))

module _ {S : Type 0} (m : Moves S) (rows : List (Row S)) (k : ℕ) (row : Row S) (lt : k < length rows) (here : row ≡ get_or rows k row) where
  state_here : row.state ≡ state m rows k
  state_here = ap (λ (r : Row S). r.state) (get_or_read rows k row lt here (origin m))

  state_before : (i : ℕ) → i < k → state m (take k rows) i ≡ state m rows i
  state_before i below = ap (λ (r : Row S). r.state) (get_or-take k rows i (origin m) below)

  -- where one of the rows before this one has its state, the rows do not differ
  pub found_before : (r : Option ℕ) → Finds m (take k rows) row.state r → is_some r ≡ true → Differ m rows → ⊥
  found_before None fresh some differ = both_ways false refl some
  found_before (Some i) (there, same) some differ =
      let long = length-take k rows in
      let below : i < k = omega arith in
      differ i k below lt (subst (λ (s : S). m.alike s (state m rows k)) (state_before i below) (subst (λ (s : S). m.alike (state m (take k rows) i) s) state_here same))
