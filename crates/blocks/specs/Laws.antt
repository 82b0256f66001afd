-- What holds of every exact block: it is the automaton, with each state that is reached in one row.
use Rattle.std.specs.Prelude.{◌≡◌, ℕ, ◌<◌, ◌≤◌, List, [], ◌∷◌, length}
use Rattle.blocks.specs.Blocks.{Exact, next, state}
use Rattle.blocks.specs.Moves.{Moves, Letters, Many, reached}
use Rattle.blocks.specs.declared.row.Row.{Row}

-- the letters, each one of the automaton's, lead from row k to row j, and every row on the way is there
abbrev pub Leads : {S : Type 0} → Moves S → List (Row S) → ℕ → List ℕ → ℕ → Type 0
Leads m rows k [] j = (k < length rows) × (k ≡ j)
Leads m rows k (a ∷ w) j = (k < length rows) × (a < m.letters) × Leads m rows (next m rows k a) w j

pub record Faithful {S : Type 0} (m : Moves S) (rows : List (Row S)) : Type 0 where
  -- letters lead from row 0 to some row
  pub leads : (w : List ℕ) → Letters m w → (j : ℕ) × Leads m rows 0 w j
  -- and this row has the state that they reach
  pub right : (w : List ℕ) (j : ℕ) → Leads m rows 0 w j → m.alike (state m rows j) (reached m w)
  -- some letters lead to each row
  pub every : (j : ℕ) → j < length rows → (w : List ℕ) × Letters m w × Leads m rows 0 w j
  -- as many different states are reached as there are rows, and no more
  pub as_many : Many m (length rows)
  pub no_more : (k : ℕ) → Many m k → k ≤ length rows
  -- another exact block has as many rows, and the same letters lead in it to a row with the same state
  pub equally : (others : List (Row S)) → Exact m others → length others ≡ length rows
  pub agrees : (others : List (Row S)) → Exact m others → (w : List ℕ) (j k : ℕ) → Leads m rows 0 w j → Leads m others 0 w k → m.alike (state m rows j) (state m others k)
