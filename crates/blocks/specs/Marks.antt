-- Marking the rows that come next, row after row.
use Rattle.std.specs.Prelude.{◌≡◌, ℕ, ◌<◌, Bool, true, false, ◌⊎◌, List, Decides, slice_index, slice_index_or}
use Rattle.blocks.specs.Blocks.{Named}
use Rattle.blocks.specs.Moves.{Moves}
use Rattle.blocks.specs.declared.row.Row.{Row}

-- row j is one of the first n next rows
abbrev pub Among : ℕ → List ℕ → ℕ → Type 0
Among n nexts j = (a : ℕ) × (a < n) × (slice_index nexts a ≡ j)

-- besides the rows marked before, just the first n next rows are marked
abbrev pub Marked : ℕ → List ℕ → List Bool → List Bool → Type 0
Marked n nexts before after = (j : ℕ) → Decides (slice_index_or after j false) ((slice_index_or before j false ≡ true) ⊎ Among n nexts j)

-- of the first k rows: row 0 and the rows that come next after them are marked, and each later one came next after a row before it
pub record Tracked {S : Type 0} (m : Moves S) (rows : List (Row S)) (k : ℕ) (named : List Bool) : Type 0 where
  pub marks : (j : ℕ) → Decides (slice_index_or named j false) ((j ≡ 0) ⊎ Named m rows k j)
  pub timely : (j : ℕ) → 0 < j → j < k → Named m rows j j
