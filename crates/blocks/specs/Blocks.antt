-- Blocks of rows, and when a block is exact.
use Rattle.std.specs.Prelude.{◌≡◌, ℕ, ◌<◌, ◌≤◌, ◌⊎◌, List, [], length, get_or, slice_index, slice_index_or}
use Rattle.blocks.specs.Moves.{Moves}
use Rattle.blocks.specs.declared.row.Row.{Row}

-- what stands for a row past the end of a block
abbrev pub origin : {S : Type 0} → Moves S → Row S
origin m = record { state = m.start; next = [] }

-- the state of row k
abbrev pub state : {S : Type 0} → Moves S → List (Row S) → ℕ → S
state m rows k = (get_or rows k (origin m)).state

-- the row that comes next after row k by the letter a
abbrev pub next : {S : Type 0} → Moves S → List (Row S) → ℕ → ℕ → ℕ
next m rows k a = slice_index (get_or rows k (origin m)).next a

-- all rows differ: no two of them have the same state
abbrev pub Differ : {S : Type 0} → Moves S → List (Row S) → Type 0
Differ m rows = (i j : ℕ) → i < j → j < length rows → m.alike (state m rows i) (state m rows j) → ⊥

-- the row that comes next after this one by the letter a is there, and has the state after that letter
abbrev pub Steps : {S : Type 0} → Moves S → List (Row S) → Row S → ℕ → Type 0
Steps m rows row a = (slice_index row.next a < length rows) × m.alike (state m rows (slice_index row.next a)) (m.step row.state a)

-- row j comes next, by some letter, after one of the first i rows
abbrev pub Named : {S : Type 0} → Moves S → List (Row S) → ℕ → ℕ → Type 0
Named m rows i j = (k : ℕ) × (a : ℕ) × (k < i) × (a < m.letters) × (next m rows k a ≡ j)

-- row 0 is the start, all rows differ, each next row has the state after its letter, and every later row comes next after some row before it
pub record Exact {S : Type 0} (m : Moves S) (rows : List (Row S)) : Type 0 where
  pub some : 0 < length rows
  pub starts : m.alike (state m rows 0) m.start
  pub differ : Differ m rows
  pub steps : (i a : ℕ) → i < length rows → a < m.letters → Steps m rows (slice_index_or rows i (origin m)) a
  pub earlier : (j : ℕ) → 0 < j → j < length rows → Named m rows j j

-- row k and letter b come before row i and letter a: row by row, letters ascending
abbrev pub Before : ℕ → ℕ → ℕ → ℕ → Type 0
Before k b i a = (k < i) ⊎ ((k ≡ i) × (b < a))

-- row j is met before row i's letter a
abbrev pub Met : {S : Type 0} → Moves S → List (Row S) → ℕ → ℕ → ℕ → Type 0
Met m rows i a j = (k : ℕ) × (b : ℕ) × Before k b i a × (b < m.letters) × (next m rows k b ≡ j)

-- the rows stand in the order in which they are first met: where some row comes next, every later row numbered below it has been met
abbrev pub InOrder : {S : Type 0} → Moves S → List (Row S) → Type 0
InOrder m rows = (i a j : ℕ) → i < length rows → a < m.letters → 0 < j → j < next m rows i a → Met m rows i a j

-- the entries past the letters are 0
abbrev pub Spare : {S : Type 0} → Moves S → List (Row S) → Type 0
Spare m rows = (i a : ℕ) → m.letters ≤ a → next m rows i a ≡ 0
