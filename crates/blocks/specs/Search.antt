-- What a search promises, and what its parts do.
use Rattle.std.specs.Prelude.{◌≡◌, ℕ, suc, ◌<◌, ◌≤◌, min, ◌⊎◌, List, [], ◌∷◌, ◌++◌, length, get_or, Some, None, Ok, Err, Option, Result, slice_index, slice_index_or}
use Rattle.blocks.specs.Blocks.{Before, Differ, Exact, InOrder, Met, Spare, Steps, next, origin, state}
use Rattle.blocks.specs.Laws.{Faithful}
use Rattle.blocks.specs.Moves.{Moves, Many}
use Rattle.blocks.specs.declared.refusal.SearchRefusal.{SearchRefusal}
use Rattle.blocks.specs.declared.refusal.SearchRefusal.TheVariants.{TooMany, Memory}
use Rattle.blocks.specs.declared.row.Row.{Row}

-- how many rows a limit allows: a row number is below 256
abbrev pub allowed : ℕ → ℕ
allowed limit = min limit 256

-- a block that was found: exact, within the limit, in the order in which its rows are first met
pub record Found {S : Type 0} (m : Moves S) (most : ℕ) (rows : List (Row S)) : Type 0 where
  pub exact : Exact m rows
  pub few : length rows ≤ most
  pub ordered : InOrder m rows
  pub spare : Spare m rows

-- more states are reached than the limit allows: that many lists of letters tell them apart, and no exact block is so small
pub record Declined {S : Type 0} (m : Moves S) (most : ℕ) : Type 0 where
  pub many : Many m (suc most)
  pub none : (others : List (Row S)) → Exact m others → most < length others

-- the answer of a search with room for so many rows at hand, and the rows that it leaves
abbrev pub Searched : {S : Type 0} → Moves S → ℕ → ℕ → Result Unit SearchRefusal → List (Row S) → Type 0
Searched m most room (Ok _) rows = Found m most rows × Faithful m rows
Searched m most room (Err TooMany) rows = Declined m most × (rows ≡ [])
Searched m most room (Err Memory) rows = (room < most) × (rows ≡ [])

-- no row has the state
abbrev pub Fresh : {S : Type 0} → Moves S → List (Row S) → S → Type 0
Fresh m rows s = (k : ℕ) → k < length rows → m.alike (state m rows k) s → ⊥

-- the row that has the state, if there is one
abbrev pub Finds : {S : Type 0} → Moves S → List (Row S) → S → Option ℕ → Type 0
Finds m rows s (Some k) = (k < length rows) × m.alike (state m rows k) s
Finds m rows s None = Fresh m rows s

-- a new row at the end, with the state and no next rows yet
pub record Pushed {S : Type 0} (m : Moves S) (before : List (Row S)) (s : S) (k : ℕ) (after : List (Row S)) : Type 0 where
  pub row : Row S
  pub holds : row.state ≡ s
  pub bare : (b : ℕ) → slice_index row.next b ≡ 0
  pub grown : after ≡ before ++ row ∷ []
  pub last : k ≡ length before
  pub fresh : Fresh m before s

-- row k has the state: it had it before, or it is new
pub record Seated {S : Type 0} (m : Moves S) (most : ℕ) (before : List (Row S)) (s : S) (k : ℕ) (after : List (Row S)) : Type 0 where
  pub there : k < length after
  pub few : length after ≤ most
  pub alike : m.alike (state m after k) s
  pub how : (after ≡ before) ⊎ Pushed m before s k after

abbrev pub Placed : {S : Type 0} → Moves S → ℕ → ℕ → List (Row S) → S → Result ℕ SearchRefusal → List (Row S) → Type 0
Placed m most room before s (Ok k) after = Seated m most before s k after
Placed m most room before s (Err TooMany) after = (length before ≡ most) × Fresh m before s
Placed m most room before s (Err Memory) after = room < most

-- row `at` now goes on to row k by the letter a, and nothing else is changed
pub record Linked {S : Type 0} (before : List (Row S)) (at a k : ℕ) (after : List (Row S)) : Type 0 where
  pub len : length after ≡ length before
  pub states : (d : Row S) (j : ℕ) → (get_or after j d).state ≡ (get_or before j d).state
  pub here : (d : Row S) → slice_index (get_or after at d).next a ≡ k
  pub rest : (d : Row S) (j b : ℕ) → ((j ≡ at) × (b ≡ a) → ⊥) → slice_index (get_or after j d).next b ≡ slice_index (get_or before j d).next b

-- the next rows entered before row i's letter a are right and in order
pub record Entered {S : Type 0} (m : Moves S) (most i a : ℕ) (rows : List (Row S)) : Type 0 where
  pub few : length rows ≤ most
  pub starts : m.alike (state m rows 0) m.start
  pub differ : Differ m rows
  pub steps : (k b : ℕ) → Before k b i a → k < length rows → b < m.letters → Steps m rows (slice_index_or rows k (origin m)) b
  pub ordered : (k b j : ℕ) → Before k b i a → k < length rows → b < m.letters → 0 < j → j < next m rows k b → Met m rows k b j
  pub spare : Spare m rows

-- row j comes next after some row before it, entered before row i's letter a
abbrev pub Sourced : {S : Type 0} → Moves S → List (Row S) → ℕ → ℕ → ℕ → Type 0
Sourced m rows i a j = (k : ℕ) × (b : ℕ) × (k < j) × Before k b i a × (b < m.letters) × (next m rows k b ≡ j)

-- a block on its way to exactness, its next rows entered up to row i's letter a
pub record Grown {S : Type 0} (m : Moves S) (most i a : ℕ) (rows : List (Row S)) : Type 0 where
  pub some : 0 < length rows
  pub entered : Entered m most i a rows
  pub met : (j : ℕ) → 0 < j → j < length rows → Sourced m rows i a j

abbrev pub Expanded : {S : Type 0} → Moves S → ℕ → ℕ → ℕ → ℕ → Result Unit SearchRefusal → List (Row S) → Type 0
Expanded m most i len room (Ok _) rows = Grown m most (suc i) 0 rows × (len ≤ length rows)
Expanded m most i len room (Err TooMany) rows = Many m (suc most)
Expanded m most i len room (Err Memory) rows = room < most

abbrev pub Filled : {S : Type 0} → Moves S → ℕ → ℕ → Result Unit SearchRefusal → List (Row S) → Type 0
Filled m most room (Ok _) rows = Found m most rows
Filled m most room (Err TooMany) rows = Many m (suc most)
Filled m most room (Err Memory) rows = room < most
