-- Tables of sets.
use Rattle.std.specs.Prelude.{ℕ, List, slice_index_or}
use Rattle.bitsets.specs.declared.SmallSet.{SmallSet}

-- the set at an index of a table, as a number; nothing past the table's end
abbrev pub at : List SmallSet → ℕ → ℕ
at xs k = (slice_index_or xs k (record { bits = 0 })).bits
