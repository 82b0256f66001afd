-- The exact block of the place sets that a pattern text has.
use Rattle.std.specs.Prelude.{ℕ, ◌↔◌, List, Ok, Err, vec_items, Result, Vec}
use Rattle.alphabets.specs.Meaning.{Meaning}
use Rattle.bitsets.specs.declared.SmallSet.{SmallSet}
use Rattle.blocks.specs.Blocks.{state}
use Rattle.blocks.specs.Laws.{Faithful, Leads}
use Rattle.blocks.specs.Search.{Declined, Found}
use Rattle.blocks.specs.declared.refusal.SearchRefusal.TheVariants.{TooMany, Memory}
use Rattle.blocks.specs.declared.row.Row.{Row}
use Rattle.expressions.specs.Places.{Ends}
use Rattle.notation.specs.declared.kinds.Kind.{Kind}
use Rattle.patterns.specs.Nodes.{expression}
use Rattle.patterns.specs.Reading.{RefusesText}
use Rattle.patterns.specs.Texts.{IsText, TextSession, nodes}
use Rattle.places.specs.Places.{place_moves}
use Rattle.places.specs.declared.refusal.RowsRefusal.{RowsRefusal}
use Rattle.places.specs.declared.refusal.RowsRefusal.TheVariants.{Text, Rows}
use Rattle.std.specs.declared.alloc.Global.{Global}

-- the rows are the exact block of the text's place sets; letters lead from row 0 to an ending row exactly when they are a session that the text has
pub record Tabled (m : Meaning) (text : List ℕ) (most : ℕ) (rows : List (Row SmallSet)) : Type 0 where
  pub entries : List (Kind × ℕ)
  pub is_text : IsText m text entries
  pub found : Found (place_moves (expression (nodes m entries)) m.n) most rows
  pub laws : Faithful (place_moves (expression (nodes m entries)) m.n) rows
  pub sessions : (w : List ℕ) (j : ℕ) → Leads (place_moves (expression (nodes m entries)) m.n) rows 0 w j → Ends (expression (nodes m entries)) (state (place_moves (expression (nodes m entries)) m.n) rows j).bits ↔ TextSession m text w

-- too many rows: the letters of the text's pattern lead to more place sets than the limit allows
pub record TooLarge (m : Meaning) (text : List ℕ) (most : ℕ) : Type 0 where
  pub entries : List (Kind × ℕ)
  pub is_text : IsText m text entries
  pub declined : Declined (place_moves (expression (nodes m entries)) m.n) most

-- the block, or why there is none; want of memory says nothing of the text
abbrev pub Tables : Meaning → List ℕ → ℕ → Result (Vec (Row SmallSet) Global) RowsRefusal → Type 0
Tables m text most (Ok rows) = Tabled m text most (vec_items rows)
Tables m text most (Err (Text f)) = RefusesText m text f.why f.line
Tables m text most (Err (Rows TooMany)) = TooLarge m text most
Tables m text most (Err (Rows Memory)) = Unit {0}
