-- The numbers of the refusals.
use Rattle.std.specs.Prelude.{ℕ}
use Rattle.blocks.specs.declared.refusal.SearchRefusal.TheVariants.{TooMany, Memory}
use Rattle.patterns.specs.Refusals.{number as text_number}
use Rattle.places.specs.declared.refusal.RowsRefusal.{RowsRefusal}
use Rattle.places.specs.declared.refusal.RowsRefusal.TheVariants.{Text, Rows}

-- the number under which people know a refusal: that of the text's refusal, or one of the search's own
abbrev pub number : RowsRefusal → ℕ
number (Text f) = text_number f.why
number (Rows TooMany) = 98
number (Rows Memory) = 99
