-- The numbers of the refusals.
use Rattle.std.specs.Prelude.{ℕ}
use Rattle.patterns.specs.declared.refusal.PatternRefusal.{PatternRefusal}
use Rattle.patterns.specs.declared.refusal.PatternRefusal.TheVariants.{TooLong, Header, Letters, Count, Line, Code, Leaves, Operands, Left, Memory}

-- the number under which people know a refusal of a pattern text
abbrev pub number : PatternRefusal → ℕ
number TooLong = 1
number Header = 2
number Letters = 3
number Count = 4
number Line = 5
number Code = 6
number Leaves = 7
number Operands = 8
number Left = 9
number Memory = 99
