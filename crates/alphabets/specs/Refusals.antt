-- Why an alphabet is refused.
use Rattle.std.specs.Prelude.{ℕ}
use Rattle.alphabets.specs.declared.refusal.AlphabetRefusal.{AlphabetRefusal}
use Rattle.alphabets.specs.declared.refusal.AlphabetRefusal.TheVariants.{Letters}

-- The number of a refusal. 10: an alphabet has 1 to 16 letters.
abbrev pub number : AlphabetRefusal → ℕ
number Letters = 10
