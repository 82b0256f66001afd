use Rattle.std.proofs.Common.{◌≡◌}
use Rattle.bitsets.specs.Sets.{below}
use Rattle.alphabets.proofs.letters_of.Given as goal

-- so far the set is that of the letters below this one
abbrev pub invariant-loop-letter : goal.invariant-loop-letter
invariant-loop-letter g l = l.set.bits ≡ below ((g.A.Alphabet.meaning l.alphabet).holds l.code) l.letter
