use Rattle.std.proofs.Common.{◌≡◌, ◌+◌, ◌^◌, ◌<◌, length, decimal}
use Rattle.texts.proofs.numbers.digits.Given as goal

-- the digits that are counted, and those of what is left
abbrev pub invariant-loop-n : goal.invariant-loop-n
invariant-loop-n l = (l.n < 2 ^ 64) × (l.len + length (decimal l.n) ≡ length (decimal l.number))

abbrev pub decreases-loop-n : goal.decreases-loop-n
decreases-loop-n l = l.n
