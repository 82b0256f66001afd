use Rattle.expressions.specs.Tables.{followers, united}
use Rattle.patterns.proofs.pattern.Pattern.following.Given as goal
use Rattle.patterns.specs.Patterns.{expr_of}
use Rattle.std.proofs.Common.{◌≡◌}

-- the followers of the places below p are united
abbrev pub invariant-loop-p : goal.invariant-loop-p
invariant-loop-p l = l.all.bits ≡ united (followers (expr_of l.self)) l.places.bits l.p
