use Rattle.judging.proofs.Steps.{SoFar}
use Rattle.judging.proofs.following.follow.Given as goal
use Rattle.patterns.specs.Patterns.{expr_of}
use Rattle.std.proofs.Common.{length, vec_items}
use Rattle.texts.specs.Lines.{rest}

-- the lines before the cursor are followed
abbrev pub invariant-loop-line : goal.invariant-loop-line
invariant-loop-line g l =
    SoFar (g.A.Alphabet.meaning l.alphabet) (expr_of l.pattern) l.trace (rest l.cursor) l.places.bits (vec_items l.verdicts)

abbrev pub decreases-loop-line : goal.decreases-loop-line
decreases-loop-line g l = length (rest l.cursor)
