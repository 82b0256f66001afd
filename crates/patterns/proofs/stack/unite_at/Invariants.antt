use Rattle.patterns.proofs.Tables.{United}
use Rattle.patterns.proofs.stack.unite_at.Given as goal

-- the sets below k are united, the others are as they were
abbrev pub invariant-loop-k : goal.invariant-loop-k
invariant-loop-k l = United l.initial.set-items l.which.bits l.more.bits l.k l.set-items
