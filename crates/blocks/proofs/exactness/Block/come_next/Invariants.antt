use Rattle.blocks.proofs.exactness.Block.come_next.Given as goal
use Rattle.blocks.specs.Marks.{Tracked}
use Rattle.std.proofs.Common.{◌≡◌, length}

abbrev pub invariant-loop-k : goal.invariant-loop-k
invariant-loop-k g l = (length l.named ≡ 256) × Tracked (g.A.Automaton.moves l.self.automaton.now) l.self.rows.now l.k l.named
