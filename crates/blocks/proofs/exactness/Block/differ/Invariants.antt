use Rattle.std.proofs.Common.{ℕ, ◌<◌}
use Rattle.blocks.proofs.exactness.Block.differ.Given as goal
use Rattle.blocks.specs.Blocks.{state}

-- the rows before this one differ
abbrev pub invariant-loop-k : goal.invariant-loop-k
invariant-loop-k g l = (i j : ℕ) → i < j → j < l.k → (g.A.Automaton.moves l.self.automaton.now).alike (state (g.A.Automaton.moves l.self.automaton.now) l.self.rows.now i) (state (g.A.Automaton.moves l.self.automaton.now) l.self.rows.now j) → ⊥
