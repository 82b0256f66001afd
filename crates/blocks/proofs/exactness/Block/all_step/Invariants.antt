use Rattle.std.proofs.Common.{ℕ, ◌<◌, get_or}
use Rattle.blocks.proofs.exactness.Block.all_step.Given as goal
use Rattle.blocks.specs.Blocks.{Steps, origin}

-- the rows before this one step rightly
abbrev pub invariant-loop-row : goal.invariant-loop-row
invariant-loop-row g l = (i a : ℕ) → i < l.row-index → a < (g.A.Automaton.moves l.self.automaton.now).letters → Steps (g.A.Automaton.moves l.self.automaton.now) l.self.rows.now (get_or l.self.rows.now i (origin (g.A.Automaton.moves l.self.automaton.now))) a
