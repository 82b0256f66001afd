use Rattle.std.proofs.Common.{◌≤◌, vec_items, vec_len, vec_capacity}
use Rattle.blocks.proofs.searching.Builder.expand.Given as goal
use Rattle.blocks.specs.Search.{Grown}

-- the letters before this one are entered
abbrev pub invariant-loop-letter : goal.invariant-loop-letter
invariant-loop-letter g l = Grown (g.A.Automaton.moves l.self.automaton.now) l.self.most l.at l.letter (vec_items l.rows) × (vec_len l.initial.rows ≤ vec_len l.rows) × (vec_capacity l.initial.rows ≤ vec_capacity l.rows)
