use Rattle.std.proofs.Common.{◌-◌, ◌≤◌, vec_items, vec_capacity}
use Rattle.blocks.proofs.searching.Builder.fill.Given as goal
use Rattle.blocks.specs.Search.{Grown}

-- the rows before this one have their next rows
abbrev pub invariant-loop-done : goal.invariant-loop-done
invariant-loop-done g l = Grown (g.A.Automaton.moves l.self.automaton.now) l.self.most l.done 0 (vec_items l.rows) × (vec_capacity l.initial.rows ≤ vec_capacity l.rows)

abbrev pub decreases-loop-done : goal.decreases-loop-done
decreases-loop-done g l = l.self.most - l.done
