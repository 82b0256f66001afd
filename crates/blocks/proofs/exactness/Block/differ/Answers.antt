use Rattle.blocks.proofs.Sameness.{refutes, found_before}
use Rattle.blocks.proofs.exactness.Block.differ.Goals as goal
use Rattle.std.proofs.Common.{sym, ◌∙◌}

pub returns-then-is_some : goal.returns-then-is_some
returns-then-is_some g c =
    refutes (found_before (g.A.Automaton.moves c.args.self.now.automaton.now) _ _ _ c.loop-k-test.true c.row-item.is c.find.result c.find.ensures (sym c.is_some.ensures ∙ c.if-is_some.true))
