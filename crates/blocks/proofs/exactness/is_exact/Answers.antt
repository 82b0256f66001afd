use Rattle.blocks.proofs.Laws.{faithful}
use Rattle.blocks.proofs.exactness.is_exact.Goals as goal
use Rattle.std.proofs.Common.{rules}

pub returns-then-all_step-clause-laws : goal.returns-then-all_step-clause-laws
returns-then-all_step-clause-laws g c holds = faithful _ (g.A.Automaton.fair c.args.automaton.now) _ (search rules)
