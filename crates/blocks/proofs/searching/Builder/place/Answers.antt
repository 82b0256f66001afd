use Rattle.blocks.proofs.Growing.{pushed_seated}
use Rattle.blocks.proofs.Numbers.{get_or-blank}
use Rattle.blocks.proofs.searching.Builder.place.Goals as goal
use Rattle.std.proofs.Common.{replicate, arith, rules}

pub returns-clause-rows : goal.returns-clause-rows
returns-clause-rows g c =
    pushed_seated _ (g.A.Automaton.fair c.args.self.now.automaton.now) _ _ _ _ (record { state = c.args.state; next = replicate 16 0 }) (get_or-blank 0 16)
    c.in_ok-push.ensures.items (search rules) (omega arith) (search rules)
