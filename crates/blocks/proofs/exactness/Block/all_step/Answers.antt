use Rattle.blocks.proofs.Sameness.{refutes}
use Rattle.blocks.proofs.exactness.Block.all_step.Goals as goal
use Rattle.blocks.specs.Blocks.{Steps, origin}
use Rattle.std.proofs.lemmas.List.{get_or_read}
use Rattle.std.proofs.lemmas.Bool.{both_ways}
use Rattle.std.proofs.Common.{sym, subst}

pub returns-then-not-steps : goal.returns-then-not-steps
returns-then-not-steps g c =
    let m = g.A.Automaton.moves c.args.self.now.automaton.now in
    let here = get_or_read c.args.self.now.rows.now c.loop-row.row-index c.row-item.result c.loop-row-test.true c.row-item.is (origin m) in
    refutes (λ all. both_ways c.steps.result c.if-not-steps.true (c.steps.ensures.1 (λ a lt. subst (λ row. Steps m c.args.self.now.rows.now row a) (sym here) (all c.loop-row.row-index a c.loop-row-test.true lt))))
