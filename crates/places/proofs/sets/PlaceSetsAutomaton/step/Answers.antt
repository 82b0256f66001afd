use Rattle.expressions.proofs.Tables.{takes_unique}
use Rattle.patterns.specs.Patterns.{expr_of}
use Rattle.places.proofs.Steps.{takes_so}
use Rattle.places.proofs.sets.PlaceSetsAutomaton.step.Goals as goal

pub returns : goal.returns
returns c _ =
    let pattern = c.args.self.now.pattern.now in
    let s = c.args.state.now.bits in
    takes_unique (expr_of pattern) s c.args.letter _ _ c.take.ensures (takes_so pattern s c.args.letter)
