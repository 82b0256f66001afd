use Rattle.patterns.proofs.Grows.{added}
use Rattle.patterns.proofs.stack.Stack.enter.Goals as goal
use Rattle.std.proofs.Common.{refl}

pub returns : goal.returns
returns c = λ nodes drafted within.
    let entered = c.in_ok-part.ensures nodes drafted within in
    (added _ c.make.new.self _ nodes c.args.node c.in_ok-part.part drafted entered c.in_ok-push.ensures.items refl refl, entered.grown.letters, entered.allowed)
