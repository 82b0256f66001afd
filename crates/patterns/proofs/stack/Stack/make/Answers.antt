use Rattle.expressions.specs.Expr.{never, empty}
use Rattle.patterns.proofs.Grows.{none_grows}
use Rattle.patterns.proofs.stack.Stack.make.Goals as goal
use Rattle.patterns.specs.Nodes.{push, standing, takes, one_leaf}
use Rattle.std.proofs.Common.{refl, ap}

pub returns-in-Never : goal.returns-in-Never
returns-in-Never c = λ nodes drafted _.
    let is = c.in-Never.is in
    none_grows _ _ nodes drafted c.args.node never _ (ap one_leaf is) (ap takes is)
    (ap (λ x. push x (standing nodes)) is) refl (λ _ _. refl) (λ _ _. refl) (λ _. c.placeless.ensures) refl refl refl

pub returns-in-Empty : goal.returns-in-Empty
returns-in-Empty c = λ nodes drafted _.
    let is = c.in-Empty.is in
    none_grows _ _ nodes drafted c.args.node empty _ (ap one_leaf is) (ap takes is)
    (ap (λ x. push x (standing nodes)) is) refl (λ _ _. refl) (λ _ _. refl) (λ _. c.placeless-in-Empty.ensures) refl refl refl
