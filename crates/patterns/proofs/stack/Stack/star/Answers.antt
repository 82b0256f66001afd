use Rattle.patterns.proofs.Grows.{star_grows}
use Rattle.patterns.proofs.stack.Stack.star.Goals as goal
use Rattle.patterns.specs.Drafts.{Popped}
use Rattle.std.proofs.Common.{subst, vec_items, refl, rules}

pub returns : goal.returns
returns c = λ nodes drafted _.
    star_grows _ _ nodes drafted c.pop.ensures.holders c.in_ok-a.a _
    (λ es laid. subst (λ o. Popped es o (vec_items c.pop.new.self.parts)) c.in_ok-a.ensures.ok_part (c.pop.ensures.popped es laid))
    (search rules) (search rules) refl refl refl
