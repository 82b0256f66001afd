use Rattle.patterns.proofs.Grows.{alt_grows}
use Rattle.patterns.proofs.stack.Stack.alt.Goals as goal
use Rattle.patterns.specs.Drafts.{PoppedTwo}
use Rattle.std.proofs.Common.{subst, vec_items, refl}

pub returns : goal.returns
returns c = λ nodes drafted _.
    alt_grows _ _ nodes drafted c.pop_two.ensures.holders c.in_ok-a.a c.in_ok-a.b _
    (λ es laid. subst (λ o. PoppedTwo es o (vec_items c.pop_two.new.self.parts)) c.in_ok-a.ensures.ok_part (c.pop_two.ensures.popped es laid))
    c.pop_two.ensures.followers c.union.ensures.value c.union-2.ensures.value refl
