use Rattle.patterns.proofs.Grows.{seq_grows}
use Rattle.patterns.proofs.stack.Stack.seq.Goals as goal
use Rattle.patterns.specs.Drafts.{PoppedTwo}
use Rattle.std.proofs.Common.{subst, vec_items, refl, rules}

pub returns : goal.returns
returns c = λ nodes drafted _.
    seq_grows _ _ nodes drafted c.pop_two.ensures.holders c.in_ok-a.a c.in_ok-a.b _
    (λ es laid. subst (λ o. PoppedTwo es o (vec_items c.pop_two.new.self.parts)) c.in_ok-a.ensures.ok_part (c.pop_two.ensures.popped es laid))
    (search rules) (search rules) (search rules) (search rules) refl
