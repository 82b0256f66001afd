use Rattle.std.proofs.Common.{sym, ap, ◌∙◌}
use Rattle.bitsets.specs.declared.SmallSet.{SmallSet}
use Rattle.expressions.specs.Tables.{followers}
use Rattle.patterns.proofs.Patterns.{united_take, united_pass}
use Rattle.patterns.proofs.pattern.Pattern.following.Goals as goal
use Rattle.patterns.proofs.pattern.Pattern.following.Goals.{then-holds, else-holds}
use Rattle.patterns.specs.Patterns.{expr_of}
use Rattle.patterns.specs.Tables.{at}
use lib.Bits.{bit_or}

pub loop-p-preserved : goal.loop-p-preserved
loop-p-preserved c =
    let self = c.args.self.now in
    let f = followers (expr_of self) in
    let s = c.args.places.bits in
    let p = c.loop-p.p in
    let next = at c.deref-next-items.result.now p in
    elim c.if-holds.branch [
      | then-holds w ↦
          united_take f s p _ next (sym w.if-holds.ensures.value) (ap (λ xs. at xs p) c.deref-next-items.ensures.value ∙ self.follows p)
          (ap (λ (x : SmallSet). x.bits) w.all-is ∙ w.union-all.ensures.value ∙ ap (λ x. bit_or x next) c.loop-p.invariant)
      | else-holds w ↦
          united_pass f s p _ (sym w.if-holds.ensures.value) (ap (λ (x : SmallSet). x.bits) w.all-is ∙ c.loop-p.invariant)
    ]
