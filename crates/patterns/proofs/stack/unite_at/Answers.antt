use Rattle.std.proofs.Common.{◌<◌, length, sym, ◌∙◌, arith}
use Rattle.patterns.proofs.Tables.{united_put, united_skip}
use Rattle.patterns.proofs.stack.unite_at.Goals as goal
use Rattle.patterns.proofs.stack.unite_at.Goals.{then-holds, else-holds}
use Rattle.std.proofs.lemmas.List.{set-get_or}

pub loop-k-preserved : goal.loop-k-preserved
loop-k-preserved c =
    let within : c.loop-k.k < length c.loop-k.set-items = omega arith in
    elim c.if-holds.branch [
      | then-holds w ↦ united_put _ _ _ _ _ _ c.loop-k.invariant _ within (sym w.if-holds.ensures.value) w.union.ensures.value w.set-items-is
      | else-holds w ↦ united_skip _ _ _ _ _ _ c.loop-k.invariant (sym w.if-holds.ensures.value) (w.set-items-is ∙ set-get_or _ _ _)
    ]
