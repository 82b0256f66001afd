use Rattle.std.proofs.Common.{rules, arith, subst}
use Rattle.texts.proofs.Folds.{turns, reads_from, ReadsOn}
use Rattle.texts.proofs.tokens.number.Goals as goal

pub returns : goal.returns
returns c =
    let d = c.try_fold.ensures.ran in
    reads_from c.args.field.now c.try_fold.result (c.well_led.ensures.0 c.if-not-well_led.false)
    (subst (λ w. ReadsOn 0 w c.try_fold.result) c.iter.ensures.rest (turns _ _ (λ f n x v h k. search rules) d.0 d.1 _ (d.2, d.3) _ d.4.0 _ _ d.4.1 d.4.2 d.5 d.6 (omega arith)))
