use Rattle.std.proofs.Common.{length, sym, refl, ◌∙◌, arith}
use Rattle.std.proofs.lemmas.Bool.{eqb-true, eqb-false}
use Rattle.texts.proofs.Fills.{length_one, wrote_digit}
use Rattle.texts.proofs.numbers.write_digit.Goals as goal

pub returns-then-is_empty : goal.returns-then-is_empty
returns-then-is_empty c =
    (omega (arith, length_one c.args.digit c.requires, eqb-true (length c.args.buffer.now) 0 (sym c.is_empty.ensures ∙ c.if-is_empty.true)), refl)

pub returns : goal.returns
returns c =
    wrote_digit c.args.digit c.args.buffer.now c.requires
    (omega (arith, eqb-false (length c.args.buffer.now) 0 (sym c.is_empty.ensures ∙ c.if-is_empty.false)))
