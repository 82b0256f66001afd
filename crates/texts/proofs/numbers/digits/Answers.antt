use Rattle.std.proofs.Common.{arith}
use Rattle.std.proofs.lemmas.Fmt.{length-decimal-le}
use Rattle.texts.proofs.Fills.{length_by_four}
use Rattle.texts.proofs.numbers.digits.Goals as goal

pub overflow_add-len : goal.overflow_add-len
overflow_add-len c = omega (arith, length-decimal-le 20 c.args.number (omega arith) (omega arith) (omega arith))

pub loop-n-preserved : goal.loop-n-preserved
loop-n-preserved c = (omega arith, omega (arith, length_by_four c.loop-n.n c.loop-n-test.true c.loop-n.invariant.0))

pub overflow_add-result : goal.overflow_add-result
overflow_add-result c = omega (arith, length-decimal-le 20 c.args.number (omega arith) (omega arith) (omega arith))
