use Rattle.std.proofs.Common.{arith, rules}
use Rattle.texts.proofs.Fills.{wrote, from_the_front}
use Rattle.texts.proofs.numbers.write_longer.Goals as goal

pub returns : goal.returns
returns c =
    wrote c.args.number c.args.buffer.now _ _ (omega arith) (omega arith) c.digits-len.ensures
    (from_the_front c.args.number c.args.buffer.now c.digits-len.result c.write_digits.result c.write_digits.new.buf c.digits-len.ensures c.write_digits.ensures.start c.write_digits.ensures.written)
