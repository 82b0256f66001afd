use Rattle.judging.proofs.Verdicts.{judged_from}
use Rattle.judging.proofs.judging.judge.Goals as goal
use Rattle.std.proofs.Common.{vec_items}

pub returns : goal.returns
returns g c =
    judged_from (g.A.Alphabet.meaning c.args.alphabet.now) c.args.procedure.now c.args.trace.now c.read.new.self
    c.in_ok-read.ensures.reads (vec_items c.in_ok-verdicts.verdicts) c.in_ok-verdicts.ensures
