use Rattle.patterns.proofs.Determined.{only_read, only_refused}
use Rattle.patterns.proofs.pattern.Pattern.read.Goals as goal
use Rattle.std.proofs.lemmas.Result.{err_from_is_err_and}

pub returns-clause-only : goal.returns-clause-only
returns-clause-only g c =
    only_read (g.A.Alphabet.meaning c.args.alphabet.now) (g.met.A.Alphabet.sound c.args.alphabet.now) c.args.text.now c.in_ok-self.field-0 c.in_ok-self.ensures

pub returns-in_err-self-clause-only : goal.returns-in_err-self-clause-only
returns-in_err-self-clause-only g c =
    let p = err_from_is_err_and c.from_residual.result c.from_residual.ensures.1 in
    rw (p.1, p.2)
    (only_refused (g.A.Alphabet.meaning c.args.alphabet.now) (g.met.A.Alphabet.sound c.args.alphabet.now) c.args.text.now c.in_err-self.field-0.0 c.in_err-self.ensures)
