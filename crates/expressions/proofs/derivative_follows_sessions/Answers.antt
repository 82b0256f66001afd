use Rattle.expressions.proofs.Derivatives.{derives_iff}
use Rattle.expressions.proofs.derivative_follows_sessions.Goals as goal

pub returns : goal.returns
returns c = derives_iff
