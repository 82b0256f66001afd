use Rattle.expressions.proofs.Theorem.{places_know_sessions_lem}
use Rattle.expressions.proofs.places_know_sessions.Goals as goal

pub returns : goal.returns
returns c = places_know_sessions_lem
