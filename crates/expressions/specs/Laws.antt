-- What is proved of places and of derivatives.
use Rattle.std.specs.Prelude.{ℕ, ◌↔◌, List, ◌++◌}
use Rattle.expressions.specs.Expr.{Expr, derives}
use Rattle.expressions.specs.Sessions.{Session}
use Rattle.expressions.specs.Places.{Ends, Leads}

-- The derivative by a word has the sessions that go on from that word.
abbrev pub DerivativeFollowsSessions : Type 0
DerivativeFollowsSessions = (e : Expr) (w v : List ℕ) → (Session (derives w e) v ↔ Session e (w ++ v))

-- From the start, the set {0}, let the word w lead to s, and v from there to t.
-- Then t has a place to end at exactly when v is a session of what may come after w.
abbrev pub PlacesKnowSessions : Type 0
PlacesKnowSessions =
    (e : Expr) (w v : List ℕ) (s t : ℕ) → Leads e 1 w s → Leads e s v t → (Ends e t ↔ Session (derives w e) v)
