-- What an expression says of some events, one after another.
use Rattle.std.specs.Prelude.{◌≡◌, ℕ, ◌+◌, List, length, take, Some, Decides}
use Rattle.expressions.specs.Expr.{Expr}
use Rattle.expressions.specs.Places.{Leads}
use Rattle.expressions.specs.Sessions.{Session}
use Rattle.judging.specs.Judging.{names_of, letters_in}
use Rattle.judging.specs.declared.verdict.Verdict.{Verdict}
use Rattle.std.specs.List.{slice_get}

-- v is what the expression e says after the event k, counted from 0
pub record FollowedAt (e : Expr) (events : List (List ℕ × ℕ)) (k : ℕ) (v : Verdict) : Type 0 where
  pub name : slice_get (names_of events) k ≡ Some v.name.now
  pub places : Leads e 1 (take (k + 1) (letters_in events)) v.places.bits
  pub session : Decides v.session (Session e (take (k + 1) (letters_in events)))

-- the verdicts vs are what the expression e says, one after each event
pub record Followed (e : Expr) (events : List (List ℕ × ℕ)) (vs : List Verdict) : Type 0 where
  pub count : length vs ≡ length events
  pub each : (k : ℕ) (v : Verdict) → slice_get vs k ≡ Some v → FollowedAt e events k v
