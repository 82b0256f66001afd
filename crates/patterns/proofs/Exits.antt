-- What `ok_or` says where it gives an error, and `map_err` where it gives none.
use Rattle.std.proofs.Common.{◌≡◌, Some, None, Ok, Err, Option, Result, refl}
use Rattle.std.specs.Option.{ok_or}
use Rattle.std.specs.Result.{MatchResult}

-- there was nothing, and the error is the one that was named
pub no_value : {T E : Type 0} (o : Option T) (named e : E) → Err e ≡ ok_or o named → (o ≡ None) × (e ≡ named)
no_value None named e h = (refl, cc)
no_value (Some x) named e h = cc

-- where an error would have been another one, a value passes
pub ok_through : {T E : Type 0} (D : Type 0) (r : Result T E) (x : T) → MatchResult r (λ y. ◌≡◌ {A = Result T D} (Ok x) (Ok y)) (λ _. ⊥) → r ≡ Ok x
ok_through D (Ok y) x h = cc
ok_through D (Err e) x h = absurd h
