-- The next field that is left of a first line.
use Rattle.std.specs.Prelude.{◌≡◌, ℕ, ◌^◌, ◌<◌, Bool, true, false, List, ◌∷◌, Some, None, codes, decimal, Decides, Option, ◌≢◌}
use Rattle.texts.specs.Tokens.{Spelt}
use Rattle.texts.specs.declared.fields.Token.{Token}

-- whether the field that came as a token is the word `pattern`
abbrev pub IsName : Token → Bool → Type 0
IsName t r = (w : List ℕ) → Spelt w t → Decides r (w ≡ codes "pattern")

-- whether the first of the fields is the word `pattern`, which is then taken off
abbrev pub TakesName : List (List ℕ) → Bool → List (List ℕ) → Type 0
TakesName before true after = before ≡ codes "pattern" ∷ after
TakesName before false after = (ws : List (List ℕ)) → before ≢ codes "pattern" ∷ ws

-- the first of the fields, if there is one, spells no number below 2 ^ 64
abbrev pub NoneFirst : List (List ℕ) → Type 0
NoneFirst fs = (n : ℕ) (ws : List (List ℕ)) → n < 2 ^ 64 → fs ≢ decimal n ∷ ws

-- the number that the first of the fields spells, which is then taken off, or none where it spells none
abbrev pub TakesNumber : List (List ℕ) → Option ℕ → List (List ℕ) → Type 0
TakesNumber before (Some n) after = (before ≡ decimal n ∷ after) × (n < 2 ^ 64)
TakesNumber before None after = NoneFirst before
