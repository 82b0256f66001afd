-- A number, written into a buffer.
use Rattle.std.specs.Prelude.{◌≡◌, ℕ, ◌<◌, ◌≤◌, List, ◌++◌, length, take, drop, Some, None, decimal, Option}
use Rattle.texts.specs.Tokens.{Spelt}
use Rattle.texts.specs.declared.fields.Token.{Token}
use Rattle.texts.specs.declared.fields.Token.TheVariants.{Number}

-- n's spelling stands at the front of the buffer, and what lay past it stays
pub record Wrote (n : ℕ) (before : List ℕ) (len : ℕ) (after : List ℕ) : Type 0 where
  pub fits : len ≤ length before
  pub len_is : len ≡ length (decimal n)
  pub after_is : after ≡ decimal n ++ drop len before
  -- reading back gives the number
  pub reads : (t : Token) → Spelt (take len after) t → t ≡ Number n

-- the spelling is written, or it is longer than the buffer and no byte changes
abbrev pub Writes : ℕ → List ℕ → Option ℕ → List ℕ → Type 0
Writes n before (Some len) after = Wrote n before len after
Writes n before None after = (length before < length (decimal n)) × (after ≡ before)
