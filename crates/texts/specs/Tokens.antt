-- What a field says: a number or a word.
use Rattle.std.specs.Prelude.{◌≡◌, ℕ, ◌+◌, ◌-◌, ◌*◌, ◌^◌, ◌<◌, ◌≤◌, List, length, Some, None, decimal, Option, ◌≢◌, slice_index}
use Rattle.texts.specs.declared.fields.Token.{Token}
use Rattle.texts.specs.declared.fields.Token.TheVariants.{Word, Number}

-- w spells no number below 2 ^ 64
abbrev pub NoNumber : List ℕ → Type 0
NoNumber w = (n : ℕ) → n < 2 ^ 64 → w ≢ decimal n

-- the field w is the token t: a number where w is its one spelling, else the word w itself
abbrev pub Spelt : List ℕ → Token → Type 0
Spelt w (Number n) = (w ≡ decimal n) × (n < 2 ^ 64)
Spelt w (Word b) = (b.now ≡ w) × NoNumber w

-- the same number, or words of the same bytes
abbrev pub Alike : Token → Token → Type 0
Alike (Number m) (Number n) = m ≡ n
Alike (Number m) (Word b) = ⊥
Alike (Word a) (Number n) = ⊥
Alike (Word a) (Word b) = a.now ≡ b.now

-- the number that w spells, if it spells one
abbrev pub Reads : List ℕ → Option ℕ → Type 0
Reads w (Some n) = (w ≡ decimal n) × (n < 2 ^ 64)
Reads w None = NoNumber w

-- w is not empty, and has no zero (48) before other bytes
abbrev pub WellLed : List ℕ → Type 0
WellLed w = (0 < length w) × (slice_index w 0 ≡ 48 → length w ≡ 1)

-- n with the digit of the byte b after it, where b is a digit and that is below 2 ^ 64
abbrev pub Grows : ℕ → ℕ → Option ℕ → Type 0
Grows n b (Some m) = (48 ≤ b) × (b ≤ 57) × (m ≡ n * 10 + (b - 48)) × (m < 2 ^ 64)
Grows n b None = 48 ≤ b → b ≤ 57 → n * 10 + (b - 48) < 2 ^ 64 → ⊥
