-- No other answer fits a pattern text than the one that reading it gives.
use Rattle.std.specs.Prelude.{◌≡◌, ℕ, List, Ok, Err, Result, ◌≢◌}
use Rattle.alphabets.specs.Meaning.{Meaning}
use Rattle.patterns.specs.Reading.{RefusesText, Accepts}
use Rattle.patterns.specs.declared.pattern.Pattern.{Pattern}
use Rattle.patterns.specs.declared.refusal.Fault.{Fault}
use Rattle.patterns.specs.declared.refusal.PatternRefusal.{PatternRefusal}
use Rattle.patterns.specs.declared.refusal.PatternRefusal.TheVariants.{Memory}

-- a text that is read is refused for no reason at any line; one that is refused is refused for no other reason, at no
-- other line, and is not read; want of memory is left out, since it says nothing of the text
abbrev pub Only : Meaning → List ℕ → Result Unit Fault → Type 0
Only m text (Ok u) = (why : PatternRefusal) (line : ℕ) → (why ≢ Memory) → RefusesText m text why line → ⊥
Only m text (Err f) =
    (f.why ≢ Memory)
    → ((why : PatternRefusal) (line : ℕ) → (why ≢ Memory) → RefusesText m text why line → (why ≡ f.why) × (line ≡ f.line))
    × ((p : Pattern) → Accepts m text p → ⊥)
