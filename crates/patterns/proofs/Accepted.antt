-- The text of a pattern that was read.
use Rattle.alphabets.specs.Meaning.{Meaning}
use Rattle.notation.specs.Notation.{header_bytes, lines}
use Rattle.patterns.specs.Reading.{Accepts}
use Rattle.patterns.specs.Texts.{IsText}
use Rattle.patterns.specs.declared.pattern.Pattern.{Pattern}
use Rattle.std.proofs.Common.{ℕ, List, ◌∷◌, ◌++◌, length, ap, ◌∙◌}
use Rattle.std.proofs.lemmas.List.{append-nil}

-- it is the written form of its lines
pub accepted_text : (m : Meaning) (text : List ℕ) (p : Pattern) (a : Accepts m text p) → IsText m text a.entries
accepted_text m text p a =
    record {
      whole = a.begins.whole ∙ ap (λ t. header_bytes m.n (length a.entries) ++ (10 ∷ t)) (append-nil (lines a.entries));
      coded = a.begins.coded;
      few = a.begins.few;
    }
