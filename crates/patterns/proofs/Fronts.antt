-- A line that stands at the front of a text, whatever its bytes.
use Rattle.std.proofs.Common.{◌≡◌, ℕ, List, ◌∷◌, ◌++◌, sym, ap, ◌∙◌, subst}
use Rattle.texts.proofs.Texts.{Parts_unique, Parts_not_Lacks}
use Rattle.texts.specs.Lines.{Gave, rest, line_bytes, fields_left}
use Rattle.texts.specs.Parts.{Lacks, Parts, split}
use Rattle.texts.specs.declared.lines.Cursor.{Cursor}
use Rattle.texts.specs.declared.lines.Line.{Line}

-- none stands where no newline is left
pub no_line : (text b r : List ℕ) → Lacks 10 text → Parts 10 (b ++ (10 ∷ r)) b r → text ≡ b ++ (10 ∷ r) → ⊥
no_line text b r none parts e = Parts_not_Lacks 10 text b r (subst (λ t. Parts 10 t b r) (sym e) parts) none

-- the line that the cursor gave has the fields of the bytes that stand there
pub line_fields : (before after : Cursor) (l : Line) (b r : List ℕ) → Gave before l after → Parts 10 (b ++ (10 ∷ r)) b r
    → rest before ≡ b ++ (10 ∷ r) → fields_left l ≡ split 44 b
line_fields before after l b r gave parts e =
    let same = Parts_unique 10 (rest before) (line_bytes l) (rest after) b r gave.parts (subst (λ t. Parts 10 t b r) (sym e) parts) in
    gave.fresh ∙ ap (split 44) same.0

-- and its bytes stand there
pub line_stands : (before after : Cursor) (l : Line) (b : List ℕ) → Gave before l after → line_bytes l ≡ b → rest before ≡ b ++ (10 ∷ rest after)
line_stands before after l b gave e = gave.parts.whole ∙ ap (λ x. x ++ (10 ∷ rest after)) e
