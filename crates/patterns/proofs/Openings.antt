-- The first line of a pattern text, as its fields were read.
use Rattle.std.proofs.Common.{◌≡◌, ℕ, ◌^◌, ◌<◌, List, ◌∷◌, ◌++◌, Option, Some, sym, subst, ◌∙◌}
use Rattle.notation.proofs.Notation.{header_Parts, header_split, header_joined}
use Rattle.notation.specs.Notation.{Heads, header_bytes, header_fields}
use Rattle.notation.specs.declared.heads.Header.{Header}
use Rattle.patterns.proofs.Fronts.{no_line, line_fields, line_stands}
use Rattle.patterns.specs.Texts.{NoHeader}
use Rattle.texts.specs.Lines.{Gave, NextLine, rest, line_bytes, fields_left}
use Rattle.texts.specs.Parts.{Lacks}
use Rattle.texts.specs.declared.lines.Cursor.{Cursor}
use Rattle.texts.specs.declared.lines.Line.{Line}

pub no_line_no_header : (text : List ℕ) → Lacks 10 text → NoHeader text
no_line_no_header text none n m r n_small m_small e = no_line text (header_bytes n m) r none (header_Parts n m r n_small m_small) e

pub no_fields_no_header : (before after : Cursor) (l : Line) → Gave before l after
    → ((n m : ℕ) → n < 2 ^ 64 → m < 2 ^ 64 → fields_left l ≡ header_fields n m → ⊥) → NoHeader (rest before)
no_fields_no_header before after l gave none n m r n_small m_small e =
    none n m n_small m_small
    (line_fields before after l (header_bytes n m) r gave (header_Parts n m r n_small m_small) e ∙ header_split n m n_small m_small)

pub header_stands : (before after : Cursor) (l : Line) (n m : ℕ) → Gave before l after → fields_left l ≡ header_fields n m
    → rest before ≡ header_bytes n m ++ (10 ∷ rest after)
header_stands before after l n m gave e =
    line_stands before after l (header_bytes n m) gave (header_joined (line_bytes l) n m (sym gave.fresh ∙ e))

-- the first line, as the cursor gave it and its fields were read, stands there
pub first_stands : (before after : Cursor) (line : Line) (first : Header) (o : Option Line) (h : Option Header)
    → NextLine before o after → o ≡ Some line → Heads (fields_left line) h → h ≡ Some first → (n : ℕ) → first.letters ≡ n
    → rest before ≡ header_bytes n first.nodes ++ (10 ∷ rest after)
first_stands before after line first o h next is_line heads is_first n letters =
    subst (λ k. rest before ≡ header_bytes k first.nodes ++ (10 ∷ rest after)) letters
    (header_stands before after line first.letters first.nodes
    (subst (λ x. NextLine before x after) is_line next)
    (subst (λ x. Heads (fields_left line) x) is_first heads))
