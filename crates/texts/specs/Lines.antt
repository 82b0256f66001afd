-- The lines of a text and the fields of a line.
use Rattle.std.specs.Prelude.{◌≡◌, ℕ, List, [], ◌∷◌, drop, Some, None, Option}
use Rattle.texts.specs.Parts.{Lacks, Parts, split}
use Rattle.texts.specs.Tokens.{Spelt}
use Rattle.texts.specs.declared.lines.Cursor.{Cursor}
use Rattle.texts.specs.declared.lines.Line.{Line}
use Rattle.texts.specs.declared.fields.Token.{Token}

-- the whole text that the cursor goes through
abbrev pub whole_text : Cursor → List ℕ
whole_text c = c.text.now

-- what is left of the text where the cursor stands
abbrev pub rest : Cursor → List ℕ
rest c = drop c.at c.text.now

-- the bytes of a line, without its newline
abbrev pub line_bytes : Line → List ℕ
line_bytes l = l.bytes.now

-- the fields of a line that have not been handed out
abbrev pub fields_left : Line → List (List ℕ)
fields_left l = elim l.at [ Some k ↦ split 44 (drop k l.bytes.now) | None ↦ [] ]

-- no field has been handed out
abbrev pub Fresh : Line → Type 0
Fresh l = fields_left l ≡ split 44 (line_bytes l)

-- the cursor gave the line l: the bytes up to the first newline, which it went past
pub record Gave (before : Cursor) (l : Line) (after : Cursor) : Type 0 where
  pub parts : Parts 10 (rest before) (line_bytes l) (rest after)
  pub fresh : Fresh l

-- the next line, or none where no newline is left, and then the cursor stays
abbrev pub NextLine : Cursor → Option Line → Cursor → Type 0
NextLine before (Some l) after = Gave before l after
NextLine before None after = Lacks 10 (rest before) × (after ≡ before)

-- the line gave the field t: its first left one, which is left no more
pub record Took (before : Line) (t : Token) (after : Line) : Type 0 where
  pub word : List ℕ
  pub split_off : fields_left before ≡ word ∷ fields_left after
  pub spelt : Spelt word t

-- the next field, or none where none is left
abbrev pub NextField : Line → Option Token → Line → Type 0
NextField before (Some t) after = Took before t after
NextField before None after = (fields_left before ≡ []) × (fields_left after ≡ [])
