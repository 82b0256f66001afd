-- A recorded trace, a text with the name of one event on each line, and the verdicts on it by the text of a procedure.
use Rattle.std.specs.Prelude.{◌≡◌, ℕ, ◌+◌, List, [], ◌∷◌, ◌++◌, map, length, take, Some, None, Ok, Err, vec_items, Decides, Option, Result, Vec}
use Rattle.alphabets.specs.Meaning.{Meaning}
use Rattle.expressions.specs.Places.{Leads}
use Rattle.judging.specs.declared.verdict.Verdict.{Verdict}
use Rattle.notation.specs.declared.kinds.Kind.{Kind}
use Rattle.patterns.specs.Nodes.{expression}
use Rattle.patterns.specs.Reading.{RefusesText}
use Rattle.patterns.specs.Texts.{IsText, TextSession, nodes}
use Rattle.patterns.specs.declared.refusal.Fault.{Fault}
use Rattle.std.specs.List.{slice_get}
use Rattle.std.specs.declared.alloc.Global.{Global}
use Rattle.texts.specs.Parts.{split}

-- all pieces but the last
abbrev pub but_last : List (List ℕ) → List (List ℕ)
but_last [] = []
but_last (p ∷ []) = []
but_last (p ∷ (q ∷ ps)) = p ∷ but_last (q ∷ ps)

-- the lines of a text: each piece that a newline (10) ends; bytes after the last newline are no line
abbrev pub full_lines : List ℕ → List (List ℕ)
full_lines text = but_last (split 10 text)

-- the event of a line: the name with its letter, or nothing where the line is no name
abbrev pub event : List ℕ → Option ℕ → List (List ℕ × ℕ)
event name (Some letter) = (name, letter) ∷ []
event name None = []

-- the events of some lines, in order
abbrev pub events_of : Meaning → List (List ℕ) → List (List ℕ × ℕ)
events_of m [] = []
events_of m (l ∷ ls) = event l (m.letter l) ++ events_of m ls

-- the events of a trace, in order; a line that is no name is passed over
abbrev pub events : Meaning → List ℕ → List (List ℕ × ℕ)
events m trace = events_of m (full_lines trace)

-- the names of some events
abbrev pub names_of : List (List ℕ × ℕ) → List (List ℕ)
names_of es = map (λ e. e.0) es

-- the letters of some events
abbrev pub letters_in : List (List ℕ × ℕ) → List ℕ
letters_in es = map (λ e. e.1) es

-- the letters of a trace, in order
abbrev pub letters : Meaning → List ℕ → List ℕ
letters m trace = letters_in (events m trace)

-- the word w leads from the start of the pattern that the text has to the place set s
abbrev pub TextLeads : Meaning → List ℕ → List ℕ → ℕ → Type 0
TextLeads m text w s = (ls : List (Kind × ℕ)) × IsText m text ls × Leads (expression (nodes m ls)) 1 w s

-- v is the verdict after the event k of the trace, counted from 0: the event's name, the place set that
-- the events so far lead to, and yes exactly where they are a session that the procedure's text has
pub record JudgedAt (m : Meaning) (procedure trace : List ℕ) (k : ℕ) (v : Verdict) : Type 0 where
  pub name : slice_get (names_of (events m trace)) k ≡ Some v.name.now
  pub places : TextLeads m procedure (take (k + 1) (letters m trace)) v.places.bits
  pub session : Decides v.session (TextSession m procedure (take (k + 1) (letters m trace)))

-- the verdicts vs are right: one for each event of the trace, in order
pub record Judged (m : Meaning) (procedure trace : List ℕ) (vs : List Verdict) : Type 0 where
  pub count : length vs ≡ length (events m trace)
  pub each : (k : ℕ) (v : Verdict) → slice_get vs k ≡ Some v → JudgedAt m procedure trace k v

-- the right verdicts, or why the procedure's text is refused
abbrev pub Judges : Meaning → List ℕ → List ℕ → Result (Vec Verdict Global) Fault → Type 0
Judges m procedure trace (Ok vs) = Judged m procedure trace (vec_items vs)
Judges m procedure trace (Err f) = RefusesText m procedure f.why f.line
