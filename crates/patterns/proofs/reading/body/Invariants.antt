use Rattle.std.proofs.Common.{◌≡◌, ℕ, ◌+◌, ◌-◌, ◌≤◌, List, ◌++◌, length}
use Rattle.notation.specs.Notation.{fields_of}
use Rattle.notation.specs.declared.kinds.Kind.{Kind}
use Rattle.patterns.proofs.reading.body.Given as goal
use Rattle.patterns.specs.Reads.{Lines, Drawn}
use Rattle.texts.specs.Lines.{rest, fields_left}

-- the fields of the line: those that are read, and those that are left
abbrev pub invariant-loop-token : goal.invariant-loop-token
invariant-loop-token g l = fields_of l.read ++ fields_left l.line ≡ fields_left l.initial.line

abbrev pub decreases-loop-token : goal.decreases-loop-token
decreases-loop-token g l = length (fields_left l.line)

-- the lines so far are lawful, and they are in the draft
abbrev pub invariant-lines : goal.invariant-lines
invariant-lines g l =
    (ls : List (Kind × ℕ))
    × Lines (g.A.Alphabet.meaning l.alphabet) (rest l.initial.cursor) ls (rest l.cursor)
    × Drawn (g.A.Alphabet.meaning l.alphabet) ls l.draft
    × (length ls + 2 ≡ l.numbers.start)
    × (l.numbers.start ≤ l.count + 2)
    × (l.numbers.end ≡ l.count + 2)

abbrev pub decreases-lines : goal.decreases-lines
decreases-lines g l = l.numbers.end - l.numbers.start
