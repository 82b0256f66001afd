-- What reading a pattern text answers.
use Rattle.std.specs.Prelude.{◌≡◌, ℕ, ◌+◌, ◌^◌, ◌<◌, ◌≤◌, ◌⊎◌, ◌↔◌, List, [], ◌∷◌, ◌++◌, length, Ok, Err, Result, ◌≢◌}
use Rattle.alphabets.specs.Meaning.{Meaning}
use Rattle.expressions.specs.Sessions.{Session}
use Rattle.notation.specs.Notation.{header_bytes, entry_bytes}
use Rattle.notation.specs.declared.kinds.Kind.{Kind}
use Rattle.patterns.specs.Nodes.{standing}
use Rattle.patterns.specs.Patterns.{nodes_of, expr_of, Blank}
use Rattle.patterns.specs.Rules.{Refuses}
use Rattle.patterns.specs.Texts.{node_of, nodes, Suits, TextSession, Begins, NoHeader, NoEntry}
use Rattle.patterns.specs.declared.pattern.Pattern.{Pattern}
use Rattle.patterns.specs.declared.refusal.Fault.{Fault}
use Rattle.patterns.specs.declared.refusal.PatternRefusal.{PatternRefusal}
use Rattle.patterns.specs.declared.refusal.PatternRefusal.TheVariants.{TooLong, Header, Letters, Count, Line, Code, Leaves, Operands, Left, Memory}

-- the first line of the text says n letters and `count` nodes
abbrev pub FirstLine : List ℕ → ℕ → ℕ → Type 0
FirstLine text n count = (rest : List ℕ) × (n < 2 ^ 64) × (count < 2 ^ 64) × (text ≡ header_bytes n count ++ (10 ∷ rest))

-- after the lines ls, all lawful, comes another line with the kind k and the code c
abbrev pub Comes : Meaning → List ℕ → List (Kind × ℕ) → Kind → ℕ → Type 0
Comes m text ls k c =
    (count : ℕ) × (rest : List ℕ) × Begins m text count ls (entry_bytes k c ++ (10 ∷ rest)) × (length ls < count) × (c < 2 ^ 32)

-- the text is refused for this reason at this line: each reason with what was in order before it
abbrev pub RefusesText : Meaning → List ℕ → PatternRefusal → ℕ → Type 0
RefusesText m text TooLong line = (4096 < length text) × (line ≡ 0)
RefusesText m text Header line = (length text ≤ 4096) × NoHeader text × (line ≡ 1)
RefusesText m text Letters line =
    (length text ≤ 4096) × ((n : ℕ) × (count : ℕ) × FirstLine text n count × (n ≢ m.n)) × (line ≡ 1)
RefusesText m text Count line =
    (length text ≤ 4096) × ((count : ℕ) × FirstLine text m.n count × ((1 ≤ count) × (count ≤ 127) → ⊥)) × (line ≡ 1)
RefusesText m text Line line =
    (count : ℕ) × (ls : List (Kind × ℕ)) × (rest : List ℕ) × Begins m text count ls rest
    × (((length ls < count) × NoEntry rest) ⊎ ((length ls ≡ count) × (rest ≢ []))) × (line ≡ length ls + 2)
RefusesText m text Code line =
    (ls : List (Kind × ℕ)) × (k : Kind) × (c : ℕ) × Comes m text ls k c × (Suits m k c → ⊥) × (line ≡ length ls + 2)
RefusesText m text Leaves line =
    (ls : List (Kind × ℕ)) × (k : Kind) × (c : ℕ) × Comes m text ls k c × Suits m k c × Refuses (nodes m ls) (node_of m k c) Leaves × (line ≡ length ls + 2)
RefusesText m text Operands line =
    (ls : List (Kind × ℕ)) × (k : Kind) × (c : ℕ) × Comes m text ls k c × Suits m k c × Refuses (nodes m ls) (node_of m k c) Operands × (line ≡ length ls + 2)
RefusesText m text Left line =
    (ls : List (Kind × ℕ)) × Begins m text (length ls) ls [] × (1 < length (standing (nodes m ls))) × (line ≡ length ls + 1)
RefusesText m text Memory line = line ≡ 0

-- the text was read: all its lines are lawful, one pattern is left, and p has its nodes and its sessions
pub record Accepts (m : Meaning) (text : List ℕ) (p : Pattern) : Type 0 where
  pub entries : List (Kind × ℕ)
  pub begins : Begins m text (length entries) entries []
  pub one_left : length (standing (nodes m entries)) ≡ 1
  pub letters : p.letters ≡ m.n
  pub nodes_are : nodes_of p ≡ nodes m entries
  pub sessions : (w : List ℕ) → Session (expr_of p) w ↔ TextSession m text w

-- a pattern, or why there is none
abbrev pub Parses : Meaning → List ℕ → Result Pattern Fault → Type 0
Parses m text (Ok p) = Accepts m text p
Parses m text (Err f) = RefusesText m text f.why f.line

-- the pattern handed in is that of the text, or it is blank and the answer says why
abbrev pub Reads : Meaning → List ℕ → Result Unit Fault → Pattern → Type 0
Reads m text (Ok u) p = Accepts m text p
Reads m text (Err f) p = RefusesText m text f.why f.line × Blank p
