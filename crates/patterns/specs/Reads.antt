-- The steps of reading a pattern text.
use Rattle.std.specs.Prelude.{◌≡◌, ℕ, ◌+◌, ◌^◌, ◌<◌, ◌≤◌, ◌⊎◌, List, ◌∷◌, ◌++◌, length, Some, None, Ok, Err, vec_items, vec_len, Option, Result, ◌≢◌}
use Rattle.alphabets.specs.Meaning.{Meaning}
use Rattle.notation.specs.Notation.{header_bytes, entry_bytes, lines, Coded}
use Rattle.notation.specs.declared.kinds.Kind.{Kind}
use Rattle.patterns.specs.Pushes.{Added}
use Rattle.patterns.specs.Reading.{FirstLine}
use Rattle.patterns.specs.Rules.{Refuses}
use Rattle.patterns.specs.Texts.{node_of, nodes, Suits, Lawful, NoHeader, NoEntry}
use Rattle.patterns.specs.declared.draft.Draft.{Draft}
use Rattle.patterns.specs.declared.refusal.Fault.{Fault}
use Rattle.patterns.specs.declared.node.Node.{Node}
use Rattle.patterns.specs.declared.refusal.PatternRefusal.{PatternRefusal}
use Rattle.patterns.specs.declared.refusal.PatternRefusal.TheVariants.{TooLong, Header, Letters, Count, Line, Code, Leaves, Operands, Left, Memory}

-- the first line is wrong for an alphabet of n letters
abbrev pub WrongFirst : List ℕ → ℕ → PatternRefusal → Type 0
WrongFirst text n TooLong = ⊥
WrongFirst text n Header = NoHeader text
WrongFirst text n Letters = (k : ℕ) × (count : ℕ) × FirstLine text k count × (k ≢ n)
WrongFirst text n Count = (count : ℕ) × FirstLine text n count × ((1 ≤ count) × (count ≤ 127) → ⊥)
WrongFirst text n Line = ⊥
WrongFirst text n Code = ⊥
WrongFirst text n Leaves = ⊥
WrongFirst text n Operands = ⊥
WrongFirst text n Left = ⊥
WrongFirst text n Memory = ⊥

-- the first line was read, and `after` follows it
abbrev pub Opens : List ℕ → ℕ → Result ℕ PatternRefusal → List ℕ → Type 0
Opens text n (Ok count) after = (1 ≤ count) × (count ≤ 127) × (text ≡ header_bytes n count ++ (10 ∷ after))
Opens text n (Err r) after = WrongFirst text n r

-- the node of a line, where its code suits its kind
abbrev pub NodeFor : Meaning → Kind → ℕ → Option Node → Type 0
NodeFor m k c (Some x) = Suits m k c × (x ≡ node_of m k c)
NodeFor m k c None = Suits m k c → ⊥

-- the line may not stand after the nodes xs, and r says why
abbrev pub WrongLine : Meaning → Kind → ℕ → List Node → PatternRefusal → Type 0
WrongLine m k c xs TooLong = ⊥
WrongLine m k c xs Header = ⊥
WrongLine m k c xs Letters = ⊥
WrongLine m k c xs Count = ⊥
WrongLine m k c xs Line = ⊥
WrongLine m k c xs Code = Suits m k c → ⊥
WrongLine m k c xs Leaves = Suits m k c × Refuses xs (node_of m k c) Leaves
WrongLine m k c xs Operands = Suits m k c × Refuses xs (node_of m k c) Operands
WrongLine m k c xs Left = ⊥
WrongLine m k c xs Memory = Unit {0}

-- the line's node was added to the draft, or the line is refused
abbrev pub Adds : Meaning → Kind → ℕ → Draft → Result Draft PatternRefusal → Type 0
Adds m k c before (Ok after) = Suits m k c × Added before (node_of m k c) after
Adds m k c before (Err r) = WrongLine m k c (vec_items before.nodes) r

-- the text begins with the lines ls, all lawful, and `rest` follows
pub record Lines (m : Meaning) (text : List ℕ) (ls : List (Kind × ℕ)) (rest : List ℕ) : Type 0 where
  pub whole : text ≡ lines ls ++ rest
  pub coded : Coded ls
  pub lawful : Lawful m ls

-- these lines are in the draft
pub record Drawn (m : Meaning) (ls : List (Kind × ℕ)) (d : Draft) : Type 0 where
  pub nodes_are : vec_items d.nodes ≡ nodes m ls
  pub letters : vec_len d.stack.holders ≡ m.n

-- the line of a refusal; want of memory is at no line
abbrev pub line_of : PatternRefusal → ℕ → ℕ
line_of TooLong line = line
line_of Header line = line
line_of Letters line = line
line_of Count line = line
line_of Line line = line
line_of Code line = line
line_of Leaves line = line
line_of Operands line = line
line_of Left line = line
line_of Memory line = 0

-- a line after the lines ls, of `count` in all, is wrong: it is none, or r says why it may not stand there
abbrev pub WrongNext : Meaning → List ℕ → ℕ → PatternRefusal → ℕ → Type 0
WrongNext m text count r line =
    (ls : List (Kind × ℕ)) × (rest : List ℕ) × Lines m text ls rest × (length ls < count) × (line ≡ line_of r (length ls + 2))
    × (((r ≡ Line) × NoEntry rest)
    ⊎ ((k : Kind) × (c : ℕ) × (after : List ℕ) × (c < 2 ^ 32) × (rest ≡ entry_bytes k c ++ (10 ∷ after)) × WrongLine m k c (nodes m ls) r))

-- all `count` lines are in the draft and `after` follows them, or one is wrong
abbrev pub Draws : Meaning → List ℕ → ℕ → Result Draft Fault → List ℕ → Type 0
Draws m text count (Ok d) after = (ls : List (Kind × ℕ)) × Lines m text ls after × Drawn m ls d × (length ls ≡ count)
Draws m text count (Err f) after = WrongNext m text count f.why f.line
