-- What a pattern text is, which rules its lines keep, and what its sessions are.
use Rattle.std.specs.Prelude.{◌≡◌, ℕ, ◌^◌, ◌<◌, ◌≤◌, true, List, ◌∷◌, ◌++◌, map, length, take, ◌≢◌, slice_index_or}
use Rattle.alphabets.specs.Meaning.{Meaning, held_letters}
use Rattle.expressions.specs.Sessions.{Session}
use Rattle.notation.specs.Notation.{Coded, written, lines, header_bytes, entry_bytes}
use Rattle.notation.specs.declared.kinds.Kind.{Kind}
use Rattle.notation.specs.declared.kinds.Kind.TheVariants as kind
use Rattle.patterns.specs.Nodes.{expression}
use Rattle.patterns.specs.Rules.{Follows}
use Rattle.patterns.specs.declared.node.Node.{Node}
use Rattle.patterns.specs.declared.node.Node.TheVariants.{Never, Empty, Leaf, Seq, Alt, Star}

-- the node of a line: a leaf has the letters that its code holds
abbrev pub node_of : Meaning → Kind → ℕ → Node
node_of m kind.Never c = Never
node_of m kind.Empty c = Empty
node_of m kind.Leaf c = Leaf (record { bits = held_letters m c })
node_of m kind.Seq c = Seq
node_of m kind.Alt c = Alt
node_of m kind.Star c = Star

-- the nodes of some lines
abbrev pub nodes : Meaning → List (Kind × ℕ) → List Node
nodes m ls = map (λ l. node_of m l.0 l.1) ls

-- the code suits the kind: a leaf's code is valid, any other code is 0
abbrev pub Suits : Meaning → Kind → ℕ → Type 0
Suits m kind.Never c = c ≡ 0
Suits m kind.Empty c = c ≡ 0
Suits m kind.Leaf c = m.valid c ≡ true
Suits m kind.Seq c = c ≡ 0
Suits m kind.Alt c = c ≡ 0
Suits m kind.Star c = c ≡ 0

-- a line keeps the rules after the lines before it
pub record Keeps (m : Meaning) (before : List (Kind × ℕ)) (l : Kind × ℕ) : Type 0 where
  pub code : Suits m l.0 l.1
  pub follows : Follows (nodes m before) (node_of m l.0 l.1)

-- each line keeps the rules after those before it
abbrev pub Lawful : Meaning → List (Kind × ℕ) → Type 0
Lawful m ls = (k : ℕ) → k < length ls → Keeps m (take k ls) (slice_index_or ls k (kind.Never, 0))

-- the text is the written form of the lines ls over the alphabet's letters
pub record IsText (m : Meaning) (text : List ℕ) (ls : List (Kind × ℕ)) : Type 0 where
  pub whole : text ≡ written m.n ls
  pub coded : Coded ls
  pub few : length ls ≤ 127

-- w is a session that the text has: one of its lines as nodes, each leaf with the set that the alphabet's meaning gives its code
abbrev pub TextSession : Meaning → List ℕ → List ℕ → Type 0
TextSession m text w = (ls : List (Kind × ℕ)) × IsText m text ls × Session (expression (nodes m ls)) w

-- the text begins with a first line for the alphabet and for `count` nodes, and then with the lines ls, each of which keeps the rules; `rest` follows
pub record Begins (m : Meaning) (text : List ℕ) (count : ℕ) (ls : List (Kind × ℕ)) (rest : List ℕ) : Type 0 where
  pub short : length text ≤ 4096
  pub some : 1 ≤ count
  pub few : count ≤ 127
  pub whole : text ≡ header_bytes m.n count ++ (10 ∷ (lines ls ++ rest))
  pub coded : Coded ls
  pub lawful : Lawful m ls
  pub so_far : length ls ≤ count

-- no first line stands at the front of the text
abbrev pub NoHeader : List ℕ → Type 0
NoHeader text = (n m : ℕ) (rest : List ℕ) → n < 2 ^ 64 → m < 2 ^ 64 → text ≢ header_bytes n m ++ (10 ∷ rest)

-- no node's line stands at the front of the text
abbrev pub NoEntry : List ℕ → Type 0
NoEntry text = (k : Kind) (c : ℕ) (rest : List ℕ) → c < 2 ^ 32 → text ≢ entry_bytes k c ++ (10 ∷ rest)
