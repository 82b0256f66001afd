-- What is known of the patterns that stand after some nodes.
use Rattle.std.specs.Prelude.{◌≡◌, ℕ, ◌+◌, ◌^◌, ◌<◌, ◌≤◌, List, [], ◌∷◌, ◌++◌, Some, None, Ok, Err, vec_items, vec_len, Option, Result, bit_or}
use Rattle.expressions.specs.Expr.{Expr, nullable, leaves}
use Rattle.expressions.specs.Tables.{firsts, lasts, inner, holders}
use Rattle.patterns.specs.Nodes.{push, standing, leaf_count}
use Rattle.patterns.specs.Rules.{Follows, Refuses}
use Rattle.patterns.specs.Tables.{at}
use Rattle.patterns.specs.declared.node.Node.{Node}
use Rattle.patterns.specs.declared.node.Node.TheVariants.{Never, Empty, Leaf, Seq, Alt, Star}
use Rattle.patterns.specs.declared.refusal.PatternRefusal.{PatternRefusal}
use Rattle.patterns.specs.declared.stack.Part.{Part}
use Rattle.patterns.specs.declared.stack.Stack.{Stack}

-- how many leaves the patterns that stand have together
abbrev pub total : List Expr → ℕ
total [] = 0
total (e ∷ es) = total es + leaves e

-- what is known of a pattern before which k leaves stand
abbrev pub part : ℕ → Expr → Part
part k e =
    record { first = record { bits = firsts k e }; last = record { bits = lasts k e }; nullable = nullable e }

-- the same of each pattern that stands, the last one last
abbrev pub laid : List Expr → List Part
laid [] = []
laid (e ∷ es) = laid es ++ (part (total es) e ∷ [])

-- the places that follow place p inside one of the patterns that stand
abbrev pub inners : List Expr → ℕ → ℕ
inners [] p = 0
inners (e ∷ es) p = bit_or (inners es p) (inner (total es) e p)

-- the places whose leaf holds the letter a
abbrev pub holding : List Expr → ℕ → ℕ
holding [] a = 0
holding (e ∷ es) a = bit_or (holding es a) (holders (total es) e a)

-- the tables are those of the patterns that stand
pub record Tabled (es : List Expr) (s : Stack) : Type 0 where
  pub few : total es ≤ 63
  pub places : vec_len s.followers ≡ total es + 1
  pub follows : (p : ℕ) → at (vec_items s.followers) p ≡ inners es p
  pub letters : vec_len s.holders ≤ 16
  pub holds : (a : ℕ) → at (vec_items s.holders) a ≡ holding es a

-- the parts and the tables are those of the nodes
pub record Drafted (nodes : List Node) (s : Stack) : Type 0 where
  pub parts : vec_items s.parts ≡ laid (standing nodes)
  pub count : leaf_count nodes ≡ total (standing nodes)
  pub tabled : Tabled (standing nodes) s

-- the last pattern that stands is taken off
abbrev pub Popped : List Expr → Option Part → List Part → Type 0
Popped [] r xs = r ≡ None
Popped (e ∷ es) r xs = (r ≡ Some (part (total es) e)) × (xs ≡ laid es)

-- the last two patterns that stand are taken off
abbrev pub PoppedTwo : List Expr → Option (Part × Part) → List Part → Type 0
PoppedTwo [] r xs = r ≡ None
PoppedTwo (f ∷ []) r xs = r ≡ None
PoppedTwo (f ∷ (e ∷ es)) r xs = (r ≡ Some (part (total es) e, part (total es + leaves e) f)) × (xs ≡ laid es)

-- the stack has the tables of e and of the patterns es before it, the parts of es alone, and p is the part of e
pub record Grown (before : Stack) (e : Expr) (es : List Expr) (p : Part) (after : Stack) : Type 0 where
  pub parts : vec_items after.parts ≡ laid es
  pub made : p ≡ part (total es) e
  pub tabled : Tabled (e ∷ es) after
  pub letters : vec_len after.holders ≡ vec_len before.holders

-- a leaf has only letters below n
abbrev pub Within : ℕ → Node → Type 0
Within n Never = Unit {0}
Within n Empty = Unit {0}
Within n (Leaf s) = s.bits < 2 ^ n
Within n Seq = Unit {0}
Within n Alt = Unit {0}
Within n Star = Unit {0}

-- the node was entered into the tables, and p is the part of the pattern that it makes
pub record Entered (x : Node) (before : Stack) (nodes : List Node) (p : Part) (after : Stack) : Type 0 where
  pub made : Expr
  pub others : List Expr
  pub pushed : push x (standing nodes) ≡ made ∷ others
  pub grown : Grown before made others p after
  pub allowed : Follows nodes x

-- whatever the nodes before it, the node was entered, or it is refused
abbrev pub Grows : Node → Stack → Result Part PatternRefusal → Stack → Type 0
Grows x before (Ok p) after =
    (nodes : List Node) → Drafted nodes before → Within (vec_len before.holders) x → Entered x before nodes p after
Grows x before (Err r) after = (nodes : List Node) → Drafted nodes before → Refuses nodes x r

-- whatever the nodes before it, the stack is that of the nodes with this one more, or the node is refused
abbrev pub Enters : Node → Stack → Result Unit PatternRefusal → Stack → Type 0
Enters x before (Ok u) after =
    (nodes : List Node) → Drafted nodes before → Within (vec_len before.holders) x
    → Drafted (nodes ++ (x ∷ [])) after × (vec_len after.holders ≡ vec_len before.holders) × Follows nodes x
Enters x before (Err r) after = (nodes : List Node) → Drafted nodes before → Refuses nodes x r
