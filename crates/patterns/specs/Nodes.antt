-- The expression that nodes in postfix order stand for: a node takes the patterns that stand right before it.
use Rattle.std.specs.Prelude.{ℕ, ◌+◌, List, [], ◌∷◌}
use Rattle.expressions.specs.Expr.{Expr, never, empty, leaf, seq, alt, star}
use Rattle.patterns.specs.declared.node.Node.{Node}
use Rattle.patterns.specs.declared.node.Node.TheVariants.{Never, Empty, Leaf, Seq, Alt, Star}

-- how many patterns a node takes
abbrev pub takes : Node → ℕ
takes Never = 0
takes Empty = 0
takes (Leaf s) = 0
takes Seq = 2
takes Alt = 2
takes Star = 1

-- what the patterns that stand, the last first, become with one node more; a node that finds too few changes nothing
abbrev pub push : Node → List Expr → List Expr
push Never es = never ∷ es
push Empty es = empty ∷ es
push (Leaf s) es = leaf s.bits ∷ es
push Seq [] = []
push Seq (f ∷ []) = f ∷ []
push Seq (f ∷ (e ∷ es)) = seq e f ∷ es
push Alt [] = []
push Alt (f ∷ []) = f ∷ []
push Alt (f ∷ (e ∷ es)) = alt e f ∷ es
push Star [] = []
push Star (e ∷ es) = star e ∷ es

abbrev pub pushes : List Expr → List Node → List Expr
pushes es [] = es
pushes es (x ∷ xs) = pushes (push x es) xs

-- the patterns that stand after some nodes, the last first
abbrev pub standing : List Node → List Expr
standing xs = pushes [] xs

-- 1 for a leaf
abbrev pub one_leaf : Node → ℕ
one_leaf Never = 0
one_leaf Empty = 0
one_leaf (Leaf s) = 1
one_leaf Seq = 0
one_leaf Alt = 0
one_leaf Star = 0

-- how many of some nodes are leaves
abbrev pub leaf_count : List Node → ℕ
leaf_count [] = 0
leaf_count (x ∷ xs) = one_leaf x + leaf_count xs

abbrev pub top : List Expr → Expr
top [] = never
top (e ∷ es) = e

-- the expression of a pattern: what stands after all its nodes; without nodes it has no session
abbrev pub expression : List Node → Expr
expression xs = top (standing xs)
