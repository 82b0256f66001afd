-- What a pattern means.
use Rattle.std.specs.Prelude.{◌≡◌, ℕ, List, [], length, Ok, Err, vec_items, Result, ◌≢◌}
use Rattle.expressions.specs.Expr.{Expr}
use Rattle.patterns.specs.Nodes.{expression, standing}
use Rattle.patterns.specs.declared.node.Node.{Node}
use Rattle.patterns.specs.declared.pattern.Pattern.{Pattern}
use Rattle.patterns.specs.declared.refusal.PatternRefusal.{PatternRefusal}
use Rattle.patterns.specs.declared.refusal.PatternRefusal.TheVariants.{Left}

-- the pattern's nodes, in postfix order
abbrev pub nodes_of : Pattern → List Node
nodes_of p = vec_items p.nodes

-- the expression that they stand for, which says what the pattern's sessions are
abbrev pub expr_of : Pattern → Expr
expr_of p = expression (nodes_of p)

-- no nodes and no letters
pub record Blank (p : Pattern) : Type 0 where
  pub letters : p.letters ≡ 0
  pub nodes : nodes_of p ≡ []

-- the pattern of these nodes over n letters, unless another number of patterns than one stands after them
abbrev pub Finished : List Node → ℕ → Result Pattern PatternRefusal → Type 0
Finished xs n (Ok p) = (p.letters ≡ n) × (nodes_of p ≡ xs) × (length (standing xs) ≡ 1)
Finished xs n (Err r) = (r ≡ Left) × (length (standing xs) ≢ 1)
