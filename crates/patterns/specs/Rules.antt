-- When a node may follow other nodes.
use Rattle.std.specs.Prelude.{◌+◌, ◌<◌, ◌≤◌, List, length}
use Rattle.patterns.specs.Nodes.{takes, standing, leaf_count, one_leaf}
use Rattle.patterns.specs.declared.node.Node.{Node}
use Rattle.patterns.specs.declared.refusal.PatternRefusal.{PatternRefusal}
use Rattle.patterns.specs.declared.refusal.PatternRefusal.TheVariants.{TooLong, Header, Letters, Count, Line, Code, Leaves, Operands, Left, Memory}

-- x is not the 64th leaf, and finds the patterns that it takes
pub record Follows (xs : List Node) (x : Node) : Type 0 where
  pub leaves : one_leaf x + leaf_count xs ≤ 63
  pub operands : takes x ≤ length (standing xs)

-- x may not follow the nodes xs, and r says why; the leaves come first
abbrev pub Refuses : List Node → Node → PatternRefusal → Type 0
Refuses xs x TooLong = ⊥
Refuses xs x Header = ⊥
Refuses xs x Letters = ⊥
Refuses xs x Count = ⊥
Refuses xs x Line = ⊥
Refuses xs x Code = ⊥
Refuses xs x Leaves = 63 < one_leaf x + leaf_count xs
Refuses xs x Operands = (one_leaf x + leaf_count xs ≤ 63) × (length (standing xs) < takes x)
Refuses xs x Left = ⊥
Refuses xs x Memory = Unit {0}
