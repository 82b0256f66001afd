-- The patterns that stand, their leaves and their tables, with one node more.
use Rattle.std.proofs.Common.{◌≡◌, ℕ, ◌+◌, ◌<◌, ◌≤◌, List, [], ◌∷◌, ◌++◌, length, refl, ap₂, arith}
use Rattle.bitsets.proofs.Sets.{no_members}
use Rattle.expressions.proofs.Ranges.{inner_within}
use Rattle.expressions.proofs.Tables.{inner_iff}
use Rattle.expressions.specs.Expr.{Expr, leaves}
use Rattle.expressions.specs.Tables.{inner}
use Rattle.patterns.specs.Drafts.{total, inners}
use Rattle.patterns.specs.Nodes.{push, pushes, takes, one_leaf, leaf_count}
use Rattle.patterns.specs.declared.node.Node.{Node}
use Rattle.patterns.specs.declared.node.Node.TheVariants.{Never, Empty, Leaf, Seq, Alt, Star}
use lib.Bits.{bit_or}

pub pushes_more : (es : List Expr) (xs : List Node) (x : Node) → pushes es (xs ++ (x ∷ [])) ≡ push x (pushes es xs)
pushes_more es [] x = refl
pushes_more es (y ∷ xs) x = pushes_more (push y es) xs x

pub leaf_count_more : (xs : List Node) (x : Node) → leaf_count (xs ++ (x ∷ [])) ≡ one_leaf x + leaf_count xs
leaf_count_more [] x = refl
leaf_count_more (y ∷ xs) x = omega (arith, leaf_count_more xs x)

-- a node that finds what it takes loses no leaf
pub total_push : (x : Node) (es : List Expr) → takes x ≤ length es → total (push x es) ≡ one_leaf x + total es
total_push Never es h = omega arith
total_push Empty es h = omega arith
total_push (Leaf s) es h = omega arith
total_push Seq [] h = absurd (omega arith)
total_push Seq (f ∷ []) h = absurd (omega arith)
total_push Seq (f ∷ (e ∷ es)) h = omega arith
total_push Alt [] h = absurd (omega arith)
total_push Alt (f ∷ []) h = absurd (omega arith)
total_push Alt (f ∷ (e ∷ es)) h = omega arith
total_push Star [] h = absurd (omega arith)
total_push Star (e ∷ es) h = omega arith

inner_past : (k : ℕ) (e : Expr) (p : ℕ) → k + leaves e < p → inner k e p ≡ 0
inner_past k e p h = no_members (inner k e p) (λ q m. let w = inner_within k e p q ((inner_iff k e p q).0 m) in omega arith)

-- no place past the last leaf has followers
pub inners_past : (es : List Expr) (p : ℕ) → total es < p → inners es p ≡ 0
inners_past [] p h = refl
inners_past (e ∷ es) p h =
    ap₂ bit_or (inners_past es p (omega arith)) (inner_past (total es) e p h)
