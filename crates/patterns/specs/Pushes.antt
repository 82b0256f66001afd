-- What a draft is with one node more.
use Rattle.std.specs.Prelude.{◌≡◌, [], ◌∷◌, ◌++◌, Ok, Err, vec_items, vec_len, Result}
use Rattle.patterns.specs.Rules.{Follows, Refuses}
use Rattle.patterns.specs.declared.draft.Draft.{Draft}
use Rattle.patterns.specs.declared.node.Node.{Node}
use Rattle.patterns.specs.declared.refusal.PatternRefusal.{PatternRefusal}

-- the draft has one node more
pub record Added (before : Draft) (x : Node) (after : Draft) : Type 0 where
  pub nodes : vec_items after.nodes ≡ vec_items before.nodes ++ (x ∷ [])
  pub letters : vec_len after.stack.holders ≡ vec_len before.stack.holders
  pub allowed : Follows (vec_items before.nodes) x

-- the node was added, or it is refused
abbrev pub Pushes : Draft → Node → Result Draft PatternRefusal → Type 0
Pushes before x (Ok after) = Added before x after
Pushes before x (Err r) = Refuses (vec_items before.nodes) x r
