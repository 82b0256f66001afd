-- What one node more does to the patterns that stand and to the tables.
use Rattle.std.proofs.Common.{◌≡◌, List, [], ◌∷◌, length, refl, ◌∙◌, arith}
use Rattle.expressions.specs.Expr.{Expr}
use Rattle.patterns.specs.Drafts.{total, part, laid}
use Rattle.std.proofs.lemmas.List.{length_push}

-- as many parts as patterns stand
pub length-laid : (es : List Expr) → length (laid es) ≡ length es
length-laid [] = refl
length-laid (e ∷ es) = length_push (laid es) (part (total es) e) ∙ omega (arith, length-laid es)
