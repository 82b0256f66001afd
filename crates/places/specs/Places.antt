-- The place sets of an expression as a kind of state.
use Rattle.std.specs.Prelude.{ℕ, ◌≤◌}
use Rattle.bitsets.specs.declared.SmallSet.{SmallSet}
use Rattle.blocks.specs.Moves.{Fair, Moves, seen, seen_fair}
use Rattle.expressions.specs.Expr.{Expr}
use Rattle.expressions.specs.Tables.{taken}
use Rattle.std.proofs.Common.{ap}

-- the places that a letter leads to
abbrev pub moved : Expr → SmallSet → ℕ → SmallSet
moved e s a = record { bits = taken e s.bits a }

-- the place sets of an expression over n letters: the start is place 0 alone, and sets are the same when their numbers are
abbrev pub place_moves : Expr → ℕ → Moves SmallSet
place_moves e n = seen n (record { bits = 1 }) (moved e) (λ s. s.bits)

pub place_fair : (e : Expr) (n : ℕ) → n ≤ 16 → Fair (place_moves e n)
place_fair e n few = seen_fair n (record { bits = 1 }) (moved e) (λ s. s.bits) few (λ s t a same. ap (λ (bits : ℕ). taken e bits a) same)
