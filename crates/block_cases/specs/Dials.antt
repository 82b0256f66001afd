-- A hand that goes round a dial.
use Rattle.std.specs.Prelude.{ℕ, ◌+◌, ◌*◌, ◌%◌, ◌≤◌}
use Rattle.blocks.specs.Moves.{Fair, Moves, seen, seen_fair}
use Rattle.std.proofs.Common.{ap}

-- letter a moves the hand on by a + 1 strides, from the hour that it shows
abbrev pub moved : ℕ → ℕ → ℕ → ℕ → ℕ
moved hours stride s a = s % hours + (a + 1) * stride

-- a dial of so many hours, and so many letters: two counts of hours are the same when the hand shows the same hour
abbrev pub dial_moves : ℕ → ℕ → ℕ → Moves ℕ
dial_moves hours stride n = seen n 0 (moved hours stride) (λ s. s % hours)

pub dial_fair : (hours stride n : ℕ) → n ≤ 16 → Fair (dial_moves hours stride n)
dial_fair hours stride n few = seen_fair n 0 (moved hours stride) (λ s. s % hours) few (λ s t a e. ap (λ (hour : ℕ). (hour + (a + 1) * stride) % hours) e)
