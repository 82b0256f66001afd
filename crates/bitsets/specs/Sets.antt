-- A number read as a set of numbers: k is in s where the binary digit of s that counts 2 ^ k is 1.
use Rattle.std.specs.Prelude.{◌≡◌, ℕ, zero, suc, ◌+◌, ◌/◌, ◌%◌, ◌^◌, Bool, cond, ◌==◌}
pub use Rattle.std.specs.Prelude.{◌↔◌}

-- k is in s
abbrev pub Has : ℕ → ℕ → Type 0
Has s k = s / 2 ^ k % 2 ≡ 1

-- the same as a test
abbrev pub has : ℕ → ℕ → Bool
has s k = s / 2 ^ k % 2 == 1

-- the set of the numbers below n that pass the test f
abbrev pub below : (ℕ → Bool) → ℕ → ℕ
below f zero = 0
below f (suc n) = below f n + cond (f n) (2 ^ n) 0
