-- What an alphabet means: its letters, its leaf codes and the names of its letters.
use Rattle.std.specs.Prelude.{◌≡◌, ℕ, ◌^◌, ◌<◌, ◌≤◌, Bool, true, false, List, Some, Option}
use Rattle.bitsets.specs.Sets.{below}

-- An alphabet has the letters 0 to n - 1. A code stands for a set of letters where it is valid:
-- `holds c k` says that the code c holds the letter k. `letter w` is the letter with the name w, if there is one.
pub record Meaning : Type 0 where
  pub n : ℕ
  pub valid : ℕ → Bool
  pub holds : ℕ → ℕ → Bool
  pub letter : List ℕ → Option ℕ

-- There are 1 to 16 letters, a valid code has 32 bits, only a valid code holds letters, and codes and names speak of no other letters.
pub record Sound (m : Meaning) : Type 0 where
  pub some : 1 ≤ m.n
  pub few : m.n ≤ 16
  pub coded : (c : ℕ) → m.valid c ≡ true → c < 2 ^ 32
  pub within : (c k : ℕ) → m.holds c k ≡ true → k < m.n
  pub only : (c k : ℕ) → m.valid c ≡ false → m.holds c k ≡ false
  pub named : (w : List ℕ) (k : ℕ) → m.letter w ≡ Some k → k < m.n

-- The set of the letters that a code holds, as a number: letter k counts 2 ^ k.
unfoldable pub held_letters : Meaning → ℕ → ℕ
held_letters m c = below (m.holds c) 16
