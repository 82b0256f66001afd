-- The alphabet whose letters are known by their numbers.
use Rattle.std.specs.Prelude.{ℕ, ◌&&◌, List, map, decimal, ◌==◌, nat_lt}
use Rattle.std.specs.List.{range_with_len}
use Rattle.alphabets.specs.Meaning.{Meaning}
use Rattle.alphabets.specs.Names.{index_of}

-- the decimal numbers from 0 to n - 1, in order
abbrev pub spellings : ℕ → List (List ℕ)
spellings n = map decimal (range_with_len 0 n)

-- Code c is valid below n and holds the letter c alone. A letter's name is its decimal number.
abbrev pub numbered : ℕ → Meaning
numbered n =
    record {
      n = n;
      valid = λ c. nat_lt c n;
      holds = λ c k. nat_lt c n && (c == k);
      letter = λ w. index_of w (spellings n);
    }
