-- The alphabet of the services of a vehicle's diagnosis (ISO 14229-1).
use Rattle.std.specs.Prelude.{ℕ, Bool, ◌&&◌, List, [], ◌∷◌, codes, nat_le, nat_lt}
use Rattle.bitsets.specs.Sets.{has}
use Rattle.alphabets.specs.Meaning.{Meaning}
use Rattle.alphabets.specs.Names.{index_of}

-- the names of the services, letter 0 first
unfoldable pub service_names : List (List ℕ)
service_names =
    codes "alive" ∷
    codes "session" ∷
    codes "reset" ∷
    codes "clear" ∷
    codes "codes" ∷
    codes "read" ∷
    codes "unlock" ∷
    codes "quiet" ∷
    codes "write" ∷
    codes "drive" ∷
    codes "routine" ∷
    codes "download" ∷
    codes "transfer" ∷
    codes "exit" ∷
    codes "codeset" ∷
    codes "refused" ∷
    []

-- a set of letters, letter k counting 2 ^ k: there is at least one letter, and none from 16 on
abbrev pub some_letters : ℕ → Bool
some_letters c = nat_le 1 c && nat_lt c 65536

-- A code is a set of at least one letter.
abbrev pub service : Meaning
service =
    record {
      n = 16;
      valid = some_letters;
      holds = λ c k. some_letters c && has c k;
      letter = λ w. index_of w service_names;
    }
