-- The numbered alphabets and that of the services are sound.
use Rattle.std.specs.Prelude.{◌≡◌, ℕ, ◌<◌, ◌≤◌, true, length, decimal, ◌==◌, nat_le, nat_lt, refl}
use Rattle.std.proofs.Common.{arith}
use Rattle.std.proofs.lemmas.List.FromFn.{length-map-range_with_len}
use Rattle.std.proofs.lemmas.Bool.{and_parts, and_left, ltb-true, eqb-true}
use Rattle.bitsets.specs.Sets.{has}
use Rattle.bitsets.proofs.Sets.{Decides-Has, Has-below}
use Rattle.alphabets.specs.Meaning.{Sound}
use Rattle.alphabets.specs.Numbers.{numbered, spellings}
use Rattle.alphabets.specs.Services.{service, service_names, some_letters}
use Rattle.alphabets.specs.NamesLemmas.{index_finds}

pub length_spellings : (n : ℕ) → length (spellings n) ≡ n
length_spellings n = length-map-range_with_len decimal 0 n

pub numbered_sound : (n : ℕ) → 1 ≤ n → n ≤ 16 → Sound (numbered n)
numbered_sound n some few =
    record {
      some = some;
      few = few;
      coded = λ c e. omega (arith, ltb-true c n e);
      within = λ c k e. let p = and_parts (nat_lt c n) (c == k) e in omega (arith, ltb-true c n p.0, eqb-true c k p.1);
      only = λ c k e. and_left (nat_lt c n) (c == k) e;
      named = λ w k e. omega (arith, (index_finds w (spellings n) k e).0, length_spellings n);
    }

pub length_service_names : length service_names ≡ 16
unfolding service_names
length_service_names = refl

pub service_sound : Sound service
service_sound =
    record {
      some = omega arith;
      few = omega arith;
      coded = λ c e. omega (arith, small c e);
      within = λ c k e. let p = and_parts (some_letters c) (has c k) e in Has-below c k 16 (small c p.0) ((Decides-Has c k).0 p.1);
      only = λ c k e. and_left (some_letters c) (has c k) e;
      named = λ w k e. omega (arith, (index_finds w service_names k e).0, length_service_names);
    }
  where
    small : (c : ℕ) → some_letters c ≡ true → c < 65536
    small c e = ltb-true c 65536 (and_parts (nat_le 1 c) (nat_lt c 65536) e).1
