-- A number, written into a buffer.
use Rattle.std.proofs.Common.{◌≡◌, ℕ, ◌+◌, ◌/◌, ◌%◌, ◌^◌, ◌<◌, ◌≤◌, List, ◌++◌, length, take, drop, set, decimal, sym, ap, ◌∙◌, subst, arith}
use Rattle.std.proofs.lemmas.List.{drop-set, length_push, take_at}
use Rattle.std.proofs.lemmas.Fmt.{decimal_digit, decimal_step}
use Rattle.texts.specs.Tokens.{Spelt}
use Rattle.texts.specs.Numbers.{Wrote}
use Rattle.texts.proofs.Texts.{Spelt_number}

pub wrote : (n : ℕ) (before : List ℕ) (len : ℕ) (after : List ℕ) → n < 2 ^ 64 → len ≤ length before → len ≡ length (decimal n) → after ≡ decimal n ++ drop len before → Wrote n before len after
wrote n before len after small room long is = record {
  fits = room;
  len_is = long;
  after_is = is;
  reads = λ t s. Spelt_number n t small (subst (λ l. Spelt l t) (ap (take len) is ∙ take_at (decimal n) (drop len before) len (sym long)) s);
}

pub length_more : (n : ℕ) → 10 ≤ n → n < 2 ^ 64 → length (decimal n) ≡ length (decimal (n / 10)) + 1
length_more n big small = ap length (decimal_step n big small) ∙ length_push (decimal (n / 10)) (48 + n % 10)

pub length_one : (n : ℕ) → n < 10 → length (decimal n) ≡ 1
length_one n few = ap length (decimal_digit n few)

pub length_two : (n : ℕ) → 10 ≤ n → n < 100 → length (decimal n) ≡ 2
length_two n big few = omega (arith, length_more n big (omega arith), length_one (n / 10) (omega arith))

pub length_three : (n : ℕ) → 100 ≤ n → n < 1000 → length (decimal n) ≡ 3
length_three n big few = omega (arith, length_more n (omega arith) (omega arith), length_two (n / 10) (omega arith) (omega arith))

pub length_four : (n : ℕ) → 1000 ≤ n → n < 10000 → length (decimal n) ≡ 4
length_four n big few = omega (arith, length_more n (omega arith) (omega arith), length_three (n / 10) (omega arith) (omega arith))

-- four digits at a time
pub length_by_four : (n : ℕ) → 10000 ≤ n → n < 2 ^ 64 → length (decimal n) ≡ length (decimal (n / 10000)) + 4
length_by_four n big small =
    let on : n / 10 / 10 / 10 / 10 ≡ n / 10000 = omega arith in
    omega (arith, length_more n (omega arith) small, length_more (n / 10) (omega arith) (omega arith), length_more (n / 10 / 10) (omega arith) (omega arith), length_more (n / 10 / 10 / 10) (omega arith) (omega arith), ap (λ m. length (decimal m)) on)

-- a number of one digit
pub wrote_digit : (n : ℕ) (before : List ℕ) → n < 10 → 0 < length before → Wrote n before 1 (set before 0 (48 + n))
wrote_digit n before few some =
    wrote n before 1 _ (omega arith) (omega arith) (sym (length_one n few))
    (drop-set before 0 (48 + n) some ∙ ap (λ l. l ++ drop 1 before) (sym (decimal_digit n few)))

-- digits that end where they would end from the front stand at the front
pub from_the_front : (n : ℕ) (before : List ℕ) (len start : ℕ) (after : List ℕ) → len ≡ length (decimal n) → start + length (decimal n) ≡ len → drop start after ≡ decimal n ++ drop len before → after ≡ decimal n ++ drop len before
from_the_front n before len start after long ends written =
    let front : start ≡ 0 = omega arith in
    subst (λ s. drop s after ≡ decimal n ++ drop len before) front written
