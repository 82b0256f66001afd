-- The spelling of a number, read from the left.
use Rattle.std.proofs.Common.{◌≡◌, ℕ, ◌+◌, ◌-◌, ◌*◌, ◌^◌, ◌<◌, ◌≤◌, List, [], ◌∷◌, length, get_or, Some, decimal, sym, refl, ap, ◌∙◌, subst, ⊎_elim, arith}
use Rattle.std.specs.Int.{IsInRange}
use Rattle.std.proofs.lemmas.Bool.{cases_eq}
use Rattle.std.proofs.lemmas.Str.Parse.{IsNumeralModel, numerals_by_fold, tells_by_index}
use Rattle.std.proofs.lemmas.Fmt.{decimal_nonempty, decimal_digit, first_decimal, decimal-digits_value}
use Rattle.texts.specs.Tokens.{NoNumber, Reads, WellLed}

-- the number n with the digits after it
abbrev pub read_on : ℕ → List ℕ → ℕ
read_on n [] = n
read_on n (c ∷ cs) = read_on (n * 10 + (c - 48)) cs

-- each byte is a digit
abbrev pub Figures : List ℕ → Type 0
Figures ds = (i : ℕ) → i < length ds → IsInRange 48 57 (get_or ds i 0)

pub own : IsNumeralModel Figures (read_on 0)
own = numerals_by_fold Figures tells_by_index read_on (record { empty = λ n. refl; more = λ n c cs h. refl })

pub read_on-le : (ds : List ℕ) (n : ℕ) → n ≤ read_on n ds
read_on-le [] n = omega arith
read_on-le (c ∷ cs) n = omega (arith, read_on-le cs (n * 10 + (c - 48)))

pub led_decimal : (n : ℕ) → n < 2 ^ 64 → WellLed (decimal n)
led_decimal n small = (
  decimal_nonempty n small,
  λ zero.
      ⊎_elim
      (λ none. ap length (ap decimal none ∙ decimal_digit 0 (omega arith)))
      (λ some. absurd (omega (arith, first_decimal n (omega arith) small)))
      (cases_eq n 0),
)

pub no_led : (w : List ℕ) → (WellLed w → ⊥) → NoNumber w
no_led w ill n small same = ill (subst WellLed (sym same) (led_decimal n small))

-- digits with a good front spell their value
pub reads_all : (w : List ℕ) (v : ℕ) → Figures w → WellLed w → read_on 0 w ≡ v → v < 2 ^ 64 → Reads w (Some v)
reads_all w v figures led is small =
    (sym (ap decimal (sym is) ∙ decimal-digits_value own w figures led.0 led.1 (omega arith)), small)
