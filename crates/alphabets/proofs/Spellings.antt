-- The decimal numbers as names.
use Rattle.std.proofs.Common.{◌≡◌, ℕ, ◌^◌, ◌<◌, List, [], get_or, Some, None, decimal, sym, ◌∙◌, arith}
use Rattle.std.proofs.lemmas.List.FromFn.{get_or-map-range_with_len}
use Rattle.std.proofs.lemmas.Fmt.{decimal_injective}
use Rattle.alphabets.specs.Names.{index_of}
use Rattle.alphabets.specs.Numbers.{spellings}
use Rattle.alphabets.specs.NamesLemmas.{index_at, index_none}
use Rattle.alphabets.specs.Sounds.{length_spellings}

-- the name at a place is that place's number
pub get_or-spellings : (n k : ℕ) → k < n → get_or (spellings n) k [] ≡ decimal k
get_or-spellings n k h = get_or-map-range_with_len decimal 0 n k k [] h (omega arith)

-- a number below n stands at its own place
pub spelling_found : (w : List ℕ) (n k : ℕ) → n < 2 ^ 64 → k < n → w ≡ decimal k → index_of w (spellings n) ≡ Some k
spelling_found w n k few h e =
    index_at w (spellings n) k (omega (arith, length_spellings n)) (get_or-spellings n k h ∙ sym e)
    (λ j l s. let same : j ≡ k = decimal_injective j k (omega arith) (omega arith) (sym (get_or-spellings n j (omega arith)) ∙ (s ∙ e)) in omega arith)

-- what spells no number below n stands nowhere
pub spelling_missed : (w : List ℕ) (n : ℕ) → ((k : ℕ) → k < n → w ≡ decimal k → ⊥) → index_of w (spellings n) ≡ None
spelling_missed w n nay =
    index_none w (spellings n)
    (λ j l s. let h : j < n = omega (arith, length_spellings n) in nay j h (sym s ∙ get_or-spellings n j h))
