-- Where a name stands in a list of names.
use Rattle.std.specs.Prelude.{◌≡◌, ℕ, zero, suc, ◌<◌, false, List, [], ◌∷◌, length, Some, None, Option, ◌≢◌, slice_index_or, refl}
use Rattle.std.proofs.Common.{sym, ◌∙◌, ap, inl, inr, arith}
use Rattle.std.specs.Str.{bytes_eq}
use Rattle.std.proofs.lemmas.Slice.Eq.{bytes_eq-Decides}
use Rattle.std.proofs.lemmas.Bool.{cases_Bool, cond-true, cond-false}
use Rattle.alphabets.specs.Names.{index_of, further}

apart : (v w : List ℕ) → (w ≢ v) → bytes_eq v w ≡ false
apart v w nay =
    elim (cases_Bool (bytes_eq v w)) [ inl t ↦ absurd (nay (sym ((bytes_eq-Decides v w).0 t))) | inr f ↦ f ]

-- w stands at k and nowhere before
pub index_at : (w : List ℕ) (ws : List (List ℕ)) (k : ℕ) → k < length ws → slice_index_or ws k [] ≡ w → ((j : ℕ) → j < k → slice_index_or ws j [] ≢ w) → index_of w ws ≡ Some k
index_at w [] k h e nay = absurd (omega arith)
index_at w (x ∷ xs) zero h e nay = cond-true _ _ _ ((bytes_eq-Decides w x).1 (sym e))
index_at w (x ∷ xs) (suc k) h e nay =
    cond-false _ _ _ (apart w x (nay 0 (omega arith))) ∙
    ap further (index_at w xs k (omega arith) e (λ j l. nay (suc j) (omega arith)))

-- w stands nowhere
pub index_none : (w : List ℕ) (ws : List (List ℕ)) → ((j : ℕ) → j < length ws → slice_index_or ws j [] ≢ w) → index_of w ws ≡ None
index_none w [] nay = refl
index_none w (x ∷ xs) nay =
    cond-false _ _ _ (apart w x (nay 0 (omega arith))) ∙
    ap further (index_none w xs (λ j l. nay (suc j) (omega arith)))

-- what is found stands there
pub index_finds : (w : List ℕ) (ws : List (List ℕ)) (k : ℕ) → index_of w ws ≡ Some k → (k < length ws) × (slice_index_or ws k [] ≡ w)
index_finds w [] k e = let z : ◌≡◌ {A = ℕ} 0 1 = cc in absurd (omega arith)
index_finds w (x ∷ xs) k e =
    elim (cases_Bool (bytes_eq w x)) [
      | inl t ↦ here k (sym (cond-true _ _ _ t) ∙ e) (sym ((bytes_eq-Decides w x).0 t))
      | inr f ↦ later k (index_of w xs) (sym (cond-false _ _ _ f) ∙ e) (index_finds w xs)
    ]
  where
    here : (k : ℕ) → Some 0 ≡ Some k → x ≡ w → (k < length (x ∷ xs)) × (slice_index_or (x ∷ xs) k [] ≡ w)
    here zero e s = (omega arith, s)
    here (suc k) e s = let z : ◌≡◌ {A = ℕ} 0 (suc k) = cc in absurd (omega arith)

    later : (k : ℕ) (o : Option ℕ) → further o ≡ Some k → ((j : ℕ) → o ≡ Some j → (j < length xs) × (slice_index_or xs j [] ≡ w)) → (k < length (x ∷ xs)) × (slice_index_or (x ∷ xs) k [] ≡ w)
    later zero (Some j) e f = let z : ◌≡◌ {A = ℕ} 0 (suc j) = cc in absurd (omega arith)
    later (suc k) (Some j) e f =
        let s : j ≡ k = cc in
        let g = f k (ap Some s) in
        (omega (arith, g.0), g.1)
    later k None e f = let z : ◌≡◌ {A = ℕ} 0 1 = cc in absurd (omega arith)
