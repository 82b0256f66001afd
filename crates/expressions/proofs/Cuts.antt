-- Words cut in two, and words cut into many: at the empty word, and at a word's first letter.
use Rattle.std.proofs.Common.{◌≡◌, ℕ, ◌⊎◌, ◌↔◌, List, [], ◌∷◌, ◌++◌, sym, refl, ap, ◌∙◌, subst, inl, inr, arith}
use Rattle.expressions.specs.Sessions.{Cut, joined, Every}

pub nil-cons : {a : ℕ} {w : List ℕ} → [] ≡ a ∷ w → ⊥
nil-cons e = let z : ◌≡◌ {A = ℕ} 0 1 = cc in omega arith

pub cons-nil : {a : ℕ} {w : List ℕ} → a ∷ w ≡ [] → ⊥
cons-nil e = nil-cons (sym e)

pub same_head : {a b : ℕ} {w v : List ℕ} → a ∷ w ≡ b ∷ v → a ≡ b
same_head e = cc

pub same_tail : {a b : ℕ} {w v : List ℕ} → a ∷ w ≡ b ∷ v → w ≡ v
same_tail e = cc

module _ (P Q : List ℕ → Type 0) where
  Cut-nil_to : (u v : List ℕ) → [] ≡ u ++ v → P u → Q v → P [] × Q []
  Cut-nil_to [] [] e p q = (p, q)
  Cut-nil_to [] (b ∷ v) e p q = absurd (nil-cons e)
  Cut-nil_to (b ∷ u) v e p q = absurd (nil-cons e)

  pub Cut-nil : Cut P Q [] ↔ (P [] × Q [])
  Cut-nil = (λ h. Cut-nil_to h.0 h.1 h.2 h.3 h.4, λ h. ([], [], refl, h.0, h.1))

  Cut-cons_to : (a : ℕ) (w u v : List ℕ) → a ∷ w ≡ u ++ v → P u → Q v
      → Cut (λ x. P (a ∷ x)) Q w ⊎ (P [] × Q (a ∷ w))
  Cut-cons_to a w [] v e p q = inr (p, subst Q (sym e) q)
  Cut-cons_to a w (b ∷ u) v e p q = inl (u, v, same_tail e, subst (λ x. P (x ∷ u)) (sym (same_head e)) p, q)

  -- the first letter stands in the first part, or that part is empty
  pub Cut-cons : (a : ℕ) (w : List ℕ) → Cut P Q (a ∷ w) ↔ (Cut (λ x. P (a ∷ x)) Q w ⊎ (P [] × Q (a ∷ w)))
  Cut-cons a w = (
    λ h. Cut-cons_to a w h.0 h.1 h.2 h.3 h.4,
    elim [
      | inl h ↦ (a ∷ h.0, h.1, ap (λ x. a ∷ x) h.2, h.3, h.4)
      | inr h ↦ ([], a ∷ w, refl, h.0, h.1)
    ],
  )

  -- the same parts under other names
  pub Cut_iff : (P' Q' : List ℕ → Type 0) → ((u : List ℕ) → P u ↔ P' u) → ((v : List ℕ) → Q v ↔ Q' v)
      → (w : List ℕ) → Cut P Q w ↔ Cut P' Q' w
  Cut_iff P' Q' f g w = (
    λ h. (h.0, h.1, h.2, (f h.0).0 h.3, (g h.1).0 h.4),
    λ h. (h.0, h.1, h.2, (f h.0).1 h.3, (g h.1).1 h.4),
  )

-- w is a row of words of P
abbrev pub Row : (List ℕ → Type 0) → List ℕ → Type 0
Row P w = (us : List (List ℕ)) × (w ≡ joined us) × Every P us

module _ (P : List ℕ → Type 0) where
  pub star-nil : Row P []
  star-nil = ([], refl, tt)

  star-cons_to : (a : ℕ) (w : List ℕ) (us : List (List ℕ)) → a ∷ w ≡ joined us → Every P us → Cut (λ u. P (a ∷ u)) (Row P) w
  star-cons_to a w [] e h = absurd (cons-nil e)
  star-cons_to a w ([] ∷ us) e h = star-cons_to a w us e h.1
  star-cons_to a w ((b ∷ u) ∷ us) e h =
      (u, joined us, same_tail e, subst (λ x. P (x ∷ u)) (sym (same_head e)) h.0, (us, refl, h.1))

  -- the first letter stands in the first word that is not empty
  pub star-cons : (a : ℕ) (w : List ℕ) → Row P (a ∷ w) ↔ Cut (λ u. P (a ∷ u)) (Row P) w
  star-cons a w = (
    λ h. star-cons_to a w h.0 h.1 h.2,
    λ h. ((a ∷ h.0) ∷ h.4.0, ap (λ x. a ∷ x) (h.2 ∙ ap (λ x. h.0 ++ x) h.4.1), (h.3, h.4.2)),
  )
