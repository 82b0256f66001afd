-- How two-way implications are chained and put under `×`, `⊎` and "some".
use Rattle.std.proofs.Common.{◌⊎◌, ◌↔◌, inl, inr}

infixr 3 ◌⇄◌
-- one after the other
abbrev pub ◌⇄◌ : {A B C : Type 0} → A ↔ B → B ↔ C → A ↔ C
h ⇄ k = (λ a. k.0 (h.0 a), λ c. h.1 (k.1 c))

-- the other way round
abbrev pub back : {A B : Type 0} → A ↔ B → B ↔ A
back h = (h.1, h.0)

abbrev pub same : {A : Type 0} → A ↔ A
same = (λ a. a, λ a. a)

abbrev pub both : {A B C D : Type 0} → A ↔ C → B ↔ D → (A × B) ↔ (C × D)
both h k = (λ p. (h.0 p.0, k.0 p.1), λ p. (h.1 p.0, k.1 p.1))

abbrev pub either : {A B C D : Type 0} → A ↔ C → B ↔ D → (A ⊎ B) ↔ (C ⊎ D)
either h k = (
  elim [ inl a ↦ inl (h.0 a) | inr b ↦ inr (k.0 b) ],
  elim [ inl c ↦ inl (h.1 c) | inr d ↦ inr (k.1 d) ],
)

abbrev pub swap : {A B : Type 0} → (A ⊎ B) ↔ (B ⊎ A)
swap = (elim [ inl a ↦ inr a | inr b ↦ inl b ], elim [ inl b ↦ inr b | inr a ↦ inl a ])

abbrev pub regroup : {A B C : Type 0} → ((A ⊎ B) ⊎ C) ↔ (A ⊎ (B ⊎ C))
regroup = (
  elim [ inl (inl a) ↦ inl a | inl (inr b) ↦ inr (inl b) | inr c ↦ inr (inr c) ],
  elim [ inl a ↦ inl (inl a) | inr (inl b) ↦ inl (inr b) | inr (inr c) ↦ inr c ],
)

-- where one side cannot be
abbrev pub only_right : {A B : Type 0} → (A → ⊥) → (A ⊎ B) ↔ B
only_right h = (elim [ inl a ↦ absurd (h a) | inr b ↦ b ], λ b. inr b)

abbrev pub only_left : {A B : Type 0} → (B → ⊥) → (A ⊎ B) ↔ A
only_left h = (elim [ inl a ↦ a | inr b ↦ absurd (h b) ], λ a. inl a)

-- neither side can be
abbrev pub neither : {A B : Type 0} → (A → ⊥) → (B → ⊥) → A ↔ B
neither h k = (λ a. absurd (h a), λ b. absurd (k b))
