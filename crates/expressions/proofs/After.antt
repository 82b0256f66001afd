-- What may come after a place, one letter at a time.
use Rattle.std.proofs.Common.{◌≡◌, ℕ, ◌+◌, true, ◌⊎◌, ◌↔◌, List, [], ◌∷◌, sym, refl, ap, subst, inl, inr, arith}
use Rattle.bitsets.specs.Sets.{Has}
use Rattle.bitsets.proofs.Iff.{◌⇄◌, back, same, both, either, neither, regroup, swap}
use Rattle.expressions.specs.Expr.{Expr, never, empty, leaf, seq, alt, star, nullable, leaves}
use Rattle.expressions.specs.Sessions.{Session, Cut}
use Rattle.expressions.specs.Places.{First, Last, Inner, Holds}
use Rattle.expressions.proofs.Cuts.{cons-nil, same_head, same_tail, Cut-nil, Cut-cons, Cut_iff, star-nil, star-cons}
use Rattle.expressions.proofs.Derivatives.{nullable_iff}
use Rattle.expressions.proofs.Ranges.{Within, first_within, inner_within, holds_within}

-- v may come after the place p inside e, up to e's end
abbrev pub After : ℕ → Expr → ℕ → List ℕ → Type 0
After k never p v = ⊥
After k empty p v = ⊥
After k (leaf s) p v = (p ≡ k + 1) × (v ≡ [])
After k (seq e f) p v = Cut (After k e p) (Session f) v ⊎ After (k + leaves e) f p v
After k (alt e f) p v = After k e p v ⊎ After (k + leaves e) f p v
After k (star e) p v = Cut (After k e p) (Session (star e)) v

pub after_within : (k : ℕ) (e : Expr) (p : ℕ) (v : List ℕ) → After k e p v → Within k e p
after_within k never p v h = absurd h
after_within k empty p v h = absurd h
after_within k (leaf s) p v h = omega arith
after_within k (seq e f) p v (inl h) = omega (arith, after_within k e p h.0 h.3)
after_within k (seq e f) p v (inr h) = omega (arith, after_within (k + leaves e) f p v h)
after_within k (alt e f) p v (inl h) = omega (arith, after_within k e p v h)
after_within k (alt e f) p v (inr h) = omega (arith, after_within (k + leaves e) f p v h)
after_within k (star e) p v h = after_within k e p h.0 h.3

-- nothing more has to come after the last places
pub after_nil : (k : ℕ) (e : Expr) (p : ℕ) → After k e p [] ↔ Last k e p
after_nil k never p = same
after_nil k empty p = same
after_nil k (leaf s) p = (λ h. h.0, λ h. (h, refl))
after_nil k (seq e f) p =
    either
    (Cut-nil (After k e p) (Session f)
    ⇄ both (after_nil k e p) (back (nullable_iff f))
    ⇄ (λ h. (h.1, h.0), λ h. (h.1, h.0)))
    (after_nil (k + leaves e) f p)
after_nil k (alt e f) p = either (after_nil k e p) (after_nil (k + leaves e) f p)
after_nil k (star e) p =
    Cut-nil (After k e p) (Session (star e)) ⇄ both (after_nil k e p) same ⇄ (λ h. h.0, λ h. (h, star-nil (Session e)))

-- some place of R holds the letter a, and v may come after it
abbrev pub Via : ℕ → Expr → (ℕ → Type 0) → ℕ → List ℕ → Type 0
Via k e R a v = (q : ℕ) × R q × Holds k e q a × After k e q v

module _ (k : ℕ) (e : Expr) (a : ℕ) (v : List ℕ) where
  pub Via_iff : (R S : ℕ → Type 0) → ((q : ℕ) → R q ↔ S q) → Via k e R a v ↔ Via k e S a v
  Via_iff R S f =
      (λ h. (h.0, (f h.0).0 h.1, h.2, h.3), λ h. (h.0, (f h.0).1 h.1, h.2, h.3))

  pub Via-or : (R S : ℕ → Type 0) → (Via k e R a v ⊎ Via k e S a v) ↔ Via k e (λ q. R q ⊎ S q) a v
  Via-or R S = (
    elim [ inl h ↦ (h.0, inl h.1, h.2, h.3) | inr h ↦ (h.0, inr h.1, h.2, h.3) ],
    λ h. elim h.1 [ inl r ↦ inl (h.0, r, h.2, h.3) | inr r ↦ inr (h.0, r, h.2, h.3) ],
  )

  pub Via-and : (P : Type 0) (R : ℕ → Type 0) → (P × Via k e R a v) ↔ Via k e (λ q. P × R q) a v
  Via-and P R = (
    λ h. (h.1.0, (h.0, h.1.1), h.1.2, h.1.3),
    λ h. (h.1.0, (h.0, h.1.1, h.2, h.3)),
  )

-- Two kinds of places that lie apart: where one fact is of the left kind, so are the others.
module _ (L M R S H I A B : ℕ → Type 0) (apart : (q : ℕ) → L q → M q → ⊥)
    (rl : (q : ℕ) → R q → L q) (hl : (q : ℕ) → H q → L q) (al : (q : ℕ) → A q → L q)
    (sm : (q : ℕ) → S q → M q) (im : (q : ℕ) → I q → M q) (bm : (q : ℕ) → B q → M q) where
  left : (q : ℕ) → R q → H q ⊎ I q → A q ⊎ B q → (x : ℕ) × R x × H x × A x
  left q r (inl h) (inl t) = (q, r, h, t)
  left q r (inl h) (inr t) = absurd (apart q (rl q r) (bm q t))
  left q r (inr h) t = absurd (apart q (rl q r) (im q h))

  right : (q : ℕ) → S q → H q ⊎ I q → A q ⊎ B q → (x : ℕ) × S x × I x × B x
  right q r (inr h) (inr t) = (q, r, h, t)
  right q r (inr h) (inl t) = absurd (apart q (al q t) (sm q r))
  right q r (inl h) t = absurd (apart q (hl q h) (sm q r))

  sides : (((q : ℕ) × R q × H q × A q) ⊎ ((q : ℕ) × S q × I q × B q)) ↔ ((q : ℕ) × (R q ⊎ S q) × (H q ⊎ I q) × (A q ⊎ B q))
  sides = (
    elim [
      | inl h ↦ (h.0, inl h.1, inl h.2, inl h.3)
      | inr h ↦ (h.0, inr h.1, inr h.2, inr h.3)
    ],
    λ h. elim h.1 [ inl r ↦ inl (left h.0 r h.2 h.3) | inr r ↦ inr (right h.0 r h.2 h.3) ],
  )

-- a word of Q may come later
Cut-Via : (R H : ℕ → Type 0) (A : ℕ → List ℕ → Type 0) (Q : List ℕ → Type 0) (v : List ℕ)
    → Cut (λ u. (q : ℕ) × R q × H q × A q u) Q v ↔ ((q : ℕ) × R q × H q × Cut (A q) Q v)
Cut-Via R H A Q v = (
  λ h. (h.3.0, h.3.1, h.3.2, (h.0, h.1, h.2, h.3.3, h.4)),
  λ h. (h.3.0, h.3.1, h.3.2, (h.0, h.1, h.2, h.3.3), h.3.4),
)

-- the places of two parts that stand one behind the other lie apart
apart : (k : ℕ) (e f : Expr) (q : ℕ) → Within k e q → Within (k + leaves e) f q → ⊥
apart k e f q h j = omega arith

module _ (k : ℕ) (e f : Expr) (a : ℕ) (v : List ℕ) (R S : ℕ → Type 0)
    (in_e : (q : ℕ) → R q → Within k e q) (in_f : (q : ℕ) → S q → Within (k + leaves e) f q) where
  alt-Via : (Via k e R a v ⊎ Via (k + leaves e) f S a v) ↔ Via k (alt e f) (λ q. R q ⊎ S q) a v
  alt-Via =
      sides (Within k e) (Within (k + leaves e) f) R S (λ q. Holds k e q a) (λ q. Holds (k + leaves e) f q a)
      (λ q. After k e q v) (λ q. After (k + leaves e) f q v) (apart k e f)
      in_e (λ q. holds_within k e q a) (λ q. after_within k e q v)
      in_f (λ q. holds_within (k + leaves e) f q a) (λ q. after_within (k + leaves e) f q v)

  seq-Via : (Cut (Via k e R a) (Session f) v ⊎ Via (k + leaves e) f S a v) ↔ Via k (seq e f) (λ q. R q ⊎ S q) a v
  seq-Via =
      either (Cut-Via R (λ q. Holds k e q a) (After k e) (Session f) v) same
      ⇄ sides (Within k e) (Within (k + leaves e) f) R S (λ q. Holds k e q a) (λ q. Holds (k + leaves e) f q a)
      (λ q. Cut (After k e q) (Session f) v) (λ q. After (k + leaves e) f q v) (apart k e f)
      in_e (λ q. holds_within k e q a) (λ q t. after_within k e q t.0 t.3)
      in_f (λ q. holds_within (k + leaves e) f q a) (λ q. after_within (k + leaves e) f q v)

star-Via : (k : ℕ) (e : Expr) (a : ℕ) (v : List ℕ) (R : ℕ → Type 0)
    → Cut (Via k e R a) (Session (star e)) v ↔ Via k (star e) R a v
star-Via k e a v R = Cut-Via R (λ q. Holds k e q a) (After k e) (Session (star e)) v

-- a session that begins with the letter a goes through a first place that holds a
leaf-cons : (k s a : ℕ) (v : List ℕ) → Session (leaf s) (a ∷ v) ↔ Via k (leaf s) (First k (leaf s)) a v
leaf-cons k s a v = (
  λ h. (k + 1, refl, (refl, subst (λ x. Has s x) (sym (same_head h.1)) h.2), (refl, same_tail h.1)),
  λ h. (a, ap (λ x. a ∷ x) h.3.1, h.2.1),
)

pub Session-cons : (k : ℕ) (e : Expr) (a : ℕ) (v : List ℕ) → Session e (a ∷ v) ↔ Via k e (First k e) a v
Session-cons k never a v = neither (λ h. h) (λ h. h.1)
Session-cons k empty a v = neither cons-nil (λ h. h.1)
Session-cons k (leaf s) a v = leaf-cons k s a v
Session-cons k (seq e f) a v =
    Cut-cons (Session e) (Session f) a v
    ⇄ either
    (Cut_iff (λ u. Session e (a ∷ u)) (Session f) (Via k e (First k e) a) (Session f)
    (λ u. Session-cons k e a u) (λ u. same) v)
    (both (back (nullable_iff e)) (Session-cons (k + leaves e) f a v)
    ⇄ Via-and (k + leaves e) f a v (nullable e ≡ true) (First (k + leaves e) f))
    ⇄ seq-Via k e f a v (First k e) (λ q. (nullable e ≡ true) × First (k + leaves e) f q)
    (first_within k e) (λ q h. first_within (k + leaves e) f q h.1)
Session-cons k (alt e f) a v =
    either (Session-cons k e a v) (Session-cons (k + leaves e) f a v)
    ⇄ alt-Via k e f a v (First k e) (First (k + leaves e) f) (first_within k e) (first_within (k + leaves e) f)
Session-cons k (star e) a v =
    star-cons (Session e) a v
    ⇄ Cut_iff (λ u. Session e (a ∷ u)) (Session (star e)) (Via k e (First k e) a) (Session (star e))
    (λ u. Session-cons k e a u) (λ u. same) v
    ⇄ star-Via k e a v (First k e)

-- what comes after p and begins with the letter a goes through an inner follower of p that holds a
pub after_cons : (k : ℕ) (e : Expr) (p a : ℕ) (v : List ℕ) → After k e p (a ∷ v) ↔ Via k e (Inner k e p) a v
after_cons k never p a v = neither (λ h. h) (λ h. h.1)
after_cons k empty p a v = neither (λ h. h) (λ h. h.1)
after_cons k (leaf s) p a v = neither (λ h. cons-nil h.1) (λ h. h.1)
after_cons k (seq e f) p a v =
    either
    (Cut-cons (After k e p) (Session f) a v
    ⇄ either
    (Cut_iff (λ u. After k e p (a ∷ u)) (Session f) (Via k e (Inner k e p) a) (Session f)
    (λ u. after_cons k e p a u) (λ u. same) v)
    (both (after_nil k e p) (Session-cons (k + leaves e) f a v)
    ⇄ Via-and (k + leaves e) f a v (Last k e p) (First (k + leaves e) f)))
    (after_cons (k + leaves e) f p a v)
    ⇄ regroup
    ⇄ either same (Via-or (k + leaves e) f a v (λ q. Last k e p × First (k + leaves e) f q) (Inner (k + leaves e) f p))
    ⇄ seq-Via k e f a v (Inner k e p) (λ q. (Last k e p × First (k + leaves e) f q) ⊎ Inner (k + leaves e) f p q)
    (λ q h. (inner_within k e p q h).1) second
    ⇄ Via_iff k (seq e f) a v (λ q. Inner k e p q ⊎ ((Last k e p × First (k + leaves e) f q) ⊎ Inner (k + leaves e) f p q))
    (Inner k (seq e f) p) (λ q. either same swap ⇄ back regroup)
  where
    second : (q : ℕ) → (Last k e p × First (k + leaves e) f q) ⊎ Inner (k + leaves e) f p q → Within (k + leaves e) f q
    second q (inl h) = first_within (k + leaves e) f q h.1
    second q (inr h) = (inner_within (k + leaves e) f p q h).1
after_cons k (alt e f) p a v =
    either (after_cons k e p a v) (after_cons (k + leaves e) f p a v)
    ⇄ alt-Via k e f a v (Inner k e p) (Inner (k + leaves e) f p)
    (λ q h. (inner_within k e p q h).1) (λ q h. (inner_within (k + leaves e) f p q h).1)
after_cons k (star e) p a v =
    Cut-cons (After k e p) (Session (star e)) a v
    ⇄ either
    (Cut_iff (λ u. After k e p (a ∷ u)) (Session (star e)) (Via k e (Inner k e p) a) (Session (star e))
    (λ u. after_cons k e p a u) (λ u. same) v
    ⇄ star-Via k e a v (Inner k e p))
    (both (after_nil k e p) (Session-cons k (star e) a v)
    ⇄ Via-and k (star e) a v (Last k e p) (First k e))
    ⇄ Via-or k (star e) a v (Inner k e p) (λ q. Last k e p × First k e q)
