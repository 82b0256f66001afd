-- The empty session, and the derivatives by a letter and by a word.
use Rattle.std.proofs.Common.{◌≡◌, ℕ, Bool, true, false, cond, ◌&&◌, ◌||◌, ◌⊎◌, ◌↔◌, List, [], ◌∷◌, ◌++◌, sym, refl, ap, subst, inl, inr}
use mathlib.Core.Bool.{false≢true}
use Rattle.bitsets.specs.Sets.{Has, has}
use Rattle.bitsets.proofs.Iff.{◌⇄◌, back, same, both, either, neither}
use Rattle.bitsets.proofs.Sets.{Decides-Has}
use Rattle.expressions.specs.Expr.{Expr, never, empty, leaf, seq, alt, star, nullable, derive}
use Rattle.expressions.specs.Sessions.{Session}
use Rattle.expressions.specs.Laws.{DerivativeFollowsSessions}
use Rattle.expressions.proofs.Cuts.{nil-cons, cons-nil, same_head, same_tail, Cut-nil, Cut-cons, Cut_iff, star-nil, star-cons}

and_iff : (x y : Bool) → ((x && y) ≡ true) ↔ ((x ≡ true) × (y ≡ true))
and_iff true y = (λ h. (refl, h), λ h. h.1)
and_iff false y = neither false≢true (λ h. false≢true h.0)

or_iff : (x y : Bool) → ((x || y) ≡ true) ↔ ((x ≡ true) ⊎ (y ≡ true))
or_iff true y = (λ h. inl refl, λ h. refl)
or_iff false y = (λ h. inr h, elim [ inl e ↦ absurd (false≢true e) | inr e ↦ e ])

-- the empty word is a session where the expression is nullable
pub nullable_iff : (e : Expr) → (nullable e ≡ true) ↔ Session e []
nullable_iff never = neither false≢true (λ h. h)
nullable_iff empty = (λ _. refl, λ _. refl)
nullable_iff (leaf s) = neither false≢true (λ h. nil-cons h.1)
nullable_iff (seq e f) =
    and_iff (nullable e) (nullable f) ⇄ both (nullable_iff e) (nullable_iff f) ⇄ back (Cut-nil (Session e) (Session f))
nullable_iff (alt e f) = or_iff (nullable e) (nullable f) ⇄ either (nullable_iff e) (nullable_iff f)
nullable_iff (star e) = (λ _. star-nil (Session e), λ _. refl)

-- what may come after a letter
derive-leaf : (a s : ℕ) (w : List ℕ) (b : Bool) → (b ≡ true) ↔ Has s a
    → Session (cond b empty never) w ↔ Session (leaf s) (a ∷ w)
derive-leaf a s w true d = (λ e. (a, ap (λ x. a ∷ x) e, d.0 refl), λ h. same_tail h.1)
derive-leaf a s w false d =
    neither (λ h. h) (λ h. false≢true (d.1 (subst (λ x. Has s x) (sym (same_head h.1)) h.2)))

-- an expression that is there only where a test passes
cond-alt : (b : Bool) (P : Type 0) (x y : Expr) (w : List ℕ) → (b ≡ true) ↔ P
    → Session (cond b (alt x y) x) w ↔ (Session x w ⊎ (P × Session y w))
cond-alt true P x y w d = either same (λ h. (d.0 refl, h), λ h. h.1)
cond-alt false P x y w d = (λ h. inl h, elim [ inl h ↦ h | inr h ↦ absurd (false≢true (d.1 h.0)) ])

pub derive_iff : (a : ℕ) (e : Expr) (w : List ℕ) → Session (derive a e) w ↔ Session e (a ∷ w)
derive_iff a never w = same
derive_iff a empty w = neither (λ h. h) cons-nil
derive_iff a (leaf s) w = derive-leaf a s w (has s a) (Decides-Has s a)
derive_iff a (seq e f) w =
    cond-alt (nullable e) (Session e []) (seq (derive a e) f) (derive a f) w (nullable_iff e)
    ⇄ either
    (Cut_iff (Session (derive a e)) (Session f) (λ u. Session e (a ∷ u)) (Session f) (derive_iff a e) (λ v. same) w)
    (both same (derive_iff a f w))
    ⇄ back (Cut-cons (Session e) (Session f) a w)
derive_iff a (alt e f) w = either (derive_iff a e w) (derive_iff a f w)
derive_iff a (star e) w =
    Cut_iff (Session (derive a e)) (Session (star e)) (λ u. Session e (a ∷ u)) (Session (star e)) (derive_iff a e) (λ v. same) w
    ⇄ back (star-cons (Session e) a w)

-- what may come after a word
pub derives_iff : DerivativeFollowsSessions
derives_iff e [] v = same
derives_iff e (a ∷ w) v = derives_iff (derive a e) w v ⇄ derive_iff a e (w ++ v)
