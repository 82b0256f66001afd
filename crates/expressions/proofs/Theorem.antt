-- Following the places letter by letter tells what may still come.
use Rattle.std.proofs.Common.{◌≡◌, ℕ, ◌⊎◌, ◌↔◌, List, [], ◌∷◌, ◌++◌, sym, refl, subst, inl, inr, arith}
use Rattle.bitsets.specs.Sets.{Has}
use Rattle.bitsets.proofs.Iff.{◌⇄◌, back, same, both, either, swap}
use Rattle.bitsets.proofs.Sets.{Has-pow}
use Rattle.expressions.specs.Expr.{Expr}
use Rattle.expressions.specs.Sessions.{Session}
use Rattle.expressions.specs.Places.{First, Inner, Holds, Follows, Ending, Takes, Ends, Leads}
use Rattle.expressions.specs.Laws.{PlacesKnowSessions}
use Rattle.expressions.proofs.Derivatives.{nullable_iff, derives_iff}
use Rattle.expressions.proofs.Ranges.{holds_within}
use Rattle.expressions.proofs.After.{After, after_within, after_nil, after_cons, Session-cons, Via-or, Via-and}

-- v may come after the place p, the start among the places
abbrev Rest : Expr → ℕ → List ℕ → Type 0
Rest e p v = After 0 e p v ⊎ ((p ≡ 0) × Session e v)

rest_nil : (e : Expr) (p : ℕ) → Rest e p [] ↔ Ending e p
rest_nil e p = either (after_nil 0 e p) (both same (back (nullable_iff e)))

-- a place that holds a letter is not the start
rest_at_leaf : (e : Expr) (q a : ℕ) (v : List ℕ) → Holds 0 e q a → Rest e q v → After 0 e q v
rest_at_leaf e q a v h (inl t) = t
rest_at_leaf e q a v h (inr z) = absurd (omega (arith, holds_within 0 e q a h))

rest_cons : (e : Expr) (p a : ℕ) (v : List ℕ)
    → Rest e p (a ∷ v) ↔ ((q : ℕ) × Follows e p q × Holds 0 e q a × Rest e q v)
rest_cons e p a v =
    either (after_cons 0 e p a v) (both same (Session-cons 0 e a v) ⇄ Via-and 0 e a v (p ≡ 0) (First 0 e))
    ⇄ swap
    ⇄ Via-or 0 e a v (λ q. (p ≡ 0) × First 0 e q) (Inner 0 e p)
    ⇄ (
      λ h. (h.0, h.1, h.2, inl h.3),
      λ h. (h.0, h.1, h.2, rest_at_leaf e h.0 a v h.2 h.3),
    )

-- v may come after one of the places of s
abbrev Open : Expr → ℕ → List ℕ → Type 0
Open e s v = (p : ℕ) × Has s p × Rest e p v

open_nil : (e : Expr) (s : ℕ) → Ends e s ↔ Open e s []
open_nil e s = (λ h. (h.0, h.1, (rest_nil e h.0).1 h.2), λ h. (h.0, h.1, (rest_nil e h.0).0 h.2))

open_cons : (e : Expr) (s a m : ℕ) (v : List ℕ) → Takes e s a m → Open e m v ↔ Open e s (a ∷ v)
open_cons e s a m v h = (to, from)
  where
    to : Open e m v → Open e s (a ∷ v)
    to o =
        let t = (h o.0).0 o.1 in
        (t.0, t.1, (rest_cons e t.0 a v).1 (o.0, t.2, t.3, o.2))

    from : Open e s (a ∷ v) → Open e m v
    from o =
        let t = (rest_cons e o.0 a v).0 o.2 in
        (t.0, (h t.0).1 (o.0, o.1, t.1, t.2), t.3)

Leads_open : (e : Expr) (v : List ℕ) (s t : ℕ) → Leads e s v t → Ends e t ↔ Open e s v
Leads_open e [] s t h = subst (λ x. Ends e x ↔ Open e s []) h (open_nil e s)
Leads_open e (a ∷ v) s t h = Leads_open e v h.0 t h.2 ⇄ open_cons e s a h.0 v h.1

-- at the start the whole session is still to come
open_start : (e : Expr) (v : List ℕ) → Open e 1 v ↔ Session e v
open_start e v = (to, λ h. (0, (Has-pow 0 0).1 refl, inr (refl, h)))
  where
    whole : (p : ℕ) → p ≡ 0 → Rest e p v → Session e v
    whole p z (inl t) = absurd (omega (arith, after_within 0 e p v t))
    whole p z (inr t) = t.1

    to : Open e 1 v → Session e v
    to o = whole o.0 ((Has-pow 0 o.0).0 o.1) o.2

-- a word that leads from the start to t: t has a place to end at exactly when the word is a session
pub places_know_whole : (e : Expr) (v : List ℕ) (t : ℕ) → Leads e 1 v t → Ends e t ↔ Session e v
places_know_whole e v t h = Leads_open e v 1 t h ⇄ open_start e v

-- one word after the other
pub Leads-append : (e : Expr) (w v : List ℕ) (r s t : ℕ) → Leads e r w s → Leads e s v t → Leads e r (w ++ v) t
Leads-append e [] v r s t h j = subst (λ x. Leads e x v t) (sym h) j
Leads-append e (a ∷ w) v r s t h j = (h.0, h.1, Leads-append e w v h.0 s t h.2 j)

pub places_know_sessions_lem : PlacesKnowSessions
places_know_sessions_lem e w v s t h j =
    places_know_whole e (w ++ v) t (Leads-append e w v 1 s t h j) ⇄ back (derives_iff e w v)
