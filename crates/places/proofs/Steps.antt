-- Where letters lead from a place set of a pattern.
use Rattle.std.proofs.Common.{◌≡◌, ℕ, ◌<◌, ◌≤◌, List, [], ◌∷◌, length, vec_items, sym, refl, ap, ◌∙◌, subst, inl, inr, arith}
use Rattle.bitsets.proofs.Sets.{Has-zero}
use Rattle.bitsets.specs.Sets.{Has}
use Rattle.bitsets.specs.declared.SmallSet.{SmallSet}
use Rattle.blocks.specs.Moves.{after}
use Rattle.expressions.proofs.Tables.{followers_iff, taken_takes_followed}
use Rattle.expressions.specs.Places.{Follows, Leads, Takes}
use Rattle.expressions.specs.Tables.{followers, taken}
use Rattle.patterns.specs.Patterns.{expr_of}
use Rattle.patterns.specs.declared.pattern.Pattern.{Pattern}
use Rattle.places.specs.Places.{place_moves}
use Rattle.std.proofs.lemmas.List.{get_or_past}
use Rattle.std.proofs.lemmas.Bool.{cases_lt}

module _ (p : Pattern) where
  -- nothing follows a place past the table of followers
  none_follows : (k : ℕ) → 64 ≤ k → followers (expr_of p) k ≡ 0
  none_follows k far =
      let past : length (vec_items p.successors) ≤ k = omega (arith, p.room, p.successors.ok.0) in
      sym (p.follows k) ∙ ap (λ (s : SmallSet). s.bits) (get_or_past (vec_items p.successors) k (record { bits = 0 }) past)

  followed_below : (k q : ℕ) → Follows (expr_of p) k q → k < 64
  followed_below k q h =
      elim (cases_lt k 64) [
        | inl near ↦ near
        | inr far ↦ absurd (Has-zero q (subst (λ x. Has x q) (none_follows k far) ((followers_iff (expr_of p) k q).1 h)))
      ]

  -- where a letter leads, from whatever places
  pub takes_so : (s a : ℕ) → Takes (expr_of p) s a (taken (expr_of p) s a)
  takes_so s a = taken_takes_followed (expr_of p) s a (λ k q _ h. followed_below k q h)

  -- where a word leads
  pub Leads_so : (n : ℕ) (w : List ℕ) (s : SmallSet) → Leads (expr_of p) s.bits w (after (place_moves (expr_of p) n) s w).bits
  Leads_so n [] s = refl
  Leads_so n (a ∷ w) s =
      let t = taken (expr_of p) s.bits a in
      (t, takes_so s.bits a, Leads_so n w (record { bits = t }))
