-- A number, read by a fold over the bytes of a field.
use Rattle.std.proofs.Common.{◌≡◌, ℕ, zero, suc, ◌+◌, ◌-◌, ◌*◌, ◌^◌, ◌<◌, ◌≤◌, List, [], ◌∷◌, length, Some, None, Option, Iter, Bor, sym, refl, ap, ◌∙◌, subst, arith}
use Rattle.std.specs.Fn.{Called}
use Rattle.std.specs.List.{FoldsTo}
use Rattle.std.specs.Option.{MatchOption}
use Rattle.std.specs.Iterator.{Yields}
use Rattle.std.specs.Int.{IsInRange}
use Rattle.std.proofs.lemmas.List.{nil_from_length}
use Rattle.std.proofs.iter.Yields.{fronts}
use denote.Param.Members.{Mut}
use Rattle.std.proofs.lemmas.Fmt.{digits_decimal, digits_value-decimal}
use Rattle.texts.specs.Tokens.{Grows, WellLed, Reads}
use Rattle.texts.proofs.Spellings.{read_on, read_on-le, Figures, own, reads_all}

-- r is n with the digits w after it, or none where w has a byte that is no digit or the number is too large
abbrev pub ReadsOn : ℕ → List ℕ → Option ℕ → Type 0
ReadsOn n w (Some m) = Figures w × (read_on n w ≡ m) × (m < 2 ^ 64)
ReadsOn n w None = Figures w → read_on n w < 2 ^ 64 → ⊥

figures_more : (x : ℕ) (w : List ℕ) → 48 ≤ x → x ≤ 57 → Figures w → Figures (x ∷ w)
figures_more x w low high all zero at = (low, high)
figures_more x w low high all (suc i) at = all i (omega arith)

one_more : (n x m : ℕ) (w : List ℕ) (r : Option ℕ) → Grows n x (Some m) → ReadsOn m w r → ReadsOn n (x ∷ w) r
one_more n x m w (Some k) g h = (figures_more x w g.0 g.1 h.0, rw (← g.2) h.1, h.2)
one_more n x m w None g h = λ all fits. h (λ i at. all (suc i) (omega arith)) (rw g.2 fits)

no_more : (n x : ℕ) (w : List ℕ) → Grows n x None → ReadsOn n (x ∷ w) None
no_more n x w stop all fits =
    let digit : IsInRange 48 57 x = all 0 (omega arith) in
    stop digit.0 digit.1 (omega (arith, read_on-le w (n * 10 + (x - 48))))

module _ {F : Type 0} (E : Type 0) (g : Mut F (ℕ × (Bor ℕ × Unit {0})) (Option ℕ)) (grows : (f : F) (n : ℕ) (x : Bor ℕ) (v : Option ℕ) (h : F) → Called g f (n, (x, tt)) v h → Grows n x.now v) where
  pub turns : (xs : List (Bor ℕ)) (o : Option (Bor ℕ)) (p q : F × ℕ) (s t u : Iter ℕ) (r : Option ℕ) → Yields fronts s xs t → fronts t o u
      → FoldsTo (λ p x q. (v : Option ℕ) × Called g p.0 (p.1, (x, tt)) v q.0 × (v ≡ Some q.1)) p xs q
      → MatchOption o (r ≡ Some q.1) (λ x. (v : Option ℕ) × (h : F) × (e : E) × Called g q.0 (q.1, (x, tt)) v h × (v ≡ None) × (r ≡ None))
      → p.1 < 2 ^ 64 → ReadsOn p.1 s.rest.now r
  turns [] None p q s t u r gave end folded last small =
      let empty : s.rest.now ≡ [] = nil_from_length s.rest.now (ap (λ i. length i.rest.now) gave ∙ end.0) in
      let answer : r ≡ Some p.1 = last ∙ ap (λ x. Some x.1) (sym folded) in
      rw (empty, answer) (λ i at. absurd (omega arith), refl, small)
  turns [] (Some x) p q s t u r gave end folded last small =
      let left : s.rest.now ≡ x.now ∷ u.rest.now = ap (λ i. i.rest.now) gave ∙ end in
      let stop : Grows q.1 x.now None = subst (Grows q.1 x.now) last.4 (grows q.0 q.1 x last.0 last.1 last.3) in
      rw (left, last.5, folded) (no_more q.1 x.now u.rest.now stop)
  turns (x ∷ xs) o p q s t u r gave end folded last small =
      let grown : Grows p.1 x.now (Some folded.0.1) = subst (Grows p.1 x.now) folded.1.2 (grows p.0 p.1 x folded.1.0 folded.0.0 folded.1.1) in
      rw gave.1 (one_more p.1 x.now folded.0.1 gave.0.rest.now r grown (turns xs o folded.0 q gave.0 t u r gave.2 end folded.2 last grown.3))

-- from the start of a field with a good front
pub reads_from : (w : List ℕ) (r : Option ℕ) → WellLed w → ReadsOn 0 w r → Reads w r
reads_from w (Some n) led is = reads_all w n is.0 led is.1 is.2
reads_from w None led none = λ n small same. none (subst Figures (sym same) (digits_decimal own n small)) (rw (same, digits_value-decimal own n small) small)
