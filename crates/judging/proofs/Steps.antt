-- Following the events of a trace, line by line.
use Rattle.std.proofs.Common.{◌≡◌, ℕ, zero, suc, ◌+◌, ◌<◌, ◌≤◌, ◌⊎◌, List, [], ◌∷◌, ◌++◌, length, take, Some, None, Decides, Option, sym, refl, ap, ◌∙◌, subst, inl, inr, ⊎_elim, arith}
use Rattle.alphabets.specs.Meaning.{Meaning}
use Rattle.expressions.proofs.Theorem.{Leads-append}
use Rattle.expressions.specs.Expr.{Expr}
use Rattle.expressions.specs.Places.{Takes, Leads}
use Rattle.expressions.specs.Sessions.{Session}
use Rattle.judging.specs.Following.{FollowedAt, Followed}
use Rattle.judging.specs.Judging.{but_last, full_lines, event, events_of, events, names_of, letters_in}
use Rattle.judging.specs.declared.verdict.Verdict.{Verdict}
use Rattle.std.proofs.lemmas.List.{append-nil, append_assoc, map-append, length-append, length-map, take-append-le, take_all}
use Rattle.std.specs.List.{slice_get}
use Rattle.texts.proofs.Texts.{split_parts, split-Lacks, split_some}
use Rattle.texts.specs.Parts.{Lacks, Parts, split}

-- ---- the lines and the events of a text
but_last_more : (p : List ℕ) (ps : List (List ℕ)) → 0 < length ps → but_last (p ∷ ps) ≡ p ∷ but_last ps
but_last_more p [] h = absurd (omega arith)
but_last_more p (q ∷ ps) h = refl

pub full_lines-Parts : (xs a b : List ℕ) → Parts 10 xs a b → full_lines xs ≡ a ∷ full_lines b
full_lines-Parts xs a b p = ap but_last (split_parts 10 xs a b p) ∙ but_last_more a (split 10 b) (split_some 10 b)

pub full_lines-Lacks : (xs : List ℕ) → Lacks 10 xs → full_lines xs ≡ []
full_lines-Lacks xs l = ap but_last (split-Lacks 10 xs l)

pub events-Parts : (m : Meaning) (xs a b : List ℕ) (r : Option ℕ) → Parts 10 xs a b → r ≡ m.letter a
    → events m xs ≡ event a r ++ events m b
events-Parts m xs a b r p is =
    ap (events_of m) (full_lines-Parts xs a b p) ∙ ap (λ o. event a o ++ events m b) (sym is)

pub events-Lacks : (m : Meaning) (xs : List ℕ) → Lacks 10 xs → events m xs ≡ []
events-Lacks m xs l = ap (events_of m) (full_lines-Lacks xs l)

-- ---- one more at the end of a list
nth_push : {X : Type 0} (xs : List X) (x y : X) (k : ℕ) → slice_get (xs ++ (x ∷ [])) k ≡ Some y
    → ((k < length xs) × (slice_get xs k ≡ Some y)) ⊎ ((k ≡ length xs) × (x ≡ y))
nth_push [] x y zero h = inr (refl, cc)
nth_push [] x y (suc k) h = let z : ◌≡◌ {A = ℕ} 0 1 = cc in absurd (omega arith)
nth_push (z ∷ xs) x y zero h = inl (omega arith, h)
nth_push (z ∷ xs) x y (suc k) h =
    ⊎_elim (λ l. inl (omega arith, l.1)) (λ r. inr (omega arith, r.1)) (nth_push xs x y k h)

nth_left : {X : Type 0} (xs ys : List X) (y : X) (k : ℕ) → slice_get xs k ≡ Some y → slice_get (xs ++ ys) k ≡ Some y
nth_left [] ys y k h = let z : ◌≡◌ {A = ℕ} 0 1 = cc in absurd (omega arith)
nth_left (x ∷ xs) ys y zero h = h
nth_left (x ∷ xs) ys y (suc k) h = nth_left xs ys y k h

nth_last : {X : Type 0} (xs : List X) (x : X) → slice_get (xs ++ (x ∷ [])) (length xs) ≡ Some x
nth_last [] x = refl
nth_last (y ∷ xs) x = nth_last xs x

-- ---- verdicts, one after another
pub followed_none : (e : Expr) → Followed e [] []
followed_none e =
    record { count = refl; each = λ k v h. let z : ◌≡◌ {A = ℕ} 0 1 = cc in absurd (omega arith) }

module _ (e : Expr) (es : List (List ℕ × ℕ)) (x : List ℕ × ℕ) where
  abbrev more : List (List ℕ × ℕ)
  more = es ++ (x ∷ [])

  -- an earlier event keeps its verdict
  before : (k : ℕ) (v : Verdict) → k < length es → FollowedAt e es k v → FollowedAt e more k v
  before k v h f =
      let within : k + 1 ≤ length (letters_in es) = omega (arith, length-map es (λ y. y.1)) in
      let same : take (k + 1) (letters_in es) ≡ take (k + 1) (letters_in more) =
      sym (ap (take (k + 1)) (map-append (λ y. y.1) es (x ∷ [])) ∙ take-append-le (k + 1) (letters_in es) (x.1 ∷ []) within) in
      record {
        name = subst (λ ns. slice_get ns k ≡ Some v.name.now) (sym (map-append (λ y. y.0) es (x ∷ []))) (nth_left (names_of es) (x.0 ∷ []) v.name.now k f.name);
        places = subst (λ w. Leads e 1 w v.places.bits) same f.places;
        session = subst (λ w. Decides v.session (Session e w)) same f.session;
      }

  -- the verdict after the last event
  last : (k : ℕ) (v : Verdict) → k ≡ length es → v.name.now ≡ x.0
      → Leads e 1 (letters_in more) v.places.bits → Decides v.session (Session e (letters_in more)) → FollowedAt e more k v
  last k v h named leads told =
      let all : take (k + 1) (letters_in more) ≡ letters_in more =
      take_all (k + 1) (letters_in more) (omega (arith, length-map more (λ y. y.1), length-append es (x ∷ []))) in
      let at : k ≡ length (names_of es) = h ∙ sym (length-map es (λ y. y.0)) in
      record {
        name = ap (λ ns. slice_get ns k) (map-append (λ y. y.0) es (x ∷ [])) ∙ ap (slice_get (names_of es ++ (x.0 ∷ []))) at ∙ nth_last (names_of es) x.0 ∙ ap Some (sym named);
        places = subst (λ w. Leads e 1 w v.places.bits) (sym all) leads;
        session = subst (λ w. Decides v.session (Session e w)) (sym all) told;
      }

  pub followed_push : (vs : List Verdict) (v : Verdict) → Followed e es vs → v.name.now ≡ x.0
      → Leads e 1 (letters_in more) v.places.bits → Decides v.session (Session e (letters_in more)) → Followed e more (vs ++ (v ∷ []))
  followed_push vs v f named leads told =
      record {
        count = omega (arith, f.count, length-append vs (v ∷ []), length-append es (x ∷ []));
        each = λ k u h.
            ⊎_elim
            (λ l. before k u (omega (arith, f.count, l.0)) (f.each k u l.1))
            (λ r. subst (FollowedAt e more k) r.1 (last k v (r.0 ∙ f.count) named leads told))
            (nth_push vs v u k h);
      }

-- ---- a trace, of which `rest` has yet to be read
-- the events before `rest` lead to the places, and vs are the verdicts after them
pub record SoFar (m : Meaning) (e : Expr) (trace rest : List ℕ) (places : ℕ) (vs : List Verdict) : Type 0 where
  pub done : List (List ℕ × ℕ)
  pub whole : events m trace ≡ done ++ events m rest
  pub leads : Leads e 1 (letters_in done) places
  pub followed : Followed e done vs

pub so_far_none : (m : Meaning) (e : Expr) (trace : List ℕ) → SoFar m e trace trace 1 []
so_far_none m e trace = record { done = []; whole = refl; leads = refl; followed = followed_none e }

module _ {m : Meaning} {e : Expr} {trace rest : List ℕ} {places : ℕ} {vs : List Verdict} (s : SoFar m e trace rest places vs) where
  -- the events that are still to come, where the next line is `line`
  to_come : (line rest' : List ℕ) (r : Option ℕ) → Parts 10 rest line rest' → r ≡ m.letter line
      → events m trace ≡ s.done ++ (event line r ++ events m rest')
  to_come line rest' r p is = s.whole ∙ ap (λ es. s.done ++ es) (events-Parts m rest line rest' r p is)

  -- the next line is no name
  pub so_far_pass : (line rest' name : List ℕ) → Parts 10 rest line rest' → name ≡ line → None ≡ m.letter name
      → SoFar m e trace rest' places vs
  so_far_pass line rest' name p named is =
      record {
        done = s.done;
        whole = to_come line rest' None p (is ∙ ap m.letter named);
        leads = s.leads;
        followed = s.followed;
      }

  -- the next line is the name of the letter a, and v is the verdict
  pub so_far_more : (line rest' : List ℕ) (a : ℕ) (v : Verdict) (vs' : List Verdict) → Parts 10 rest line rest' → v.name.now ≡ line
      → Some a ≡ m.letter v.name.now → Takes e places a v.places.bits
      → ((w : List ℕ) → Leads e 1 w v.places.bits → Decides v.session (Session e w))
      → vs' ≡ vs ++ (v ∷ []) → SoFar m e trace rest' v.places.bits vs'
  so_far_more line rest' a v vs' p named is takes told pushed =
      let x : List ℕ × ℕ = (line, a) in
      let word : letters_in (s.done ++ (x ∷ [])) ≡ letters_in s.done ++ (a ∷ []) = map-append (λ y. y.1) s.done (x ∷ []) in
      let led : Leads e 1 (letters_in (s.done ++ (x ∷ []))) v.places.bits =
      subst (λ w. Leads e 1 w v.places.bits) (sym word)
      (Leads-append e (letters_in s.done) (a ∷ []) 1 places v.places.bits s.leads (v.places.bits, takes, refl)) in
      record {
        done = s.done ++ (x ∷ []);
        whole = to_come line rest' (Some a) p (is ∙ ap m.letter named) ∙ sym (append_assoc s.done (x ∷ []) (events m rest'));
        leads = led;
        followed = subst (Followed e (s.done ++ (x ∷ []))) (sym pushed) (followed_push e s.done x vs v s.followed named led (told (letters_in (s.done ++ (x ∷ []))) led));
      }

  -- no line is left
  pub so_far_all : Lacks 10 rest → Followed e (events m trace) vs
  so_far_all l =
      subst (λ es. Followed e es vs) (sym (s.whole ∙ ap (λ es. s.done ++ es) (events-Lacks m rest l) ∙ append-nil s.done)) s.followed
