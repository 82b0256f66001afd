-- Laws of texts, pieces and tokens.
use Rattle.std.proofs.Common.{◌≤◌, ◌≡◌, ℕ, zero, suc, ◌+◌, ◌^◌, ◌<◌, true, false, cond, eqb, ◌⊎◌, ◌↔◌, List, [], ◌∷◌, ◌++◌, length, get_or, drop, Some, None, Option, Bor, decimal, sym, refl, ap, ◌∙◌, subst, ⊎_elim, arith, length-drop}
use Rattle.std.specs.List.{AllByRecursion}
use Rattle.std.specs.Int.{IsInRange}
use Rattle.std.proofs.lemmas.Bool.{cases_Bool, eqb-true, eqb-false, eq-eqb, ne_eqb, cond-true, cond-false}
use Rattle.std.proofs.lemmas.List.{drop-drop, length-append}
use Rattle.std.proofs.lemmas.Str.Parse.{not_in_digits}
use Rattle.std.proofs.lemmas.Fmt.{digits_decimal, decimal_injective}
use Rattle.texts.specs.Parts.{Lacks, Parts, split, onto, joined}
use Rattle.texts.specs.Tokens.{NoNumber, Spelt, Alike}
use Rattle.texts.specs.Lines.{rest, line_bytes, Gave, Took}
use Rattle.texts.specs.declared.lines.Cursor.{Cursor}
use Rattle.texts.specs.declared.lines.Line.{Line}
use Rattle.texts.specs.declared.fields.Token.{Token}
use Rattle.texts.specs.declared.fields.Token.TheVariants.{Word, Number}
use Rattle.texts.proofs.Spellings.{own}

-- ---- a byte that does not stand in a text
pub Lacks-nil : (c : ℕ) → Lacks c []
Lacks-nil c k h e = omega arith

pub Lacks-cons : (c x : ℕ) (xs : List ℕ) → (x ≡ c → ⊥) → Lacks c xs → Lacks c (x ∷ xs)
Lacks-cons c x xs other lacks zero h e = other e
Lacks-cons c x xs other lacks (suc k) h e = lacks k (omega arith) e

pub Lacks_first : (c x : ℕ) (xs : List ℕ) → Lacks c (x ∷ xs) → x ≡ c → ⊥
Lacks_first c x xs lacks e = lacks 0 (omega arith) e

pub Lacks_rest : (c x : ℕ) (xs : List ℕ) → Lacks c (x ∷ xs) → Lacks c xs
Lacks_rest c x xs lacks k h e = lacks (suc k) (omega arith) e

pub Lacks-append : (c : ℕ) (xs ys : List ℕ) → Lacks c xs → Lacks c ys → Lacks c (xs ++ ys)
Lacks-append c [] ys l m = m
Lacks-append c (x ∷ xs) ys l m =
    Lacks-cons c x (xs ++ ys) (Lacks_first c x xs l) (Lacks-append c xs ys (Lacks_rest c x xs l) m)

-- ---- the parts before and after the first c
same_parts : (c : ℕ) (a b a' b' : List ℕ) → a ++ (c ∷ b) ≡ a' ++ (c ∷ b') → Lacks c a → Lacks c a' → (a ≡ a') × (b ≡ b')
same_parts c [] b [] b' e l l' = (refl, cc)
same_parts c [] b (x ∷ a') b' e l l' = let h : x ≡ c = cc in absurd (Lacks_first c x a' l' h)
same_parts c (x ∷ a) b [] b' e l l' = let h : x ≡ c = cc in absurd (Lacks_first c x a l h)
same_parts c (x ∷ a) b (y ∷ a') b' e l l' =
    let h : x ≡ y = cc in
    let t : a ++ (c ∷ b) ≡ a' ++ (c ∷ b') = cc in
    let on = same_parts c a b a' b' t (Lacks_rest c x a l) (Lacks_rest c y a' l') in
    (λ i. h i ∷ on.0 i, on.1)

pub Parts_unique : (c : ℕ) (xs a b a' b' : List ℕ) → Parts c xs a b → Parts c xs a' b' → (a ≡ a') × (b ≡ b')
Parts_unique c xs a b a' b' p q = same_parts c a b a' b' (sym p.whole ∙ q.whole) p.first q.first

holds_after : (c : ℕ) (a b : List ℕ) → Lacks c (a ++ (c ∷ b)) → ⊥
holds_after c [] b lacks = Lacks_first c c b lacks refl
holds_after c (x ∷ a) b lacks = holds_after c a b (Lacks_rest c x (a ++ (c ∷ b)) lacks)

-- the part after the first c is shorter than the text: a loop over lines ends
pub Parts-length : (c : ℕ) (xs a b : List ℕ) → Parts c xs a b → length a + 1 + length b ≡ length xs
Parts-length c xs a b p = omega (arith, ap length p.whole, length-append a (c ∷ b))

pub Parts_not_Lacks : (c : ℕ) (xs a b : List ℕ) → Parts c xs a b → Lacks c xs → ⊥
Parts_not_Lacks c xs a b p lacks = holds_after c a b (subst (Lacks c) p.whole lacks)

-- ---- the pieces of a text
split_here : (c : ℕ) (a b : List ℕ) → Lacks c a → split c (a ++ (c ∷ b)) ≡ a ∷ split c b
split_here c [] b l = cond-true (eqb c c) _ _ (eq-eqb c c refl)
split_here c (x ∷ a) b l =
    cond-false (eqb x c) _ _ (ne_eqb x c (Lacks_first c x a l)) ∙ ap (onto x) (split_here c a b (Lacks_rest c x a l))

pub split_parts : (c : ℕ) (xs a b : List ℕ) → Parts c xs a b → split c xs ≡ a ∷ split c b
split_parts c xs a b p = ap (split c) p.whole ∙ split_here c a b p.first

pub split-Lacks : (c : ℕ) (xs : List ℕ) → Lacks c xs → split c xs ≡ xs ∷ []
split-Lacks c [] l = refl
split-Lacks c (x ∷ xs) l =
    cond-false (eqb x c) _ _ (ne_eqb x c (Lacks_first c x xs l)) ∙ ap (onto x) (split-Lacks c xs (Lacks_rest c x xs l))

onto_some : (x : ℕ) (ps : List (List ℕ)) → 0 < length (onto x ps)
onto_some x [] = omega arith
onto_some x (p ∷ ps) = omega arith

pub split_some : (c : ℕ) (xs : List ℕ) → 0 < length (split c xs)
split_some c [] = omega arith
split_some c (x ∷ xs) = elim (eqb x c) as (λ t. 0 < length (cond t ([] ∷ split c xs) (onto x (split c xs)))) [ true ↦ omega arith | false ↦ onto_some x (split c xs) ]

joined-nil : (c : ℕ) (ps : List (List ℕ)) → 0 < length ps → joined c ([] ∷ ps) ≡ c ∷ joined c ps
joined-nil c [] h = absurd (omega arith)
joined-nil c (p ∷ ps) h = refl

joined-onto : (c x : ℕ) (ps : List (List ℕ)) → joined c (onto x ps) ≡ x ∷ joined c ps
joined-onto c x [] = refl
joined-onto c x (p ∷ []) = refl
joined-onto c x (p ∷ q ∷ ps) = refl

-- the pieces, joined again, are the text
pub joined-split : (c : ℕ) (xs : List ℕ) → joined c (split c xs) ≡ xs
joined-split c [] = refl
joined-split c (x ∷ xs) =
    ⊎_elim
    (λ t. ap (joined c) (cond-true (eqb x c) _ _ t) ∙ joined-nil c (split c xs) (split_some c xs) ∙ (λ i. sym (eqb-true x c t) i ∷ joined-split c xs i))
    (λ f. ap (joined c) (cond-false (eqb x c) _ _ f) ∙ joined-onto c x (split c xs) ∙ ap (λ l. x ∷ l) (joined-split c xs))
    (cases_Bool (eqb x c))

-- pieces that lack c, joined, are split at their seams
pub split-joined : (c : ℕ) (ps : List (List ℕ)) → 0 < length ps → AllByRecursion (Lacks c) ps → split c (joined c ps) ≡ ps
split-joined c [] h all = absurd (omega arith)
split-joined c (p ∷ []) h all = split-Lacks c p all.0
split-joined c (p ∷ q ∷ ps) h all =
    split_here c p (joined c (q ∷ ps)) all.0 ∙ ap (λ l. p ∷ l) (split-joined c (q ∷ ps) (omega arith) all.1)

onto-Lacks : (c x : ℕ) (ps : List (List ℕ)) → (x ≡ c → ⊥) → AllByRecursion (Lacks c) ps → AllByRecursion (Lacks c) (onto x ps)
onto-Lacks c x [] other all = (Lacks-cons c x [] other (Lacks-nil c), tt)
onto-Lacks c x (p ∷ ps) other all = (Lacks-cons c x p other all.0, all.1)

-- no piece has a c
pub split_all_lack : (c : ℕ) (xs : List ℕ) → AllByRecursion (Lacks c) (split c xs)
split_all_lack c [] = (Lacks-nil c, tt)
split_all_lack c (x ∷ xs) =
    ⊎_elim
    (λ t. subst (AllByRecursion (Lacks c)) (sym (cond-true (eqb x c) ([] ∷ split c xs) (onto x (split c xs)) t)) (Lacks-nil c, split_all_lack c xs))
    (λ f. subst (AllByRecursion (Lacks c)) (sym (cond-false (eqb x c) ([] ∷ split c xs) (onto x (split c xs)) f)) (onto-Lacks c x (split c xs) (eqb-false x c f) (split_all_lack c xs)))
    (cases_Bool (eqb x c))

-- a text has just these pieces where it is they, joined, and no piece has a c
pub split_unique : (c : ℕ) (xs : List ℕ) (ps : List (List ℕ)) → 0 < length ps → (split c xs ≡ ps) ↔ ((xs ≡ joined c ps) × AllByRecursion (Lacks c) ps)
split_unique c xs ps some = (
  λ e. (sym (joined-split c xs) ∙ ap (joined c) e, subst (AllByRecursion (Lacks c)) e (split_all_lack c xs)),
  λ h. ap (split c) h.0 ∙ split-joined c ps some h.1,
)

-- the same of two and of four pieces
pub split_two : (c : ℕ) (xs a b : List ℕ) → (split c xs ≡ a ∷ (b ∷ [])) ↔ ((xs ≡ a ++ (c ∷ b)) × Lacks c a × Lacks c b)
split_two c xs a b =
    let u = split_unique c xs (a ∷ (b ∷ [])) (omega arith) in
    (λ e. let h = u.0 e in (h.0, h.1.0, h.1.1.0), λ h. u.1 (h.0, (h.1, (h.2, tt))))

pub split_four : (c : ℕ) (xs a b d e : List ℕ) → (split c xs ≡ a ∷ (b ∷ (d ∷ (e ∷ [])))) ↔ ((xs ≡ a ++ (c ∷ (b ++ (c ∷ (d ++ (c ∷ e)))))) × Lacks c a × Lacks c b × Lacks c d × Lacks c e)
split_four c xs a b d e =
    let u = split_unique c xs (a ∷ (b ∷ (d ∷ (e ∷ [])))) (omega arith) in (
      λ s. let h = u.0 s in (h.0, h.1.0, h.1.1.0, h.1.1.1.0, h.1.1.1.1.0),
      λ h. u.1 (h.0, (h.1, (h.2, (h.3, (h.4, tt))))),
    )

-- ---- spellings and tokens
pub decimal-Lacks : (n c : ℕ) → n < 2 ^ 64 → (c < 48) ⊎ (57 < c) → Lacks c (decimal n)
decimal-Lacks n c small out =
    not_in_digits own (decimal n) c (digits_decimal own n small) (λ h. ⊎_elim (λ low. omega arith) (λ high. omega arith) out)

-- a text with a byte that is no digit is no number
pub no_digit_at : (w : List ℕ) (k : ℕ) → k < length w → (IsInRange 48 57 (get_or w k 0) → ⊥) → NoNumber w
no_digit_at w k h out n small same = out (subst (λ l. IsInRange 48 57 (get_or l k 0)) (sym same) (digits_decimal own n small k (omega (arith, ap length same))))

pub Spelt_number : (n : ℕ) (t : Token) → n < 2 ^ 64 → Spelt (decimal n) t → t ≡ Number n
Spelt_number n (Number m) small s = ap Number (decimal_injective m n s.1 small (sym s.0))
Spelt_number n (Word b) small s = absurd (s.1 n small refl)

-- a field that is no number comes as a word of its bytes
abbrev pub IsWord : List ℕ → Token → Type 0
IsWord w (Number n) = ⊥
IsWord w (Word b) = b.now ≡ w

pub Spelt_word : (w : List ℕ) (t : Token) → NoNumber w → Spelt w t → IsWord w t
Spelt_word w (Number n) none s = none n s.1 s.0
Spelt_word w (Word b) none s = s.0

-- two tokens of one field agree
pub Spelt_alike : (w : List ℕ) (t u : Token) → Spelt w t → Spelt w u → Alike t u
Spelt_alike w (Number m) (Number n) s v = decimal_injective m n s.1 v.1 (sym s.0 ∙ v.0)
Spelt_alike w (Number m) (Word b) s v = v.1 m s.1 s.0
Spelt_alike w (Word a) (Number n) s v = s.1 n v.1 v.0
Spelt_alike w (Word a) (Word b) s v = s.0 ∙ sym v.0

-- ---- a cursor that gave a line has less of the text left
pub gave_shorter : {before : Cursor} {l : Line} {after : Cursor} → Gave before l after → length (line_bytes l) + 1 + length (rest after) ≡ length (rest before)
gave_shorter {before} {l} {after} g = Parts-length 10 (rest before) (line_bytes l) (rest after) g.parts

-- ---- the parts of what stands at or after an index
pub found_on : (xs w a : List ℕ) (from k : ℕ) → w ≡ drop from xs → Parts 44 w a (drop (k + 1) w) → Parts 44 (drop from xs) a (drop (from + k + 1) xs)
found_on xs w a from k is parts =
    let on : from + (k + 1) ≡ from + k + 1 = omega arith in
    subst (Parts 44 (drop from xs) a) (ap (drop (k + 1)) is ∙ drop-drop (k + 1) from xs ∙ ap (λ n. drop n xs) on) (subst (λ v. Parts 44 v a (drop (k + 1) w)) is parts)

-- ---- a line hands out a field: one before a comma, or the last
abbrev left_fields : List ℕ → Option ℕ → List (List ℕ)
left_fields bytes o = elim o [ Some k ↦ split 44 (drop k bytes) | None ↦ [] ]

pub took_front : (before after : Line) (t : Token) (a : List ℕ) (from to : ℕ) → before.at ≡ Some from → after.at ≡ Some to → after.bytes ≡ before.bytes → Parts 44 (drop from before.bytes.now) a (drop to before.bytes.now) → Spelt a t → Took before t after
took_front before after t a from to was is same parts spelt = record {
  word = a;
  split_off =
      ap (left_fields before.bytes.now) was ∙ split_parts 44 (drop from before.bytes.now) a (drop to before.bytes.now) parts
      ∙ ap (λ fs. a ∷ fs) (sym (ap (left_fields after.bytes.now) is ∙ ap (λ (b : Bor (List ℕ)). split 44 (drop to b.now)) same));
  spelt = spelt;
}

pub took_last : (before after : Line) (t : Token) (from : ℕ) → before.at ≡ Some from → after.at ≡ None → Lacks 44 (drop from before.bytes.now) → Spelt (drop from before.bytes.now) t → Took before t after
took_last before after t from was is lacks spelt = record {
  word = drop from before.bytes.now;
  split_off =
      ap (left_fields before.bytes.now) was ∙ split-Lacks 44 (drop from before.bytes.now) lacks
      ∙ ap (λ fs. drop from before.bytes.now ∷ fs) (sym (ap (left_fields after.bytes.now) is));
  spelt = spelt;
}

-- ---- a cursor past the last byte
pub drop_nil : (n : ℕ) (xs : List ℕ) → drop n xs ≡ [] → length xs ≤ n
drop_nil n xs e = omega (arith, length-drop n xs, ap length e)
