-- What one field more says of a first line and of a node's line.
use Rattle.std.proofs.Common.{◌≡◌, ℕ, ◌^◌, ◌<◌, ◌≤◌, false, List, [], ◌∷◌, ◌++◌, None, codes, decimal, Decides, sym, ap, ◌∙◌, subst, arith}
use Rattle.std.proofs.lemmas.Bool.{false≢true}
use Rattle.std.proofs.lemmas.Fmt.{decimal_injective}
use Rattle.texts.specs.Tokens.{Spelt}
use Rattle.texts.specs.declared.fields.Token.{Token}
use Rattle.texts.specs.declared.fields.Token.TheVariants.{Number}
use Rattle.notation.specs.declared.kinds.Kind.{Kind}
use Rattle.notation.specs.declared.entries.Entry.{Entry}
use Rattle.notation.specs.declared.entries.Entry.TheVariants.{Start, Named}
use Rattle.notation.specs.Notation.{kind_name, fields_of, Heads, GoesOnBy}
use Rattle.notation.specs.Fields.{NoneFirst}
use Rattle.notation.proofs.Notation.{kind_no_number, pattern_no_number}

-- ---- the first line
-- a number is not the name
pub number_no_name : (w : List ℕ) (n : ℕ) → Spelt w (Number n) → Decides false (w ≡ codes "pattern")
number_no_name w n s = (λ f. absurd (false≢true f), λ e. absurd (pattern_no_number n s.1 (sym e ∙ s.0)))

-- another number than 1 comes after the name
pub other_version : (fs rest after : List (List ℕ)) (v : ℕ) → fs ≡ codes "pattern" ∷ rest → rest ≡ decimal v ∷ after → v < 2 ^ 64 → (v ≡ 1 → ⊥) → Heads fs None
other_version fs rest after v named at small other n m sn sm e =
    let h : decimal v ≡ decimal 1 = cc in other (decimal_injective v 1 small (omega arith) h)

-- no number comes fourth
pub no_nodes : (fs rest after left : List (List ℕ)) (v l : ℕ) → fs ≡ codes "pattern" ∷ rest → rest ≡ decimal v ∷ after → v ≡ 1 → after ≡ decimal l ∷ left → NoneFirst left → Heads fs None
no_nodes fs rest after left v l named at is third none n m sn sm e = none m [] sm (cc)

-- ---- a node's line
-- no node's line begins with a number
pub number_first : (e : Entry) (t : Token) (n : ℕ) → e ≡ Start → t ≡ Number n → GoesOnBy e t None
number_first e t n at is w s k c ws small same =
    let told : Spelt w (Number n) = subst (Spelt w) is s in
    let h : kind_name k ∷ (decimal c ∷ []) ≡ w ∷ ws = same ∙ ap (λ x. fields_of x ++ (w ∷ ws)) at in
    let f : kind_name k ≡ w = cc in
    kind_no_number k n told.1 (f ∙ told.0)

-- no node's line has so large a code
pub code_large : (e : Entry) (t : Token) (k : Kind) (n : ℕ) → e ≡ Named k → t ≡ Number n → 2 ^ 32 ≤ n → GoesOnBy e t None
code_large e t k n at is large w s k' c ws small same =
    let told : Spelt w (Number n) = subst (Spelt w) is s in
    let h : kind_name k' ∷ (decimal c ∷ []) ≡ kind_name k ∷ (w ∷ ws) = same ∙ ap (λ x. fields_of x ++ (w ∷ ws)) at in
    let f : decimal c ≡ w = cc in
    let equal : c ≡ n = decimal_injective c n (omega arith) told.1 (f ∙ told.0) in
    omega arith
