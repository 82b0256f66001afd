-- Laws of the lines of a written pattern.
use Rattle.std.proofs.Common.{◌≡◌, ℕ, ◌^◌, ◌<◌, Bool, true, cond, ◌&&◌, eqb, leb, List, [], ◌∷◌, ◌++◌, length, get_or, codes, decimal, sym, refl, ap, ◌∙◌, inl, arith}
use Rattle.std.proofs.lemmas.List.{append_assoc, length-append}
use Rattle.std.proofs.lemmas.Bool.{and_parts, leb-true}
use Rattle.std.proofs.lemmas.Fmt.{decimal_digit, decimal_injective}
use Rattle.texts.specs.Parts.{Lacks, Parts, split}
use Rattle.texts.specs.Tokens.{NoNumber}
use Rattle.texts.proofs.Texts.{Lacks-nil, Lacks-cons, Lacks-append, Parts_unique, split_two, split_four, decimal-Lacks, no_digit_at}
use Rattle.notation.specs.declared.kinds.Kind.{Kind}
use Rattle.notation.specs.declared.kinds.Kind.TheVariants.{Never, Empty, Leaf, Seq, Alt, Star}
use Rattle.notation.specs.Notation.{kind_name, entry_bytes, header_bytes, entry_fields, header_fields, lines, Coded, written}

-- ---- the words
-- each byte is at least 97, as a small letter is
abbrev lettered : List ℕ → Bool
lettered [] = true
lettered (x ∷ xs) = leb 97 x && lettered xs

letters_lack : (c : ℕ) (xs : List ℕ) → c < 97 → lettered xs ≡ true → Lacks c xs
letters_lack c [] low t = Lacks-nil c
letters_lack c (x ∷ xs) low t =
    let both = and_parts (leb 97 x) (lettered xs) t in
    Lacks-cons c x xs (λ e. omega (arith, leb-true 97 x both.0)) (letters_lack c xs low both.1)

kind_lettered : (k : Kind) → lettered (kind_name k) ≡ true
kind_lettered Never = refl
kind_lettered Empty = refl
kind_lettered Leaf = refl
kind_lettered Seq = refl
kind_lettered Alt = refl
kind_lettered Star = refl

pub kind_Lacks : (k : Kind) (c : ℕ) → c < 97 → Lacks c (kind_name k)
kind_Lacks k c low = letters_lack c (kind_name k) low (kind_lettered k)

pub pattern_Lacks : (c : ℕ) → c < 97 → Lacks c (codes "pattern")
pattern_Lacks c low = letters_lack c (codes "pattern") low refl

-- no kind's word is a number
pub kind_no_number : (k : Kind) → NoNumber (kind_name k)
kind_no_number Never = no_digit_at (codes "never") 0 (omega arith) (λ h. omega arith)
kind_no_number Empty = no_digit_at (codes "empty") 0 (omega arith) (λ h. omega arith)
kind_no_number Leaf = no_digit_at (codes "leaf") 0 (omega arith) (λ h. omega arith)
kind_no_number Seq = no_digit_at (codes "seq") 0 (omega arith) (λ h. omega arith)
kind_no_number Alt = no_digit_at (codes "alt") 0 (omega arith) (λ h. omega arith)
kind_no_number Star = no_digit_at (codes "star") 0 (omega arith) (λ h. omega arith)

pub pattern_no_number : NoNumber (codes "pattern")
pattern_no_number = no_digit_at (codes "pattern") 0 (omega arith) (λ h. omega arith)

-- the kind, from the first two bytes of its word
abbrev kind_by : ℕ → ℕ → Kind
kind_by a b =
    cond (eqb a 110) Never (cond (eqb a 101) Empty (cond (eqb a 108) Leaf (cond (eqb a 97) Alt (cond (eqb b 101) Seq Star))))

abbrev kind_of : List ℕ → Kind
kind_of w = kind_by (get_or w 0 0) (get_or w 1 0)

kind_of_name : (k : Kind) → kind_of (kind_name k) ≡ k
kind_of_name Never = refl
kind_of_name Empty = refl
kind_of_name Leaf = refl
kind_of_name Seq = refl
kind_of_name Alt = refl
kind_of_name Star = refl

pub kind_unique : (k k' : Kind) → kind_name k ≡ kind_name k' → k ≡ k'
kind_unique k k' e = sym (kind_of_name k) ∙ ap kind_of e ∙ kind_of_name k'

-- ---- a line and its fields
comma_out : (n : ℕ) → n < 2 ^ 64 → Lacks 44 (decimal n)
comma_out n small = decimal-Lacks n 44 small (inl (omega arith))

newline_out : (n : ℕ) → n < 2 ^ 64 → Lacks 10 (decimal n)
newline_out n small = decimal-Lacks n 10 small (inl (omega arith))

pub entry_split : (k : Kind) (c : ℕ) → c < 2 ^ 64 → split 44 (entry_bytes k c) ≡ entry_fields k c
entry_split k c small =
    (split_two 44 (entry_bytes k c) (kind_name k) (decimal c)).1 (refl, kind_Lacks k 44 (omega arith), comma_out c small)

pub entry_joined : (xs : List ℕ) (k : Kind) (c : ℕ) → split 44 xs ≡ entry_fields k c → xs ≡ entry_bytes k c
entry_joined xs k c e = ((split_two 44 xs (kind_name k) (decimal c)).0 e).0

-- the first line, with its second field as a number
header_is : (n m : ℕ) → header_bytes n m ≡ codes "pattern" ++ (44 ∷ (decimal 1 ++ (44 ∷ (decimal n ++ (44 ∷ decimal m)))))
header_is n m =
    ap (λ d. codes "pattern" ++ (44 ∷ (d ++ (44 ∷ (decimal n ++ (44 ∷ decimal m)))))) (sym (decimal_digit 1 (omega arith)))

pub header_split : (n m : ℕ) → n < 2 ^ 64 → m < 2 ^ 64 → split 44 (header_bytes n m) ≡ header_fields n m
header_split n m sn sm =
    (split_four 44 (header_bytes n m) (codes "pattern") (decimal 1) (decimal n) (decimal m)).1
    (header_is n m, pattern_Lacks 44 (omega arith), comma_out 1 (omega arith), comma_out n sn, comma_out m sm)

pub header_joined : (xs : List ℕ) (n m : ℕ) → split 44 xs ≡ header_fields n m → xs ≡ header_bytes n m
header_joined xs n m e =
    ((split_four 44 xs (codes "pattern") (decimal 1) (decimal n) (decimal m)).0 e).0 ∙ sym (header_is n m)

-- ---- a line and its newline
-- one field more in a line
then_field : (xs ys : List ℕ) → Lacks 10 xs → Lacks 10 ys → Lacks 10 (xs ++ (44 ∷ ys))
then_field xs ys l m = Lacks-append 10 xs (44 ∷ ys) l (Lacks-cons 10 44 ys (λ e. omega arith) m)

pub entry_Lacks : (k : Kind) (c : ℕ) → c < 2 ^ 64 → Lacks 10 (entry_bytes k c)
entry_Lacks k c small = then_field (kind_name k) (decimal c) (kind_Lacks k 10 (omega arith)) (newline_out c small)

pub header_Lacks : (n m : ℕ) → n < 2 ^ 64 → m < 2 ^ 64 → Lacks 10 (header_bytes n m)
header_Lacks n m sn sm =
    then_field (codes "pattern") (49 ∷ (44 ∷ (decimal n ++ (44 ∷ decimal m)))) (pattern_Lacks 10 (omega arith))
    (Lacks-cons 10 49 (44 ∷ (decimal n ++ (44 ∷ decimal m))) (λ e. omega arith)
    (Lacks-cons 10 44 (decimal n ++ (44 ∷ decimal m)) (λ e. omega arith) (then_field (decimal n) (decimal m) (newline_out n sn) (newline_out m sm))))

pub entry_Parts : (k : Kind) (c : ℕ) (r : List ℕ) → c < 2 ^ 64 → Parts 10 (entry_bytes k c ++ (10 ∷ r)) (entry_bytes k c) r
entry_Parts k c r small = record { whole = refl; first = entry_Lacks k c small }

pub header_Parts : (n m : ℕ) (r : List ℕ) → n < 2 ^ 64 → m < 2 ^ 64 → Parts 10 (header_bytes n m ++ (10 ∷ r)) (header_bytes n m) r
header_Parts n m r sn sm = record { whole = refl; first = header_Lacks n m sn sm }

-- a text begins with one line at most
pub entry_unique : (k k' : Kind) (c c' : ℕ) (r r' : List ℕ) → c < 2 ^ 64 → c' < 2 ^ 64 → entry_bytes k c ++ (10 ∷ r) ≡ entry_bytes k' c' ++ (10 ∷ r') → (k ≡ k') × (c ≡ c') × (r ≡ r')
entry_unique k k' c c' r r' small small' e =
    let p = Parts_unique 10 (entry_bytes k c ++ (10 ∷ r)) (entry_bytes k c) r (entry_bytes k' c') r' (entry_Parts k c r small) (record { whole = e; first = entry_Lacks k' c' small' }) in
    let f : entry_fields k c ≡ entry_fields k' c' = sym (entry_split k c small) ∙ ap (split 44) p.0 ∙ entry_split k' c' small' in
    let word : kind_name k ≡ kind_name k' = cc in
    let code : decimal c ≡ decimal c' = cc in
    (kind_unique k k' word, decimal_injective c c' small small' code, p.1)

pub header_unique : (n n' m m' : ℕ) (r r' : List ℕ) → n < 2 ^ 64 → n' < 2 ^ 64 → m < 2 ^ 64 → m' < 2 ^ 64 → header_bytes n m ++ (10 ∷ r) ≡ header_bytes n' m' ++ (10 ∷ r') → (n ≡ n') × (m ≡ m') × (r ≡ r')
header_unique n n' m m' r r' sn sn' sm sm' e =
    let p = Parts_unique 10 (header_bytes n m ++ (10 ∷ r)) (header_bytes n m) r (header_bytes n' m') r' (header_Parts n m r sn sm) (record { whole = e; first = header_Lacks n' m' sn' sm' }) in
    let f : header_fields n m ≡ header_fields n' m' = sym (header_split n m sn sm) ∙ ap (split 44) p.0 ∙ header_split n' m' sn' sm' in
    let letters : decimal n ≡ decimal n' = cc in
    let nodes : decimal m ≡ decimal m' = cc in
    (decimal_injective n n' sn sn' letters, decimal_injective m m' sm sm' nodes, p.1)

-- ---- the lines of nodes
pub lines-push : (ls : List (Kind × ℕ)) (l : Kind × ℕ) → lines (ls ++ (l ∷ [])) ≡ lines ls ++ (entry_bytes l.0 l.1 ++ (10 ∷ []))
lines-push [] l = refl
lines-push (x ∷ ls) l =
    let line = entry_bytes x.0 x.1 in
    ap (λ t. line ++ (10 ∷ t)) (lines-push ls l) ∙ sym (append_assoc line (10 ∷ lines ls) (entry_bytes l.0 l.1 ++ (10 ∷ [])))

pub Coded-push : (ls : List (Kind × ℕ)) (k : Kind) (c : ℕ) → Coded ls → c < 2 ^ 32 → Coded (ls ++ ((k, c) ∷ []))
Coded-push [] k c coded small = (small, tt)
Coded-push (x ∷ ls) k c coded small = (coded.0, Coded-push ls k c coded.1 small)

lines_some : (l : Kind × ℕ) (ls : List (Kind × ℕ)) → [] ≡ lines (l ∷ ls) → ⊥
lines_some l ls e = omega (arith, ap length e, length-append (entry_bytes l.0 l.1) (10 ∷ lines ls))

pub lines_unique : (ls ls' : List (Kind × ℕ)) → Coded ls → Coded ls' → lines ls ≡ lines ls' → ls ≡ ls'
lines_unique [] [] coded coded' e = refl
lines_unique [] (l' ∷ ls') coded coded' e = absurd (lines_some l' ls' e)
lines_unique (l ∷ ls) [] coded coded' e = absurd (lines_some l ls (sym e))
lines_unique (l ∷ ls) (l' ∷ ls') coded coded' e =
    let u = entry_unique l.0 l'.0 l.1 l'.1 (lines ls) (lines ls') (omega (arith, coded.0)) (omega (arith, coded'.0)) e in
    let on = lines_unique ls ls' coded.1 coded'.1 u.2 in
    λ i. (u.0 i, u.1 i) ∷ on i

-- no two patterns are written alike
pub written_unique : (n n' : ℕ) (ls ls' : List (Kind × ℕ)) → n < 2 ^ 64 → n' < 2 ^ 64 → length ls < 2 ^ 64 → length ls' < 2 ^ 64 → Coded ls → Coded ls' → written n ls ≡ written n' ls' → (n ≡ n') × (ls ≡ ls')
written_unique n n' ls ls' sn sn' sm sm' coded coded' e =
    let u = header_unique n n' (length ls) (length ls') (lines ls) (lines ls') sn sn' sm sm' e in
    (u.0, lines_unique ls ls' coded coded' u.2)
