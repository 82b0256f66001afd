-- From the steps of reading to what is said of the whole text.
use Rattle.std.proofs.Common.{◌≡◌, ℕ, ◌+◌, ◌-◌, ◌^◌, ◌<◌, ◌≤◌, List, [], ◌∷◌, ◌++◌, length, get_or, take, Ok, Err, Result, sym, refl, ap, ◌∙◌, subst, inl, inr, arith}
use Rattle.alphabets.specs.Meaning.{Meaning, Sound}
use Rattle.expressions.specs.Expr.{Expr}
use Rattle.expressions.specs.Sessions.{Session}
use Rattle.notation.proofs.Notation.{written_unique}
use Rattle.notation.specs.Notation.{header_bytes, entry_bytes, lines}
use Rattle.notation.specs.declared.kinds.Kind.{Kind}
use Rattle.notation.specs.declared.kinds.Kind.TheVariants as kind
use Rattle.patterns.proofs.Standing.{pushes_more}
use Rattle.patterns.specs.Nodes.{push, standing, takes, expression}
use Rattle.patterns.specs.Patterns.{nodes_of, expr_of, Finished}
use Rattle.patterns.specs.Reading.{RefusesText, Accepts, Comes, Parses}
use Rattle.patterns.specs.Reads.{Lines, WrongLine, WrongNext, line_of}
use Rattle.patterns.specs.Texts.{node_of, nodes, Lawful, IsText, TextSession, Begins}
use Rattle.patterns.specs.declared.node.Node.{Node}
use Rattle.patterns.specs.declared.node.Node.TheVariants.{Never, Empty, Leaf, Seq, Alt, Star}
use Rattle.patterns.specs.declared.pattern.Pattern.{Pattern}
use Rattle.patterns.specs.declared.refusal.Fault.{Fault}
use Rattle.patterns.specs.declared.refusal.PatternRefusal.{PatternRefusal}
use Rattle.patterns.specs.declared.refusal.PatternRefusal.TheVariants as refusal
use Rattle.std.proofs.lemmas.List.{append-nil, take_all, take_more, map_push}
use Rattle.std.proofs.lemmas.Result.{err_from_is_err_and}
use Rattle.std.specs.Result.{MatchResult, IsErrAnd}

-- a node that finds what it takes stands afterwards
push_some : (x : Node) (es : List Expr) → takes x ≤ length es → 1 ≤ length (push x es)
push_some Never es h = omega arith
push_some Empty es h = omega arith
push_some (Leaf s) es h = omega arith
push_some Seq [] h = absurd (omega arith)
push_some Seq (f ∷ []) h = absurd (omega arith)
push_some Seq (f ∷ (e ∷ es)) h = omega arith
push_some Alt [] h = absurd (omega arith)
push_some Alt (f ∷ []) h = absurd (omega arith)
push_some Alt (f ∷ (e ∷ es)) h = omega arith
push_some Star [] h = absurd (omega arith)
push_some Star (e ∷ es) h = omega arith

-- so some pattern stands after lawful lines
pub some_stand : (m : Meaning) (ls : List (Kind × ℕ)) → Lawful m ls → 1 ≤ length ls → 1 ≤ length (standing (nodes m ls))
some_stand m ls lawful some =
    let k = length ls - 1 in
    let lt : k < length ls = omega arith in
    let front = take k ls in
    let last = get_or ls k (kind.Never, 0) in
    let f = λ (l : Kind × ℕ). node_of m l.0 l.1 in
    let cut : ls ≡ front ++ (last ∷ []) =
    sym (take_all (k + 1) ls (omega arith)) ∙ take_more ls k (kind.Never, 0) lt in
    let is : standing (nodes m ls) ≡ push (f last) (standing (nodes m front)) =
    ap (λ xs. standing (nodes m xs)) cut ∙ ap standing (map_push f front last) ∙ pushes_more [] (nodes m front) (f last) in
    subst (λ es. 1 ≤ length es) (sym is) (push_some (f last) (standing (nodes m front)) (lawful k lt).follows.operands)

-- the first line with the alphabet's number of letters, however it was come by
pub first_line : (text start after : List ℕ) (n k count : ℕ) → start ≡ text → start ≡ header_bytes k count ++ (10 ∷ after) → k ≡ n
    → text ≡ header_bytes n count ++ (10 ∷ after)
first_line text start after n k count is stands same = sym is ∙ stands ∙ ap (λ j. header_bytes j count ++ (10 ∷ after)) same

module _ (m : Meaning) (sound : Sound m) (text : List ℕ) (count : ℕ) (short : length text ≤ 4096) (some : 1 ≤ count) (few : count ≤ 127)
    (body : List ℕ) (whole : text ≡ header_bytes m.n count ++ (10 ∷ body)) where
  pub begins : (ls : List (Kind × ℕ)) (after : List ℕ) → Lines m body ls after → length ls ≤ count → Begins m text count ls after
  begins ls after read so_far =
      record {
        short = short;
        some = some;
        few = few;
        whole = whole ∙ ap (λ t. header_bytes m.n count ++ (10 ∷ t)) read.whole;
        coded = read.coded;
        lawful = read.lawful;
        so_far = so_far;
      }

  comes : (ls : List (Kind × ℕ)) (before after : List ℕ) (k : Kind) (c : ℕ) → Lines m body ls before → length ls < count → c < 2 ^ 32
      → before ≡ entry_bytes k c ++ (10 ∷ after) → Comes m text ls k c
  comes ls before after k c read lt small stands =
      (count, after, subst (λ t. Begins m text count ls t) stands (begins ls before read (omega arith)), lt, small)

  wrong_entry : (ls : List (Kind × ℕ)) (k : Kind) (c : ℕ) → Comes m text ls k c → (r : PatternRefusal) (line : ℕ)
      → line ≡ line_of r (length ls + 2) → WrongLine m k c (nodes m ls) r → RefusesText m text r line
  wrong_entry ls k c come refusal.TooLong line at_line wrong = absurd wrong
  wrong_entry ls k c come refusal.Header line at_line wrong = absurd wrong
  wrong_entry ls k c come refusal.Letters line at_line wrong = absurd wrong
  wrong_entry ls k c come refusal.Count line at_line wrong = absurd wrong
  wrong_entry ls k c come refusal.Line line at_line wrong = absurd wrong
  wrong_entry ls k c come refusal.Code line at_line wrong = (ls, k, c, come, wrong, at_line)
  wrong_entry ls k c come refusal.Leaves line at_line wrong = (ls, k, c, come, wrong.0, wrong.1, at_line)
  wrong_entry ls k c come refusal.Operands line at_line wrong = (ls, k, c, come, wrong.0, wrong.1, at_line)
  wrong_entry ls k c come refusal.Left line at_line wrong = absurd wrong
  wrong_entry ls k c come refusal.Memory line at_line wrong = at_line

  -- a wrong line is a refusal of the text
  pub wrong_text : (r : PatternRefusal) (line : ℕ) → WrongNext m body count r line → RefusesText m text r line
  wrong_text r line (ls, before, read, lt, at_line, inl (is, none)) =
      let refused : RefusesText m text refusal.Line (length ls + 2) =
      (count, ls, before, begins ls before read (omega arith), inl (lt, none), refl) in
      subst (λ x. RefusesText m text x line) (sym is)
      (subst (λ n. RefusesText m text refusal.Line n) (sym (at_line ∙ ap (λ x. line_of x (length ls + 2)) is)) refused)
  wrong_text r line (ls, before, read, lt, at_line, inr (k, c, after, small, stands, wrong)) =
      wrong_entry ls k c (comes ls before after k c read lt small stands) r line at_line wrong

  module _ (ls : List (Kind × ℕ)) (read : Lines m body ls []) (all : length ls ≡ count) where
    whole_begins : Begins m text (length ls) ls []
    whole_begins = subst (λ n. Begins m text n ls []) (sym all) (begins ls [] read (omega arith))

    is_text : IsText m text ls
    is_text =
        record {
          whole = whole_begins.whole ∙ ap (λ t. header_bytes m.n (length ls) ++ (10 ∷ t)) (append-nil (lines ls));
          coded = read.coded;
          few = omega arith;
        }

    pub left_over : (length (standing (nodes m ls)) ≡ 1 → ⊥) → RefusesText m text refusal.Left (count + 1)
    left_over not-one =
        let stands = some_stand m ls read.lawful (omega arith) in
        (ls, whole_begins, omega (arith, not-one), omega arith)

    pub accepted : (p : Pattern) → p.letters ≡ m.n → nodes_of p ≡ nodes m ls → length (standing (nodes m ls)) ≡ 1 → Accepts m text p
    accepted p letters nodes_are one =
        let is : expr_of p ≡ expression (nodes m ls) = ap expression nodes_are in
        record {
          entries = ls;
          begins = whole_begins;
          one_left = one;
          letters = letters;
          nodes_are = nodes_are;
          sessions = λ w. (λ s. (ls, is_text, subst (λ e. Session e w) is s), λ t. back w t);
        }
      where
        back : (w : List ℕ) → TextSession m text w → Session (expr_of p) w
        back w t =
            let n_small : m.n < 2 ^ 64 = omega (arith, sound.few) in
            let few_ls : length ls < 2 ^ 64 = omega arith in
            let few_t : length t.0 < 2 ^ 64 = omega (arith, t.1.few) in
            let same = written_unique m.n m.n t.0 ls n_small n_small few_t few_ls t.1.coded read.coded (sym t.1.whole ∙ is_text.whole) in
            subst (λ e. Session e w) (ap (λ x. expression (nodes m x)) same.1 ∙ sym (ap expression nodes_are)) t.2

    -- whatever is finished of the lines, with its refusal at the last of them
    pub closes : (xs : List Node) (n : ℕ) → xs ≡ nodes m ls → n ≡ m.n → (r : Result Pattern PatternRefusal) (s : Result Pattern Fault)
        (Q : PatternRefusal → Fault → Type 0) → Finished xs n r → MatchResult r (λ p. s ≡ Ok p) (λ e. IsErrAnd s (Q e))
        → ((e : PatternRefusal) (f : Fault) → Q e f → (f.why ≡ e) × (f.line ≡ count + 1)) → Parses m text s
    closes xs n nodes_are letters (Ok p) s Q made is tells =
        subst (λ t. Parses m text t) (sym is)
        (accepted p (made.0 ∙ letters) (made.1 ∙ nodes_are) (ap (λ ys. length (standing ys)) (sym nodes_are) ∙ made.2))
    closes xs n nodes_are letters (Err e) s Q refused is tells =
        let x = err_from_is_err_and s is in
        let told = tells e x.0 x.2 in
        subst (λ t. Parses m text t) (sym x.1)
        (subst (λ why. RefusesText m text why x.0.line) (sym (told.0 ∙ refused.0))
        (subst (λ line. RefusesText m text refusal.Left line) (sym told.1)
        (left_over (λ one. refused.1 (ap (λ ys. length (standing ys)) nodes_are ∙ one)))))
