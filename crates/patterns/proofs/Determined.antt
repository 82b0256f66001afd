-- What reading a pattern text answers is determined by the text: the first rule that applies decides.
use Rattle.std.proofs.Common.{◌≡◌, ℕ, ◌+◌, ◌^◌, ◌<◌, ◌≤◌, ◌⊎◌, List, [], ◌∷◌, ◌++◌, length, get_or, take, Some, None, Ok, Err, Option, sym, refl, ap, ◌∙◌, subst₂, inl, inr, arith}
use Rattle.alphabets.specs.Meaning.{Meaning, Sound}
use Rattle.notation.proofs.Notation.{entry_unique, header_unique}
use Rattle.notation.specs.Notation.{entry_bytes, lines, Coded}
use Rattle.notation.specs.declared.kinds.Kind.{Kind}
use Rattle.notation.specs.declared.kinds.Kind.TheVariants as kind
use Rattle.patterns.specs.Determined.{Only}
use Rattle.patterns.specs.Nodes.{standing, takes, leaf_count, one_leaf}
use Rattle.patterns.specs.Reading.{FirstLine, RefusesText, Accepts}
use Rattle.patterns.specs.Texts.{node_of, nodes, Suits, Keeps, Lawful, Begins, NoHeader, NoEntry}
use Rattle.patterns.specs.declared.node.Node.{Node}
use Rattle.patterns.specs.declared.pattern.Pattern.{Pattern}
use Rattle.patterns.specs.declared.refusal.Fault.{Fault}
use Rattle.patterns.specs.declared.refusal.PatternRefusal.{PatternRefusal}
use Rattle.patterns.specs.declared.refusal.PatternRefusal.TheVariants as refusal
use Rattle.std.proofs.lemmas.List.{append_assoc, length-append, take_at, get_or_at}

-- ---- answers
-- a refusal and its line, or None where the text is read
abbrev Answer : Type 0
Answer = Option (PatternRefusal × ℕ)

-- the reason and the line of an answer; a text that is read has here the one reason that says nothing of a text
abbrev why_in : Answer → PatternRefusal
why_in (Some x) = x.0
why_in None = refusal.Memory

abbrev line_in : Answer → ℕ
line_in (Some x) = x.1
line_in None = 0

-- at most one answer fits
abbrev One : (Answer → Type 0) → Type 0
One P = (a b : Answer) → P a → P b → a ≡ b

abbrev Is : Answer → Answer → Type 0
Is x a = a ≡ x

is_one : (x : Answer) → One (Is x)
is_one x a b e f = e ∙ sym f

-- in the case N, P says the answer; in the case Y, Q does
abbrev Fork : Type 0 → Type 0 → (Answer → Type 0) → (Answer → Type 0) → Answer → Type 0
Fork N Y P Q a = (N × P a) ⊎ (Y × Q a)

-- where the two cases exclude one another, at most one answer fits if at most one does in each
fork_one : (N Y : Type 0) (P Q : Answer → Type 0) → (N → Y → ⊥) → One P → One Q → One (Fork N Y P Q)
fork_one N Y P Q apart p q a b (inl (n, e)) (inl (n', f)) = p a b e f
fork_one N Y P Q apart p q a b (inl (n, e)) (inr (y', f)) = absurd (apart n y')
fork_one N Y P Q apart p q a b (inr (y, e)) (inl (n', f)) = absurd (apart n' y)
fork_one N Y P Q apart p q a b (inr (y, e)) (inr (y', f)) = q a b e f

-- ---- the answers of one place
-- the node x may not follow the nodes xs
abbrev Unfit : List Node → Node → ℕ → Answer → Type 0
Unfit xs x i =
    Fork (63 < one_leaf x + leaf_count xs) ((one_leaf x + leaf_count xs ≤ 63) × (length (standing xs) < takes x))
    (Is (Some (refusal.Leaves, i))) (Is (Some (refusal.Operands, i)))

-- the line with the kind k and the code c may not follow the lines ls
abbrev Wrong : Meaning → List (Kind × ℕ) → Kind → ℕ → ℕ → Answer → Type 0
Wrong m ls k c i =
    Fork (Suits m k c → ⊥) (Suits m k c) (Is (Some (refusal.Code, i))) (Unfit (nodes m ls) (node_of m k c) i)

wrong_one : (m : Meaning) (ls : List (Kind × ℕ)) (k : Kind) (c i : ℕ) → One (Wrong m ls k c i)
wrong_one m ls k c i =
    fork_one _ _ (Is (Some (refusal.Code, i))) (Unfit (nodes m ls) (node_of m k c) i) (λ no_code code. no_code code) (is_one _)
    (fork_one _ _ (Is (Some (refusal.Leaves, i))) (Is (Some (refusal.Operands, i))) (λ many few. omega arith) (is_one _) (is_one _))

-- no line follows the lines ls, or one that may not
abbrev Next : Meaning → List (Kind × ℕ) → List ℕ → ℕ → Answer → Type 0
Next m ls rest i a =
    (NoEntry rest × Is (Some (refusal.Line, i)) a)
    ⊎ ((k : Kind) × (c : ℕ) × (after : List ℕ) × (c < 2 ^ 32) × (rest ≡ entry_bytes k c ++ (10 ∷ after)) × Wrong m ls k c i a)

next_one : (m : Meaning) (ls : List (Kind × ℕ)) (rest : List ℕ) (i : ℕ) → One (Next m ls rest i)
next_one m ls rest i a b (inl (none, e)) (inl (none', f)) = e ∙ sym f
next_one m ls rest i a b (inl (none, e)) (inr (k, c, after, small, stands, f)) = absurd (none k c after small stands)
next_one m ls rest i a b (inr (k, c, after, small, stands, e)) (inl (none, f)) = absurd (none k c after small stands)
next_one m ls rest i a b (inr (k, c, after, small, stands, e)) (inr (k', c', after', small', stands', f)) =
    let u = entry_unique k k' c c' after after' (omega arith) (omega arith) (sym stands ∙ stands') in
    wrong_one m ls k' c' i a b (subst₂ (λ x y. Wrong m ls x y i a) u.0 u.1 e) f

-- all lines are lawful
abbrev Finish : Meaning → List (Kind × ℕ) → Answer → Type 0
Finish m ls =
    Fork (1 < length (standing (nodes m ls))) (length (standing (nodes m ls)) ≡ 1) (Is (Some (refusal.Left, length ls + 1))) (Is None)

-- all lines are there
abbrev Ending : Meaning → List (Kind × ℕ) → List ℕ → Answer → Type 0
Ending m ls rest = Fork (rest ≡ [] → ⊥) (rest ≡ []) (Is (Some (refusal.Line, length ls + 2))) (Finish m ls)

ending_one : (m : Meaning) (ls : List (Kind × ℕ)) (rest : List ℕ) → One (Ending m ls rest)
ending_one m ls rest =
    fork_one _ _ (Is (Some (refusal.Line, length ls + 2))) (Finish m ls) (λ more none. more none) (is_one _)
    (fork_one _ _ (Is (Some (refusal.Left, length ls + 1))) (Is None) (λ more one. omega arith) (is_one _) (is_one _))

-- no lawful line can be read after the lines ls, of `count` in all
abbrev Stop : Meaning → ℕ → List (Kind × ℕ) → List ℕ → Answer → Type 0
Stop m count ls rest = Fork (length ls < count) (length ls ≡ count) (Next m ls rest (length ls + 2)) (Ending m ls rest)

stop_one : (m : Meaning) (count : ℕ) (ls : List (Kind × ℕ)) (rest : List ℕ) → One (Stop m count ls rest)
stop_one m count ls rest =
    fork_one _ _ (Next m ls rest (length ls + 2)) (Ending m ls rest) (λ lt all. omega arith) (next_one m ls rest (length ls + 2)) (ending_one m ls rest)

-- ---- the lines that a text begins with
-- the lines ls' are ls and then more, the first of which stands at the front of rest
abbrev Longer : List (Kind × ℕ) → List ℕ → List (Kind × ℕ) → Type 0
Longer ls rest ls' =
    (l : Kind × ℕ) × (more : List (Kind × ℕ)) × (after : List ℕ) × (ls' ≡ ls ++ (l ∷ more)) × (l.1 < 2 ^ 32)
    × (rest ≡ entry_bytes l.0 l.1 ++ (10 ∷ after))

abbrev Compared : List (Kind × ℕ) → List (Kind × ℕ) → List ℕ → List ℕ → Type 0
Compared ls ls' rest rest' = ((ls ≡ ls') × (rest ≡ rest')) ⊎ (Longer ls rest ls' ⊎ Longer ls' rest' ls)

-- one line more in front of both
compared_cons : (l l' : Kind × ℕ) (ls ls' : List (Kind × ℕ)) (rest rest' : List ℕ) → l ≡ l' → Compared ls ls' rest rest'
    → Compared (l ∷ ls) (l' ∷ ls') rest rest'
compared_cons l l' ls ls' rest rest' e (inl (same, over)) = inl (λ i. e i ∷ same i, over)
compared_cons l l' ls ls' rest rest' e (inr (inl (x, more, after, is, small, stands))) =
    inr (inl (x, more, after, λ i. sym e i ∷ is i, small, stands))
compared_cons l l' ls ls' rest rest' e (inr (inr (x, more, after, is, small, stands))) =
    inr (inr (x, more, after, λ i. e i ∷ is i, small, stands))

-- of two lists of lines that a text begins with, one goes on where the other ends
compared : (ls ls' : List (Kind × ℕ)) (rest rest' : List ℕ) → Coded ls → Coded ls' → lines ls ++ rest ≡ lines ls' ++ rest'
    → Compared ls ls' rest rest'
compared [] [] rest rest' coded coded' e = inl (refl, e)
compared [] (l' ∷ ls') rest rest' coded coded' e =
    inr (inl (l', ls', lines ls' ++ rest', refl, coded'.0, e ∙ append_assoc (entry_bytes l'.0 l'.1) (10 ∷ lines ls') rest'))
compared (l ∷ ls) [] rest rest' coded coded' e =
    inr (inr (l, ls, lines ls ++ rest, refl, coded.0, sym e ∙ append_assoc (entry_bytes l.0 l.1) (10 ∷ lines ls) rest))
compared (l ∷ ls) (l' ∷ ls') rest rest' coded coded' e =
    let u =
    entry_unique l.0 l'.0 l.1 l'.1 (lines ls ++ rest) (lines ls' ++ rest') (omega (arith, coded.0)) (omega (arith, coded'.0))
    (sym (append_assoc (entry_bytes l.0 l.1) (10 ∷ lines ls) rest) ∙ e ∙ append_assoc (entry_bytes l'.0 l'.1) (10 ∷ lines ls') rest') in
    compared_cons l l' ls ls' rest rest' (λ i. (u.0 i, u.1 i)) (compared ls ls' rest rest' coded.1 coded'.1 u.2)

-- a line that keeps the rules is not wrong
not_wrong : (m : Meaning) (ls : List (Kind × ℕ)) (k : Kind) (c i : ℕ) (a : Answer) → Keeps m ls (k, c) → Wrong m ls k c i a → ⊥
not_wrong m ls k c i a keeps (inl (no_code, e)) = no_code keeps.code
not_wrong m ls k c i a keeps (inr (code, inl (many, e))) = omega (arith, keeps.follows.leaves)
not_wrong m ls k c i a keeps (inr (code, inr (short, e))) = omega (arith, keeps.follows.operands, short.1)

-- where a lawful line stands, reading does not stop
goes_on : (m : Meaning) (count : ℕ) (ls : List (Kind × ℕ)) (rest after : List ℕ) (k : Kind) (c : ℕ) (a : Answer) → Keeps m ls (k, c)
    → c < 2 ^ 32 → rest ≡ entry_bytes k c ++ (10 ∷ after) → length ls < count → Stop m count ls rest a → ⊥
goes_on m count ls rest after k c a keeps small stands lt (inl (h, inl (none, e))) = none k c after small stands
goes_on m count ls rest after k c a keeps small stands lt (inl (h, inr (k', c', after', small', stands', wrong))) =
    let u = entry_unique k' k c' c after' after (omega arith) (omega arith) (sym stands' ∙ stands) in
    not_wrong m ls k c (length ls + 2) a keeps (subst₂ (λ x y. Wrong m ls x y (length ls + 2) a) u.0 u.1 wrong)
goes_on m count ls rest after k c a keeps small stands lt (inr (all, e)) = omega arith

-- so no lawful lines go on where it stops
not_longer : (m : Meaning) (count : ℕ) (ls ls' : List (Kind × ℕ)) (rest : List ℕ) (a : Answer) → Lawful m ls' → length ls' ≤ count
    → Longer ls rest ls' → Stop m count ls rest a → ⊥
not_longer m count ls ls' rest a lawful few (l, more, after, is, small, stands) stop =
    let n = length ls in
    let long : length ls' ≡ n + length (l ∷ more) = ap length is ∙ length-append ls (l ∷ more) in
    let lt : n < length ls' = omega arith in
    let before : take n ls' ≡ ls = ap (take n) is ∙ take_at ls (l ∷ more) n refl in
    let here : get_or ls' n (kind.Never, 0) ≡ l = ap (λ xs. get_or xs n (kind.Never, 0)) is ∙ get_or_at ls l more (kind.Never, 0) n refl in
    goes_on m count ls rest after l.0 l.1 a (subst₂ (Keeps m) before here (lawful n lt)) small stands (omega arith) stop

-- ---- the answers of a text
module _ (m : Meaning) (sound : Sound m) (text : List ℕ) where
  -- the lines after a first line for `count` nodes
  abbrev Inside : ℕ → Answer → Type 0
  Inside count a = (ls : List (Kind × ℕ)) × (rest : List ℕ) × Begins m text count ls rest × Stop m count ls rest a

  inside_one : (count : ℕ) → One (Inside count)
  inside_one count a b (ls, rest, begins, stop) (ls', rest', begins', stop') =
      go (compared ls ls' rest rest' begins.coded begins'.coded same.2)
    where
      n_small : m.n < 2 ^ 64
      n_small = omega (arith, sound.few)

      few : count < 2 ^ 64
      few = omega (arith, begins.few)

      same : (m.n ≡ m.n) × (count ≡ count) × (lines ls ++ rest ≡ lines ls' ++ rest')
      same =
          header_unique m.n m.n count count (lines ls ++ rest) (lines ls' ++ rest') n_small n_small few few
          (sym begins.whole ∙ begins'.whole)

      go : Compared ls ls' rest rest' → a ≡ b
      go (inl (e, f)) = stop_one m count ls' rest' a b (subst₂ (λ xs t. Stop m count xs t a) e f stop) stop'
      go (inr (inl more)) = absurd (not_longer m count ls ls' rest a begins'.lawful begins'.so_far more stop)
      go (inr (inr more)) = absurd (not_longer m count ls' ls rest' b begins.lawful begins.so_far more stop')

  -- a first line for n letters and `count` nodes, whatever they are
  abbrev Counted : ℕ → ℕ → Answer → Type 0
  Counted n count =
      Fork (n ≡ m.n → ⊥) (n ≡ m.n) (Is (Some (refusal.Letters, 1)))
      (Fork ((1 ≤ count) × (count ≤ 127) → ⊥) ((1 ≤ count) × (count ≤ 127)) (Is (Some (refusal.Count, 1))) (Inside count))

  counted_one : (n count : ℕ) → One (Counted n count)
  counted_one n count =
      fork_one _ _ (Is (Some (refusal.Letters, 1)))
      (Fork ((1 ≤ count) × (count ≤ 127) → ⊥) ((1 ≤ count) × (count ≤ 127)) (Is (Some (refusal.Count, 1))) (Inside count))
      (λ other same. other same) (is_one _)
      (fork_one _ _ (Is (Some (refusal.Count, 1))) (Inside count) (λ out within. out within) (is_one _) (inside_one count))

  -- a text of at most 4096 bytes
  abbrev First : Answer → Type 0
  First a =
      (NoHeader text × Is (Some (refusal.Header, 1)) a) ⊎ ((n : ℕ) × (count : ℕ) × FirstLine text n count × Counted n count a)

  first_one : One First
  first_one a b (inl (none, e)) (inl (none', f)) = e ∙ sym f
  first_one a b (inl (none, e)) (inr (n, count, (rest, n_small, small, is), f)) = absurd (none n count rest n_small small is)
  first_one a b (inr (n, count, (rest, n_small, small, is), e)) (inl (none, f)) = absurd (none n count rest n_small small is)
  first_one a b (inr (n, count, (rest, n_small, small, is), e)) (inr (n', count', (rest', n_small', small', is'), f)) =
      let u = header_unique n n' count count' rest rest' n_small n_small' small small' (sym is ∙ is') in
      counted_one n' count' a b (subst₂ (λ x y. Counted x y a) u.0 u.1 e) f

  -- the answers of the whole text
  abbrev Outcome : Answer → Type 0
  Outcome = Fork (4096 < length text) (length text ≤ 4096) (Is (Some (refusal.TooLong, 0))) First

  outcome_one : One Outcome
  outcome_one = fork_one _ _ (Is (Some (refusal.TooLong, 0))) First (λ long short. omega arith) (is_one _) first_one

  -- a place after lawful lines where reading stops gives an answer of the whole text
  inside : (count : ℕ) (ls : List (Kind × ℕ)) (rest : List ℕ) (a : Answer) → Begins m text count ls rest → Stop m count ls rest a → Outcome a
  inside count ls rest a begins stop =
      let heads : FirstLine text m.n count = (lines ls ++ rest, omega (arith, sound.few), omega (arith, begins.few), begins.whole) in
      inr (begins.short, inr (m.n, count, heads, inr (refl, inr ((begins.some, begins.few), (ls, rest, begins, stop)))))

  -- a refusal of the text is one of its answers, and so is that it is read
  refused : (a : PatternRefusal) (i : ℕ) → (a ≡ refusal.Memory → ⊥) → RefusesText m text a i → Outcome (Some (a, i))
  refused refusal.TooLong i known (long, e) = inl (long, ap (λ n. Some (refusal.TooLong, n)) e)
  refused refusal.Header i known (short, none, e) = inr (short, inl (none, ap (λ n. Some (refusal.Header, n)) e))
  refused refusal.Letters i known (short, (n, count, heads, other), e) =
      inr (short, inr (n, count, heads, inl (other, ap (λ n. Some (refusal.Letters, n)) e)))
  refused refusal.Count i known (short, (count, heads, out), e) =
      inr (short, inr (m.n, count, heads, inr (refl, inl (out, ap (λ n. Some (refusal.Count, n)) e))))
  refused refusal.Line i known (count, ls, rest, begins, inl (lt, none), e) =
      inside count ls rest _ begins (inl (lt, inl (none, ap (λ n. Some (refusal.Line, n)) e)))
  refused refusal.Line i known (count, ls, rest, begins, inr (all, more), e) =
      inside count ls rest _ begins (inr (all, inl (more, ap (λ n. Some (refusal.Line, n)) e)))
  refused refusal.Code i known (ls, k, c, (count, after, begins, lt, small), no_code, e) =
      inside count ls _ _ begins (inl (lt, inr (k, c, after, small, refl, inl (no_code, ap (λ n. Some (refusal.Code, n)) e))))
  refused refusal.Leaves i known (ls, k, c, (count, after, begins, lt, small), code, many, e) =
      inside count ls _ _ begins
      (inl (lt, inr (k, c, after, small, refl, inr (code, inl (many, ap (λ n. Some (refusal.Leaves, n)) e)))))
  refused refusal.Operands i known (ls, k, c, (count, after, begins, lt, small), code, short, e) =
      inside count ls _ _ begins
      (inl (lt, inr (k, c, after, small, refl, inr (code, inr (short, ap (λ n. Some (refusal.Operands, n)) e)))))
  refused refusal.Left i known (ls, begins, more, e) =
      inside (length ls) ls [] _ begins (inr (refl, inr (refl, inl (more, ap (λ n. Some (refusal.Left, n)) e))))
  refused refusal.Memory i known e = absurd (known refl)

  read : (p : Pattern) → Accepts m text p → Outcome None
  read p accepts =
      inside (length accepts.entries) accepts.entries [] None accepts.begins (inr (refl, inr (refl, inr (accepts.one_left, refl))))

  -- a text is refused for one reason, at one line
  pub refusal_unique : (a b : PatternRefusal) (i j : ℕ) → RefusesText m text a i → RefusesText m text b j → (a ≡ refusal.Memory → ⊥)
      → (b ≡ refusal.Memory → ⊥) → (a ≡ b) × (i ≡ j)
  refusal_unique a b i j r s known known' =
      let e = outcome_one (Some (a, i)) (Some (b, j)) (refused a i known r) (refused b j known' s) in
      (ap why_in e, ap line_in e)

  -- a text that is read is refused for no reason
  pub accepted_unrefused : (p : Pattern) (a : PatternRefusal) (i : ℕ) → Accepts m text p → RefusesText m text a i
      → (a ≡ refusal.Memory → ⊥) → ⊥
  accepted_unrefused p a i accepts r known =
      known (ap why_in (outcome_one (Some (a, i)) None (refused a i known r) (read p accepts)))

  -- so no other answer fits than the one that does
  pub only_read : (p : Pattern) → Accepts m text p → Only m text (Ok tt)
  only_read p accepts why line known r = accepted_unrefused p why line accepts r known

  pub only_refused : (f : Fault) → RefusesText m text f.why f.line → Only m text (Err f)
  only_refused f r known = (
    λ why line known' s. refusal_unique why f.why line f.line s r known' known,
    λ p accepts. accepted_unrefused p f.why f.line accepts r known,
  )
