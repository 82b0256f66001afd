-- The lines of a pattern text, one after the other.
use Rattle.std.proofs.Common.{◌≡◌, ℕ, ◌+◌, ◌^◌, ◌<◌, List, [], ◌∷◌, ◌++◌, length, get_or, take, None, vec_items, sym, refl, ap, ◌∙◌, subst, inl, inr, arith}
use Rattle.alphabets.proofs.Letters.{letters_below}
use Rattle.alphabets.specs.Meaning.{Meaning, Sound}
use Rattle.notation.proofs.Notation.{entry_Parts, entry_split, entry_joined, lines-push, Coded-push}
use Rattle.notation.specs.Notation.{entry_bytes, entry_fields, fields_of, lines, GoesOn}
use Rattle.notation.specs.declared.kinds.Kind.{Kind}
use Rattle.notation.specs.declared.kinds.Kind.TheVariants as kind
use Rattle.notation.specs.declared.entries.Entry.{Entry}
use Rattle.notation.specs.declared.entries.Entry.TheVariants.{Start, Named, Whole}
use Rattle.patterns.proofs.Fronts.{no_line, line_fields, line_stands}
use Rattle.patterns.specs.Drafts.{Within}
use Rattle.patterns.specs.Pushes.{Added}
use Rattle.patterns.specs.Reads.{Lines, Drawn, WrongLine, WrongNext, line_of}
use Rattle.patterns.specs.Rules.{Follows}
use Rattle.patterns.specs.Texts.{node_of, Suits, Keeps, Lawful, NoEntry}
use Rattle.patterns.specs.declared.draft.Draft.{Draft}
use Rattle.patterns.specs.declared.refusal.Fault.{Fault}
use Rattle.patterns.specs.declared.refusal.PatternRefusal.{PatternRefusal}
use Rattle.patterns.specs.declared.refusal.PatternRefusal.TheVariants as refusal
use Rattle.std.proofs.lemmas.List.{append_assoc, append-nil, length_push, take_at, take-append-le, get_or_append_left, get_or_push, map_push}
use Rattle.texts.specs.Lines.{Gave, rest, line_bytes, fields_left}
use Rattle.texts.specs.Parts.{Lacks}
use Rattle.texts.specs.declared.lines.Cursor.{Cursor}
use Rattle.texts.specs.declared.lines.Line.{Line}
use native.Mathlib.Decide.{dec_lt}

-- a line's node has only letters of the alphabet
pub within_letters : (m : Meaning) → Sound m → (k : Kind) (c : ℕ) → Within m.n (node_of m k c)
within_letters m sound kind.Never c = tt
within_letters m sound kind.Empty c = tt
within_letters m sound kind.Leaf c = letters_below m sound c
within_letters m sound kind.Seq c = tt
within_letters m sound kind.Alt c = tt
within_letters m sound kind.Star c = tt

pub no_line_no_entry : (text : List ℕ) → Lacks 10 text → NoEntry text
no_line_no_entry text none k c r small e = no_line text (entry_bytes k c) r none (entry_Parts k c r (omega arith)) e

pub no_fields_no_entry : (before after : Cursor) (l : Line) → Gave before l after
    → ((k : Kind) (c : ℕ) → c < 2 ^ 32 → fields_left l ≡ entry_fields k c → ⊥) → NoEntry (rest before)
no_fields_no_entry before after l gave none k c r small e =
    none k c small (line_fields before after l (entry_bytes k c) r gave (entry_Parts k c r (omega arith)) e ∙ entry_split k c (omega arith))

pub entry_stands : (before after : Cursor) (l : Line) (k : Kind) (c : ℕ) → Gave before l after → fields_left l ≡ entry_fields k c
    → rest before ≡ entry_bytes k c ++ (10 ∷ rest after)
entry_stands before after l k c gave e =
    line_stands before after l (entry_bytes k c) gave (entry_joined (line_bytes l) k c (sym gave.fresh ∙ e))

-- no node's line goes on as this one does
pub no_way_on : (before after : Cursor) (l now : Line) (e : Entry) (w : List ℕ) (left : List (List ℕ)) → Gave before l after
    → fields_of e ++ fields_left now ≡ fields_left l → fields_left now ≡ w ∷ left → GoesOn e w None → NoEntry (rest before)
no_way_on before after l now e w left gave so_far next none =
    no_fields_no_entry before after l gave
    (λ k c small is. none k c left small (sym is ∙ sym so_far ∙ ap (λ ws. fields_of e ++ ws) next))

-- the fields have ended too early
pub ended_early : (before after : Cursor) (l now : Line) (e : Entry) → Gave before l after
    → fields_of e ++ fields_left now ≡ fields_left l → fields_left now ≡ [] → ((k : Kind) (c : ℕ) → e ≡ Whole k c → ⊥) → NoEntry (rest before)
ended_early before after l now e gave so_far over not_whole =
    no_fields_no_entry before after l gave
    (λ k c small is. short e not_whole k c (sym (append-nil (fields_of e)) ∙ ap (λ ws. fields_of e ++ ws) (sym over) ∙ so_far ∙ is))
  where
    short : (x : Entry) → ((k : Kind) (c : ℕ) → x ≡ Whole k c → ⊥) → (k : Kind) (c : ℕ) → fields_of x ≡ entry_fields k c → ⊥
    short Start other k c is = omega (arith, ap length is)
    short (Named j) other k c is = omega (arith, ap length is)
    short (Whole j d) other k c is = other j d refl

-- the line is whole
pub whole_stands : (before after : Cursor) (l now : Line) (e : Entry) (k : Kind) (c : ℕ) → Gave before l after
    → fields_of e ++ fields_left now ≡ fields_left l → fields_left now ≡ [] → e ≡ Whole k c
    → rest before ≡ entry_bytes k c ++ (10 ∷ rest after)
whole_stands before after l now e k c gave so_far over is =
    entry_stands before after l k c gave
    (sym so_far ∙ ap (λ ws. fields_of e ++ ws) over ∙ append-nil (fields_of e) ∙ ap fields_of is)

moved : (m : Meaning) (xs ys : List (Kind × ℕ)) (l j : Kind × ℕ) → xs ≡ ys → l ≡ j → Keeps m xs l → Keeps m ys j
moved m xs ys l j e f keeps = subst (λ x. Keeps m ys x) f (subst (λ x. Keeps m x l) e keeps)

-- one lawful line more
Lawful-push : (m : Meaning) (ls : List (Kind × ℕ)) (l : Kind × ℕ) → Lawful m ls → Keeps m ls l → Lawful m (ls ++ (l ∷ []))
Lawful-push m ls l lawful keeps k h = go (dec_lt k (length ls))
  where
    go : Dec (k < length ls) → Keeps m (take k (ls ++ (l ∷ []))) (get_or (ls ++ (l ∷ [])) k (kind.Never, 0))
    go (yes lt) =
        moved m (take k ls) _ (get_or ls k (kind.Never, 0)) _ (sym (take-append-le k ls (l ∷ []) (omega arith)))
        (sym (get_or_append_left ls (l ∷ []) (kind.Never, 0) k lt)) (lawful k lt)
    go (no nlt) =
        let last : length ls ≡ k = omega (arith, nlt, length_push ls l) in
        moved m ls _ l _ (sym (take_at ls (l ∷ []) k last)) (sym (get_or_push ls l (kind.Never, 0) k last)) keeps

-- nothing is read yet
pub lines_none : (m : Meaning) (text : List ℕ) → Lines m text [] text
lines_none m text = record { whole = refl; coded = tt; lawful = λ k h. absurd (omega arith) }

-- one line more is read, and its node is in the draft
module _ (m : Meaning) (text : List ℕ) (ls : List (Kind × ℕ)) (before after : List ℕ) (k : Kind) (c : ℕ) (small : c < 2 ^ 32)
    (read : Lines m text ls before) (stands : before ≡ entry_bytes k c ++ (10 ∷ after)) where
  pub lines_more : Keeps m ls (k, c) → Lines m text (ls ++ ((k, c) ∷ [])) after
  lines_more keeps =
      record {
        whole =
            read.whole ∙ ap (λ t. lines ls ++ t) (stands ∙ sym (append_assoc (entry_bytes k c) (10 ∷ []) after))
            ∙ sym (append_assoc (lines ls) (entry_bytes k c ++ (10 ∷ [])) after)
            ∙ ap (λ t. t ++ after) (sym (lines-push ls (k, c)));
        coded = Coded-push ls k c read.coded small;
        lawful = Lawful-push m ls (k, c) read.lawful keeps;
      }

pub keeps_added : (m : Meaning) (ls : List (Kind × ℕ)) (d after : Draft) (k : Kind) (c : ℕ) → Drawn m ls d → Suits m k c
    → Added d (node_of m k c) after → Keeps m ls (k, c)
keeps_added m ls d after k c drawn suits added =
    record { code = suits; follows = subst (λ xs. Follows xs (node_of m k c)) drawn.nodes_are added.allowed }

pub drawn_more : (m : Meaning) (ls : List (Kind × ℕ)) (d after : Draft) (k : Kind) (c : ℕ) → Drawn m ls d
    → Added d (node_of m k c) after → Drawn m (ls ++ ((k, c) ∷ [])) after
drawn_more m ls d after k c drawn added =
    record {
      nodes_are =
          added.nodes ∙ ap (λ xs. xs ++ (node_of m k c ∷ [])) drawn.nodes_are
          ∙ sym (map_push (λ (l : Kind × ℕ). node_of m l.0 l.1) ls (k, c));
      letters = added.letters ∙ drawn.letters;
    }

-- the refusals of a line
module _ (m : Meaning) (text : List ℕ) (count number : ℕ) (ls : List (Kind × ℕ)) (before : List ℕ)
    (read : Lines m text ls before) (is : length ls + 2 ≡ number) (within : number < count + 2) where
  pub wrong_none : NoEntry before → WrongNext m text count refusal.Line number
  wrong_none none = (ls, before, read, omega arith, omega arith, inl (refl, none))

  pub wrong_line : (d : Draft) (k : Kind) (c : ℕ) (after : List ℕ) (r : PatternRefusal) → Drawn m ls d → c < 2 ^ 32
      → before ≡ entry_bytes k c ++ (10 ∷ after) → WrongLine m k c (vec_items d.nodes) r
      → (f : Fault) → f.why ≡ r → f.line ≡ line_of r number → WrongNext m text count f.why f.line
  wrong_line d k c after r drawn small stands wrong f why at_line =
      subst (λ x. WrongNext m text count x f.line) (sym why) (
        ls,
        before,
        read,
        omega arith,
        at_line ∙ ap (line_of r) (sym is),
        inr (k, c, after, small, stands, subst (λ xs. WrongLine m k c xs r) drawn.nodes_are wrong),
      )
