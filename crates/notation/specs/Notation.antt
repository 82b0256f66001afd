-- The written form of patterns of bus events.
use Rattle.std.specs.Prelude.{◌≡◌, ℕ, ◌^◌, ◌<◌, List, [], ◌∷◌, ◌++◌, length, Some, None, codes, decimal, Option, ◌≢◌}
use Rattle.texts.specs.Tokens.{Spelt}
use Rattle.texts.specs.declared.fields.Token.{Token}
use Rattle.notation.specs.declared.kinds.Kind.{Kind}
use Rattle.notation.specs.declared.kinds.Kind.TheVariants.{Never, Empty, Leaf, Seq, Alt, Star}
use Rattle.notation.specs.declared.heads.Header.{Header}
use Rattle.notation.specs.declared.entries.Entry.{Entry}
use Rattle.notation.specs.declared.entries.Entry.TheVariants.{Start, Named, Whole}

-- the word that stands for a kind of node
abbrev pub kind_name : Kind → List ℕ
kind_name Never = codes "never"
kind_name Empty = codes "empty"
kind_name Leaf = codes "leaf"
kind_name Seq = codes "seq"
kind_name Alt = codes "alt"
kind_name Star = codes "star"

-- a node's line, without its newline
abbrev pub entry_bytes : Kind → ℕ → List ℕ
entry_bytes k c = kind_name k ++ (44 ∷ decimal c)

-- the first line, without its newline
abbrev pub header_bytes : ℕ → ℕ → List ℕ
header_bytes n m = codes "pattern,1," ++ (decimal n ++ (44 ∷ decimal m))

-- the lines of nodes, each with its newline
abbrev pub lines : List (Kind × ℕ) → List ℕ
lines [] = []
lines (l ∷ ls) = entry_bytes l.0 l.1 ++ (10 ∷ lines ls)

-- every code is below 2 ^ 32
abbrev pub Coded : List (Kind × ℕ) → Type 0
Coded [] = Unit {0}
Coded (l ∷ ls) = (l.1 < 2 ^ 32) × Coded ls

-- the whole text of the nodes ls over n letters
abbrev pub written : ℕ → List (Kind × ℕ) → List ℕ
written n ls = header_bytes n (length ls) ++ (10 ∷ lines ls)

-- the fields of a node's line
abbrev pub entry_fields : Kind → ℕ → List (List ℕ)
entry_fields k c = kind_name k ∷ (decimal c ∷ [])

-- the fields of the first line
abbrev pub header_fields : ℕ → ℕ → List (List ℕ)
header_fields n m = codes "pattern" ∷ (decimal 1 ∷ (decimal n ∷ (decimal m ∷ [])))

-- the fields that have been read of a node's line
abbrev pub fields_of : Entry → List (List ℕ)
fields_of Start = []
fields_of (Named k) = kind_name k ∷ []
fields_of (Whole k c) = entry_fields k c

-- the kind that the word names, or none where it names no kind
abbrev pub Names : List ℕ → Option Kind → Type 0
Names w (Some k) = w ≡ kind_name k
Names w None = (k : Kind) → w ≢ kind_name k

-- the numbers of a first line with just these fields, or none where it is no first line
abbrev pub Heads : List (List ℕ) → Option Header → Type 0
Heads fs (Some h) = fs ≡ header_fields h.letters h.nodes
Heads fs None = (n m : ℕ) → n < 2 ^ 64 → m < 2 ^ 64 → fs ≢ header_fields n m

-- the entry e with the field w more, or none where no node's line goes on from e with w
abbrev pub GoesOn : Entry → List ℕ → Option Entry → Type 0
GoesOn e w (Some f) = fields_of f ≡ fields_of e ++ (w ∷ [])
GoesOn e w None = (k : Kind) (c : ℕ) (ws : List (List ℕ)) → c < 2 ^ 32 → entry_fields k c ≢ fields_of e ++ (w ∷ ws)

-- the same of the field that came as a token, whatever its bytes are
abbrev pub GoesOnBy : Entry → Token → Option Entry → Type 0
GoesOnBy e t r = (w : List ℕ) → Spelt w t → GoesOn e w r
