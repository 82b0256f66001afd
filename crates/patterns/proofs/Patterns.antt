-- The tables of a pattern: how a finished draft gives them, and what they tell.
use Rattle.std.proofs.Common.{◌≡◌, ℕ, zero, suc, ◌+◌, ◌-◌, ◌^◌, ◌<◌, ◌≤◌, Bool, true, false, cond, not, eqb, List, [], ◌∷◌, ◌++◌, length, get_or, set, vec_items, vec_len, Decides, Vec, sym, refl, ap, ◌∙◌, subst, ap₂, add-zero, add-suc, add-one, arith, rules}
use Rattle.bitsets.specs.Sets.{has}
use Rattle.bitsets.specs.declared.SmallSet.{SmallSet}
use Rattle.expressions.proofs.Derivatives.{derives_iff}
use Rattle.expressions.proofs.Tables.{taken_takes, Decides_ends}
use Rattle.expressions.proofs.Theorem.{places_know_sessions_lem}
use Rattle.expressions.specs.Expr.{Expr, derives}
use Rattle.expressions.specs.Places.{Takes, Ends, Leads}
use Rattle.expressions.specs.Sessions.{Session}
use Rattle.expressions.specs.Tables.{firsts, inner, followers, holders, endings, united}
use Rattle.patterns.proofs.Drafts.{length-laid}
use Rattle.patterns.proofs.Grows.{at_past}
use Rattle.patterns.specs.Drafts.{part, laid, Tabled, Drafted}
use Rattle.patterns.specs.Nodes.{top, standing, expression}
use Rattle.patterns.specs.Tables.{at}
use Rattle.patterns.specs.declared.node.Node.{Node}
use Rattle.patterns.specs.declared.stack.Part.{Part}
use Rattle.patterns.specs.declared.stack.Stack.{Stack}
use Rattle.std.proofs.lemmas.List.{get_or_read}
use Rattle.std.proofs.lemmas.Bool.Decides.{Decides-at, Decides-like, Decides-eqb, same_from_decides}
use Rattle.std.specs.declared.alloc.Global.{Global}
use lib.Bits.{bit_and, bit_or, or_zero_r, and_zero_r}

-- a union over the members of a set, one number at a time
module _ (f : ℕ → ℕ) (s : ℕ) where
  pub united_take : (p x y : ℕ) → has s p ≡ true → y ≡ f p → x ≡ bit_or (united f s p) y → x ≡ united f s (p + 1)
  united_take p x y held is e =
      e ∙ ap (bit_or (united f s p)) (is ∙ ap (λ b. cond b (f p) 0) (sym held)) ∙ sym (ap (united f s) (add-one p))

  pub united_pass : (p x : ℕ) → has s p ≡ false → x ≡ united f s p → x ≡ united f s (p + 1)
  united_pass p x lacking e =
      e ∙ sym (or_zero_r (united f s p)) ∙ ap (λ b. bit_or (united f s p) (cond b (f p) 0)) (sym lacking) ∙ sym (ap (united f s) (add-one p))

  none : (b : Bool) (x : ℕ) → x ≡ 0 → cond b x 0 ≡ 0
  none true x e = e
  none false x e = refl

  past : (n : ℕ) → ((p : ℕ) → n ≤ p → f p ≡ 0) → (k : ℕ) → united f s (n + k) ≡ united f s n
  past n far zero = ap (united f s) (add-zero n)
  past n far (suc k) =
      ap (united f s) (add-suc n k)
      ∙ ap (bit_or (united f s (n + k))) (none (has s (n + k)) (f (n + k)) (far (n + k) (omega arith)))
      ∙ or_zero_r (united f s (n + k)) ∙ past n far k

  -- where f has nothing from n on
  pub united_past : (n m : ℕ) → n ≤ m → ((p : ℕ) → n ≤ p → f p ≡ 0) → united f s m ≡ united f s n
  united_past n m h far =
      let whole : m ≡ n + (m - n) = omega arith in
      ap (united f s) whole ∙ past n far (m - n)

-- the answer of `take`, from the tables v of followers and w of the places that hold a letter
module _ (e : Expr) (v w : Vec SmallSet Global) (s a : ℕ) (small : s < 2 ^ 64) (room : vec_len v ≤ 64)
    (follows : (p : ℕ) → at (vec_items v) p ≡ followers e p) (holds : (b : ℕ) → at (vec_items w) b ≡ holders 0 e b) where
  pub takes_so : (r x h : ℕ) → x ≡ united (followers e) s (vec_len v) → h ≡ at (vec_items w) a → r ≡ bit_and x h → Takes e s a r
  takes_so r x h is_united is_holders is =
      let all = united_past (followers e) s (vec_len v) 64 room (λ p far. sym (follows p) ∙ at_past v p far) in
      subst (λ t. Takes e s a t) (sym (is ∙ ap₂ bit_and (is_united ∙ sym all) (is_holders ∙ holds a))) (taken_takes e s a small)

  pub takes_none : (r : ℕ) → vec_len w ≤ a → r ≡ 0 → Takes e s a r
  takes_none r far is =
      let x = united (followers e) s (vec_len v) in
      takes_so r x 0 refl (sym (at_past w a far)) (is ∙ sym (and_zero_r x))

-- the answer of `ends`
module _ (e : Expr) (s m : ℕ) (r : Bool) (meets : m ≡ bit_and s (endings e)) (told : Decides r (m ≡ 0)) where
  pub ends_so : Decides (not r) (Ends e s)
  ends_so =
      Decides-at (not r) (not (eqb (bit_and s (endings e)) 0))
      (ap not (same_from_decides r (eqb m 0) told (Decides-eqb m 0)) ∙ ap (λ x. not (eqb x 0)) meets) (Decides_ends e s)

  pub ends_Session : (w v : List ℕ) (t : ℕ) → Leads e 1 w t → Leads e t v s → Decides (not r) (Session (derives w e) v)
  ends_Session w v t to_t to_s =
      let both = places_know_sessions_lem e w v t s to_t to_s in
      Decides-like (not r) both.0 both.1 ends_so

  pub ends_whole : (w v : List ℕ) (t : ℕ) → Leads e 1 w t → Leads e t v s → Decides (not r) (Session e (w ++ v))
  ends_whole w v t to_t to_s =
      let both = derives_iff e w v in
      Decides-like (not r) both.0 both.1 (ends_Session w v t to_t to_s)

-- one part is laid where one pattern stands
pub one_laid : (es : List Expr) (x z : Part) → length (laid es) ≡ 1 → x ≡ get_or (laid es) 0 z
    → (e : Expr) × (es ≡ e ∷ []) × (x ≡ part 0 e)
one_laid [] x z h is = absurd (omega arith)
one_laid (e ∷ []) x z h is = (e, refl, is)
one_laid (e ∷ (f ∷ es)) x z h is = absurd (omega (arith, length-laid (e ∷ (f ∷ es))))

-- the start is followed by the first places
first_row : (e : Expr) (xs : List SmallSet) (x : SmallSet) → 0 < length xs → ((p : ℕ) → at xs p ≡ inner 0 e p)
    → x.bits ≡ bit_or (firsts 0 e) (at xs 0) → (p : ℕ) → at (set xs 0 x) p ≡ followers e p
first_row e [] x h follows is p = absurd (omega arith)
first_row e (y ∷ xs) x h follows is zero = is ∙ ap (bit_or (firsts 0 e)) (follows 0)
first_row e (y ∷ xs) x h follows is (suc p) =
    follows (suc p) ∙ ap (λ b. bit_or (cond b (firsts 0 e) 0) (inner 0 e (suc p))) (sym (later p))
  where
    later : (k : ℕ) → eqb (suc k) 0 ≡ false
    later k = search rules

-- what the tables of a finished draft say
module _ (nodes : List Node) (d : Stack) (t : Drafted nodes d) (whole z : Part) (one : length (vec_items d.parts) ≡ 1) (is_whole : whole ≡ get_or (vec_items d.parts) 0 z) where
  abbrev e : Expr
  e = expression nodes

  stands : (standing nodes ≡ e ∷ []) × (whole ≡ part 0 e)
  stands =
      let got = one_laid (standing nodes) whole z (ap length (sym t.parts) ∙ one) (is_whole ∙ ap (λ xs. get_or xs 0 z) t.parts) in
      let is-e : got.0 ≡ e = ap top (sym got.1) in
      (got.1 ∙ ap (λ x. x ∷ []) is-e, got.2 ∙ ap (part 0) is-e)

  tabled : Tabled (e ∷ []) d
  tabled = subst (λ es. Tabled es d) stands.0 t.tabled

  pub one_stands_so : length (standing nodes) ≡ 1
  one_stands_so = ap length stands.0

  pub room_so : vec_len d.followers ≤ 64
  room_so = omega (arith, t.tabled.places, t.tabled.few)

  pub some_so : 0 < vec_len d.followers
  some_so = omega (arith, t.tabled.places)

  pub follows_so : (x old : SmallSet) → old ≡ get_or (vec_items d.followers) 0 old → x.bits ≡ bit_or whole.first.bits old.bits
      → (p : ℕ) → at (set (vec_items d.followers) 0 x) p ≡ followers e p
  follows_so x old is_old is =
      let some : 0 < length (vec_items d.followers) = omega (arith, some_so, d.followers.ok.0) in
      first_row e (vec_items d.followers) x some tabled.follows
      (is ∙ ap₂ (λ (w : Part) (o : SmallSet). bit_or w.first.bits o.bits) stands.1 (get_or_read (vec_items d.followers) 0 old some is_old (record { bits = 0 })))

  pub holds_so : (a : ℕ) → at (vec_items d.holders) a ≡ holders 0 e a
  holds_so a = tabled.holds a

  pub ends_are : (x y : SmallSet) → y.bits ≡ cond whole.nullable 1 0 → x.bits ≡ bit_or whole.last.bits y.bits → x.bits ≡ endings e
  ends_are x y is_y is =
      is ∙ ap (bit_or whole.last.bits) is_y ∙ ap (λ (w : Part). bit_or w.last.bits (cond w.nullable 1 0)) stands.1
