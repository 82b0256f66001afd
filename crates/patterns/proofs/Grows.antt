-- The tables of a draft, with one node more.
use Rattle.std.proofs.Common.{◌≡◌, ℕ, zero, suc, ◌+◌, ◌^◌, ◌<◌, ◌≤◌, Bool, true, false, cond, ◌&&◌, ◌||◌, List, [], ◌∷◌, ◌++◌, length, Some, vec_items, vec_len, Vec, sym, refl, ap, ◌∙◌, subst, ap₂, arith, pow_mono}
use Rattle.bitsets.proofs.Sets.{or_assoc, Has_past, Decides-Has}
use Rattle.bitsets.specs.Sets.{has}
use Rattle.bitsets.specs.declared.SmallSet.{SmallSet}
use Rattle.expressions.specs.Expr.{Expr, leaf, seq, alt, star, leaves}
use Rattle.expressions.specs.Tables.{firsts, lasts, inner, holders}
use Rattle.patterns.proofs.Standing.{inners_past, pushes_more, leaf_count_more, total_push}
use Rattle.patterns.specs.Drafts.{total, part, laid, inners, holding, Popped, PoppedTwo, Tabled, Drafted, Entered}
use Rattle.patterns.specs.Nodes.{push, standing, takes, one_leaf, leaf_count}
use Rattle.patterns.specs.Tables.{at}
use Rattle.patterns.specs.declared.node.Node.{Node}
use Rattle.patterns.specs.declared.node.Node.TheVariants.{Leaf, Seq, Alt, Star}
use Rattle.patterns.specs.declared.stack.Part.{Part}
use Rattle.patterns.specs.declared.stack.Stack.{Stack}
use Rattle.std.proofs.lemmas.List.{get_or_past}
use Rattle.std.specs.declared.alloc.Global.{Global}
use lib.Bits.{bit_or, or_zero_r}
use native.Mathlib.Decide.{dec_lt}

-- past a table's end there is nothing
pub at_past : (v : Vec SmallSet Global) (k : ℕ) → vec_len v ≤ k → at (vec_items v) k ≡ 0
at_past v k h = ap (λ (s : SmallSet). s.bits) (get_or_past (vec_items v) k (record { bits = 0 }) (omega (arith, v.ok.0)))

-- where the patterns that stand change and the tables' sets stay
pub retabled : (d after : Stack) (es fs : List Expr) → Tabled es d → after.followers ≡ d.followers
    → after.holders ≡ d.holders → total fs ≡ total es → ((p : ℕ) → inners es p ≡ inners fs p)
    → ((a : ℕ) → holding es a ≡ holding fs a) → Tabled fs after
retabled d after es fs t same_followers same_holders totals inner_same holding_same =
    record {
      few = omega (arith, t.few, totals);
      places = ap vec_len same_followers ∙ omega (arith, t.places, totals);
      follows = λ p. ap (λ v. at (vec_items v) p) same_followers ∙ t.follows p ∙ inner_same p;
      letters = subst (λ v. vec_len v ≤ 16) (sym same_holders) t.letters;
      holds = λ a. ap (λ v. at (vec_items v) a) same_holders ∙ t.holds a ∙ holding_same a;
    }

-- where the places of w are followed by those of m too
pub linked : (d after : Stack) (es fs : List Expr) (w m : ℕ) → Tabled es d
    → vec_len after.followers ≡ vec_len d.followers
    → ((k : ℕ) → k < vec_len d.followers → at (vec_items after.followers) k ≡ bit_or (at (vec_items d.followers) k) (cond (has w k) m 0))
    → after.holders ≡ d.holders → total fs ≡ total es → ((p : ℕ) → bit_or (inners es p) (cond (has w p) m 0) ≡ inners fs p)
    → ((a : ℕ) → holding es a ≡ holding fs a) → Tabled fs after
linked d after es fs w m t len links same_holders totals linked_so holding_same =
    record {
      few = omega (arith, t.few, totals);
      places = len ∙ omega (arith, t.places, totals);
      follows = λ p. go p (dec_lt p (vec_len d.followers));
      letters = subst (λ v. vec_len v ≤ 16) (sym same_holders) t.letters;
      holds = λ a. ap (λ v. at (vec_items v) a) same_holders ∙ t.holds a ∙ holding_same a;
    }
  where
    go : (p : ℕ) → Dec (p < vec_len d.followers) → at (vec_items after.followers) p ≡ inners fs p
    go p (yes h) = links p h ∙ ap (λ x. bit_or x (cond (has w p) m 0)) (t.follows p) ∙ linked_so p
    go p (no h) =
        let far : vec_len d.followers ≤ p = omega (arith, h) in
        at_past after.followers p (omega (arith, len)) ∙ sym (inners_past fs p (omega (arith, t.places, totals)))

at_push : (xs : List SmallSet) (x : SmallSet) (k : ℕ) → x.bits ≡ 0 → at (xs ++ (x ∷ [])) k ≡ at xs k
at_push [] x zero e = e
at_push [] x (suc k) e = refl
at_push (y ∷ xs) x zero e = refl
at_push (y ∷ xs) x (suc k) e = at_push xs x k e

-- a set of letters below n has none at or past n
none_past : (s n a m : ℕ) → s < 2 ^ n → n ≤ a → cond (has s a) m 0 ≡ 0
none_past s n a m small far = go (has s a) refl
  where
    go : (b : Bool) → has s a ≡ b → cond b m 0 ≡ 0
    go true e =
        let wide : 2 ^ n ≤ 2 ^ a = pow_mono far in
        absurd (Has_past s a (omega arith) ((Decides-Has s a).0 e))
    go false e = refl

-- a leaf with the letters s, at the next place
pub leafed : (d after : Stack) (es : List Expr) (s : ℕ) (x : SmallSet) → Tabled es d → total es < 63 → x.bits ≡ 0
    → vec_items after.followers ≡ vec_items d.followers ++ (x ∷ []) → vec_len after.followers ≡ vec_len d.followers + 1
    → vec_len after.holders ≡ vec_len d.holders → s < 2 ^ vec_len d.holders
    → ((a : ℕ) → a < vec_len d.holders → at (vec_items after.holders) a ≡ bit_or (at (vec_items d.holders) a) (cond (has s a) (2 ^ (total es + 1)) 0))
    → Tabled (leaf s ∷ es) after
leafed d after es s x t room none pushed len letters small enters =
    record {
      few = omega arith;
      places = len ∙ omega (arith, t.places);
      follows = λ p. ap (λ xs. at xs p) pushed ∙ at_push (vec_items d.followers) x p none ∙ t.follows p ∙ sym (or_zero_r (inners es p));
      letters = omega (arith, letters, t.letters);
      holds = λ a. go a (dec_lt a (vec_len d.holders));
    }
  where
    go : (a : ℕ) → Dec (a < vec_len d.holders) → at (vec_items after.holders) a ≡ holding (leaf s ∷ es) a
    go a (yes h) = enters a h ∙ ap (λ y. bit_or y (cond (has s a) (2 ^ (total es + 1)) 0)) (t.holds a)
    go a (no h) =
        let far : vec_len d.holders ≤ a = omega (arith, h) in
        at_past after.holders a (omega (arith, letters))
        ∙ sym (ap₂ bit_or (sym (t.holds a) ∙ at_past d.holders a far) (none_past s (vec_len d.holders) a (2 ^ (total es + 1)) small far))

-- what a pop of one or two parts says of the patterns that stand
pub one_stands : (es : List Expr) (a : Part) (xs : List Part) → Popped es (Some a) xs
    → (e : Expr) × (st : List Expr) × (es ≡ e ∷ st) × (a ≡ part (total st) e) × (xs ≡ laid st)
one_stands [] a xs h = absurd (let z : ◌≡◌ {A = ℕ} 0 1 = cc in omega arith)
one_stands (e ∷ st) a xs h = (e, st, refl, cc, h.1)

pub two_stand : (es : List Expr) (a b : Part) (xs : List Part) → PoppedTwo es (Some (a, b)) xs
    → (e : Expr) × (f : Expr) × (st : List Expr) × (es ≡ f ∷ (e ∷ st)) × (a ≡ part (total st) e) × (b ≡ part (total st + leaves e) f) × (xs ≡ laid st)
two_stand [] a b xs h = absurd (let z : ◌≡◌ {A = ℕ} 0 1 = cc in omega arith)
two_stand (f ∷ []) a b xs h = absurd (let z : ◌≡◌ {A = ℕ} 0 1 = cc in omega arith)
two_stand (f ∷ (e ∷ st)) a b xs h =
    let same : ◌≡◌ {A = Part × Part} (a, b) (part (total st) e, part (total st + leaves e) f) = cc in
    (e, f, st, refl, ap (λ (t : Part × Part). t.0) same, ap (λ (t : Part × Part). t.1) same, h.1)

part_is : (p q : Part) → p.first.bits ≡ q.first.bits → p.last.bits ≡ q.last.bits → p.nullable ≡ q.nullable → p ≡ q
part_is p q first last nullable_same =
    ap (λ b. let r : Part = record { first = record { bits = b }; last = p.last; nullable = p.nullable } in r) first
    ∙ ap (λ b. let r : Part = record { first = q.first; last = record { bits = b }; nullable = p.nullable } in r) last
    ∙ ap (λ b. let r : Part = record { first = q.first; last = q.last; nullable = b } in r) nullable_same

-- the new pattern, once its tables and its part are known
module _ (d after : Stack) (nodes : List Node) (drafted : Drafted nodes d) where
  grows : (x : Node) (p : Part) (e : Expr) (st : List Expr) → one_leaf x + leaf_count nodes ≤ 63
      → takes x ≤ length (standing nodes) → push x (standing nodes) ≡ e ∷ st
      → vec_items after.parts ≡ laid st → p ≡ part (total st) e → Tabled (e ∷ st) after
      → vec_len after.holders ≡ vec_len d.holders → Entered x d nodes p after
  grows x p e st room operands pushed parts made tabled letters =
      record {
        made = e;
        others = st;
        pushed = pushed;
        grown = record { parts = parts; made = made; tabled = tabled; letters = letters };
        allowed = record { leaves = room; operands = operands };
      }

  few_leaves : leaf_count nodes ≤ 63
  few_leaves = omega (arith, drafted.count, drafted.tabled.few)

  -- a pattern without places
  pub none_grows : (x : Node) (e : Expr) (p : Part) → one_leaf x ≡ 0 → takes x ≡ 0
      → push x (standing nodes) ≡ e ∷ standing nodes → leaves e ≡ 0
      → ((k q : ℕ) → inner k e q ≡ 0) → ((k a : ℕ) → holders k e a ≡ 0)
      → ((k : ℕ) → p ≡ part k e) → after.parts ≡ d.parts → after.followers ≡ d.followers → after.holders ≡ d.holders
      → Entered x d nodes p after
  none_grows x e p no_leaf no_operand pushed no_leaves no_inner no_holder made same_parts same_followers same_holders =
      let st = standing nodes in
      grows x p e st (omega (arith, few_leaves)) (omega arith) pushed (ap vec_items same_parts ∙ drafted.parts) (made (total st))
      (retabled d after st (e ∷ st) drafted.tabled same_followers same_holders (omega arith)
      (λ q. sym (or_zero_r (inners st q)) ∙ ap (bit_or (inners st q)) (sym (no_inner (total st) q)))
      (λ a. sym (or_zero_r (holding st a)) ∙ ap (bit_or (holding st a)) (sym (no_holder (total st) a))))
      (ap vec_len same_holders)

  pub leaf_grows : (s x : SmallSet) (p : Part) → vec_len d.followers ≤ 63 → after.parts ≡ d.parts → x.bits ≡ 0
      → vec_items after.followers ≡ vec_items d.followers ++ (x ∷ []) → vec_len after.followers ≡ vec_len d.followers + 1
      → vec_len after.holders ≡ vec_len d.holders → s.bits < 2 ^ vec_len d.holders
      → ((a : ℕ) → a < vec_len d.holders → at (vec_items after.holders) a ≡ bit_or (at (vec_items d.holders) a) (cond (has s.bits a) (2 ^ vec_len d.followers) 0))
      → p.first.bits ≡ 2 ^ vec_len d.followers → p.last.bits ≡ 2 ^ vec_len d.followers → p.nullable ≡ false
      → Entered (Leaf s) d nodes p after
  leaf_grows s x p room same_parts none pushed len letters small enters first last not_nullable =
      let st = standing nodes in
      let place = drafted.tabled.places in
      grows (Leaf s) p (leaf s.bits) st (omega (arith, drafted.count, place)) (omega arith) refl (ap vec_items same_parts ∙ drafted.parts)
      (part_is p (part (total st) (leaf s.bits)) (first ∙ ap (λ n. 2 ^ n) place) (last ∙ ap (λ n. 2 ^ n) place) not_nullable)
      (leafed d after st s.bits x drafted.tabled (omega arith) none pushed len letters small
      (λ a h. enters a h ∙ ap (λ n. bit_or (at (vec_items d.holders) a) (cond (has s.bits a) (2 ^ n) 0)) place))
      letters

  module _ (same_holders : after.holders ≡ d.holders) where
    pub star_grows : (a p : Part)
        → ((es : List Expr) → vec_items d.parts ≡ laid es → Popped es (Some a) (vec_items after.parts))
        → vec_len after.followers ≡ vec_len d.followers
        → ((k : ℕ) → k < vec_len d.followers → at (vec_items after.followers) k ≡ bit_or (at (vec_items d.followers) k) (cond (has a.last.bits k) a.first.bits 0))
        → p.first.bits ≡ a.first.bits → p.last.bits ≡ a.last.bits → p.nullable ≡ true → Entered Star d nodes p after
    star_grows a p popped len links first last always =
        let t = one_stands (standing nodes) a (vec_items after.parts) (popped (standing nodes) drafted.parts) in
        let e = t.0 in
        let st = t.1 in
        grows Star p (star e) st (omega (arith, few_leaves)) (subst (λ es. 1 ≤ length es) (sym t.2) (omega arith)) (ap (push Star) t.2) t.4
        (part_is p (part (total st) (star e)) (first ∙ ap (λ (x : Part). x.first.bits) t.3) (last ∙ ap (λ (x : Part). x.last.bits) t.3) always)
        (linked d after (e ∷ st) (star e ∷ st) a.last.bits a.first.bits (subst (λ es. Tabled es d) t.2 drafted.tabled) len links same_holders refl
        (λ q. or_assoc (inners st q) (inner (total st) e q) (cond (has a.last.bits q) a.first.bits 0)
        ∙ ap (λ (x : Part). bit_or (inners st q) (bit_or (inner (total st) e q) (cond (has x.last.bits q) x.first.bits 0))) t.3)
        (λ q. refl))
        (ap vec_len same_holders)

    module _ (a b p : Part)
        (popped : (es : List Expr) → vec_items d.parts ≡ laid es → PoppedTwo es (Some (a, b)) (vec_items after.parts)) where
      pub alt_grows : after.followers ≡ d.followers → p.first.bits ≡ bit_or a.first.bits b.first.bits
          → p.last.bits ≡ bit_or a.last.bits b.last.bits → p.nullable ≡ (a.nullable || b.nullable) → Entered Alt d nodes p after
      alt_grows same_followers first last nullable_is =
          let t = two_stand (standing nodes) a b (vec_items after.parts) (popped (standing nodes) drafted.parts) in
          let e = t.0 in
          let f = t.1 in
          let st = t.2 in
          grows Alt p (alt e f) st (omega (arith, few_leaves)) (subst (λ es. 2 ≤ length es) (sym t.3) (omega arith)) (ap (push Alt) t.3) t.6
          (part_is p (part (total st) (alt e f))
          (first ∙ ap₂ (λ (x y : Part). bit_or x.first.bits y.first.bits) t.4 t.5)
          (last ∙ ap₂ (λ (x y : Part). bit_or x.last.bits y.last.bits) t.4 t.5)
          (nullable_is ∙ ap₂ (λ (x y : Part). x.nullable || y.nullable) t.4 t.5))
          (retabled d after (f ∷ (e ∷ st)) (alt e f ∷ st) (subst (λ es. Tabled es d) t.3 drafted.tabled) same_followers same_holders (omega arith)
          (λ q. or_assoc (inners st q) (inner (total st) e q) (inner (total st + leaves e) f q))
          (λ q. or_assoc (holding st q) (holders (total st) e q) (holders (total st + leaves e) f q)))
          (ap vec_len same_holders)

      pub seq_grows : vec_len after.followers ≡ vec_len d.followers
          → ((k : ℕ) → k < vec_len d.followers → at (vec_items after.followers) k ≡ bit_or (at (vec_items d.followers) k) (cond (has a.last.bits k) b.first.bits 0))
          → p.first.bits ≡ bit_or a.first.bits (cond a.nullable b.first.bits 0)
          → p.last.bits ≡ bit_or (cond b.nullable a.last.bits 0) b.last.bits → p.nullable ≡ (a.nullable && b.nullable)
          → Entered Seq d nodes p after
      seq_grows len links first last nullable_is =
          let t = two_stand (standing nodes) a b (vec_items after.parts) (popped (standing nodes) drafted.parts) in
          let e = t.0 in
          let f = t.1 in
          let st = t.2 in
          grows Seq p (seq e f) st (omega (arith, few_leaves)) (subst (λ es. 2 ≤ length es) (sym t.3) (omega arith)) (ap (push Seq) t.3) t.6
          (part_is p (part (total st) (seq e f))
          (first ∙ ap₂ (λ (x y : Part). bit_or x.first.bits (cond x.nullable y.first.bits 0)) t.4 t.5)
          (last ∙ ap₂ (λ (x y : Part). bit_or (cond y.nullable x.last.bits 0) y.last.bits) t.4 t.5)
          (nullable_is ∙ ap₂ (λ (x y : Part). x.nullable && y.nullable) t.4 t.5))
          (linked d after (f ∷ (e ∷ st)) (seq e f ∷ st) a.last.bits b.first.bits (subst (λ es. Tabled es d) t.3 drafted.tabled) len links same_holders (omega arith)
          (λ q. ap₂ (λ (x y : Part). bit_or (bit_or (bit_or (inners st q) (inner (total st) e q)) (inner (total st + leaves e) f q)) (cond (has x.last.bits q) y.first.bits 0)) t.4 t.5
          ∙ ap (λ x. bit_or x (cond (has (lasts (total st) e) q) (firsts (total st + leaves e) f) 0)) (or_assoc (inners st q) (inner (total st) e q) (inner (total st + leaves e) f q))
          ∙ or_assoc (inners st q) (bit_or (inner (total st) e q) (inner (total st + leaves e) f q)) (cond (has (lasts (total st) e) q) (firsts (total st + leaves e) f) 0))
          (λ q. or_assoc (holding st q) (holders (total st) e q) (holders (total st + leaves e) f q)))
          (ap vec_len same_holders)

-- the new pattern stands with the others, and its node with the other nodes
pub added : (d mid after : Stack) (nodes : List Node) (x : Node) (p : Part) → Drafted nodes d → Entered x d nodes p mid
    → vec_items after.parts ≡ vec_items mid.parts ++ (p ∷ []) → after.followers ≡ mid.followers → after.holders ≡ mid.holders
    → Drafted (nodes ++ (x ∷ [])) after
added d mid after nodes x p drafted g parts_pushed same_followers same_holders =
    let stand = pushes_more [] nodes x ∙ g.pushed in
    record {
      parts = parts_pushed ∙ ap₂ (λ l (q : Part). l ++ (q ∷ [])) g.grown.parts g.grown.made ∙ ap laid (sym stand);
      count =
          leaf_count_more nodes x ∙ ap (λ n. one_leaf x + n) drafted.count
          ∙ sym (total_push x (standing nodes) g.allowed.operands) ∙ ap total (g.pushed ∙ sym stand);
      tabled =
          subst (λ es. Tabled es after) (sym stand)
          (retabled mid after (g.made ∷ g.others) (g.made ∷ g.others) g.grown.tabled same_followers same_holders refl (λ _. refl) (λ _. refl));
    }
