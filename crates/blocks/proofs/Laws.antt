-- Every exact block is the automaton, with each state that is reached in one row.
use Rattle.std.proofs.Common.{◌≡◌, ℕ, suc, ◌<◌, ◌≤◌, List, [], ◌∷◌, length, get_or, sym, refl, subst, ⊎_elim, arith}
use Rattle.blocks.proofs.Numbers.{gather, pigeons}
use Rattle.blocks.proofs.Reaching.{many_rows, reaching}
use Rattle.blocks.specs.Blocks.{Exact, next, state}
use Rattle.blocks.specs.Laws.{Faithful, Leads}
use Rattle.blocks.specs.Moves.{Fair, Letters, Many, Moves, after, reached}
use Rattle.blocks.specs.declared.row.Row.{Row}
use Rattle.std.proofs.lemmas.Bool.{cases_order}
use Rattle.std.proofs.lemmas.List.Elements.{All-head, All-tail}

module _ {S : Type 0} (m : Moves S) (fair : Fair m) (rows : List (Row S)) (exact : Exact m rows) where
  -- letters lead from each row to some row
  Leads_on : (w : List ℕ) → Letters m w → (k : ℕ) → k < length rows → (j : ℕ) × Leads m rows k w j
  Leads_on [] l k h = (k, (h, refl))
  Leads_on (a ∷ w) l k h =
      let here : a < m.letters = All-head (λ b. b < m.letters) a w l in
      let (j, led) = Leads_on w (All-tail (λ b. b < m.letters) a w l) (next m rows k a) (exact.steps k a h here).0 in
      (j, (h, here, led))

  Leads_there : (w : List ℕ) (k j : ℕ) → Leads m rows k w j → j < length rows
  Leads_there [] k j led = subst (λ i. i < length rows) led.1 led.0
  Leads_there (a ∷ w) k j led = Leads_there w (next m rows k a) j led.2

  -- from a row with the state s they lead to a row with the state after s
  Leads_right : (w : List ℕ) (k j : ℕ) (s : S) → m.alike (state m rows k) s → Leads m rows k w j → m.alike (state m rows j) (after m s w)
  Leads_right [] k j s e led = subst (λ i. m.alike (state m rows i) s) led.1 e
  Leads_right (a ∷ w) k j s e led =
      Leads_right w (next m rows k a) j (m.step s a)
      (fair.chain (state m rows (next m rows k a)) (m.step (state m rows k) a) (m.step s a) (exact.steps k a led.0 led.1).1 (fair.kept (state m rows k) s a led.1 e))
      led.2

  leads : (w : List ℕ) → Letters m w → (j : ℕ) × Leads m rows 0 w j
  leads w l = Leads_on w l 0 exact.some

  right : (w : List ℕ) (j : ℕ) → Leads m rows 0 w j → m.alike (state m rows j) (reached m w)
  right w j led = Leads_right w 0 j m.start exact.starts led

  -- two rows with the same state are one
  one_row : (i j : ℕ) → i < length rows → j < length rows → m.alike (state m rows i) (state m rows j) → i ≡ j
  one_row i j h l e =
      ⊎_elim (λ p. p)
      (⊎_elim (λ p. absurd (exact.differ i j p l e)) (λ p. absurd (exact.differ j i p h (fair.back (state m rows i) (state m rows j) e))))
      (cases_order i j)

  comes : (j : ℕ) → j < length rows → (w : List ℕ) × Letters m w × m.alike (state m rows j) (reached m w)
  comes = reaching m fair rows exact.starts named
    where
      named : (j : ℕ) → 0 < j → j < length rows → (k : ℕ) × (b : ℕ) × (k < j) × (b < m.letters) × m.alike (state m rows j) (m.step (state m rows k) b)
      named j p h =
          let (k, b, l, in', e) = exact.earlier j p h in
          (k, b, l, in', subst (λ i. m.alike (state m rows i) (m.step (state m rows k) b)) e (exact.steps k b (omega arith) in').1)

  -- the row to which the letters lead that reach row j's state is row j
  every : (j : ℕ) → j < length rows → (w : List ℕ) × Letters m w × Leads m rows 0 w j
  every j h =
      let (w, l, e) = comes j h in
      let (i, led) = leads w l in
      let same : m.alike (state m rows i) (state m rows j) = fair.chain (state m rows i) (reached m w) (state m rows j) (right w i led) (fair.back (state m rows j) (reached m w) e) in
      (w, l, subst (Leads m rows 0 w) (one_row i j (Leads_there w 0 i led) h same) led)

  -- lists of letters that lead to one row reach the same state, so lists whose states differ lead to as many rows
  no_more : (k : ℕ) → Many m k → k ≤ length rows
  no_more k many =
      let word : ℕ → List ℕ = λ i. get_or many.lists i [] in
      let (js, _, led) = gather (λ i j. Leads m rows 0 (word i) j) 0 k (λ i h. leads (word i) (many.lawful i h)) in
      let row : ℕ → ℕ = λ i. get_or js i 0 in
      pigeons (length rows) k row (λ i h. Leads_there (word i) 0 (row i) (led i h))
      (λ i j l h e. many.apart i j l h
      (fair.chain (reached m (word i)) (state m rows (row i)) (reached m (word j))
      (fair.back (state m rows (row i)) (reached m (word i)) (right (word i) (row i) (led i (omega arith))))
      (right (word j) (row i) (subst (Leads m rows 0 (word j)) (sym e) (led j h)))))

  as_many : Many m (length rows)
  as_many = many_rows m fair rows exact.differ comes

pub faithful : {S : Type 0} (m : Moves S) → Fair m → (rows : List (Row S)) → Exact m rows → Faithful m rows
faithful m fair rows exact =
    record {
      leads = leads m fair rows exact;
      right = right m fair rows exact;
      every = every m fair rows exact;
      as_many = as_many m fair rows exact;
      no_more = no_more m fair rows exact;
      equally = λ others other. omega (arith, no_more m fair rows exact (length others) (as_many m fair others other), no_more m fair others other (length rows) (as_many m fair rows exact));
      agrees = λ others other w j k led there. fair.chain (state m rows j) (reached m w) (state m others k) (right m fair rows exact w j led) (fair.back (state m others k) (reached m w) (right m fair others other w k there));
    }

-- more states than rows: no exact block is so small
pub outnumbered : {S : Type 0} (m : Moves S) → Fair m → (most : ℕ) → Many m (suc most) → (others : List (Row S)) → Exact m others → most < length others
outnumbered m fair most many others other = no_more m fair others other (suc most) many
