-- Rows whose states are reached, and how many different states they are.
use Rattle.std.proofs.Common.{◌≡◌, ℕ, zero, suc, ◌<◌, List, [], ◌∷◌, ◌++◌, length, get_or, sym, refl, subst, arith}
use Rattle.blocks.proofs.Numbers.{gather, strong}
use Rattle.blocks.proofs.Pushing.{differ_more, each_row}
use Rattle.blocks.specs.Blocks.{Differ, origin, state}
use Rattle.blocks.specs.Moves.{Fair, Letters, Many, Moves, after, reached}
use Rattle.blocks.specs.Search.{Fresh}
use Rattle.blocks.specs.declared.row.Row.{Row}
use Rattle.std.proofs.lemmas.List.Elements.{All-nil, All-push}
use Rattle.std.proofs.lemmas.List.{length_push}

-- one more letter
pub after_push : {S : Type 0} (m : Moves S) (s : S) (w : List ℕ) (a : ℕ) → after m s (w ++ a ∷ []) ≡ m.step (after m s w) a
after_push m s [] a = refl
after_push m s (b ∷ w) a = after_push m (m.step s b) w a

-- some list of letters reaches the state
abbrev Comes : {S : Type 0} → Moves S → S → Type 0
Comes m s = (w : List ℕ) × Letters m w × m.alike s (reached m w)

-- and one letter more reaches the state after that letter
comes_on : {S : Type 0} (m : Moves S) → Fair m → (s t : S) (a : ℕ) → a < m.letters → m.alike t (m.step s a) → Comes m s → Comes m t
comes_on m fair s t a h e (w, l, c) = (
  w ++ a ∷ [],
  All-push (λ b. b < m.letters) w a l h,
  subst (m.alike t) (sym (after_push m m.start w a)) (fair.chain t (m.step s a) (m.step (reached m w) a) e (fair.kept s (reached m w) a h c)),
)

-- every row has the state of some list of letters, where row 0 has the start's and each later row the state after a letter of an earlier row
pub reaching : {S : Type 0} (m : Moves S) → Fair m → (rows : List (Row S)) → m.alike (state m rows 0) m.start → ((j : ℕ) → 0 < j → j < length rows → (k : ℕ) × (b : ℕ) × (k < j) × (b < m.letters) × m.alike (state m rows j) (m.step (state m rows k) b)) → (j : ℕ) → j < length rows → (w : List ℕ) × Letters m w × m.alike (state m rows j) (reached m w)
reaching m fair rows starts earlier = strong (λ j. Comes m (state m rows j)) (length rows) step
  where
    step : (j : ℕ) → j < length rows → ((k : ℕ) → k < j → Comes m (state m rows k)) → Comes m (state m rows j)
    step zero h before = ([], All-nil (λ b. b < m.letters), starts)
    step (suc j) h before =
        let (k, b, l, in', e) = earlier (suc j) (omega arith) h in
        comes_on m fair (state m rows k) (state m rows (suc j)) b in' e (before k l)

-- rows that differ, each with the state of some list of letters, are as many different states
pub many_rows : {S : Type 0} (m : Moves S) → Fair m → (rows : List (Row S)) → Differ m rows → ((j : ℕ) → j < length rows → (w : List ℕ) × Letters m w × m.alike (state m rows j) (reached m w)) → Many m (length rows)
many_rows m fair rows differ comes =
    let (ws, count, each) = gather (λ j w. Letters m w × m.alike (state m rows j) (reached m w)) [] (length rows) (λ j h. let (w, l, e) = comes j h in (w, (l, e))) in
    let at : ℕ → _ = λ j. reached m (get_or ws j []) in
    record {
      lists = ws;
      count = count;
      lawful = λ i h. (each i h).0;
      apart = λ i j l h e. differ i j l h
          (fair.chain (state m rows i) (at i) (state m rows j) (each i (omega arith)).1
          (fair.chain (at i) (at j) (state m rows j) e (fair.back (state m rows j) (at j) (each j h).1)));
    }

-- and one more with a state that no row has
pub many_more : {S : Type 0} (m : Moves S) → Fair m → (rows : List (Row S)) → Differ m rows → ((j : ℕ) → j < length rows → (w : List ℕ) × Letters m w × m.alike (state m rows j) (reached m w)) → (s : S) (i a : ℕ) → i < length rows → a < m.letters → m.alike s (m.step (state m rows i) a) → Fresh m rows s → Many m (suc (length rows))
many_more m fair rows differ comes s i a h in' e fresh =
    let row : Row _ = record { state = s; next = [] } in
    subst (Many m) (omega (arith, length_push rows row))
    (many_rows m fair (rows ++ row ∷ []) (differ_more m rows row differ fresh)
    (each_row m rows row (λ k t. Comes m t) comes (comes_on m fair (state m rows i) s a in' e (comes i h))))

-- the start is one state
pub many_one : {S : Type 0} (m : Moves S) → Fair m → Many m 1
many_one m fair = many_rows m fair (origin m ∷ []) (λ i j l h. absurd (omega arith)) start
  where
    start : (j : ℕ) → j < 1 → Comes m (state m (origin m ∷ []) j)
    start zero h = ([], All-nil (λ b. b < m.letters), fair.itself m.start)
    start (suc j) h = absurd (omega arith)
