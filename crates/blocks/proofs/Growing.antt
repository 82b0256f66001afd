-- A block that grows towards exactness, entry by entry.
use Rattle.std.proofs.Common.{◌≡◌, ℕ, suc, ◌+◌, ◌<◌, ◌≤◌, true, false, ◌⊎◌, List, [], ◌∷◌, ◌++◌, length, get_or, is_err, Ok, Err, Result, sym, refl, ap, ◌∙◌, subst, inl, inr, ⊎_elim, arith}
use Rattle.blocks.proofs.Laws.{faithful, outnumbered}
use Rattle.blocks.proofs.Pushing.{differ_more, next_more, old}
use Rattle.blocks.proofs.Reaching.{many_more, many_one, reaching}
use Rattle.blocks.specs.Blocks.{Before, Met, Steps, next, origin, state}
use Rattle.blocks.specs.Moves.{Fair, Many, Moves}
use Rattle.blocks.specs.Search.{Entered, Expanded, Filled, Found, Fresh, Grown, Linked, Placed, Pushed, Searched, Seated, Sourced, allowed}
use Rattle.blocks.specs.declared.refusal.SearchRefusal.{SearchRefusal}
use Rattle.blocks.specs.declared.refusal.SearchRefusal.TheVariants.{TooMany, Memory}
use Rattle.blocks.specs.declared.row.Row.{Row}
use Rattle.std.proofs.lemmas.List.{get_or_push, get_or_read, length_push}
use Rattle.std.proofs.lemmas.Bool.{both_ways, cases_eq, cases_lt}

-- a new row at the end seats its state
pub pushed_seated : {S : Type 0} (m : Moves S) → Fair m → (most k : ℕ) (before after : List (Row S)) (row : Row S) → ((b : ℕ) → get_or row.next b 0 ≡ 0) → after ≡ before ++ row ∷ [] → k ≡ length before → k < most → Fresh m before row.state → Seated m most before row.state k after
pushed_seated m fair most k before after row bare grown last few fresh =
    let long = ap length grown ∙ length_push before row in
    let here : state m after k ≡ row.state = ap (λ rows. state m rows k) grown ∙ ap (λ row. row.state) (get_or_push before row (origin m) k (sym last)) in
    record {
      there = omega arith;
      few = omega arith;
      alike = subst (λ s. m.alike s row.state) (sym here) (fair.itself row.state);
      how = inr (record { row = row; holds = refl; bare = bare; grown = grown; last = last; fresh = fresh });
    }

-- all letters of a row are entered
pub grown_row : {S : Type 0} (m : Moves S) (most i : ℕ) (rows : List (Row S)) → Grown m most i m.letters rows → Grown m most (suc i) 0 rows
grown_row m most i rows grown =
    record {
      some = grown.some;
      entered = record {
        few = grown.entered.few;
        starts = grown.entered.starts;
        differ = grown.entered.differ;
        steps = λ k b before h l. grown.entered.steps k b (within k b l before) h l;
        ordered = λ k b j before h l. grown.entered.ordered k b j (within k b l before) h l;
        spare = grown.entered.spare;
      };
      met = λ j some h. let (k, b, l, before, letter, e) = grown.met j some h in (k, b, l, beyond k b before, letter, e);
    }
  where
    within : (k b : ℕ) → b < m.letters → Before k b (suc i) 0 → Before k b i m.letters
    within k b l (inl h) = ⊎_elim (λ e. inr (e, l)) (λ n. inl (omega arith)) (cases_eq k i)
    within k b l (inr (e, h)) = absurd (omega arith)

    beyond : (k b : ℕ) → Before k b i m.letters → Before k b (suc i) 0
    beyond k b (inl h) = inl (omega arith)
    beyond k b (inr (e, h)) = inl (omega arith)

-- every row's letters are entered
pub grown_found : {S : Type 0} (m : Moves S) (most i : ℕ) (rows : List (Row S)) → Grown m most i 0 rows → length rows ≤ i → Found m most rows
grown_found m most i rows grown all =
    record {
      exact = record {
        some = grown.some;
        starts = grown.entered.starts;
        differ = grown.entered.differ;
        steps = λ k b h l. grown.entered.steps k b (inl (omega arith)) h l;
        earlier = λ j some h. let (k, b, l, before, letter, e) = grown.met j some h in (k, b, l, letter, e);
      };
      few = grown.entered.few;
      ordered = λ k b j h l some below. grown.entered.ordered k b j (inl (omega arith)) h l some below;
      spare = grown.entered.spare;
    }

-- a block that is full, and a state that none of its rows has
pub grown_many : {S : Type 0} (m : Moves S) → Fair m → (most i a : ℕ) (rows : List (Row S)) (s : S) → Grown m most i a rows → i < length rows → a < m.letters → m.alike s (m.step (state m rows i) a) → length rows ≡ most → Fresh m rows s → Many m (suc most)
grown_many m fair most i a rows s grown h l e full fresh =
    subst (λ n. Many m (suc n)) full (many_more m fair rows grown.entered.differ (reaching m fair rows grown.entered.starts named) s i a h l e fresh)
  where
    named : (j : ℕ) → 0 < j → j < length rows → (k : ℕ) × (b : ℕ) × (k < j) × (b < m.letters) × m.alike (state m rows j) (m.step (state m rows k) b)
    named j some below =
        let (k, b, lt, before, letter, is) = grown.met j some below in
        (k, b, lt, letter, subst (λ n. m.alike (state m rows n) (m.step (state m rows k) b)) is (grown.entered.steps k b before (omega arith) letter).1)

-- an entry that stays steps rightly where the states stay and rows are only added
steps_kept : {S : Type 0} (m : Moves S) (rows after : List (Row S)) (n b : ℕ) → length rows ≤ length after → next m after n b ≡ next m rows n b → ((j : ℕ) → j < length rows → state m after j ≡ state m rows j) → n < length rows → Steps m rows (get_or rows n (origin m)) b → Steps m after (get_or after n (origin m)) b
steps_kept m rows after n b longer goes has h (lt, right) = (
  omega arith,
  subst (λ s. m.alike s (m.step (state m after n) b)) (sym (ap (state m after) goes ∙ has (next m rows n b) lt))
      (subst (λ s. m.alike (state m rows (next m rows n b)) (m.step s b)) (sym (has n h)) right),
)

-- a block before row i's letter a is entered, which will lead to row k; row k may be new
pub record Ready {S : Type 0} (m : Moves S) (most i a k : ℕ) (rows : List (Row S)) : Type 0 where
  pub entered : Entered m most i a rows
  pub met : (j : ℕ) → 0 < j → j < length rows → ((j ≡ k) × (i < j)) ⊎ Sourced m rows i a j

module _ {S : Type 0} (m : Moves S) (most i a k : ℕ) (rows : List (Row S)) (grown : Grown m most i a rows) (there : i < length rows) where
  -- row k was there
  ready_same : Ready m most i a k rows
  ready_same = record { entered = grown.entered; met = λ j some h. inr (grown.met j some h) }

  -- row k is new
  ready_pushed : (s : S) (after : List (Row S)) → length after ≤ most → Pushed m rows s k after → Ready m most i a k after
  ready_pushed s after few pushed = subst (Ready m most i a k) (sym pushed.grown) ready
    where
      row : Row S
      row = pushed.row

      long : length (rows ++ row ∷ []) ≡ length rows + 1
      long = length_push rows row

      goes : (n b : ℕ) → next m (rows ++ row ∷ []) n b ≡ next m rows n b
      goes = next_more m rows row pushed.bare

      has : (n : ℕ) → n < length rows → state m (rows ++ row ∷ []) n ≡ state m rows n
      has = old m rows row

      inside : (n b : ℕ) → Before n b i a → n < length rows
      inside n b (inl h) = omega arith
      inside n b (inr (e, h)) = omega arith

      ready : Ready m most i a k (rows ++ row ∷ [])
      ready =
          record {
            entered = record {
              few = subst (λ rows. length rows ≤ most) pushed.grown few;
              starts = subst (λ s. m.alike s m.start) (sym (has 0 grown.some)) grown.entered.starts;
              differ = differ_more m rows row grown.entered.differ (subst (Fresh m rows) (sym pushed.holds) pushed.fresh);
              steps = λ n b before h l. steps_kept m rows (rows ++ row ∷ []) n b (omega (arith, long)) (goes n b) has (inside n b before) (grown.entered.steps n b before (inside n b before) l);
              ordered = λ n b j before h l some below. let (n', b', earlier, letter, e) = grown.entered.ordered n b j before (inside n b before) l some (subst (λ x. j < x) (goes n b) below) in (n', b', earlier, letter, goes n' b' ∙ e);
              spare = λ n b l. goes n b ∙ grown.entered.spare n b l;
            };
            met = λ j some h. ⊎_elim
                (λ below. let (n, b, lt, before, letter, e) = grown.met j some below in inr (n, b, lt, before, letter, goes n b ∙ e))
                (λ last. inl (omega (arith, long), omega arith))
                (cases_lt j (length rows));
          }

  ready : (s : S) (after : List (Row S)) → Seated m most rows s k after → Ready m most i a k after
  ready s after seated = ⊎_elim (λ e. subst (Ready m most i a k) (sym e) ready_same) (ready_pushed s after seated.few) seated.how

-- the letter is entered
grown_linked : {S : Type 0} (m : Moves S) (most i a k : ℕ) (rows after : List (Row S)) → Ready m most i a k rows → i < length rows → k < length rows → a < m.letters → m.alike (state m rows k) (m.step (state m rows i) a) → Linked rows i a k after → Grown m most i (a + 1) after
grown_linked m most i a k rows after ready there target letter right linked =
    record {
      some = omega (arith, linked.len);
      entered = record {
        few = omega (arith, linked.len, ready.entered.few);
        starts = subst (λ s. m.alike s m.start) (sym (has 0)) ready.entered.starts;
        differ = λ n j l h e. ready.entered.differ n j l (omega (arith, linked.len)) (subst (λ s. m.alike s (state m rows j)) (has n) (subst (m.alike (state m after n)) (has j) e));
        steps = λ n b before h l. ⊎_elim
            (λ earlier. steps_kept m rows after n b (omega (arith, linked.len)) (goes n b earlier) (λ j _. has j) (omega (arith, linked.len)) (ready.entered.steps n b earlier (omega (arith, linked.len)) l))
            (λ (en, eb). subst (λ x. Steps m after (get_or after x (origin m)) b) (sym en) (subst (Steps m after (get_or after i (origin m))) (sym eb) right_here))
            (last_entry n b before);
        ordered = λ n b j before h l some below. ⊎_elim
            (λ earlier. kept n b j earlier (ready.entered.ordered n b j earlier (omega (arith, linked.len)) l some (subst (λ x. j < x) (goes n b earlier) below)))
            (λ (en, eb). subst (λ x. Met m after x b j) (sym en) (subst (λ y. Met m after i y j) (sym eb) (first j some (subst (λ x. j < x) (ap (λ x. next m after x b) en ∙ (ap (next m after i) eb ∙ here)) below))))
            (last_entry n b before);
        spare = λ n b l. linked.rest (origin m) n b (λ (en, eb). omega arith) ∙ ready.entered.spare n b l;
      };
      met = λ j some h. ⊎_elim
          (λ (is, above). (i, a, above, inr (refl, omega arith), letter, here ∙ sym is))
          (λ (n, b, lt, before, l, e). (n, b, lt, later n b before, l, goes n b before ∙ e))
          (ready.met j some (omega (arith, linked.len)));
    }
  where
    has : (j : ℕ) → state m after j ≡ state m rows j
    has = linked.states (origin m)

    here : next m after i a ≡ k
    here = linked.here (origin m)

    goes : (n b : ℕ) → Before n b i a → next m after n b ≡ next m rows n b
    goes n b before = linked.rest (origin m) n b (λ (en, eb). ⊎_elim (λ h. omega arith) (λ (e, h). omega arith) before)

    later : (n b : ℕ) → Before n b i a → Before n b i (a + 1)
    later n b (inl h) = inl h
    later n b (inr (e, h)) = inr (e, omega arith)

    last_entry : (n b : ℕ) → Before n b i (a + 1) → Before n b i a ⊎ ((n ≡ i) × (b ≡ a))
    last_entry n b (inl h) = inl (inl h)
    last_entry n b (inr (e, h)) = ⊎_elim (λ eb. inr (e, eb)) (λ nb. inl (inr (e, omega arith))) (cases_eq b a)

    right_here : Steps m after (get_or after i (origin m)) a
    right_here = (
      omega (arith, here, linked.len),
      subst (λ x. m.alike (state m after x) (m.step (state m after i) a)) (sym here)
          (subst (λ s. m.alike s (m.step (state m after i) a)) (sym (has k)) (subst (λ s. m.alike (state m rows k) (m.step s a)) (sym (has i)) right)),
    )

    -- what was met before an entry that stays is met before it still
    kept : (n b j : ℕ) → Before n b i a → Met m rows n b j → Met m after n b j
    kept n b j before (n', b', earlier, l, e) = (n', b', earlier, l, goes n' b' (through n' b' earlier before) ∙ e)
      where
        through : (n' b' : ℕ) → Before n' b' n b → Before n b i a → Before n' b' i a
        through n' b' (inl h) (inl l) = inl (omega arith)
        through n' b' (inl h) (inr (e, l)) = inl (omega arith)
        through n' b' (inr (e, h)) (inl l) = inl (omega arith)
        through n' b' (inr (e, h)) (inr (e', l)) = inr (e ∙ e', omega arith)

    first : (j : ℕ) → 0 < j → j < k → Met m after i a j
    first j some below = ⊎_elim
        (λ (is, above). absurd (omega arith))
        (λ (n, b, lt, before, l, e). (n, b, before, l, goes n b before ∙ e))
        (ready.met j some (omega arith))

-- a letter leads on from a row that was read
Leads_read : {S : Type 0} (m : Moves S) (rows : List (Row S)) (i a : ℕ) (row : Row S) (s : S) → i < length rows → row ≡ get_or rows i row → m.alike s (m.step row.state a) → m.alike s (m.step (state m rows i) a)
Leads_read m rows i a row s h read leads = subst (λ row. m.alike s (m.step row.state a)) (get_or_read rows i row h read (origin m)) leads

-- seating a state leaves the rows before it, and their states
seated_kept : {S : Type 0} (m : Moves S) (most k : ℕ) (rows after : List (Row S)) (s : S) → Seated m most rows s k after → (length rows ≤ length after) × ((n : ℕ) → n < length rows → state m after n ≡ state m rows n)
seated_kept m most k rows after s seated = ⊎_elim
    (λ e. (omega (arith, ap length e), λ n _. ap (λ rows. state m rows n) e))
    (λ pushed. (omega (arith, ap length pushed.grown, length_push rows pushed.row), λ n h. ap (λ rows. state m rows n) pushed.grown ∙ old m rows pushed.row n h))
    seated.how

-- the state after row i's letter a is seated in row k, and the letter is entered
pub grown_entered : {S : Type 0} (m : Moves S) → Fair m → (most i a k : ℕ) (rows mid after : List (Row S)) (row : Row S) (s : S) → Grown m most i a rows → i < length rows → a < m.letters → row ≡ get_or rows i row → m.alike s (m.step row.state a) → Seated m most rows s k mid → Linked mid i a k after → Grown m most i (a + 1) after × (length rows ≤ length after)
grown_entered m fair most i a k rows mid after row s grown h l read leads seated linked =
    let right = Leads_read m rows i a row s h read leads in
    let (longer, has) = seated_kept m most k rows mid s seated in
    let target : m.alike (state m mid k) (m.step (state m mid i) a) = fair.chain (state m mid k) s (m.step (state m mid i) a) seated.alike (subst (λ t. m.alike s (m.step t a)) (sym (has i h)) right) in
    (grown_linked m most i a k mid after (ready m most i a k rows grown h s mid seated) (omega arith) seated.there l target linked, omega (arith, linked.len))

-- no row could be given to the state after row i's letter a
pub place_declines : {S : Type 0} (m : Moves S) → Fair m → (most i a len least room : ℕ) (rows after : List (Row S)) (row : Row S) (s : S) (e : SearchRefusal) → Grown m most i a rows → i < length rows → a < m.letters → row ≡ get_or rows i row → m.alike s (m.step row.state a) → least ≤ room → Placed m most room rows s (Err e) after → Expanded m most i len least (Err e) after
place_declines m fair most i a len least room rows after row s TooMany grown h l read leads under (full, fresh) = grown_many m fair most i a rows s grown h l (Leads_read m rows i a row s h read leads) full fresh
place_declines m fair most i a len least room rows after row s Memory grown h l read leads under short = omega arith

-- nor to the start
pub start_declines : {S : Type 0} (m : Moves S) → Fair m → (most room : ℕ) (rows after : List (Row S)) (s : S) (e : SearchRefusal) → rows ≡ [] → Placed m most room rows s (Err e) after → Filled m most room (Err e) after
start_declines m fair most room rows after s TooMany empty (full, fresh) = subst (λ n. Many m (suc n)) (sym (ap length empty) ∙ full) (many_one m fair)
start_declines m fair most room rows after s Memory empty short = short

module _ {S : Type 0} (m : Moves S) (fair : Fair m) (filled room most : ℕ) (same_room : filled ≡ room) (limit : ℕ) (same_limit : most ≡ allowed limit) where
  -- a block that was found has the laws of exact blocks
  pub search_done : (r : Result Unit SearchRefusal) (rows : List (Row S)) → is_err r ≡ false → Filled m most filled r rows → Searched m (allowed limit) room r rows
  search_done (Ok u) rows done found = (subst (λ most. Found m most rows) same_limit found, faithful m fair rows found.exact)
  search_done (Err e) rows done found = absurd (both_ways true done refl)

  -- where a search is declined, no exact block is within the limit
  pub search_declined : (r : Result Unit SearchRefusal) (rows after : List (Row S)) → is_err r ≡ true → after ≡ [] → Filled m most filled r rows → Searched m (allowed limit) room r after
  search_declined (Ok u) rows after declined empty found = absurd (both_ways false refl declined)
  search_declined (Err TooMany) rows after declined empty many =
      let too_many = subst (λ most. Many m (suc most)) same_limit many in
      (record { many = too_many; none = outnumbered m fair (allowed limit) too_many }, empty)
  search_declined (Err Memory) rows after declined empty short = (omega arith, empty)
