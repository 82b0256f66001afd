-- Kinds of state: a start, a step by a letter, and which states are the same.
use Rattle.std.specs.Prelude.{◌≡◌, ℕ, ◌<◌, ◌≤◌, List, [], ◌∷◌, length, All, slice_index_or, refl}
use Rattle.std.proofs.Common.{sym, ◌∙◌}

-- a kind of state: how many letters it has, where it starts, where a letter leads, and which states are the same
pub record Moves (S : Type 0) : Type 1 where
  pub letters : ℕ
  pub start : S
  pub step : S → ℕ → S
  pub alike : S → S → Type 0

-- sameness is an equivalence that every letter keeps, and there are at most 16 letters
pub record Fair {S : Type 0} (m : Moves S) : Type 0 where
  pub few : m.letters ≤ 16
  pub itself : (s : S) → m.alike s s
  pub back : (s t : S) → m.alike s t → m.alike t s
  pub chain : (s t u : S) → m.alike s t → m.alike t u → m.alike s u
  pub kept : (s t : S) (a : ℕ) → a < m.letters → m.alike s t → m.alike (m.step s a) (m.step t a)

-- a kind of state with so many letters, a start, a step, and states that are the same when what is seen of them is
abbrev pub seen : {S X : Type 0} → ℕ → S → (S → ℕ → S) → (S → X) → Moves S
seen n start step see = record { letters = n; start = start; step = step; alike = λ s t. see s ≡ see t }

-- such a kind is fair where the step looks at no more than is seen
pub seen_fair : {S X : Type 0} (n : ℕ) (start : S) (step : S → ℕ → S) (see : S → X) → n ≤ 16 → ((s t : S) (a : ℕ) → see s ≡ see t → see (step s a) ≡ see (step t a)) → Fair (seen n start step see)
seen_fair n start step see few kept =
    record {
      few = few;
      itself = λ s. refl;
      back = λ s t e. sym e;
      chain = λ s t u e f. e ∙ f;
      kept = λ s t a _ e. kept s t a e;
    }

-- the state after a list of letters, from s on
abbrev pub after : {S : Type 0} → Moves S → S → List ℕ → S
after m s [] = s
after m s (a ∷ w) = after m (m.step s a) w

-- the state that a list of letters reaches from the start
abbrev pub reached : {S : Type 0} → Moves S → List ℕ → S
reached m w = after m m.start w

-- every letter of the list is one of the kind's
abbrev pub Letters : {S : Type 0} → Moves S → List ℕ → Type 0
Letters m w = All (λ a. a < m.letters) w

-- at least k different states are reached: k lists of letters whose states differ pairwise
pub record Many {S : Type 0} (m : Moves S) (k : ℕ) : Type 0 where
  pub lists : List (List ℕ)
  pub count : length lists ≡ k
  pub lawful : (i : ℕ) → i < k → Letters m (slice_index_or lists i [])
  pub apart : (i j : ℕ) → i < j → j < k → m.alike (reached m (slice_index_or lists i [])) (reached m (slice_index_or lists j [])) → ⊥
