-- Numbers below a bound: induction, lists gathered place by place, and pigeonholes.
use Rattle.std.proofs.Common.{◌≡◌, ℕ, zero, suc, ◌<◌, ◌≤◌, ◌⊎◌, List, [], ◌∷◌, length, get_or, replicate, refl, ap, inl, inr, arith}
use Rattle.std.proofs.lemmas.Bool.{cases_eq}

-- what holds of a number wherever it holds of all smaller ones, holds of every number below n
pub strong : (P : ℕ → Type 0) (n : ℕ) → ((j : ℕ) → j < n → ((k : ℕ) → k < j → P k) → P j) → (j : ℕ) → j < n → P j
strong P zero step j h = absurd (omega arith)
strong P (suc n) step j h = step j h (λ k l. strong P n (λ i in'. step i (omega arith)) k (omega arith))

-- what holds at the first place, and at each of the others
each : {X : Type 0} (P : ℕ → X → Type 0) (d x : X) (xs : List X) (n : ℕ) → P 0 x → ((j : ℕ) → j < n → P (suc j) (get_or xs j d)) → (j : ℕ) → j < suc n → P j (get_or (x ∷ xs) j d)
each P d x xs n first rest zero h = first
each P d x xs n first rest (suc j) h = rest j (omega arith)

-- a value for each number below n: the list of them
pub gather : {X : Type 0} (P : ℕ → X → Type 0) (d : X) (n : ℕ) → ((j : ℕ) → j < n → (x : X) × P j x) → (xs : List X) × (length xs ≡ n) × ((j : ℕ) → j < n → P j (get_or xs j d))
gather P d zero f = ([], refl, λ j h. absurd (omega arith))
gather P d (suc n) f =
    let (x, first) = f 0 (omega arith) in
    let (xs, count, rest) = gather (λ j. P (suc j)) d n (λ j h. f (suc j) (omega arith)) in
    (x ∷ xs, ap suc count, each P d x xs n first rest)

-- a list of one value, read with that value past its end
pub get_or-blank : {X : Type 0} (d : X) (n j : ℕ) → get_or (replicate n d) j d ≡ d
get_or-blank d zero j = refl
get_or-blank d (suc n) zero = refl
get_or-blank d (suc n) (suc j) = get_or-blank d n j

-- y is a where x is n, and x elsewhere
abbrev Instead : ℕ → ℕ → ℕ → ℕ → Type 0
Instead n a x y = ((x ≡ n) × (y ≡ a)) ⊎ ((x ≡ n → ⊥) × (y ≡ x))

instead : (n a x : ℕ) → (y : ℕ) × Instead n a x y
instead n a x = elim (cases_eq x n) [ inl e ↦ (a, inl (e, refl)) | inr e ↦ (x, inr (e, refl)) ]

-- k different numbers below n are at most n: leave out the last, and put it in the highest one's place where that is among the others
pub pigeons : (n k : ℕ) (f : ℕ → ℕ) → ((i : ℕ) → i < k → f i < n) → ((i j : ℕ) → i < j → j < k → f i ≡ f j → ⊥) → k ≤ n
pigeons n zero f below differ = omega arith
pigeons zero (suc k) f below differ = absurd (omega (arith, below 0 (omega arith)))
pigeons (suc n) (suc k) f below differ = omega (arith, pigeons n k g less apart)
  where
    g : ℕ → ℕ
    g i = (instead n (f k) (f i)).0

    is : (i : ℕ) → Instead n (f k) (f i) (g i)
    is i = (instead n (f k) (f i)).1

    less : (i : ℕ) → i < k → g i < n
    less i h = omega (arith, is i, below i (omega arith), below k (omega arith), differ i k h (omega arith))

    apart : (i j : ℕ) → i < j → j < k → g i ≡ g j → ⊥
    apart i j l h e = omega (arith, is i, is j, differ i j l (omega arith), differ i k (omega arith) (omega arith), differ j k h (omega arith))
