use Rattle.std.proofs.Common.{◌≡◌, ◌<◌, ◌≤◌, Some, None, sym, ◌∙◌, arith, ⊎_elim}
use Rattle.std.proofs.lemmas.Bool.{cases_lt}
use Rattle.std.proofs.lemmas.Fmt.{decimal_injective}
use Rattle.std.proofs.lemmas.Grind.{common_steps}
use Rattle.alphabets.proofs.Spellings.{spelling_found, spelling_missed}
use Rattle.alphabets.proofs.numbered.NumberedAlphabet.letter.Goals as goal

-- a word spells no number
pub returns-in_default : goal.returns-in_default
returns-in_default c =
    let few = c.args.self.now.few in
    sym (spelling_missed c.args.name.now c.args.self.now.n (λ k h. c.in_default.ensures.1 k (omega arith)))

-- a number past the last letter spells no smaller one
pub returns : goal.returns
returns c =
    let w = c.args.name.now in
    let n = c.args.self.now.n in
    let few = c.args.self.now.few in
    let k = c.in-Number.k in
    let spelt = c.in-Number.ensures in
    ⊎_elim
    (λ (l : k < n). let e : c.filter.result ≡ Some k = grind (arith, common_steps) in e ∙ sym (spelling_found w n k (omega arith) l spelt.0))
    (λ (l : n ≤ k).
    let e : c.filter.result ≡ None = grind (arith, common_steps) in
    e ∙ sym (spelling_missed w n (λ j h d. let same : k ≡ j = decimal_injective k j spelt.1 (omega arith) (sym spelt.0 ∙ d) in omega arith)))
    (cases_lt k n)
