use Rattle.std.proofs.Common.{sym, refl, ◌∙◌, subst, rules}
use Rattle.std.proofs.Math.Nat.{sub-zero}
use Rattle.std.proofs.lemmas.List.{take_rest}
use Rattle.texts.proofs.Texts.{found_on, took_front, took_last}
use Rattle.texts.proofs.lines.Line.field.Goals as goal
use Rattle.texts.specs.Parts.{Lacks}
use Rattle.texts.specs.Tokens.{Spelt}

pub returns-in-Some-clause-field : goal.returns-in-Some-clause-field
returns-in-Some-clause-field c =
    let left = take_rest c.args.self.now.bytes.now c.in_ok-at.at in
    took_front _ _ _ _ _ _ (sym c.take.ensures.value ∙ c.in_ok-at.was) refl refl
    (found_on _ _ _ _ _ left (simp sub-zero at c.in-Some.ensures.2)) c.token.ensures

pub returns-in-None-clause-field : goal.returns-in-None-clause-field
returns-in-None-clause-field c =
    let left = take_rest c.args.self.now.bytes.now c.in_ok-at.at in
    took_last _ _ _ _ (sym c.take.ensures.value ∙ c.in_ok-at.was) (search (rules, c.take.ensures.after))
    (subst (Lacks 44) left c.in-None.ensures) (subst (λ w. Spelt w c.token-in-None.result) left c.token-in-None.ensures)
