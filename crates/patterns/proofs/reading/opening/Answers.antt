use Rattle.std.proofs.Common.{refl, sym, subst, ◌∙◌, arith, rules}
use Rattle.notation.specs.Notation.{Heads}
use Rattle.patterns.proofs.Exits.{no_value}
use Rattle.patterns.proofs.Openings.{no_line_no_header, no_fields_no_header, first_stands}
use Rattle.patterns.proofs.reading.opening.Goals as goal
use Rattle.patterns.specs.declared.refusal.PatternRefusal.TheVariants.{Header}
use Rattle.std.proofs.lemmas.Result.{err_from_is_err_and}
use Rattle.texts.specs.Lines.{NextLine, rest, fields_left}

pub returns-in_err-line : goal.returns-in_err-line
returns-in_err-line c =
    let none = no_value c.line.result Header c.in_err-line.field-0.0 c.in_err-line.ensures.value in
    let p = err_from_is_err_and c.from_residual.result c.from_residual.ensures.1 in
    rw (p.1, p.2, none.1)
    (no_line_no_header (rest c.args.cursor.now) (subst (λ o. NextLine c.args.cursor.now o c.line.new.self) none.0 c.line.ensures.line).0)

pub returns-in_err-first : goal.returns-in_err-first
returns-in_err-first c =
    let line = c.in_ok-line.line in
    let gave = subst (λ o. NextLine c.args.cursor.now o c.line.new.self) c.in_ok-line.ensures.ok_part c.line.ensures.line in
    let none = no_value c.header.result Header c.in_err-first.field-0.0 c.in_err-first.ensures.value in
    let p = err_from_is_err_and c.from_residual-in_err-first.result c.from_residual-in_err-first.ensures.1 in
    rw (p.1, p.2, none.1)
    (no_fields_no_header c.args.cursor.now c.line.new.self line gave (subst (λ o. Heads (fields_left line) o) none.0 c.header.ensures))

pub returns-then-first-from : goal.returns-then-first-from
returns-then-first-from c =
    let stands = first_stands c.args.cursor.now c.line.new.self c.in_ok-line.line c.in_ok-first.first _ _
    c.line.ensures.line c.in_ok-line.ensures.ok_part c.header.ensures c.in_ok-first.ensures.ok_part _ refl in
    (_, _, (_, omega arith, omega arith, stands), λ e. c.if-first-from.true (e ∙ sym c.from.ensures))

pub returns-in_default : goal.returns-in_default
returns-in_default c =
    let stands = first_stands c.args.cursor.now c.line.new.self c.in_ok-line.line c.in_ok-first.first _ _
    c.line.ensures.line c.in_ok-line.ensures.ok_part c.header.ensures c.in_ok-first.ensures.ok_part
    c.args.letters (omega (arith, c.if-first-from.false, c.from.ensures)) in
    (_, (_, omega arith, omega arith, stands), λ h. omega arith)

pub returns-in_default-2 : goal.returns-in_default-2
returns-in_default-2 c =
    let stands = first_stands c.args.cursor.now c.line.new.self c.in_ok-line.line c.in_ok-first.first _ _
    c.line.ensures.line c.in_ok-line.ensures.ok_part c.header.ensures c.in_ok-first.ensures.ok_part
    c.args.letters (omega (arith, c.if-first-from.false, c.from.ensures)) in
    (_, (_, omega arith, omega arith, stands), λ h. omega arith)

pub returns-in-1-to-127 : goal.returns-in-1-to-127
returns-in-1-to-127 c =
    let stands = first_stands c.args.cursor.now c.line.new.self c.in_ok-line.line c.in_ok-first.first _ _
    c.line.ensures.line c.in_ok-line.ensures.ok_part c.header.ensures c.in_ok-first.ensures.ok_part
    c.args.letters (omega (arith, c.if-first-from.false, c.from.ensures)) in
    (search rules, search rules, stands)
