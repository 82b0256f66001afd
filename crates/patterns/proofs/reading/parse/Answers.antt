use Rattle.std.proofs.Common.{◌≡◌, [], subst, rules}
use Rattle.patterns.proofs.Exits.{ok_through}
use Rattle.patterns.proofs.Parses.{first_line, wrong_text, closes}
use Rattle.patterns.proofs.reading.parse.Goals as goal
use Rattle.patterns.specs.Reads.{Lines, Opens}
use Rattle.patterns.specs.declared.refusal.Fault.{Fault}
use Rattle.std.proofs.lemmas.Result.{err_from_is_err_and}
use Rattle.texts.specs.Lines.{rest}

pub returns-in_err-draft : goal.returns-in_err-draft
returns-in_err-draft g c =
    let m = g.A.Alphabet.meaning c.args.alphabet.now in
    let count = c.in_ok-count.count in
    let after = rest c.opening.new.cursor in
    let opens = subst (λ r. Opens (rest c.new-cursor.result) c.letters-letters.result r after)
    (ok_through Fault c.opening.result count c.in_ok-count.ensures.cases) c.opening.ensures in
    let whole = first_line _ _ after _ _ count c.new-cursor.ensures.rest opens.2 c.letters-letters.ensures in
    let fault = c.in_err-draft.field-0.0 in
    let p = err_from_is_err_and c.from_residual-in_err-draft.result c.from_residual-in_err-draft.ensures.1 in
    rw (p.1, p.2)
    (wrong_text m (g.met.A.Alphabet.sound c.args.alphabet.now) c.args.text.now count (search rules) opens.0 opens.1 after whole
    fault.why fault.line c.in_err-draft.ensures)

pub returns : goal.returns
returns g c =
    let m = g.A.Alphabet.meaning c.args.alphabet.now in
    let count = c.in_ok-count.count in
    let after = rest c.opening.new.cursor in
    let opens = subst (λ r. Opens (rest c.new-cursor.result) c.letters-letters.result r after)
    (ok_through Fault c.opening.result count c.in_ok-count.ensures.cases) c.opening.ensures in
    let whole = first_line _ _ after _ _ count c.new-cursor.ensures.rest opens.2 c.letters-letters.ensures in
    let draws = c.in_ok-draft.ensures in
    let over : rest c.body.new.cursor ≡ [] = search rules in
    let read = subst (λ t. Lines m after draws.0 t) over draws.1 in
    closes m (g.met.A.Alphabet.sound c.args.alphabet.now) c.args.text.now count (search rules) opens.0 opens.1 after whole
    draws.0 read draws.3 _ _ draws.2.nodes_are draws.2.letters c.finish.result c.map_err-2.result _ c.finish.ensures c.map_err-2.ensures.cases
    (λ e f q. (search rules, search rules))
