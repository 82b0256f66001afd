use Rattle.std.proofs.Common.{◌≡◌, ◌<◌, length, vec_items, vec_len, vec_capacity, subst, arith, rules}
use Rattle.blocks.proofs.Growing.{grown_entered, grown_row, place_declines}
use Rattle.blocks.proofs.searching.Builder.expand.Goals as goal
use Rattle.blocks.specs.Search.{Grown}
use Rattle.std.proofs.lemmas.Result.{err_from_is_err_and}

pub returns-in_err-next-clause-rows : goal.returns-in_err-next-clause-rows
returns-in_err-next-clause-rows g c =
    let there : c.args.at < length (vec_items c.loop-letter.rows) = search rules in
    let letter : c.loop-letter.letter < (g.A.Automaton.moves c.args.self.now.automaton.now).letters = omega arith in
    let p = err_from_is_err_and c.from_residual.result c.from_residual.ensures.1 in
    rw (p.1, p.2)
    (place_declines _ (g.A.Automaton.fair c.args.self.now.automaton.now) c.args.self.now.most c.args.at c.loop-letter.letter (vec_len c.args.rows.now) (vec_capacity c.args.rows.now) (vec_capacity c.loop-letter.rows) (vec_items c.loop-letter.rows) (vec_items c.place.new.rows) c.index.result.now c.step-state.result c.in_err-next.field-0.0 c.loop-letter.invariant.0 there letter c.index.ensures (c.step-state.ensures letter) c.loop-letter.invariant.2 c.in_err-next.ensures.rows)

pub loop-letter-preserved : goal.loop-letter-preserved
loop-letter-preserved g c =
    let there : c.args.at < length (vec_items c.loop-letter.rows) = search rules in
    let letter : c.loop-letter.letter < (g.A.Automaton.moves c.args.self.now.automaton.now).letters = omega arith in
    let entered = grown_entered _ (g.A.Automaton.fair c.args.self.now.automaton.now) c.args.self.now.most c.args.at c.loop-letter.letter c.in_ok-next.next (vec_items c.loop-letter.rows) (vec_items c.place.new.rows) (vec_items c.link.new.rows) c.index.result.now c.step-state.result c.loop-letter.invariant.0 there letter c.index.ensures (c.step-state.ensures letter) c.in_ok-next.ensures.rows c.link.ensures.rows in
    (entered.0, search rules, omega arith)

pub returns-clause-rows : goal.returns-clause-rows
returns-clause-rows g c =
    let m = g.A.Automaton.moves c.args.self.now.automaton.now in
    let all : c.loop-letter.letter ≡ (g.A.Automaton.moves c.args.self.now.automaton.now).letters = omega arith in
    (grown_row _ _ _ _ (subst (λ a. Grown m c.args.self.now.most c.args.at a (vec_items c.loop-letter.rows)) all c.loop-letter.invariant.0), search rules)
