use Rattle.blocks.proofs.Growing.{grown_found, start_declines}
use Rattle.blocks.proofs.searching.Builder.fill.Goals as goal
use Rattle.std.proofs.lemmas.Result.{err_from_is_err_and}
use Rattle.std.proofs.Common.{vec_items, vec_capacity, rules}

pub returns-in_err-place-clause-rows : goal.returns-in_err-place-clause-rows
returns-in_err-place-clause-rows g c =
    let p = err_from_is_err_and c.from_residual.result c.from_residual.ensures.1 in
    rw (p.1, p.2)
    (start_declines _ (g.A.Automaton.fair c.args.self.now.automaton.now) c.args.self.now.most (vec_capacity c.args.rows.now) (vec_items c.args.rows.now) (vec_items c.place.new.rows) c.start.result c.in_err-place.field-0.0 c.requires.empty c.in_err-place.ensures.rows)

pub returns-clause-rows : goal.returns-clause-rows
returns-clause-rows g c = grown_found _ _ _ _ c.loop-done.invariant.0 (search rules)
