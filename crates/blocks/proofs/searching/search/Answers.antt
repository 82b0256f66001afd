use Rattle.blocks.proofs.Growing.{search_declined, search_done}
use Rattle.blocks.proofs.searching.search.Goals as goal
use Rattle.std.proofs.Common.{sym, ◌∙◌}

pub returns-then-is_err-clause-rows : goal.returns-then-is_err-clause-rows
returns-then-is_err-clause-rows g c =
    search_declined _ (g.A.Automaton.fair c.args.automaton.now) _ _ c.min-most.result c.clear.ensures.capacity c.args.limit c.min-most.ensures
    c.fill-found.result _ _ (sym c.is_err.ensures.value ∙ c.if-is_err.true) c.clear-then-is_err.ensures.items c.fill-found.ensures.rows

pub returns-else-is_err-clause-rows : goal.returns-else-is_err-clause-rows
returns-else-is_err-clause-rows g c =
    search_done _ (g.A.Automaton.fair c.args.automaton.now) _ _ c.min-most.result c.clear.ensures.capacity c.args.limit c.min-most.ensures
    c.fill-found.result _ (sym c.is_err.ensures.value ∙ c.if-is_err.false) c.fill-found.ensures.rows
