use Rattle.std.proofs.Common.{ℕ, refl, subst, rules}
use Rattle.blocks.proofs.Marks.{first_alone, tracked_more, tracked_none}
use Rattle.blocks.proofs.exactness.Block.come_next.Goals as goal
use Rattle.blocks.specs.Blocks.{origin}
use Rattle.blocks.specs.Marks.{Marked}
use Rattle.std.proofs.lemmas.List.{get_or_read}

pub loop-k-init : goal.loop-k-init
loop-k-init g c = (refl, tracked_none _ _ _ (first_alone 255))

pub loop-k-preserved : goal.loop-k-preserved
loop-k-preserved g c =
    let m = g.A.Automaton.moves c.args.self.now.automaton.now in
    let before = c.loop-k.named in
    let after = c.mark.new.named in
    let here = get_or_read c.args.self.now.rows.now c.loop-k.k c.row-item.result c.loop-k-test.true c.row-item.is (origin m) in
    let marked = subst (λ row. Marked m.letters row.next before after) here (subst (λ (n : ℕ). Marked n c.row-item.result.next before after) c.letters.ensures c.mark.ensures) in
    (c.type_inv.named, tracked_more _ _ _ _ _ c.loop-k.invariant.1 (search rules) marked)
