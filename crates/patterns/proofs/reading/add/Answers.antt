use Rattle.patterns.proofs.Bodies.{within_letters}
use Rattle.patterns.proofs.reading.add.Goals as goal
use Rattle.patterns.specs.Drafts.{Within}
use Rattle.patterns.specs.Reads.{NodeFor}
use Rattle.patterns.specs.Texts.{node_of}
use Rattle.std.proofs.Common.{vec_len, sym, subst}

pub with-requires : goal.with-requires
with-requires g c =
    let m = g.A.Alphabet.meaning c.args.alphabet.now in
    let node = node_of m c.args.kind c.args.code in
    let fits = subst (λ o. NodeFor m c.args.kind c.args.code o) c.in_ok-node.ensures.ok_part c.node_for.ensures in
    subst (λ x. Within (vec_len c.args.draft.stack.holders) x) (sym fits.1)
    (subst (λ n. Within n node) (sym c.requires) (within_letters m (g.met.A.Alphabet.sound c.args.alphabet.now) c.args.kind c.args.code))
