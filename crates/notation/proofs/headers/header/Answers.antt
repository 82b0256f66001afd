use Rattle.notation.proofs.Steps.{other_version, no_nodes}
use Rattle.notation.proofs.headers.header.Goals as goal

pub returns-then-version-ne1 : goal.returns-then-version-ne1
returns-then-version-ne1 c =
    other_version _ _ _ _ c.if-not-takes_name.ensures c.in_ok-version.ensures.0 c.in_ok-version.ensures.1 c.if-version-ne1.true

pub returns-in_err-nodes : goal.returns-in_err-nodes
returns-in_err-nodes c =
    rw c.from_residual-in_err-nodes.ensures (no_nodes _ _ _ _ _ _ c.if-not-takes_name.ensures c.in_ok-version.ensures.0 c.if-version-ne1.false c.in_ok-letters.ensures.0 c.in_err-nodes.ensures)
