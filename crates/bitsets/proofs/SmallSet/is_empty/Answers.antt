use Rattle.std.proofs.lemmas.Bool.Decides.{Decides-eqb, Decides-like}
use Rattle.bitsets.proofs.Sets.{Has-zero, no_members}
use Rattle.bitsets.proofs.SmallSet.is_empty.Goals as goal

pub returns-clause-members : goal.returns-clause-members
returns-clause-members c =
    let s = c.args.self.bits in
    Decides-like _ (λ e k m. Has-zero k (rw e at m)) (no_members s) (Decides-eqb s 0)
