use Rattle.bitsets.proofs.Sets.{Has-or}
use Rattle.bitsets.proofs.SmallSet.union.Goals as goal

pub returns-clause-members : goal.returns-clause-members
returns-clause-members c = Has-or c.args.self.bits c.args.other.bits
