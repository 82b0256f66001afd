use Rattle.bitsets.proofs.Sets.{Has-and}
use Rattle.bitsets.proofs.SmallSet.common.Goals as goal

pub returns-clause-members : goal.returns-clause-members
returns-clause-members c = Has-and c.args.self.bits c.args.other.bits
