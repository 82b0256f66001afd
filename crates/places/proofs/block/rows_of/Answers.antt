use Rattle.blocks.specs.Search.{allowed}
use Rattle.places.proofs.Tabled.{tabled_so}
use Rattle.places.proofs.block.rows_of.Goals as goal
use Rattle.std.proofs.Common.{vec_items}

pub returns : goal.returns
returns g c =
    let found = c.in_ok-search.ensures.rows in
    tabled_so (g.A.Alphabet.meaning c.args.alphabet.now) c.args.text.now (allowed c.args.limit) c.read.new.self
    c.in_ok-read.ensures.reads (vec_items c.search.new.rows) found.0 found.1
