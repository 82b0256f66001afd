use Rattle.patterns.proofs.Patterns.{ends_so, ends_Session, ends_whole}
use Rattle.patterns.proofs.pattern.Pattern.ends.Goals as goal
use Rattle.patterns.specs.Patterns.{expr_of}
use lib.Bits.{bit_and}
use Rattle.std.proofs.Common.{ap, ◌∙◌}

pub returns : goal.returns
returns c =
    let self = c.args.self.now in
    let meets = c.common.ensures.value ∙ ap (bit_and c.args.places.bits) self.ends in
    record {
      ends = ends_so (expr_of self) c.args.places.bits _ _ meets c.is_empty.ensures.value;
      sessions = ends_Session (expr_of self) c.args.places.bits _ _ meets c.is_empty.ensures.value;
      whole = ends_whole (expr_of self) c.args.places.bits _ _ meets c.is_empty.ensures.value;
    }
