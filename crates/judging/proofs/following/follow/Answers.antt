use Rattle.judging.proofs.Steps.{so_far_pass, so_far_more, so_far_all}
use Rattle.judging.proofs.following.follow.Goals as goal
use Rattle.std.proofs.Common.{[], vec_items, refl}
use Rattle.texts.specs.Lines.{rest, line_bytes}

-- after a line that is no name
pub loop-line-preserved-in_default-letter : goal.loop-line-preserved-in_default-letter
loop-line-preserved-in_default-letter g c =
    so_far_pass c.loop-line.invariant (line_bytes c.in-Some.line) (rest c.line.new.self) c.bytes-name.result.now
    c.in-Some.ensures.line.parts c.bytes-name.ensures c.in_default-letter.ensures

-- after a name
pub loop-line-preserved : goal.loop-line-preserved
loop-line-preserved g c =
    so_far_more c.loop-line.invariant (line_bytes c.in-Some.line) (rest c.line.new.self) c.in-Some-letter.letter
    (record { name = c.bytes-name.result; places = c.take-places.result; session = c.ends-session.result })
    (vec_items c.push.new.self) c.in-Some.ensures.line.parts c.bytes-name.ensures c.in-Some-letter.ensures
    c.take-places.ensures (λ w led. c.ends-session.ensures.sessions [] w 1 refl led) c.in_ok-push.ensures.items

pub returns : goal.returns
returns g c = so_far_all c.loop-line.invariant c.in_default.ensures.line.0
