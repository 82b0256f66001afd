use Rattle.std.proofs.Common.{◌≡◌, length}
use Rattle.blocks.proofs.exactness.mark.Given as goal
use Rattle.blocks.specs.Marks.{Marked}

-- the next rows before this one are marked
abbrev pub invariant-loop-next : goal.invariant-loop-next
invariant-loop-next g l = (length l.named ≡ 256) × Marked l.next-index l.row.next l.initial.named l.named
