use Rattle.std.proofs.Common.{◌^◌, ◌<◌, ltb, Decides, arith}
use Rattle.std.proofs.lemmas.Bool.{ltb-true}
use Rattle.std.proofs.lemmas.Bool.Decides.{same_from_decides}
use Rattle.bitsets.specs.Sets.{Has}
use Rattle.bitsets.proofs.Sets.{Has-below, Decides-Has}
use Rattle.bitsets.proofs.SmallSet.holds.Goals as goal

-- a word's number is below 2 ^ 64, so nothing from 64 on is in it
pub returns-else-k-lt64 : goal.returns-else-k-lt64
returns-else-k-lt64 c =
    let s = c.args.self.bits in
    let k = c.args.k in
    let word : s < 2 ^ 64 = omega arith in
    let out : Decides (ltb k 64) (Has s k) =
    (λ t. absurd (omega (arith, ltb-true k 64 t)), λ m. absurd (omega (arith, Has-below s k 64 word m))) in
    record { value = same_from_decides _ _ out (Decides-Has s k); decides = out }
