use Rattle.std.proofs.Common.{◌≡◌, sym, ap, ◌∙◌, arith}
use Rattle.bitsets.specs.Sets.{below}
use Rattle.alphabets.specs.Meaning.{held_letters}
use Rattle.alphabets.proofs.Letters.{below_joins, below_passes, below_rest}
use Rattle.alphabets.proofs.letters_of.Goals as goal
use Rattle.alphabets.proofs.letters_of.Goals.{then-holds, else-holds}

pub loop-letter-preserved : goal.loop-letter-preserved
loop-letter-preserved g c =
    let m = g.A.Alphabet.meaning c.args.alphabet.now in
    let s = g.met.A.Alphabet.sound c.args.alphabet.now in
    let f = m.holds c.args.code in
    let before = c.loop-letter.invariant in
    elim c.if-holds.branch [
      | then-holds w ↦ (
          let b = w.only.ensures.small (omega (arith, s.few)) in
          let j = below_joins f c.loop-letter.letter (sym w.if-holds.ensures) in
          cc)
      | else-holds w ↦ (
          let p = below_passes f c.loop-letter.letter (sym w.if-holds.ensures) in
          cc)
    ]

pub returns : goal.returns
unfolding held_letters
returns g c =
    let m = g.A.Alphabet.meaning c.args.alphabet.now in
    let s = g.met.A.Alphabet.sound c.args.alphabet.now in
    let e : c.loop-letter.letter ≡ m.n = omega arith in
    c.loop-letter.invariant ∙
    (ap (below (m.holds c.args.code)) e ∙
    sym (below_rest (m.holds c.args.code) m.n 16 s.few (s.within c.args.code)))
