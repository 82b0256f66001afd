use Rattle.std.proofs.Common.{◌^◌, ◌<◌, ◌≤◌, length, vec_len, sym, ap, ◌∙◌, arith}
use Rattle.bitsets.specs.declared.SmallSet.{SmallSet}
use Rattle.patterns.proofs.Patterns.{takes_so, takes_none}
use Rattle.patterns.proofs.pattern.Pattern.take.Goals as goal
use Rattle.patterns.specs.Patterns.{expr_of}
use Rattle.patterns.specs.Tables.{at}
use Rattle.std.proofs.lemmas.Bool.{ltb-true, ltb-false}
use Rattle.std.proofs.lemmas.List.{get_or_read}

pub returns-in_default : goal.returns-in_default
returns-in_default c =
    let self = c.args.self.now in
    let small : c.args.places.bits < 2 ^ 64 = omega arith in
    let past : vec_len self.carriers ≤ c.args.letter = omega (arith, ltb-false _ _ (sym c.in_default.ensures.lookup.0), c.deref.ensures.len) in
    takes_none (expr_of self) self.successors self.carriers _ c.args.letter small self.room self.follows self.holds _ past c.empty.ensures

pub returns : goal.returns
returns c =
    let self = c.args.self.now in
    let small : c.args.places.bits < 2 ^ 64 = omega arith in
    let within : c.args.letter < length c.deref.result.now = ltb-true _ _ (sym c.in-Some.ensures.lookup.0) in
    takes_so (expr_of self) self.successors self.carriers _ c.args.letter small self.room self.follows self.holds _ _ _ c.following.ensures
    (ap (λ (x : SmallSet). x.bits) (get_or_read c.deref.result.now c.args.letter c.in-Some.carriers.now within c.in-Some.ensures.lookup.1 (record { bits = 0 }))
    ∙ ap (λ xs. at xs c.args.letter) c.deref.ensures.value)
    c.common.ensures.value
