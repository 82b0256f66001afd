use Rattle.std.proofs.Common.{◌≡◌, ◌^◌, cond, vec_items, vec_len, refl, ap, ◌∙◌, rules}
use Rattle.bitsets.specs.Sets.{has}
use Rattle.patterns.proofs.Grows.{leaf_grows}
use Rattle.patterns.proofs.stack.Stack.leaf.Goals as goal
use Rattle.patterns.specs.Tables.{at}
use lib.Bits.{bit_or}

pub returns : goal.returns
returns c = λ nodes drafted within.
    let d = c.args.self.now in
    let place : c.only-here.result.bits ≡ 2 ^ vec_len d.followers = search rules in
    leaf_grows _ _ nodes drafted c.args.letters _ _ (search rules) refl c.empty.ensures c.in_ok-push.ensures.items (search rules) c.unite_at.ensures.len
    within
    (λ a h. c.unite_at.ensures.unites a h ∙ ap (λ m. bit_or (at (vec_items d.holders) a) (cond (has c.args.letters.bits a) m 0)) place)
    place place refl
