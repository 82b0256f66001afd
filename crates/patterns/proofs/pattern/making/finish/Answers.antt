use Rattle.std.proofs.Common.{◌≡◌, cond, length, vec_items, refl, ap, ◌∙◌, arith, rules}
use Rattle.patterns.proofs.Drafts.{length-laid}
use Rattle.patterns.proofs.Patterns.{one_stands_so, room_so, follows_so, holds_so, ends_are}
use Rattle.patterns.proofs.pattern.making.finish.Goals as goal
use Rattle.patterns.specs.Nodes.{standing}

pub returns-then-len-ne1 : goal.returns-then-len-ne1
returns-then-len-ne1 c =
    let d = c.args.draft in
    (refl, λ one. omega (arith, ap length d.drafted.parts, length-laid (standing (vec_items d.nodes)), d.stack.parts.ok.0))

pub invariant_of-result : goal.invariant_of-result
invariant_of-result c =
    let d = c.args.draft in
    let whole = c.index-whole.result.now in
    let one : length (vec_items d.stack.parts) ≡ 1 = search rules in
    let is_one : c.only.result.bits ≡ 1 = search rules in
    let is_whole = c.index-whole.ensures in
    record {
      few = omega (arith, d.drafted.tabled.letters);
      room = room_so _ d.stack d.drafted whole whole one is_whole;
      span = search rules;
      follows = follows_so _ d.stack d.drafted whole whole one is_whole c.union.result c.index.result.now c.index.ensures c.union.ensures.value;
      holds = holds_so _ d.stack d.drafted whole whole one is_whole;
      ends = ends_are _ d.stack d.drafted whole whole one is_whole c.union-finals.result c.only_if.result (c.only_if.ensures ∙ ap (λ b. cond whole.nullable b 0) is_one) c.union-finals.ensures.value;
    }

pub returns : goal.returns
returns c =
    let d = c.args.draft in
    let whole = c.index-whole.result.now in
    let one : length (vec_items d.stack.parts) ≡ 1 = search rules in
    (search rules, refl, one_stands_so _ d.stack d.drafted whole whole one c.index-whole.ensures)
