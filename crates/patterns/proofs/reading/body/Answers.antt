use Rattle.std.proofs.Common.{◌^◌, ◌<◌, [], ◌∷◌, ◌++◌, sym, ap, ◌∙◌, arith}
use Rattle.notation.specs.Notation.{fields_of}
use Rattle.patterns.proofs.Bodies.{no_line_no_entry, no_way_on, ended_early, whole_stands, lines_more, keeps_added, drawn_more, wrong_none, wrong_line}
use Rattle.patterns.proofs.reading.body.Goals as goal
use Rattle.std.proofs.lemmas.List.{append_assoc, length_push}
use Rattle.texts.specs.Lines.{rest, fields_left}

pub loop-token-preserved : goal.loop-token-preserved
loop-token-preserved g c =
    let took = c.in-Some-field.ensures.field in
    let left = fields_left c.field.new.self in
    ap (λ ws. ws ++ left) (c.in-Some-with.ensures took.word took.spelt)
    ∙ append_assoc (fields_of c.loop-token.read) (took.word ∷ []) left
    ∙ ap (λ ws. fields_of c.loop-token.read ++ ws) (sym took.split_off)
    ∙ c.loop-token.invariant

pub lines-preserved : goal.lines-preserved
lines-preserved g c =
    let m = g.A.Alphabet.meaning c.args.alphabet.now in
    let inv = c.lines.invariant in
    let ls = inv.0 in
    let k = c.in-Whole.kind in
    let code = c.in-Whole.code in
    let small : code < 2 ^ 32 = c.add.ensures.code in
    let stands =
    whole_stands c.lines.cursor c.line.new.self c.in-Some-line.line c.loop-token.line c.loop-token.read k code c.in-Some-line.ensures.line
    c.loop-token.invariant c.in_default-field.ensures.field.0 c.in-Whole.is in
    let adds = c.in-Ok.ensures.adds in
    let keeps = keeps_added m ls c.lines.draft c.in-Ok.more k code inv.2 adds.0 adds.1 in (
      ls ++ ((k, code) ∷ []),
      lines_more m (rest c.args.cursor.now) ls (rest c.lines.cursor) (rest c.line.new.self) k code small inv.1 stands keeps,
      drawn_more m ls c.lines.draft c.in-Ok.more k code inv.2 adds.1,
      omega (arith, length_push ls (k, code), inv.3, c.in-Some.ensures.steps),
      omega (arith, inv.4, inv.5, c.in-Some.ensures.steps),
      omega (arith, inv.5, c.in-Some.ensures.steps),
    )

pub returns-in_default-line : goal.returns-in_default-line
returns-in_default-line g c =
    let inv = c.lines.invariant in
    wrong_none _ _ _ _ inv.0 _ inv.1 (omega (arith, inv.3, c.in-Some.ensures.steps)) (omega (arith, inv.5, c.in-Some.ensures.steps))
    (no_line_no_entry (rest c.lines.cursor) c.in_default-line.ensures.line.0)

pub returns-in-None : goal.returns-in-None
returns-in-None g c =
    let inv = c.lines.invariant in
    let took = c.in-Some-field.ensures.field in
    wrong_none _ _ _ _ inv.0 _ inv.1 (omega (arith, inv.3, c.in-Some.ensures.steps)) (omega (arith, inv.5, c.in-Some.ensures.steps))
    (no_way_on c.lines.cursor c.line.new.self c.in-Some-line.line c.loop-token.line c.loop-token.read took.word (fields_left c.field.new.self)
    c.in-Some-line.ensures.line c.loop-token.invariant took.split_off (c.in-None.ensures took.word took.spelt))

pub returns-in_default-read : goal.returns-in_default-read
returns-in_default-read g c =
    let inv = c.lines.invariant in
    wrong_none _ _ _ _ inv.0 _ inv.1 (omega (arith, inv.3, c.in-Some.ensures.steps)) (omega (arith, inv.5, c.in-Some.ensures.steps))
    (ended_early c.lines.cursor c.line.new.self c.in-Some-line.line c.loop-token.line c.loop-token.read
    c.in-Some-line.ensures.line c.loop-token.invariant c.in_default-field.ensures.field.0 c.in_default-read.not-Whole)

pub returns-in-Err : goal.returns-in-Err
returns-in-Err g c =
    let inv = c.lines.invariant in
    let small : c.in-Whole.code < 2 ^ 32 = c.add.ensures.code in
    wrong_line _ _ _ _ inv.0 _ inv.1 (omega (arith, inv.3, c.in-Some.ensures.steps)) (omega (arith, inv.5, c.in-Some.ensures.steps))
    c.lines.draft c.in-Whole.kind c.in-Whole.code (rest c.line.new.self) c.in-Err.why inv.2 small
    (whole_stands c.lines.cursor c.line.new.self c.in-Some-line.line c.loop-token.line c.loop-token.read c.in-Whole.kind c.in-Whole.code c.in-Some-line.ensures.line
    c.loop-token.invariant c.in_default-field.ensures.field.0 c.in-Whole.is)
    c.in-Err.ensures.adds c.at_line.result c.at_line.ensures.why c.at_line.ensures.line
