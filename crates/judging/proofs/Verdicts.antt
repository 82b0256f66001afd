-- What a pattern that was read says of a trace, its text says of it.
use Rattle.std.proofs.Common.{ℕ, ◌+◌, List, take, subst}
use Rattle.alphabets.specs.Meaning.{Meaning}
use Rattle.expressions.specs.Places.{Leads}
use Rattle.judging.specs.Following.{FollowedAt, Followed}
use Rattle.judging.specs.Judging.{events, letters, JudgedAt, Judged}
use Rattle.judging.specs.declared.verdict.Verdict.{Verdict}
use Rattle.patterns.proofs.Accepted.{accepted_text}
use Rattle.patterns.specs.Nodes.{expression}
use Rattle.patterns.specs.Patterns.{expr_of}
use Rattle.patterns.specs.Reading.{Accepts}
use Rattle.patterns.specs.Texts.{IsText}
use Rattle.patterns.specs.declared.pattern.Pattern.{Pattern}
use Rattle.std.proofs.lemmas.Bool.Decides.{Decides-like}

module _ (m : Meaning) (procedure trace : List ℕ) (p : Pattern) (a : Accepts m procedure p) where
  is_text : IsText m procedure a.entries
  is_text = accepted_text m procedure p a

  judged_at : (k : ℕ) (v : Verdict) → FollowedAt (expr_of p) (events m trace) k v → JudgedAt m procedure trace k v
  judged_at k v f =
      let w = take (k + 1) (letters m trace) in
      record {
        name = f.name;
        places = (a.entries, is_text, subst (λ ns. Leads (expression ns) 1 w v.places.bits) a.nodes_are f.places);
        session = Decides-like v.session (a.sessions w).0 (a.sessions w).1 f.session;
      }

  -- the verdicts of the pattern are those of its text
  pub judged_from : (vs : List Verdict) → Followed (expr_of p) (events m trace) vs → Judged m procedure trace vs
  judged_from vs f = record { count = f.count; each = λ k v h. judged_at k v (f.each k v h) }
