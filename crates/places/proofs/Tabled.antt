-- What a search says of the place sets of a pattern that was read, in words of the pattern's text.
use Rattle.std.proofs.Common.{ℕ, ◌↔◌, List, sym, ap, subst, subst₂}
use Rattle.alphabets.specs.Meaning.{Meaning}
use Rattle.bitsets.proofs.Iff.{◌⇄◌}
use Rattle.bitsets.specs.declared.SmallSet.{SmallSet}
use Rattle.blocks.specs.Blocks.{state}
use Rattle.blocks.specs.Laws.{Faithful, Leads}
use Rattle.blocks.specs.Moves.{Moves, reached}
use Rattle.blocks.specs.Search.{Found}
use Rattle.blocks.specs.declared.row.Row.{Row}
use Rattle.expressions.proofs.Theorem.{places_know_whole}
use Rattle.expressions.specs.Expr.{Expr}
use Rattle.expressions.specs.Places.{Ends}
use Rattle.patterns.proofs.Accepted.{accepted_text}
use Rattle.patterns.specs.Nodes.{expression}
use Rattle.patterns.specs.Patterns.{expr_of}
use Rattle.patterns.specs.Reading.{Accepts}
use Rattle.patterns.specs.Texts.{IsText, TextSession, nodes}
use Rattle.patterns.specs.declared.pattern.Pattern.{Pattern}
use Rattle.places.proofs.Steps.{Leads_so}
use Rattle.places.specs.Places.{place_moves}
use Rattle.places.specs.Rows.{Tabled}

-- p is the pattern that was read
module _ (m : Meaning) (text : List ℕ) (most : ℕ) (p : Pattern) (a : Accepts m text p) where
  abbrev moves : Moves SmallSet
  moves = place_moves (expr_of p) p.letters

  is_text : IsText m text a.entries
  is_text = accepted_text m text p a

  -- what holds of the pattern's expression and letters holds of its text's
  in_text : (P : Expr → ℕ → Type 0) → P (expr_of p) p.letters → P (expression (nodes m a.entries)) m.n
  in_text P = subst₂ P (ap expression a.nodes_are) a.letters

  module _ (rows : List (Row SmallSet)) (found : Found moves most rows) (laws : Faithful moves rows) where
    -- letters lead to an ending row exactly when they are a session
    abbrev Ending : Expr → ℕ → Type 0
    Ending e n =
        (w : List ℕ) (j : ℕ) → Leads (place_moves e n) rows 0 w j → Ends e (state (place_moves e n) rows j).bits ↔ TextSession m text w

    ending : Ending (expr_of p) p.letters
    ending w j led =
        subst (λ s. Ends (expr_of p) s ↔ TextSession m text w) (sym (laws.right w j led))
        (places_know_whole (expr_of p) w (reached moves w).bits (Leads_so p p.letters w moves.start) ⇄ a.sessions w)

    pub tabled_so : Tabled m text most rows
    tabled_so =
        record {
          entries = a.entries;
          is_text = is_text;
          found = in_text (λ e n. Found (place_moves e n) most rows) found;
          laws = in_text (λ e n. Faithful (place_moves e n) rows) laws;
          sessions = in_text Ending ending;
        }
