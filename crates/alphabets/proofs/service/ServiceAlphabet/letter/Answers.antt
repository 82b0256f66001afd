use Rattle.std.proofs.Common.{◌≡◌, sym, ◌∙◌, arith, rules, tests, bytes_eq}
use Rattle.std.specs.List.{position}
use Rattle.std.proofs.lemmas.Grind.{common_steps}
use Rattle.std.proofs.lemmas.Iterator.{YieldsList-from_slice}
use Rattle.std.proofs.lemmas.Iterator.Search.{position_from_yields_List}
use Rattle.alphabets.specs.Services.{service_names}
use Rattle.alphabets.proofs.Names.{index_of-position}
use Rattle.alphabets.proofs.service.ServiceAlphabet.letter.Goals as goal

pub returns : goal.returns
unfolding service_names
returns c =
    let w = c.args.name.now in
    let found : c.position.result ≡ position (bytes_eq w) service_names =
    position_from_yields_List (λ known. bytes_eq w known.now) _ _ c.position.result c.position.ensures.ran (YieldsList-from_slice _ c.iter.ensures.rest) (λ x b q k. search (rules, tests)) in
    let same : c.map.result ≡ c.position.result = grind (arith, common_steps) in
    same ∙ found ∙ sym (index_of-position w service_names)
