-- The items that come first and are the operator's are those before the first that is not, or all.
use Rattle.std.proofs.Common.{rules, tests, arith, ◌≡◌, length, drop, length-drop, ◌-◌, ◌∙◌, take}
use lib.Seq.{take_all}
use Rattle.std.specs.Option.{unwrap_or}
use Rattle.std.proofs.lemmas.Iterator.{YieldsList-from_slice}
use Rattle.std.proofs.lemmas.Iterator.Search.{position_from_yields_List}
use Rattle.paper.specs.Items.{leading}
use Rattle.shape.proofs.Runs.{is_other, run_found, run_within}
use Rattle.search.proofs.joins.Goals as goal

pub returns : goal.returns
returns c =
    let a = c.args in
    let rest = drop a.at a.items.now in
    let long : length rest ≡ length a.items.now - a.at = length-drop a.at a.items.now in
    let all : take (length a.items.now - a.at) rest ≡ rest = take_all _ rest (omega arith) in
    let first = position_from_yields_List (is_other a.operator) _ _ c.position.result c.position.ensures.ran (YieldsList-from_slice rest (c.iter.ensures.rest ∙ all)) (λ x b q k. search (rules, tests)) in
    let ends : unwrap_or c.position.result (length a.items.now - a.at) ≡ leading a.operator rest = rw (← long) (run_found a.operator rest c.position.result first) in
    let within = run_within a.operator rest in
    let run : c.unwrap_or.result ≡ leading a.operator rest = c.unwrap_or.ensures ∙ ends in
    (run, omega arith)
