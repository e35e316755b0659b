-- `token::run_end` meets its contract: what `position` answers is where the run ends. Assumes nothing.
use Rattle.std.proofs.Common.{rules, tests, arith, ◌≡◌, length, drop, length-drop, ◌+◌, ◌-◌, ◌∙◌, take, take_all, ap}
use Rattle.std.specs.Option.{unwrap_or}
use Rattle.std.proofs.lemmas.Iterator.{YieldsList-from_slice}
use Rattle.std.proofs.lemmas.Iterator.Search.{position_from_yields_List}
use Rattle.paper.specs.Tools.{run_of}
use Rattle.paper.specs.Names.{name_part}
use Rattle.token.proofs.Runs.{fails, run_found}
use Rattle.token.proofs.run_end.Goals as goal

pub returns : goal.returns
returns c =
    let a = c.args in
    let rest = drop a.from a.text.now in
    let long : length rest ≡ length a.text.now - a.from = length-drop a.from a.text.now in
    let all : take (length a.text.now - a.from) rest ≡ rest = take_all _ rest (omega arith) in
    let first = position_from_yields_List (fails name_part) _ _ c.position.result c.position.ensures.ran (YieldsList-from_slice rest (c.iter.ensures.rest ∙ all)) (λ x b q k. search (rules, tests)) in
    let ends : unwrap_or c.position.result (length a.text.now - a.from) ≡ run_of name_part rest = rw (← long) (run_found name_part rest c.position.result first) in
    let run : c.unwrap_or-letters.result ≡ run_of name_part rest = c.unwrap_or-letters.ensures ∙ ends in
    ap (λ n. a.from + n) run
