-- All bytes go on with a name if each does: what `all` answers is the paper's recursion over the bytes.
use Rattle.std.proofs.Common.{ℕ, List, [], ◌∷◌, ◌≡◌, refl, ap, ◌∙◌, ◌&&◌, ◌-◌, length, take, drop, rules, tests, arith, take_all, length-drop}
use Rattle.std.specs.List.{list_all}
use Rattle.std.proofs.lemmas.Iterator.{YieldsList-from_slice}
use Rattle.std.proofs.lemmas.Iterator.Search.{all_from_yields_List}
use Rattle.paper.specs.Names.{name_part, name_parts}
use Rattle.good_names.proofs.name_parts.Goals as goal

each_part : (bs : List ℕ) → list_all name_part bs ≡ name_parts bs
each_part [] = refl
each_part (b ∷ bs) = ap (λ rest. name_part b && rest) (each_part bs)

pub returns : goal.returns
returns c =
    let bs = c.args.word.now in
    let from = c.args.from in
    all_from_yields_List name_part _ _ _ c.all.ensures.ran (YieldsList-from_slice (take (length bs - from) (drop from bs)) cc) (λ x b q k. search (rules, tests)) ∙
    ap (list_all name_part) (take_all (length bs - from) (drop from bs) (omega (arith, length-drop from bs))) ∙
    each_part (drop from bs)
