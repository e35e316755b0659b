-- `spell` meets its contract: what line v says stands at v among the names.
use Rattle.std.proofs.Common.{suc, ◌-◌, ◌∙◌, ap, sym, length, get_or, drop, [], arith}
use lib.ListN.{length-drop}
use lib.Seq.{length-take-le}
use Rattle.paper.specs.Names.{names_of, names_fault}
use Rattle.names.proofs.Parts.{counted, spelled, name_sized}
use Rattle.names.proofs.Listed.spell.Goals as goal

pub line-requires-clause-v_lt_names_limit : goal.line-requires-clause-v_lt_names_limit
line-requires-clause-v_lt_names_limit c =
    let count = ap (λ list. length (names_of list)) (sym c.self.view_is) ∙ counted c.self.invariant in
    omega (arith, count, c.self.invariant.rising.few)

pub line-requires-clause-v_bound : goal.line-requires-clause-v_bound
line-requires-clause-v_bound c =
    let count = ap (λ list. length (names_of list)) (sym c.self.view_is) ∙ counted c.self.invariant in
    c.self.invariant.rising.rises c.args.v (omega (arith, count))

pub line-requires-clause-within : goal.line-requires-clause-within
line-requires-clause-within c =
    let count = ap (λ list. length (names_of list)) (sym c.self.view_is) ∙ counted c.self.invariant in
    c.self.invariant.rising.within c.args.v (omega (arith, count))

pub returns-clause-says : goal.returns-clause-says
returns-clause-says c =
    let count = ap (λ list. length (names_of list)) (sym c.self.view_is) ∙ counted c.self.invariant in
    c.line.ensures ∙ spelled c.self.invariant c.args.v (omega (arith, count)) ∙ ap (λ list. get_or (names_of list) c.args.v []) c.self.view_is

pub returns-clause-within : goal.returns-clause-within
returns-clause-within c =
    let v = c.args.v in
    let list = c.self.inside.list.now in
    let start = get_or c.self.inside.starts v 0 in
    let next = get_or c.self.inside.starts (suc v) 0 in
    let count = ap (λ list. length (names_of list)) (sym c.self.view_is) ∙ counted c.self.invariant in
    let inside = c.self.invariant.rising.within v (omega (arith, count)) in
    let left = length-drop start list in
    let long = length-take-le (next - 1 - start) (drop start list) (omega (arith, inside, left)) in
    omega (arith, ap length c.line.ensures, long, inside, left, ap length c.self.view_is)

pub returns-clause-long : goal.returns-clause-long
returns-clause-long c sound =
    let count = ap (λ list. length (names_of list)) (sym c.self.view_is) ∙ counted c.self.invariant in
    let says = c.line.ensures ∙ spelled c.self.invariant c.args.v (omega (arith, count)) in
    let sized = name_sized c.self.inside.list.now c.args.v (ap names_fault c.self.view_is ∙ sound) (omega (arith, count, counted c.self.invariant)) in
    rw says sized
