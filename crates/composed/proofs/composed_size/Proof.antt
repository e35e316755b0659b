-- `composed::composed_size` meets its contract: each product has factors within limits, so nothing wraps. Assumes nothing.
use Prim.Native.Nat.{◌+◌, ◌*◌}
use native.Mathlib.Omega.{arith}
use Rattle.reverse.proofs.Selected.{paths-got}
use Rattle.composed.proofs.Counting.{says_query, says_length, size-got, product}
use borrow.Author.Rules.{rules}
use Rattle.composed.proofs.composed_size.Statement.{statement}
use Rattle.composed.proofs.composed_size.Tie as tie

-- Guards and paths are counted.
abbrev begun-of : tie.After-count_paths-paths → tie.Start
begun-of c = c.before.before.before.before

count-guards-requires : tie.Need-count_guards-guards-requires
count-guards-requires c κs =
    let start = c in
    omega (arith, says_length _ _ start.requires.0, start.requires.1)

count-paths-requires : tie.Need-count_paths-paths-requires
count-paths-requires c κs =
    let start = c in
    (says_query _ _ start.requires.0, start.requires.1)

mul-result : tie.Need-overflow_mul-result
mul-result c = search rules

add-result : tie.Need-overflow_add-result
add-result c = search rules

mul-result-2 : tie.Need-overflow_mul-result-2
mul-result-2 c =
    let begun = begun-of c in
    let guards = c.count_guards-guards.result in
    let ps = c.count_paths-paths.result in
    let count = begun.args.count in
    let few = paths-got begun.args.outer.now (says_query _ _ begun.requires.0) in
    let one = product guards (5 + 2 * count) (omega (arith, c.count_guards-guards.ensures.1, begun.requires.1, says_length _ _ begun.requires.0)) (omega (arith, begun.requires.2)) in
    let two = product ps (3 + count) (omega (arith, c.count_paths-paths.ensures, begun.requires.1)) (omega (arith, begun.requires.2)) in
    omega arith

add-result-2 : tie.Need-overflow_add-result-2
add-result-2 c =
    let begun = begun-of c in
    let guards = c.count_guards-guards.result in
    let ps = c.count_paths-paths.result in
    let count = begun.args.count in
    let few = paths-got begun.args.outer.now (says_query _ _ begun.requires.0) in
    let one = product guards (5 + 2 * count) (omega (arith, c.count_guards-guards.ensures.1, begun.requires.1, says_length _ _ begun.requires.0)) (omega (arith, begun.requires.2)) in
    let two = product ps (3 + count) (omega (arith, c.count_paths-paths.ensures, begun.requires.1)) (omega (arith, begun.requires.2)) in
    omega (arith, begun.requires.1)

add-result-3 : tie.Need-overflow_add-result-3
add-result-3 c = search rules

mul-result-3 : tie.Need-overflow_mul-result-3
mul-result-3 c =
    let begun = begun-of c in
    let guards = c.count_guards-guards.result in
    let ps = c.count_paths-paths.result in
    let count = begun.args.count in
    let few = paths-got begun.args.outer.now (says_query _ _ begun.requires.0) in
    let one = product guards (5 + 2 * count) (omega (arith, c.count_guards-guards.ensures.1, begun.requires.1, says_length _ _ begun.requires.0)) (omega (arith, begun.requires.2)) in
    let two = product ps (3 + count) (omega (arith, c.count_paths-paths.ensures, begun.requires.1)) (omega (arith, begun.requires.2)) in
    omega arith

add-result-4 : tie.Need-overflow_add-result-4
add-result-4 c =
    let begun = begun-of c in
    let guards = c.count_guards-guards.result in
    let ps = c.count_paths-paths.result in
    let count = begun.args.count in
    let few = paths-got begun.args.outer.now (says_query _ _ begun.requires.0) in
    let one = product guards (5 + 2 * count) (omega (arith, c.count_guards-guards.ensures.1, begun.requires.1, says_length _ _ begun.requires.0)) (omega (arith, begun.requires.2)) in
    let two = product ps (3 + count) (omega (arith, c.count_paths-paths.ensures, begun.requires.1)) (omega (arith, begun.requires.2)) in
    omega (arith, begun.requires.1)

returns : tie.Need-returns
returns c =
    let start = begun-of c in
    λ g. size-got start.args.outer.now start.args.says.now c.count_guards-guards.result start.args.count c.count_paths-paths.result g c.count_guards-guards.ensures.0 c.count_paths-paths.ensures

pub composed_size_spec : {M : Type 1} → statement M
composed_size_spec =
    tie.close
    (tie.spec
    count-guards-requires
    count-paths-requires
    mul-result
    add-result
    mul-result-2
    add-result-2
    add-result-3
    mul-result-3
    add-result-4
    returns)
