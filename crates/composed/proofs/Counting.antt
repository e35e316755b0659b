-- How many items say something, and the size of the composition from the numbers that are counted. Assumes nothing.
use Prim.Native.Nat.{ℕ, ◌+◌, ◌-◌, ◌*◌, ◌≤◌}
use native.Mathlib.Nat.{mul-le-mul}
use mathlib.Core.Path.{◌≡◌, sym, ◌∙◌, ap, ap₂}
use mathlib.Core.List.{List}
use mathlib.Core.Option.{Option}
use lib.ListN.{length, length-map}
use Rattle.paper.specs.Limits.{item_limit}
use Rattle.paper.specs.Query.{Query, paths}
use Rattle.paper.specs.Items.{encode, decode}
use Rattle.paper.specs.Lean.{guards_in_paths_by}
use Rattle.paper.proofs.Encoding.{encode_decode}
use Rattle.paper.proofs.Sizes.{size_decoded}
use Rattle.reverse.specs.Reverses.{IsQuery, paths_got}
use Rattle.guards.specs.Guarded.{guard_item, total, guard_items}
use Rattle.composed.specs.Pieces.{size_got, Says}
use Rattle.composed.proofs.Items.{paths_total, paths_long}

-- There are as many items that say something as there are items.
pub says_length : (outer says : List ℕ) → Says outer says → length says ≡ length outer
unfolding encode
says_length outer says g =
    sym (length-map says guard_item) ∙ ap length g.flags ∙ paths_long g.decides (paths g.query) ∙ ap length (sym (encode_decode outer g.query g.decodes).items)

pub says_query : (outer says : List ℕ) → Says outer says → IsQuery outer
says_query outer says g = record { query = g.query; decodes = g.decodes }

-- THE SIZE OF THE COMPOSITION, from the numbers of items, guarded steps and paths. The steps are counted of all depths.
pub size-got : (items says : List ℕ) (guards count ps : ℕ) (g : Says items says) → guards ≡ guard_items says → ps ≡ paths_got (decode items)
    → length items + guards * (5 + 2 * count) + ps * (3 + count) ≡ size_got g.decides (decode items) count
size-got items says guards count ps g es ep =
    let q = g.query in
    let t : guards ≡ guards_in_paths_by g.decides (paths q) = es ∙ ap total g.flags ∙ paths_total g.decides (paths q) in
    let m : ps ≡ length (paths q) = ep ∙ ap paths_got g.decodes in
    ap₂ (λ (a b : ℕ). length items + a * (5 + 2 * count) + b * (3 + count)) t m ∙
    ap (λ (n : ℕ). n + guards_in_paths_by g.decides (paths q) * (5 + 2 * count) + length (paths q) * (3 + count)) (sym (size_decoded items q g.decodes)) ∙
    ap (λ (o : Option Query). size_got g.decides o count) (sym g.decodes)

-- A product of two numbers within limits.
pub product : (a b : ℕ) → a ≤ item_limit → b ≤ 65536 → a * b ≤ 268435456
product a b ha hb = mul-le-mul ha hb
