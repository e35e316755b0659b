-- The items of S from those of the reverses, and how many they are. Assumes nothing.
use Prim.Native.Nat.{ℕ, zero, suc, ◌+◌, ◌-◌, ◌*◌, ◌≤◌}
use native.Mathlib.Omega.{arith}
use mathlib.Core.Path.{◌≡◌, refl, sym, ◌∙◌, ap, ap₂}
use mathlib.Core.List.{List, [], ◌∷◌, ◌++◌, append_assoc, append-nil}
use mathlib.Core.Option.{Option}
use lib.ListN.{length, replicate, length-append, length-replicate}
use Rattle.paper.specs.Query.{Expr, path, either, Steps, Query, paths}
use Rattle.paper.specs.Items.{or_item, encode_expr, encode_paths, encode, decode}
use Rattle.paper.specs.Composition.{reversed, joined, selected_by}
use Rattle.paper.proofs.Encoding.{encode_decode}
use Rattle.reverse.specs.Reverses.{reversed_items, each_path, each_got, selected_got, paths_got, IsQuery}
use Rattle.reverse.proofs.WayBack.{reversed_length}

-- S: the `or` items come first.
or_first : (n : ℕ) (xs : List ℕ) → replicate n or_item ++ (or_item ∷ xs) ≡ or_item ∷ (replicate n or_item ++ xs)
or_first zero xs = refl
or_first (suc n) xs = ap (λ (l : List ℕ). or_item ∷ l) (or_first n xs)

joined_items_lem : (e : Expr) (ps : List Steps) → encode_expr (joined e ps) ≡ replicate (length ps) or_item ++ (encode_expr e ++ each_path reversed_items ps)
joined_items_lem e [] = sym (append-nil (encode_expr e))
joined_items_lem e (p ∷ ps) =
    joined_items_lem (either e (reversed p)) ps ∙
    ap (λ (l : List ℕ). replicate (length ps) or_item ++ (or_item ∷ l)) (append_assoc (encode_expr e) (reversed_items p) (each_path reversed_items ps)) ∙
    or_first (length ps) (encode_expr e ++ (reversed_items p ++ each_path reversed_items ps))

pub selected_items : (q : Query) → encode_expr (selected_by q) ≡ replicate (length q.others) or_item ++ each_path reversed_items (paths q)
unfolding selected_by
selected_items q = joined_items_lem (reversed q.first) q.others

-- The same of what was decoded.
pub selected_parts : (items : List ℕ) (count : ℕ) → IsQuery items → count ≡ paths_got (decode items)
    → (1 ≤ count) × (selected_got (decode items) ≡ replicate (count - 1) or_item ++ each_got reversed_items (decode items))
selected_parts items count q e =
    let n : count ≡ suc (length q.query.others) = e ∙ ap paths_got q.decodes in (
      omega arith,
      ap selected_got q.decodes ∙ selected_items q.query ∙
          ap₂ (λ (k : ℕ) (o : Option Query). replicate k or_item ++ each_got reversed_items o) (let f : length q.query.others ≡ count - 1 = omega arith in f) (sym q.decodes),
    )

-- How long it is: 01's formula.
reverses_length : (ps : List Steps) → length (each_path reversed_items ps) ≡ length (encode_paths ps) + 4 * length ps
reverses_length [] = refl
reverses_length (p ∷ ps) =
    omega (
      arith,
      reverses_length ps,
      reversed_length p,
      length-append (reversed_items p) (each_path reversed_items ps),
      length-append (encode_expr (path p)) (encode_paths ps),
    )

pub selected_length : (q : Query) → length (encode_expr (selected_by q)) ≡ length (encode q) + 5 * length (paths q) - 1
unfolding encode
selected_length q =
    omega (
      arith,
      ap length (selected_items q),
      length-append (replicate (length q.others) or_item) (each_path reversed_items (paths q)),
      length-replicate (length q.others) or_item,
      reverses_length (paths q),
    )

-- The same of what was decoded.
pub selected-got : (items : List ℕ) → IsQuery items → length (selected_got (decode items)) ≡ length items + 5 * paths_got (decode items) - 1
selected-got items q =
    omega (
      arith,
      ap (λ (o : Option Query). length (selected_got o)) q.decodes,
      ap paths_got q.decodes,
      selected_length q.query,
      ap length (encode_decode items q.query q.decodes).items,
    )

-- A query has at least one path, and no more paths than items.
paths_few : (ps : List Steps) → length ps ≤ length (encode_paths ps)
paths_few [] = omega arith
paths_few (p ∷ ps) = omega (arith, paths_few ps, length-append (encode_expr (path p)) (encode_paths ps))

pub paths-got : (items : List ℕ) → IsQuery items → (1 ≤ paths_got (decode items)) × (paths_got (decode items) ≤ length items)
unfolding encode
paths-got items q =
    let e = ap paths_got q.decodes in
    (omega arith, omega (arith, paths_few (paths q.query), ap length (encode_decode items q.query q.decodes).items))
