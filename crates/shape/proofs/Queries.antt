-- Walking over the top-level paths of a query, one after the other to the end of the items. Assumes nothing.
use Prim.Native.Nat.{ℕ, zero, suc, ◌+◌, ◌≤◌, ◌<◌, max}
use native.Mathlib.Omega.{arith}
use native.Mathlib.Numerals.{add-one}
use mathlib.Core.Path.{◌≡◌, refl, sym, ◌∙◌, ap}
use mathlib.Core.List.{List, [], ◌∷◌, ◌++◌, append_assoc, append-nil}
use mathlib.Core.Option.{Option, none, some}
use Rattle.std.specs.Prelude.{Some, None}
use lib.Dec.{leb}
use lib.ListN.{length, get_or, drop, drop_of_length-le}
use lib.Seq.{drop-cons}
use Rattle.paper.specs.Tools.{found}
use Rattle.paper.specs.Limits.{bracket_limit}
use Rattle.paper.specs.Query.{Steps}
use Rattle.paper.specs.Items.{path_at, take_steps, take_within, take_paths, as_query, decode}
use Rattle.paper.specs.Measures.{nest_steps, nest_paths, nesting, height_steps, height_paths, height}
use Rattle.paper.specs.Composition.{guard_depth_steps, guard_depth_paths, guard_depth}
use Rattle.paper.proofs.Tests.{or_right}
use Rattle.heights.specs.Heights.{opened}
use Rattle.shape.specs.Walks.{open_in_steps, Walk, shape_of}

-- What has been read: these paths, and as many more as the items that are left hold.
pub record PathsLeft (items : List ℕ) (place deep high guard : ℕ) : Type 0 where
  pub so_far : List Steps
  pub fuel : ℕ
  pub goes_on : take_paths (length items) items ≡ found (take_paths fuel (drop place items)) (λ ps. some (so_far ++ ps))
  pub enough : length items ≤ place + fuel
  pub nests : deep ≡ nest_paths so_far
  pub heights : high ≡ height_paths so_far
  pub guards : guard ≡ guard_depth_paths so_far
  pub inside : place ≤ length items
  pub low : high ≤ place
  pub begun : so_far ≡ [] → place ≡ 0

pub paths_start : (items : List ℕ) → PathsLeft items 0 0 0 0
paths_start items =
    record {
      so_far = [];
      fuel = length items;
      goes_on = go (take_paths (length items) items);
      enough = omega arith;
      nests = refl;
      heights = refl;
      guards = refl;
      inside = omega arith;
      low = omega arith;
      begun = λ e. refl;
    }
  where
    go : (o : Option (List Steps)) → o ≡ found o (λ ps. some ps)
    go none = refl
    go (some ps) = refl

-- Measures of paths, one after the other.
nest-paths : (ps qs : List Steps) → nest_paths (ps ++ qs) ≡ max (nest_paths ps) (nest_paths qs)
nest-paths [] qs = omega arith
nest-paths (p ∷ ps) qs = omega (arith, nest-paths ps qs)

height-paths : (ps qs : List Steps) → height_paths (ps ++ qs) ≡ max (height_paths ps) (height_paths qs)
height-paths [] qs = omega arith
height-paths (p ∷ ps) qs = omega (arith, height-paths ps qs)

guard-paths : (ps qs : List Steps) → guard_depth_paths (ps ++ qs) ≡ max (guard_depth_paths ps) (guard_depth_paths qs)
guard-paths [] qs = omega arith
guard-paths (p ∷ ps) qs = omega (arith, guard-paths ps qs)

-- At the top no bracket is open.
none_opened : opened bracket_limit ≡ 0
unfolding opened
none_opened = refl

-- What reading one path more comes to.
one_path : (items : List ℕ) (place count fuel : ℕ) → place < length items → path_at (get_or items place 0) ≡ some count
    → take_paths (suc fuel) (drop place items)
    ≡ found (take_steps (take_within bracket_limit) count (drop (place + 1) items)) (λ r. found (take_paths fuel r.1) (λ ps. some (r.0 ∷ ps)))
one_path items place count fuel l e = rw (drop-cons items place 0 l, e, or_right (leb 1 count) refl, ← add-one place)

-- Whatever is left of the fuel, there is some while items are left.
some-fuel {ℓ} : {C : Type ℓ} (fuel : ℕ) → 0 < fuel → ((f : ℕ) → fuel ≡ suc f → C) → C
some-fuel zero z k = absurd (omega arith)
some-fuel (suc f) z k = k f refl

pub paths_more : (items : List ℕ) (place deep high guard count next nesting height' guards deep' high' guard' : ℕ) → place < length items → PathsLeft items place deep high guard
    → path_at (get_or items place 0) ≡ some count
    → Walk items (place + 1) bracket_limit (take_steps (take_within bracket_limit) count (drop (place + 1) items)) nest_steps height_steps (open_in_steps bracket_limit) next nesting height' guards
    → deep' ≡ max deep nesting → high' ≡ max high (height' + 1) → guard' ≡ max guard guards → PathsLeft items next deep' high' guard'
paths_more items place deep high guard count next nesting height' guards deep' high' guard' l p e w ed eh eg =
    some-fuel p.fuel (omega (arith, p.enough))
    (λ f ef.
    record {
      so_far = p.so_far ++ (w.what ∷ []);
      fuel = f;
      goes_on =
          p.goes_on ∙
          rw (ef, one_path items place count f l e, w.reads) (go (take_paths f (drop next items)));
      enough = omega (arith, p.enough, w.onward);
      nests = omega (arith, ed, p.nests, w.nests, nest-paths p.so_far (w.what ∷ []));
      heights = omega (arith, eh, p.heights, w.heights, height-paths p.so_far (w.what ∷ []));
      guards = omega (arith, eg, p.guards, w.guards ∙ ap (guard_depth_steps w.what) none_opened, guard-paths p.so_far (w.what ∷ []));
      inside = w.inside;
      low = omega (arith, p.low, w.low, w.onward);
      begun = λ nil. absurd (ends p.so_far w.what nil);
    })
  where
    go : (o : Option (List Steps)) → found (found o (λ ps. some (w.what ∷ ps))) (λ ps. some (p.so_far ++ ps)) ≡ found o (λ ps. some (p.so_far ++ (w.what ∷ []) ++ ps))
    go none = refl
    go (some ps) = ap some (sym (append_assoc p.so_far (w.what ∷ []) ps))

    ends : (ps : List Steps) (s : Steps) → ps ++ (s ∷ []) ≡ [] → ⊥
    ends [] s h = let z : ◌≡◌ {A = ℕ} 1 0 = ap length h in omega arith
    ends (q ∷ ps) s h = let z : ◌≡◌ {A = ℕ} (suc (length (ps ++ (s ∷ [])))) 0 = ap length h in omega arith

-- A path that is none, or is malformed.
pub paths_none : (items : List ℕ) (place deep high guard : ℕ) → place < length items → PathsLeft items place deep high guard → path_at (get_or items place 0) ≡ none → None ≡ shape_of (decode items)
unfolding decode
paths_none items place deep high guard l p e =
    some-fuel p.fuel (omega (arith, p.enough))
    (λ f ef. let h : take_paths (length items) items ≡ none = p.goes_on ∙ rw (ef, drop-cons items place 0 l, e) in rw h)

pub paths_bad : (items : List ℕ) (place deep high guard count : ℕ) → place < length items → PathsLeft items place deep high guard → path_at (get_or items place 0) ≡ some count
    → take_steps (take_within bracket_limit) count (drop (place + 1) items) ≡ none → None ≡ shape_of (decode items)
unfolding decode
paths_bad items place deep high guard count l p e s =
    some-fuel p.fuel (omega (arith, p.enough))
    (λ f ef. let h : take_paths (length items) items ≡ none = p.goes_on ∙ rw (ef, one_path items place count f l e, s) in rw h)

-- The end of the items.
pub paths_done : (items : List ℕ) (place deep high guard : ℕ) → 0 < length items → length items ≤ place → PathsLeft items place deep high guard → Some (record { nesting = deep; height = high; guards = guard }) ≡ shape_of (decode items)
unfolding decode nesting height guard_depth
paths_done items place deep high guard some_item l p =
    let h : take_paths (length items) items ≡ some p.so_far = p.goes_on ∙ rw (drop_of_length-le items l) (nothing_more p.fuel) in
    go p.so_far refl h
  where
    nothing_more : (f : ℕ) → found (take_paths f []) (λ ps. some (p.so_far ++ ps)) ≡ some p.so_far
    nothing_more zero = ap some (append-nil p.so_far)
    nothing_more (suc f) = ap some (append-nil p.so_far)

    go : (ps : List Steps) → p.so_far ≡ ps → take_paths (length items) items ≡ some p.so_far → Some (record { nesting = deep; height = high; guards = guard }) ≡ shape_of (found (take_paths (length items) items) as_query)
    go [] e h = absurd (omega (arith, p.begun e))
    go (q ∷ qs) e h = rw (h, p.nests, p.heights, p.guards, e)

-- No items are no query.
pub no_items : (items : List ℕ) → length items ≡ 0 → None ≡ shape_of (decode items)
unfolding decode
no_items [] e = refl
no_items (x ∷ xs) e = absurd (omega arith)
