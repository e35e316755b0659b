-- The line of `scratch_answer`, that its number stays small, and that a query that stands in memory has a height and a number of paths that the line lets pass. Assumes nothing.
use Prim.Native.Nat.{ℕ, ◌+◌, ◌*◌, ◌≤◌}
use native.Mathlib.Omega.{arith}
use native.Mathlib.Nat.{mul-le-mul}
use mathlib.Core.Path.{◌≡◌}
use mathlib.Core.Bool.{Bool, true, false, ◌||◌}
use mathlib.Core.List.{List, [], ◌∷◌}
use lib.Dec.{eqb, ltb}
use lib.ListN.{length}
use borrow.Author.Tests.{le-ltb, ltb-false, ne_eqb}
use Rattle.paper.specs.Limits.{item_limit, node_limit}
use Rattle.paper.specs.Query.{Steps, Query, paths}
use Rattle.paper.specs.Measures.{size_paths, size, height}
use Rattle.paper.specs.Answers.{value, refusal}
use Rattle.paper.specs.Room.{path_count, height_bound, scratch_bytes, outside, scratch_answer}
use Rattle.paper.proofs.Refusing.{or_none}
use Rattle.paper.proofs.Sizes.{height_size}

module _ (count outer_height outer_paths inner_height inner_paths : ℕ) where
  -- Does line 1 hold?
  abbrev pub Wrong : Bool
  Wrong = outside node_limit count || outside item_limit outer_height || outside item_limit outer_paths || outside item_limit inner_height || outside item_limit inner_paths

  pub wrong_number : Wrong ≡ true → refusal 1 0 ≡ scratch_answer count outer_height outer_paths inner_height inner_paths
  unfolding scratch_answer
  wrong_number h = rw h

  pub lends : Wrong ≡ false → value (scratch_bytes count outer_height inner_height inner_paths) ≡ scratch_answer count outer_height outer_paths inner_height inner_paths
  unfolding scratch_answer
  lends h = rw h

  -- Where it does not, the sum and the product stay small.
  inside : (limit n : ℕ) → outside limit n ≡ false → n ≤ limit
  inside limit n h = ltb-false limit n (or_none (eqb n 0) (ltb limit n) h).1

  pub record Inside : Type 0 where
    pub nodes_few : count ≤ node_limit
    pub outer_low : outer_height ≤ item_limit
    pub inner_low : inner_height ≤ item_limit
    pub paths_few : inner_paths ≤ item_limit

  pub all_inside : Wrong ≡ false → Inside
  all_inside h =
      let a = outside node_limit count in
      let b = outside item_limit outer_height in
      let c = outside item_limit outer_paths in
      let d = outside item_limit inner_height in
      let e = outside item_limit inner_paths in
      let five = or_none (a || b || c || d) e h in
      let four = or_none (a || b || c) d five.0 in
      let two = or_none a b (or_none (a || b) c four.0).0 in
      record {
        nodes_few = inside node_limit count two.0;
        outer_low = inside item_limit outer_height two.1;
        inner_low = inside item_limit inner_height four.1;
        paths_few = inside item_limit inner_paths five.1;
      }

  pub bytes_few : Inside → scratch_bytes count outer_height inner_height inner_paths ≤ 100679680
  bytes_few i =
      let twice : count * 2 ≤ node_limit * 2 = omega (arith, i.nodes_few) in
      let low : height_bound outer_height inner_height inner_paths + 1 ≤ 12290 = omega (arith, i.outer_low, i.inner_low, i.paths_few) in
      mul-le-mul twice low

-- A number from 1 to its limit is let pass.
pub let_pass : (limit n : ℕ) → 1 ≤ n → n ≤ limit → outside limit n ≡ false
let_pass limit n Some-of few = rw (ne_eqb n 0 (λ e. omega (arith, e)), le-ltb limit n few)

-- A query has a path, no more paths than items, and a height.
path_sizes : (ps : List Steps) → length ps ≤ size_paths ps
path_sizes [] = omega arith
path_sizes (p ∷ ps) = omega (arith, path_sizes ps)

pub paths_size : (q : Query) → path_count q ≤ size q
unfolding size
paths_size q = path_sizes (paths q)

pub some_height : (q : Query) → 1 ≤ height q
unfolding height
some_height q = omega arith

-- So the five numbers of two queries that stand in memory, and of a table that has nodes, are right.
pub let_all_pass : (count : ℕ) (outer inner : Query) → 1 ≤ count → count ≤ node_limit → size outer ≤ item_limit → size inner ≤ item_limit
    → Wrong count (height outer) (path_count outer) (height inner) (path_count inner) ≡ false
let_all_pass count outer inner some-node few outer_few inner_few =
    let high : (q : Query) → size q ≤ item_limit → outside item_limit (height q) ≡ false = λ q s. let_pass item_limit (height q) (some_height q) (omega (arith, height_size q)) in
    let many : (q : Query) → size q ≤ item_limit → outside item_limit (path_count q) ≡ false = λ q s. let_pass item_limit (path_count q) (omega arith) (omega (arith, paths_size q)) in
    rw (let_pass node_limit count some-node few, high outer outer_few, many outer outer_few, high inner inner_few, many inner inner_few)
