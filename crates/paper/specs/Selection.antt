-- docs/SCOPE.md, "Run": what a query selects inside marks, as XPath 1.0 says it, and what the subtree rule keeps.
use Rattle.std.specs.Prelude.{ℕ, ◌+◌, Bool, true, not, ◌&&◌, ◌||◌, cond, List, eqb, leb, ltb}
use Rattle.paper.specs.Tools.{some_below, some_of, column}
use Rattle.paper.specs.Query.{Axis, self, child, parent, descendant_or_self, ancestor_or_self, descendant, ancestor, following_sibling, preceding_sibling, following, preceding}
use Rattle.paper.specs.Query.{Test, any_node, text_node, named, any_element}
use Rattle.paper.specs.Query.{Expr, path, both, either, negated, Steps, stop, step, Preds, bare, pred, Query, paths}
use Rattle.paper.specs.Document.{Table, nodes, parent_of, kind_of, element_kind, over, marked}

-- Is j a child of i? The root is nobody's child, whatever its parent column says.
abbrev pub child_of : Table → ℕ → ℕ → Bool
child_of t i j = not (eqb j 0) && eqb (parent_of t j) i

-- Is j a descendant of i?
abbrev pub below : Table → ℕ → ℕ → Bool
below t i j = over t j i && not (eqb i j)

-- Is j a sibling of i that comes after it? The root has no sibling, though its parent column says what that of its children says.
abbrev pub sibling_after : Table → ℕ → ℕ → Bool
sibling_after t i j = ltb i j && not (eqb i 0) && eqb (parent_of t i) (parent_of t j)

-- Does j come after i in document order, and is it no descendant of i?
abbrev pub after : Table → ℕ → ℕ → Bool
after t i j = ltb i j && not (over t j i)

-- Does the axis lead from i to j?
abbrev pub leads : Table → Axis → ℕ → ℕ → Bool
leads t self i j = eqb i j
leads t child i j = child_of t i j
leads t parent i j = child_of t j i
leads t descendant_or_self i j = over t j i
leads t ancestor_or_self i j = over t i j
leads t descendant i j = below t i j
leads t ancestor i j = below t j i
leads t following_sibling i j = sibling_after t i j
leads t preceding_sibling i j = sibling_after t j i
leads t following i j = after t i j
leads t preceding i j = after t j i

-- Is the test met by a node of this kind? `*` is met by the kinds of elements, `node()` by all.
abbrev pub meets : Test → ℕ → Bool
meets any_node kind = true
meets text_node kind = eqb kind 1
meets (named v) kind = eqb kind (element_kind + v)
meets any_element kind = leb element_kind kind

module _ (t : Table) (marks : List ℕ) where
  -- Does a step along this axis, with this test, lead from i to j? Unmarked nodes do not exist for any axis.
  unfoldable pub reaches : Axis → Test → ℕ → ℕ → Bool
  reaches axis test i j = marked marks j && leads t axis i j && meets test (kind_of t j)

  abbrev mutual
    -- Does the expression hold at the node i?
    pub holds : Expr → ℕ → Bool
    holds (path steps) i = finds steps i
    holds (both a b) i = let r = holds b i in holds a i && r
    holds (either a b) i = let r = holds b i in holds a i || r
    holds (negated a) i = not (holds a i)

    -- Do the steps find a node, from i?
    pub finds : Steps → ℕ → Bool
    finds stop i = true
    finds (step axis test preds rest) i =
        some_below (nodes t) (λ j. let here = all_hold preds j in let further = finds rest j in reaches axis test i j && here && further)

    -- Do all predicates hold at the node i?
    pub all_hold : Preds → ℕ → Bool
    all_hold bare i = true
    all_hold (pred e preds) i = let r = all_hold preds i in holds e i && r

  -- Do the steps lead from i to the node k?
  abbrev pub arrives : Steps → ℕ → ℕ → Bool
  arrives stop i k = eqb i k
  arrives (step axis test preds rest) i k =
      some_below (nodes t) (λ j. let further = arrives rest j k in reaches axis test i j && all_hold preds j && further)

  -- Does the query select the node k? Selection starts at node 0; if that is unmarked, nothing is selected.
  unfoldable pub selects : Query → ℕ → Bool
  selects q k = marked marks 0 && some_of (λ p. arrives p 0 k) (paths q)

  -- Does the query keep the node i: is i marked, and selected, or above or below a selected node?
  unfoldable pub keeps : Query → ℕ → Bool
  keeps q i = marked marks i && some_below (nodes t) (λ k. selects q k && (over t i k || over t k i))

  -- The marks that a run writes.
  unfoldable pub kept : Query → List ℕ
  kept q = column (nodes t) (λ i. cond (keeps q i) 1 0)
