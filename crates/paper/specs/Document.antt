-- docs/SCOPE.md, "The document": the node table and the marks, with what is wrong with bad ones.
use Rattle.std.specs.Prelude.{ℕ, zero, suc, Bool, not, ◌&&◌, ◌||◌, cond, List, eqb, leb, length, get_or}
use Rattle.std.proofs.Math.Option.{Option, some}
use Rattle.paper.specs.Tools.{first_below}

-- Two columns, parent and kind.
pub record Table : Type 0 where
  pub parents : List ℕ
  pub kinds : List ℕ

-- The table of two columns.
abbrev pub table_of : List ℕ → List ℕ → Table
table_of parents kinds = record { parents = parents; kinds = kinds }

-- The number of nodes.
abbrev pub nodes : Table → ℕ
nodes t = length t.parents

-- What the parent column says of a node.
abbrev pub parent_of : Table → ℕ → ℕ
parent_of t i = get_or t.parents i 0

-- What the kind column says of a node: 0 is the root, 1 is text, 2 + v an element named v.
abbrev pub kind_of : Table → ℕ → ℕ
kind_of t i = get_or t.kinds i 0

-- The kind of an element of the first name.
abbrev pub element_kind : ℕ
element_kind = 2

-- Kinds go up to that of an element of the 256th name.
abbrev pub kind_limit : ℕ
kind_limit = 257

-- Is j met by going up from i at most `far` times?
abbrev pub climbs : Table → ℕ → ℕ → ℕ → Bool
climbs t zero i j = eqb i j
climbs t (suc far) i j = let higher = climbs t far (parent_of t i) j in eqb i j || higher

-- Is j the node i or an ancestor of i? (No way up is longer than the table.)
unfoldable pub over : Table → ℕ → ℕ → Bool
over t i j = climbs t (nodes t) i j

-- Is the node i as it must be, if those before it are?
-- Node 0 is the root, with parent 0. No other node has kind 0, kinds go up to their limit, the parent is i - 1 or an ancestor of i - 1, and text has no children.
unfoldable pub good_node : Table → ℕ → Bool
good_node t zero = eqb (parent_of t 0) 0 && eqb (kind_of t 0) 0
good_node t (suc i) =
    leb 1 (kind_of t (suc i)) && leb (kind_of t (suc i)) kind_limit && over t i (parent_of t (suc i)) && not (eqb (kind_of t (parent_of t (suc i))) 1)

-- Refusal 7: the first bad node, or 0 where there is no node.
unfoldable pub table_fault : Table → Option ℕ
table_fault t = cond (eqb (nodes t) 0) (some 0) (first_below (nodes t) (λ i. not (good_node t i)))

-- A node is marked by a 1.
abbrev pub marked : List ℕ → ℕ → Bool
marked marks i = eqb (get_or marks i 0) 1

-- Marks are 0 or 1, and a marked node's parent is marked.
unfoldable pub good_mark : Table → List ℕ → ℕ → Bool
good_mark t marks i = eqb (get_or marks i 0) 0 || marked marks i && marked marks (parent_of t i)

-- Refusal 8: the first node whose mark is bad.
unfoldable pub marks_fault : Table → List ℕ → Option ℕ
marks_fault t marks = first_below (nodes t) (λ i. not (good_mark t marks i))
