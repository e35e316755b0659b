-- What the code asks of one row of a partner's table, in the order in which it asks.
use Rattle.std.specs.Prelude.{ℕ, ◌+◌, Bool, not, ◌&&◌, ◌||◌, List, eqb, ltb, length, get_or}
use Rattle.paper.specs.Document.{Table}
use Rattle.paper.specs.Cut.{is_node, parent_stands, same_kind, rising}

-- Is the node right behind i a child of i?
abbrev pub child_behind : List ℕ → ℕ → Bool
child_behind parents i = ltb (i + 1) (length parents) && eqb (get_or parents (i + 1) 0) i

-- Is the row r as it must be, where both tables are in document order?
unfoldable pub row_stands : Table → Table → List ℕ → ℕ → Bool
row_stands t cut numbers r =
    is_node t cut numbers r
    && (same_kind t cut numbers r
    && ((rising t cut numbers r && parent_stands t cut numbers r) && (child_behind cut.parents r || not (child_behind t.parents (get_or numbers r 0)))))
