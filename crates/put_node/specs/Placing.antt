-- What putting a node asks and promises: what it has of its own is put behind the end tags of the elements that are open up to its parent.
use Rattle.std.specs.Prelude.{ℕ, ◌≤◌, ◌<◌, ◌≡◌, cond, List, [], ◌∷◌, ◌++◌, eqb, length, get_or}
use Rattle.paper.specs.Limits.{text_limit}
use Rattle.paper.specs.WriteXml.{bytes_at, squares_past, escaped}
use Rattle.pen.specs.Putting.{Puts}
use Rattle.put_tags.specs.Lending.{MarkedText}
use Rattle.put_tags.specs.Tags.{name_at, Closable}

-- The count of `]` once the elements from `top` up to `up` are closed.
abbrev pub past_tags : ℕ → ℕ → ℕ → ℕ
past_tags k top up = cond (eqb top up) k 0

-- What a node of this kind and place has of its own, behind k `]`, and the count of `]` behind it.
abbrev pub piece_of : List ℕ → ℕ → ℕ → ℕ → ℕ → List ℕ
piece_of text kind begin end k = cond (eqb kind 1) (escaped k (bytes_at text begin end)) (60 ∷ name_at text begin ++ (62 ∷ []))

abbrev pub piece_squares : List ℕ → ℕ → ℕ → ℕ → ℕ → ℕ
piece_squares text kind begin end k = cond (eqb kind 1) (squares_past k (bytes_at text begin end)) 0

pub record PutsPiece (text : List ℕ) (kind begin end k pen : ℕ) (old new : List ℕ) (next squares : ℕ) : Type 0 where
  pub puts : Puts (piece_of text kind begin end k) pen old new next
  pub counts : squares ≡ piece_squares text kind begin end k

-- The innermost open element behind a node: itself, or a text's parent.
abbrev pub inner_by : ℕ → ℕ → ℕ → ℕ
inner_by kind up node = cond (eqb kind 1) up node

-- A node put, where these bytes close what is open up to its parent.
pub record PutsNode (m : MarkedText) (bytes : List ℕ) (pen k top node : ℕ) (old new : List ℕ) (next squares inner : ℕ) : Type 0 where
  pub puts : Puts (bytes ++ piece_of m.text (get_or m.kinds node 0) (get_or m.begins node 0) (get_or m.ends node 0) (past_tags k top (get_or m.parents node 0))) pen old new next
  pub counts : squares ≡ piece_squares m.text (get_or m.kinds node 0) (get_or m.begins node 0) (get_or m.ends node 0) (past_tags k top (get_or m.parents node 0))
  pub opens : inner ≡ inner_by (get_or m.kinds node 0) (get_or m.parents node 0) node

-- What a node asks: that it has a line and a place in the text, and that what is open up to its parent can be closed.
pub record Placeable (m : MarkedText) (pen top node : ℕ) : Type 0 where
  pub in_parents : node < length m.parents
  pub in_kinds : node < length m.kinds
  pub in_begins : node < length m.begins
  pub in_ends : node < length m.ends
  pub inside : get_or m.begins node 0 < length m.text
  pub forward : get_or m.begins node 0 ≤ get_or m.ends node 0
  pub ends_inside : get_or m.ends node 0 ≤ length m.text
  pub text_short : length m.text ≤ text_limit
  pub closable : Closable m.text m.parents m.begins pen top (get_or m.parents node 0)
