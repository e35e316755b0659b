-- What a node has of its own, by its kind and its place, and the node put behind what is open up to its parent. Assumes nothing.
use Prim.Native.Nat.{ℕ}
use mathlib.Core.Path.{◌≡◌, ◌∙◌, ap}
use mathlib.Core.Bool.{true, false}
use mathlib.Core.List.{List, [], ◌∷◌, ◌++◌}
use lib.Dec.{eqb}
use lib.ListN.{get_or}
use borrow.Author.Tests.{eq-eqb, ne_eqb}
use Rattle.paper.specs.WriteXml.{bytes_at, squares_past, escaped}
use Rattle.pen.specs.Putting.{Puts}
use Rattle.pen.proofs.Putting.{puts_both, puts_as}
use Rattle.put_tags.specs.Lending.{MarkedText}
use Rattle.put_tags.specs.Tags.{name_at, Says}
use Rattle.put_node.specs.Placing.{past_tags, piece_of, piece_squares, inner_by, PutsPiece, PutsNode}

-- CHOICES by a kind and by places.
pub same_top : (k top up : ℕ) → top ≡ up → k ≡ past_tags k top up
same_top k top up e = let same : eqb top up ≡ true = eq-eqb top up e in rw same

pub other_top : (k top up : ℕ) → (top ≡ up → ⊥) → 0 ≡ past_tags k top up
other_top k top up n = let other : eqb top up ≡ false = ne_eqb top up n in rw other

pub text_inner : (kind up node : ℕ) → kind ≡ 1 → up ≡ inner_by kind up node
text_inner kind up node e = let same : eqb kind 1 ≡ true = eq-eqb kind 1 e in rw same

pub element_inner : (kind up node : ℕ) → (kind ≡ 1 → ⊥) → node ≡ inner_by kind up node
element_inner kind up node n = let other : eqb kind 1 ≡ false = ne_eqb kind 1 n in rw other

pub text-piece : (text : List ℕ) (kind begin end k : ℕ) → kind ≡ 1 → escaped k (bytes_at text begin end) ≡ piece_of text kind begin end k
text-piece text kind begin end k e = let same : eqb kind 1 ≡ true = eq-eqb kind 1 e in rw same

pub element_piece : (text : List ℕ) (kind begin end k : ℕ) → (kind ≡ 1 → ⊥) → 60 ∷ name_at text begin ++ (62 ∷ []) ≡ piece_of text kind begin end k
element_piece text kind begin end k n = let other : eqb kind 1 ≡ false = ne_eqb kind 1 n in rw other

pub text_squares : (text : List ℕ) (kind begin end k : ℕ) → kind ≡ 1 → squares_past k (bytes_at text begin end) ≡ piece_squares text kind begin end k
text_squares text kind begin end k e = let same : eqb kind 1 ≡ true = eq-eqb kind 1 e in rw same

pub element_squares : (text : List ℕ) (kind begin end k : ℕ) → (kind ≡ 1 → ⊥) → 0 ≡ piece_squares text kind begin end k
element_squares text kind begin end k n = let other : eqb kind 1 ≡ false = ne_eqb kind 1 n in rw other

-- A node is put: what is open up to its parent, then its own.
pub node_put : {bytes old mid new : List ℕ} {pen at n next squares inner up kind begin end : ℕ} (m : MarkedText) (k top node : ℕ) → Says m.parents m.kinds m.begins m.ends node up kind begin end
    → Puts bytes pen old mid at → n ≡ past_tags k top up → PutsPiece m.text kind begin end n at mid new next squares → inner ≡ inner_by kind up node
    → PutsNode m bytes pen k top node old new next squares inner
node_put m k top node s p e q i =
    let piece = rw (s.kind_is, s.begin_is, s.end_is) at q in
    let past = rw s.up_is at e in
    record {
      puts = puts_both p (puts_as (ap (piece_of m.text (get_or m.kinds node 0) (get_or m.begins node 0) (get_or m.ends node 0)) past) piece.puts);
      counts = piece.counts ∙ ap (piece_squares m.text (get_or m.kinds node 0) (get_or m.begins node 0) (get_or m.ends node 0)) past;
      opens = rw (s.kind_is, s.up_is) at i;
    }
