-- The kept part is put node by node: what is put, with what the walk over the lines still writes, is the whole.
-- By the lines of the tree that the lent columns are: what is open up to the next marked node's parent is known all the way. Assumes nothing.
use Prim.Native.Nat.{ℕ, zero, suc, ◌+◌, ◌≤◌, ◌<◌}
use native.Mathlib.Omega.{arith}
use native.Mathlib.Numerals.{add-one}
use mathlib.Core.Path.{◌≡◌, refl, sym, ◌∙◌, ap, ap₂, subst}
use mathlib.Core.Bool.{true, false}
use mathlib.Core.List.{List, [], ◌∷◌, ◌++◌, append_assoc}
use mathlib.Core.Option.{Option, none, some}
use lib.Dec.{eqb}
use lib.ListN.{length, get_or, length-append, length-map, get_or-map}
use borrow.Author.Tests.{eq-eqb, ne_eqb}
use Rattle.paper.specs.Limits.{text_limit}
use Rattle.paper.specs.Names.{names_of, number_of}
use Rattle.paper.specs.Document.{Table, nodes, table_of, parent_of, kind_of, marked, marks_fault}
use Rattle.paper.specs.Xml.{What, Row, row, table, count, name_kind, kind_by}
use Rattle.paper.specs.WriteXml.{pruned, bytes_at, squares_past, escaped, as_xml, kept_of, kept_xml}
use Rattle.paper.specs.Answers.{parent_field, kind_field, begin_field, end_field}
use Rattle.paper.proofs.Trees.{Closed, closed}
use Rattle.pen.specs.Putting.{Puts}
use Rattle.pen.proofs.Putting.{puts_none, puts_both, puts_as}
use Rattle.file_theorems.specs.Files.{columns_of}
use Rattle.file_theorems.proofs.Answered.{Reads}
use Rattle.file_theorems.proofs.Bounds.{kept_small}
use Rattle.file_theorems.proofs.Naming.{names_stand}
use Rattle.file_theorems.proofs.Onward.{line_at, length_table, name_of, innermost, shown, closes, onward, Chain, here, below, chain_closes, Rests, kept_onward, start_rests, node_rests, node-told, node_inside}
use Rattle.put_tags.specs.Lending.{MarkedText, IsLent}
use Rattle.put_tags.specs.Tags.{name_at, Open, none_open, one_open, Closable}
use Rattle.put_node.specs.Placing.{past_tags, piece_of, piece_squares, inner_by, PutsNode, Placeable}

named_kind : (o : Option ℕ) → name_kind o ≡ 1 → ⊥
named_kind none h = omega arith
named_kind (some v) h = omega arith

one_less : (n : ℕ) → 0 < n → (m : ℕ) × (n ≡ suc m)
one_less zero l = absurd (omega arith)
one_less (suc m) l = (m, refl)

-- ONE NODE of the walk, by its line.
module _ (text marks : List ℕ) (lines : List Row) where
  chain_under : {i up : ℕ} {bytes : List ℕ} → Chain text marks lines i up bytes → closes text marks lines i i up ≡ bytes
  chain_under {i = i} c = chain_closes text marks lines c i (omega arith)

  text_step : (left i top k : ℕ) (bytes : List ℕ) → marked marks i ≡ true → (line_at lines i).what ≡ What.text → Chain text marks lines top (line_at lines i).parent bytes
      → onward text marks lines (suc left) i top k
      ≡ (bytes ++ escaped (past_tags k top (line_at lines i).parent) (bytes_at text (line_at lines i).begin (line_at lines i).end))
      ++ onward text marks lines left (suc i) (line_at lines i).parent (squares_past (past_tags k top (line_at lines i).parent) (bytes_at text (line_at lines i).begin (line_at lines i).end))
  text_step left i top k bytes m w c =
      let r = line_at lines i in
      let own = bytes_at text r.begin r.end in
      let n = past_tags k top r.parent in
      rw m
      (ap₂ (λ (x : List ℕ) v. x ++ shown v own n (λ j. onward text marks lines left (suc i) r.parent j) (onward text marks lines left (suc i) i 0)) (chain_under c) w
      ∙ sym (append_assoc bytes (escaped n own) (onward text marks lines left (suc i) r.parent (squares_past n own))))

  element_step : (left i top k : ℕ) (bytes name : List ℕ) → marked marks i ≡ true → (line_at lines i).what ≡ What.named name → Chain text marks lines top (line_at lines i).parent bytes
      → onward text marks lines (suc left) i top k ≡ (bytes ++ (60 ∷ name ++ (62 ∷ []))) ++ onward text marks lines left (suc i) i 0
  element_step left i top k bytes name m w c =
      let r = line_at lines i in
      let own = bytes_at text r.begin r.end in
      let n = past_tags k top r.parent in
      let more = onward text marks lines left (suc i) i 0 in
      let tag : List ℕ = 60 ∷ name in
      rw m
      (ap₂ (λ (x : List ℕ) v. x ++ shown v own n (λ j. onward text marks lines left (suc i) r.parent j) more) (chain_under c) w
      ∙ ap (λ (x : List ℕ). bytes ++ x) (sym (append_assoc tag (62 ∷ []) more)) ∙ sym (append_assoc bytes (tag ++ (62 ∷ [])) more))

-- THE WALK: what is put, what is still to be put, and that it rests in the innermost open element.
pub record Walking (text marks : List ℕ) (lines : List Row) (pen : ℕ) (old out : List ℕ) (at k top i : ℕ) : Type 0 where
  pub left : ℕ
  pub counted : i + left ≡ length lines
  pub past_root : 0 < i
  pub done : List ℕ
  pub puts : Puts done pen old out at
  pub goes_on : done ++ onward text marks lines left i top k ≡ kept_xml text marks
  pub rests : Rests text marks lines top left i

-- The same by other names.
pub walking_as : {text marks old out out' : List ℕ} {lines : List Row} {pen at at' k k' top top' i : ℕ} → out' ≡ out → at' ≡ at → k' ≡ k → top' ≡ top
    → Walking text marks lines pen old out at k top i → Walking text marks lines pen old out' at' k' top' i
walking_as o a k t w = rw (o, a, k, t) w

module _ (given : MarkedText) (g : IsLent given) where
  abbrev text : List ℕ
  text = given.text

  abbrev parents : List ℕ
  parents = given.parents

  abbrev kinds : List ℕ
  kinds = given.kinds

  abbrev begins : List ℕ
  begins = given.begins

  abbrev ends : List ℕ
  ends = given.ends

  abbrev marks : List ℕ
  marks = given.marks

  abbrev pub lines : List Row
  lines = table (length text) g.tree

  -- THE COLUMNS say what the lines say.
  abbrev line : ℕ → Row
  line i = line_at lines i

  many : length parents ≡ length lines
  many = ap nodes g.columns ∙ length-map lines parent_field

  many_kinds : length kinds ≡ length lines
  many_kinds = ap (λ (t : Table). length t.kinds) g.columns ∙ length-map lines (kind_field g.list)

  many_begins : length begins ≡ length lines
  many_begins = ap length g.begins_at ∙ length-map lines begin_field

  many_ends : length ends ≡ length lines
  many_ends = ap length g.ends_at ∙ length-map lines end_field

  parent_says : (i : ℕ) → get_or parents i 0 ≡ (line i).parent
  parent_says i = ap (λ t. parent_of t i) g.columns ∙ get_or-map parent_field lines i (row 0 What.root 0 0)

  kind_says : (i : ℕ) → get_or kinds i 0 ≡ kind_field g.list (line i)
  kind_says i = ap (λ t. kind_of t i) g.columns ∙ get_or-map (kind_field g.list) lines i (row 0 What.root 0 0)

  begin_says : (i : ℕ) → get_or begins i 0 ≡ (line i).begin
  begin_says i = ap (λ (l : List ℕ). get_or l i 0) g.begins_at ∙ get_or-map begin_field lines i (row 0 What.root 0 0)

  end_says : (i : ℕ) → get_or ends i 0 ≡ (line i).end
  end_says i = ap (λ (l : List ℕ). get_or l i 0) g.ends_at ∙ get_or-map end_field lines i (row 0 What.root 0 0)

  text_kind : (i : ℕ) → (line i).what ≡ What.text → get_or kinds i 0 ≡ 1
  text_kind i w = kind_says i ∙ ap (kind_by (number_of (names_of g.list))) w

  element-kind : (i : ℕ) (name : List ℕ) → (line i).what ≡ What.named name → get_or kinds i 0 ≡ 1 → ⊥
  element-kind i name w e = named_kind (number_of (names_of g.list) name) (sym (ap (kind_by (number_of (names_of g.list))) w) ∙ sym (kind_says i) ∙ e)

  name_says : (i : ℕ) (name : List ℕ) → i < length lines → (line i).what ≡ What.named name → name_at text (get_or begins i 0) ≡ name
  name_says i name l w = ap (name_at text) (begin_says i) ∙ names_stand text g.tree g.read i name l w

  -- What is open by the lines is open by the columns.
  open_of : {i up : ℕ} {bytes : List ℕ} → Chain text marks lines i up bytes → Open text parents begins i up bytes
  open_of here = none_open
  open_of (below {i = i} {up = up} {name = name} {bytes = bs} u l w f c) =
      let named : name_at text (get_or begins i 0) ≡ name_of (line i).what = name_says i name l w ∙ ap name_of (sym w) in
      let place = node_inside text g.tree g.read i (omega arith) l in
      subst (λ (n : List ℕ). Open text parents begins i up (60 ∷ 47 ∷ n ++ (62 ∷ bs))) named
      (one_open u (omega (arith, l, many)) (omega (arith, l, many_begins)) (omega (arith, begin_says i, place.0, place.1)) (omega (arith, parent_says i, f))
      (subst (λ j. Open text parents begins j up bs) (sym (parent_says i)) (open_of c)))

  closed_marks : Closed (columns_of g.list (length text) g.tree) marks
  closed_marks = subst (λ t. Closed t marks) g.columns (closed (table_of parents kinds) marks g.marks_fine)

  kept_is : kept_xml text marks ≡ as_xml text 0 (pruned marks 1 g.tree)
  unfolding kept_xml
  kept_is = ap (kept_of text marks) g.read

  -- One node by the columns.
  node_step : (left i top k : ℕ) (bytes : List ℕ) → 0 < i → i < length lines → marked marks i ≡ true → Chain text marks lines top (line i).parent bytes
      → onward text marks lines (suc left) i top k
      ≡ (bytes ++ piece_of text (get_or kinds i 0) (get_or begins i 0) (get_or ends i 0) (past_tags k top (get_or parents i 0)))
      ++ onward text marks lines left (suc i) (inner_by (get_or kinds i 0) (get_or parents i 0) i)
      (piece_squares text (get_or kinds i 0) (get_or begins i 0) (get_or ends i 0) (past_tags k top (get_or parents i 0)))
  node_step left i top k bytes z l m c = node-told (length text) g.tree i z l
      (λ w.
      let one : eqb (get_or kinds i 0) 1 ≡ true = eq-eqb (get_or kinds i 0) 1 (text_kind i w) in
      rw (one, parent_says i, begin_says i, end_says i) (text_step text marks lines left i top k bytes m w c))
      (λ name w.
      let other : eqb (get_or kinds i 0) 1 ≡ false = ne_eqb (get_or kinds i 0) 1 (element-kind i name w) in
      rw (other, name_says i name l w) (element_step text marks lines left i top k bytes name m w c))

  inner_is : (i : ℕ) → 0 < i → i < length lines → innermost (line i) i ≡ inner_by (get_or kinds i 0) (get_or parents i 0) i
  inner_is i z l = node-told (length text) g.tree i z l
      (λ w.
      let one : eqb (get_or kinds i 0) 1 ≡ true = eq-eqb (get_or kinds i 0) 1 (text_kind i w) in
      rw (one, parent_says i, w) refl)
      (λ name w.
      let other : eqb (get_or kinds i 0) 1 ≡ false = ne_eqb (get_or kinds i 0) 1 (element-kind i name w) in
      rw (other, w) refl)

  -- Nothing put.
  pub walk_start : (pen : ℕ) (old : List ℕ) → Walking text marks lines pen old old pen 0 0 1
  walk_start pen old =
      record {
        left = count g.tree;
        counted = sym (length_table (length text) g.tree);
        past_root = omega arith;
        done = [];
        puts = puts_none pen old;
        goes_on = sym (kept_is ∙ kept_onward g.list text marks (length text) g.tree closed_marks);
        rests = start_rests g.list text marks (length text) g.tree closed_marks;
      }

  small : length (kept_xml text marks) < 4294967296
  small = kept_small text marks g.tree g.text_short g.read (omega (arith, many, g.few))

  module _ {old out : List ℕ} {pen at k top i : ℕ} (w : Walking text marks lines pen old out at k top i) where
    -- What the next node is to close, where it is marked.
    record Next : Type 0 where
      more : ℕ
      all : w.left ≡ suc more
      bytes : List ℕ
      chain : Chain text marks lines top (line i).parent bytes

    in_lines : i < length parents → i < length lines
    in_lines l = omega (arith, l, many)

    next : i < length parents → marked marks i ≡ true → Next
    next l m =
        let less = one_less w.left (omega (arith, w.counted, l, many)) in
        let r : Rests text marks lines top (suc less.0) i = subst (λ n. Rests text marks lines top n i) less.1 w.rests in
        record { more = less.0; all = less.1; bytes = (r.0 m).0; chain = (r.0 m).1 }

    -- What is put and still to be put, with the next node taken apart.
    abbrev piece : List ℕ
    piece = piece_of text (get_or kinds i 0) (get_or begins i 0) (get_or ends i 0) (past_tags k top (get_or parents i 0))

    abbrev inner : ℕ
    inner = inner_by (get_or kinds i 0) (get_or parents i 0) i

    abbrev squares : ℕ
    squares = piece_squares text (get_or kinds i 0) (get_or begins i 0) (get_or ends i 0) (past_tags k top (get_or parents i 0))

    split : (l : i < length parents) (m : marked marks i ≡ true)
        → (w.done ++ ((next l m).bytes ++ piece)) ++ onward text marks lines (next l m).more (suc i) inner squares ≡ kept_xml text marks
    split l m =
        let n = next l m in
        append_assoc w.done (n.bytes ++ piece) (onward text marks lines n.more (suc i) inner squares)
        ∙ ap (λ (x : List ℕ). w.done ++ x) (sym (node_step n.more i top k n.bytes w.past_root (in_lines l) m n.chain))
        ∙ ap (λ j. w.done ++ onward text marks lines j i top k) (sym n.all) ∙ w.goes_on

    pub walk_placeable : i < length parents → marked marks i ≡ true → pen < 4294967296 → Placeable given at top i
    walk_placeable l m short =
        let n = next l m in
        let place = node_inside text g.tree g.read i w.past_root (in_lines l) in
        let tags : List ℕ = n.bytes ++ piece in
        let a = length-append (w.done ++ tags) (onward text marks lines n.more (suc i) inner squares) in
        let b = length-append w.done tags in
        let c = length-append n.bytes piece in
        record {
          in_parents = l;
          in_kinds = omega (arith, in_lines l, many_kinds);
          in_begins = omega (arith, in_lines l, many_begins);
          in_ends = omega (arith, in_lines l, many_ends);
          inside = omega (arith, begin_says i, place.0, place.1);
          forward = omega (arith, begin_says i, end_says i, place.0);
          ends_inside = omega (arith, end_says i, place.1);
          text_short = g.text_short;
          closable =
              record {
                bytes = n.bytes;
                chain = subst (λ up. Open text parents begins top up n.bytes) (sym (parent_says i)) (open_of n.chain);
                room = omega (arith, w.puts.moved, a, b, c, ap length (split l m), small, short, g.text_short);
              };
        }

    -- A marked node put, one that is not marked passed.
    pub walk_node : {new : List ℕ} {to behind within : ℕ} → i < length parents → marked marks i ≡ true
        → ((bytes : List ℕ) → Open text parents begins top (get_or parents i 0) bytes → PutsNode given bytes at k top i out new to behind within)
        → Walking text marks lines pen old new to behind within (i + 1)
    walk_node l m f =
        let n = next l m in
        let q = f n.bytes (subst (λ up. Open text parents begins top up n.bytes) (sym (parent_says i)) (open_of n.chain)) in
        let on : suc i ≡ i + 1 = sym (add-one i) in
        let counts : suc i + n.more ≡ length lines = omega (arith, w.counted, n.all) in
        record {
          left = n.more;
          counted = omega (arith, counts);
          past_root = omega arith;
          done = w.done ++ (n.bytes ++ piece);
          puts = puts_both w.puts q.puts;
          goes_on = rw (add-one i, q.opens, q.counts) (split l m);
          rests =
              rw (add-one i, q.opens)
              (subst (λ j. Rests text marks lines j n.more (suc i)) (inner_is i w.past_root (in_lines l)) (node_rests g.list text marks (length text) g.tree closed_marks i n.more w.past_root counts));
        }

    pub walk_pass : i < length parents → marked marks i ≡ false → Walking text marks lines pen old out at k top (i + 1)
    walk_pass l m =
        let less = one_less w.left (omega (arith, w.counted, l, many)) in
        let r : Rests text marks lines top (suc less.0) i = subst (λ n. Rests text marks lines top n i) less.1 w.rests in
        let passed : onward text marks lines (suc less.0) i top k ≡ onward text marks lines less.0 (suc i) top k = rw m refl in
        record {
          left = less.0;
          counted = omega (arith, w.counted, less.1);
          past_root = omega arith;
          done = w.done;
          puts = w.puts;
          goes_on = rw (add-one i) (ap (λ (x : List ℕ). w.done ++ x) (sym passed) ∙ ap (λ j. w.done ++ onward text marks lines j i top k) (sym less.1) ∙ w.goes_on);
          rests = rw (add-one i) (r.1 m);
        }

    -- THE END: what is open is closed up to the root.
    none_left : length parents ≤ i → w.left ≡ 0
    none_left l = omega (arith, w.counted, l, many)

    last : length parents ≤ i → (b : List ℕ) × Chain text marks lines top 0 b
    last l = subst (λ n. Rests text marks lines top n i) (none_left l) w.rests

    whole : (l : length parents ≤ i) → w.done ++ (last l).0 ≡ kept_xml text marks
    whole l =
        ap (λ (x : List ℕ). w.done ++ x) (sym (chain_under text marks lines (last l).1))
        ∙ ap (λ j. w.done ++ onward text marks lines j i top k) (sym (none_left l)) ∙ w.goes_on

    pub walk_closable : length parents ≤ i → pen < 4294967296 → Closable text parents begins at top 0
    walk_closable l short =
        record {
          bytes = (last l).0;
          chain = open_of (last l).1;
          room = omega (arith, w.puts.moved, length-append w.done (last l).0, ap length (whole l), small, short, g.text_short);
        }

    pub walk_done : {new : List ℕ} {to : ℕ} → length parents ≤ i → ((bytes : List ℕ) → Open text parents begins top 0 bytes → Puts bytes at out new to)
        → Puts (kept_xml text marks) pen old new to
    walk_done l f = puts_as (whole l) (puts_both w.puts (f (last l).0 (open_of (last l).1)))

-- WHERE READING ANSWERS as the columns say, with marks without fault, the walk may begin.
pub walk_lent : (given : MarkedText) (list : List ℕ) → Reads given.text list (table_of given.parents given.kinds) given.begins given.ends
    → marks_fault (table_of given.parents given.kinds) given.marks ≡ none → length given.marks ≡ length given.parents → length given.text ≤ text_limit → IsLent given
walk_lent given list r fine long short =
    record {
      list = list;
      tree = r.tree;
      read = r.read;
      columns = r.columns;
      begins_at = r.begins_at;
      ends_at = r.ends_at;
      marks_long = long;
      marks_fine = fine;
      text_short = short;
      few = r.few;
    }
