-- Reading from piece to piece: inside an element the next piece is taken, and where no element is open the one element is read. Assumes nothing.
use Rattle.std.specs.Prelude.{Result, None, Ok, Err}
use Prim.Native.Nat.{ℕ, ◌-◌, ◌≤◌, ◌<◌}
use native.Mathlib.Omega.{arith}
use mathlib.Core.Path.{◌≡◌, refl, sym, ◌∙◌, ap, subst}
use mathlib.Core.List.{List, [], ◌∷◌}
use lib.ListN.{length, get_or}
use Rattle.paper.specs.Limits.{text_limit}
use Rattle.paper.specs.Names.{names_of, number_of}
use Rattle.paper.specs.declared.Refusal.{Refusal}
use Rattle.paper.specs.Xml.{Frame, row, root}
use Rattle.xml.specs.Pieces.{Takes, Roots, Finishes}
use Rattle.prolog.specs.Heading.{Leads}
use Rattle.xml.specs.declared.Piece.{Piece}
use Rattle.xml_lines.specs.Open.{innermost, lines, Stand, within, past, open_in, so_far, Stands}
use Rattle.xml_lines.specs.Kept.{Columns, blank, line_set, Filled}
use Rattle.xml_lines.specs.Judges.{open_limit, Counts, Lined, Standing, Facing, Refuses, Comes, Element, Ends, Inside, Wanted, Judges}
use Rattle.xml_lines.specs.declared.Progress.{Progress}
use Rattle.read_listed.proofs.Moved.{take_moves, take_refused, root_moves, root_refused, lead_on}
use Rattle.xml_lines.proofs.Filling.{filled_more}
use Rattle.read_listed.proofs.Counted.{progress}

-- Before the first line nothing is kept,
nothing_kept : (list : List ℕ) → Filled list [] blank
nothing_kept list = record { parents = refl; kinds = refl; begins = refl; ends = refl }

-- and then the root's.
root_kept : (long : ℕ) (list : List ℕ) (cols : Columns) → cols ≡ line_set 0 0 0 0 long blank → Filled list (lines long []) cols
root_kept long list cols e = subst (Filled list (lines long [])) (sym e) (filled_more list blank [] (nothing_kept list) (row 0 root 0 long) 0 0 0 0 long refl (omega arith) refl refl refl refl)

module _ (text list : List ℕ) where
  -- INSIDE AN ELEMENT.
  pub record Deep (begins : List ℕ) (cols : Columns) (p : Progress) : Type 0 where
    pub inner : Frame
    pub outer : List Frame
    pub stands : Stands text p.at (within inner outer)
    pub counts : Counts (number_of (names_of list)) begins (inner ∷ outer) (lines (length text) (inner ∷ outer)) p
    pub lined : Lined list (lines (length text) (inner ∷ outer)) (innermost (inner ∷ outer)) cols p.inner
    pub kept : get_or begins (p.depth - 1) 0 ≡ inner.begin
    pub room : p.depth - 1 < open_limit

  pub deep : (begins : List ℕ) (cols : Columns) (p : Progress) → length text ≤ text_limit → Standing text list begins cols p → 0 < p.depth → Deep begins cols p
  deep begins cols p short h l = go h.stand h.stands h.counts h.lined
    where
      go : (s : Stand) → Stands text p.at s → Counts (number_of (names_of list)) begins (open_in s) (so_far (length text) s) p → Lined list (so_far (length text) s) (innermost (open_in s)) cols p.inner → Deep begins cols p
      go (within f fs) t c n =
          let e : length fs ≡ p.depth - 1 = omega (arith, c.depth) in
          record {
            inner = f;
            outer = fs;
            stands = t;
            counts = c;
            lined = n;
            kept = ap (λ k. get_or begins k 0) (sym e) ∙ c.kept.0;
            room = omega (arith, c.depth, c.room, t.inside);
          }
      go (past tree) t c n = absurd (omega (arith, c.depth))

  -- The piece that is taken.
  pub takes : (begins : List ℕ) (cols : Columns) (p : Progress) (h : Deep begins cols p) (inner : ℕ) (r : Piece) → inner ≡ h.inner.begin → Takes text p.at inner (Ok r) → Facing text list begins cols r p
  takes begins cols p h inner r e t =
      record {
        frames = h.inner ∷ h.outer;
        inside = h.stands.inside;
        moves = take_moves text p.at h.inner h.outer r h.stands (subst (λ i. Takes text p.at i (Ok r)) e t);
        counts = h.counts;
        lined = h.lined;
      }

  pub takes_refused : (begins : List ℕ) (cols : Columns) (p : Progress) (h : Deep begins cols p) (inner : ℕ) (why : Refusal) → inner ≡ h.inner.begin → Takes text p.at inner (Err why) → Refuses text why
  takes_refused begins cols p h inner why e t = take_refused text p.at h.inner h.outer why h.stands (subst (λ i. Takes text p.at i (Err why)) e t)

  -- AT BOTH ENDS. Before the one element the root is counted.
  pub root_faces : (begins : List ℕ) (cols : Columns) (at : ℕ) (r : Piece) → length begins ≡ open_limit → cols ≡ line_set 0 0 0 0 (length text) blank → Leads text (Ok at) → Roots text at (Ok r)
      → Facing text list begins cols r (progress at 0 0 1 None)
  root_faces begins cols at r long e h t =
      record {
        frames = [];
        inside = omega (arith, h.marked.0);
        moves = root_moves text at r (lead_on text at h) t;
        counts = record { long = long; depth = refl; kept = tt; nodes = refl; lacking = refl; room = omega arith; few = omega arith };
        lined = λ few. (root_kept (length text) list cols e, refl);
      }

  -- Where no element is open, the one element is read.
  pub element_read : (begins : List ℕ) (cols : Columns) (p : Progress) → Standing text list begins cols p → (0 < p.depth → ⊥) → Element text list cols p
  element_read begins cols p h flat = go h.stand h.stands h.counts h.lined
    where
      go : (s : Stand) → Stands text p.at s → Counts (number_of (names_of list)) begins (open_in s) (so_far (length text) s) p → Lined list (so_far (length text) s) (innermost (open_in s)) cols p.inner → Element text list cols p
      go (within f fs) t c n = absurd (flat (omega (arith, c.depth)))
      go (past tree) t c n = record { tree = tree; stands = t; counted = record { nodes = c.nodes; lacking = c.lacking; filled = λ few. (n few).0 } }

  pub root_stops : (at : ℕ) (why : Refusal) → Leads text (Ok at) → Roots text at (Err why) → Refuses text why
  root_stops at why h t = root_refused text at why (lead_on text at h) t

  -- A refusal is one of the whole.
  pub comes_ends : (begins : List ℕ) (cols : Columns) (why : Refusal) → Comes text list begins cols (Err why) → Ends text list cols (Err why)
  comes_ends begins cols why h = h

  pub ends_judges : (cols : Columns) (why : Refusal) → Ends text list cols (Err why) → Judges text list cols (Err why)
  ends_judges cols why h = h

  pub ends_inside : (cols : Columns) (r : Result Progress Refusal) → Ends text list cols r → Inside text r
  ends_inside cols (Ok p) h = h.stands.inside
  ends_inside cols (Err why) h = tt

  -- Behind the one element the text ends, or is refused.
  pub ends_wanted : (cols : Columns) (p : Progress) (end : ℕ) → Element text list cols p → Finishes text p.at (Ok end) → Wanted text list cols p
  ends_wanted cols p end h f = record { tree = h.tree; is = h.stands.judged ∙ f.goes h.tree; counted = h.counted }

  pub ends_refused : (cols : Columns) (p : Progress) (why : Refusal) → Element text list cols p → Finishes text p.at (Err why) → Refuses text why
  ends_refused cols p why h f = h.stands.judged ∙ f.goes h.tree
