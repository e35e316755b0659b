-- Comparing from piece to piece: inside an element the next piece is taken, and where no element is open the one element is read. Assumes nothing.
use Rattle.std.specs.Prelude.{Option, None, Ok, Err}
use Prim.Native.Nat.{ℕ, ◌-◌, ◌≤◌, ◌<◌}
use native.Mathlib.Omega.{arith}
use mathlib.Core.Path.{◌≡◌, refl, sym, ◌∙◌, ap, subst}
use mathlib.Core.Bool.{Bool}
use mathlib.Core.List.{List, [], ◌∷◌}
use lib.ListN.{length, get_or}
use Rattle.paper.specs.Limits.{text_limit}
use Rattle.paper.specs.Names.{names_of, number_of}
use Rattle.paper.specs.declared.Refusal.{Refusal}
use Rattle.paper.specs.Xml.{Frame, row, root}
use Rattle.xml_bytes.specs.Seeking.{refusal_number, refusal_place}
use Rattle.xml.specs.Pieces.{Takes, Roots, Finishes}
use Rattle.prolog.specs.Heading.{Leads}
use Rattle.xml.specs.declared.Piece.{Piece}
use Rattle.xml_lines.specs.Open.{innermost, lines, Stand, within, past, open_in, so_far, Stands}
use Rattle.xml_lines.specs.Kept.{Columns}
use Rattle.xml_lines.specs.Judges.{open_limit, Counts, Refuses}
use Rattle.read_listed.proofs.Moved.{take_moves, take_refused, root_moves, root_refused, lead_on, lead_refused}
use Rattle.read_listed.proofs.Counted.{progress}
use Rattle.match_lines.specs.Lines.{LineIs, told, told_at}
use Rattle.line_tests.specs.Telling.{Tells}
use Rattle.match_lines.specs.Compared.{Compares, Standing, Facing, IsRefused, Element, Wanted, Says}
use Rattle.match_lines.specs.declared.Progress.{Progress}
use Rattle.match_lines.proofs.Pieces.{place}

module _ (text list : List ℕ) (cols : Columns) where
  -- A refusal of the code is one of the text.
  refused : (why : Refusal) → Refuses text why → IsRefused text
  refused why e = record { number = refusal_number why; place = refusal_place why; is = e }

  -- INSIDE AN ELEMENT.
  pub record Deep (begins : List ℕ) (p : Progress) : Type 0 where
    pub inner : Frame
    pub outer : List Frame
    pub stands : Stands text p.at (within inner outer)
    pub unnamed : Option ℕ
    pub counts : Counts (number_of (names_of list)) begins (inner ∷ outer) (lines (length text) (inner ∷ outer)) (progress p.at p.depth 0 p.nodes unnamed)
    pub compares : Compares list cols (told (length text) cols.ends (inner ∷ outer)) (innermost (inner ∷ outer)) p.same p.inner
    pub kept : get_or begins (p.depth - 1) 0 ≡ inner.begin
    pub room : p.depth - 1 < open_limit

  pub deep : (begins : List ℕ) (p : Progress) → length text ≤ text_limit → Standing text list begins cols p → 0 < p.depth → Deep begins p
  deep begins p short h l = go h.stand h.stands h.counts h.compares
    where
      go : (s : Stand) → Stands text p.at s → Counts (number_of (names_of list)) begins (open_in s) (so_far (length text) s) (progress p.at p.depth 0 p.nodes h.unnamed)
          → Compares list cols (told_at (length text) cols.ends s) (innermost (open_in s)) p.same p.inner → Deep begins p
      go (within f fs) t c n =
          let e : length fs ≡ p.depth - 1 = omega (arith, c.depth) in
          record {
            inner = f;
            outer = fs;
            stands = t;
            unnamed = h.unnamed;
            counts = c;
            compares = n;
            kept = ap (λ k. get_or begins k 0) (sym e) ∙ c.kept.0;
            room = omega (arith, c.depth, c.room, t.inside);
          }
      go (past tree) t c n = absurd (omega (arith, c.depth))

  -- The piece that is taken.
  pub takes : (begins : List ℕ) (p : Progress) (h : Deep begins p) (inner : ℕ) (r : Piece) → inner ≡ h.inner.begin → Takes text p.at inner (Ok r) → Facing text list begins cols r p
  takes begins p h inner r e t =
      record {
        frames = h.inner ∷ h.outer;
        inside = h.stands.inside;
        moves = take_moves text p.at h.inner h.outer r h.stands (subst (λ i. Takes text p.at i (Ok r)) e t);
        unnamed = h.unnamed;
        counts = h.counts;
        compares = h.compares;
      }

  pub takes_refused : (begins : List ℕ) (p : Progress) (h : Deep begins p) (inner : ℕ) (why : Refusal) → inner ≡ h.inner.begin → Takes text p.at inner (Err why) → IsRefused text
  takes_refused begins p h inner why e t = refused why (take_refused text p.at h.inner h.outer why h.stands (subst (λ i. Takes text p.at i (Err why)) e t))

  -- AT BOTH ENDS. Before the one element the root's line is compared.
  pub root_faces : (begins : List ℕ) (at : ℕ) (r : Piece) (same : Bool) → length begins ≡ open_limit → Tells same (LineIs list cols 0 (row 0 root 0 (length text))) → Leads text (Ok at) → Roots text at (Ok r)
      → Facing text list begins cols r (place at 0 0 1 same)
  root_faces begins at r same long tells h t =
      record {
        frames = [];
        inside = omega (arith, h.marked.0);
        moves = root_moves text at r (lead_on text at h) t;
        unnamed = None;
        counts = record { long = long; depth = refl; kept = tt; nodes = refl; lacking = refl; room = omega arith; few = omega arith };
        compares = record { yes = λ e. ((tells.0 e, tt), refl); no = λ e a. tells.1 e a.0 };
      }

  -- Where no element is open, the one element is read.
  pub element_read : (begins : List ℕ) (p : Progress) → Standing text list begins cols p → (0 < p.depth → ⊥) → Element text list cols p
  element_read begins p h flat = go h.stand h.stands h.counts h.compares
    where
      go : (s : Stand) → Stands text p.at s → Counts (number_of (names_of list)) begins (open_in s) (so_far (length text) s) (progress p.at p.depth 0 p.nodes h.unnamed)
          → Compares list cols (told_at (length text) cols.ends s) (innermost (open_in s)) p.same p.inner → Element text list cols p
      go (within f fs) t c n = absurd (flat (omega (arith, c.depth)))
      go (past tree) t c n = record { tree = tree; stands = t; matched = record { nodes = c.nodes; yes = λ e. (n.yes e).0; no = n.no } }

  pub lead_stops : (why : Refusal) → Leads text (Err why) → IsRefused text
  lead_stops why h = refused why (lead_refused text why h)

  pub root_stops : (at : ℕ) (why : Refusal) → Leads text (Ok at) → Roots text at (Err why) → IsRefused text
  root_stops at why h t = refused why (root_refused text at why (lead_on text at h) t)

  -- Behind it the text ends, or is refused.
  pub ends_wanted : (p : Progress) (end : ℕ) → Element text list cols p → Finishes text p.at (Ok end) → Wanted text list cols p
  ends_wanted p end h f = record { tree = h.tree; is = h.stands.judged ∙ f.goes h.tree; matched = h.matched }

  pub ends_refused : (p : Progress) (why : Refusal) → Element text list cols p → Finishes text p.at (Err why) → IsRefused text
  ends_refused p why h f = refused why (h.stands.judged ∙ f.goes h.tree)

-- WHAT WAS COMPARED IS SAID.
pub says : (text list : List ℕ) (cols : Columns) (p : Progress) → Wanted text list cols p → Says text list cols (record { nodes = p.nodes; same = p.same })
says text list cols p w = record { tree = w.tree; is = w.is; nodes = w.matched.nodes; yes = w.matched.yes; no = w.matched.no }
