-- Where a piece leads from inside the open elements, by what the cursor promises of it. Assumes nothing.
use Rattle.std.specs.Prelude.{Ok, Err}
use Prim.Native.Nat.{ℕ, suc, ◌≤◌}
use native.Mathlib.Omega.{arith}
use mathlib.Core.Path.{◌≡◌, refl, sym, ◌∙◌, ap}
use mathlib.Core.List.{List, [], ◌∷◌}
use lib.ListN.{length, drop}
use Rattle.paper.specs.Xml.{Nodes, nothing, element, chars, Frame, State, start, ahead, content, judge, read_xml}
use Rattle.paper.specs.declared.Refusal.{Refusal}
use Rattle.xml_bytes.specs.Seeking.{refusal_number, refusal_place}
use Rattle.xml_bytes.specs.Promised.{state}
use Rattle.xml.specs.Pieces.{name_at, opened, added, Named, Takes, Roots}
use Rattle.prolog.specs.Heading.{Leads}
use Rattle.xml.specs.declared.Piece.{Piece}
use Rattle.xml.specs.declared.Piece.TheVariants.{Start, Empty, End, Text}
use Rattle.xml.proofs.Judging.{gone_on, judged, judged_on, judged_refused, judged_next_on, judged_next_refused}
use Rattle.xml_lines.specs.Open.{within, open_in, joined, Names, Stands, Tagged, Moves}
use Rattle.xml_lines.specs.Judges.{Refuses}
use Rattle.xml_lines.proofs.Opened.{joined_state}

module _ (text : List ℕ) where
  -- The names stay where a node is added.
  joined_names : (node : Nodes) (frames : List Frame) → Names text frames → Names text (open_in (joined node frames))
  joined_names node [] h = h
  joined_names node (f ∷ fs) h = h

  -- How a start tag, an empty element and the others lead on.
  module _ (at : ℕ) (s : State) (frames : List Frame) (names : Names text frames) (from : read_xml text ≡ judge at s (drop at text)) where
    starts : (name_end next : ℕ) → Tagged text at name_end next → next ≤ length text → judge at s (drop at text) ≡ judge next (state content (opened (name_at text (suc at)) at ∷ frames)) (drop next text)
        → Stands text next (within (opened (name_at text (suc at)) at) frames)
    starts name_end next tagged most goes =
        let long : Named text at = omega (arith, tagged.0.0, tagged.2) in record { judged = from ∙ goes; named = (refl, long, names); inside = most }

    joins : (node : Nodes) (next : ℕ) → next ≤ length text → judge at s (drop at text) ≡ judge next (added node frames) (drop next text) → Stands text next (joined node frames)
    joins node next most goes =
        record {
          judged = from ∙ goes ∙ ap (λ t. judge next t (drop next text)) (joined_state node frames);
          named = joined_names node frames names;
          inside = most;
        }

  -- A piece inside an element.
  pub take_moves : (at : ℕ) (f : Frame) (fs : List Frame) (r : Piece) → Stands text at (within f fs) → Takes text at f.begin (Ok r) → Moves text at (f ∷ fs) r
  take_moves at f fs (Start name_end next) h t =
      let b = t.bounds in
      let tagged : Tagged text at name_end next.at = ((b.0, omega arith, b.1), b.1, b.2) in (
        starts at (state content (f ∷ fs)) (f ∷ fs) h.named h.judged name_end next.at tagged b.3
            (judged_next_on text at next.at (state content (f ∷ fs)) (state content (opened (name_at text (suc at)) at ∷ f ∷ fs)) refl (t.goes f fs h.named.0)),
        tagged,
      )
  take_moves at f fs (Empty name_end next) h t =
      let b = t.bounds in
      let tagged : Tagged text at name_end next.at = ((b.0, omega arith, b.1), b.1, b.2) in (
        joins at (state content (f ∷ fs)) (f ∷ fs) h.named h.judged (element (name_at text (suc at)) at next.at nothing nothing) next.at b.3
            (judged_next_on text at next.at (state content (f ∷ fs)) _ refl (t.goes f fs h.named.0)),
        tagged,
      )
  take_moves at f fs (End next) h t = (
    joins at (state content (f ∷ fs)) fs h.named.2 h.judged (element f.name f.begin next.at f.inside nothing) next.at t.bounds.1
        (judged_next_on text at next.at (state content (f ∷ fs)) (added (element f.name f.begin next.at f.inside nothing) fs) refl (t.goes f fs h.named.0)),
    omega (arith, t.bounds.0),
  )
  take_moves at f fs (Text next) h t = (
    joins at (state content (f ∷ fs)) (f ∷ fs) h.named h.judged (chars at next.at nothing) next.at t.bounds.1
        (judged_next_on text at next.at (state content (f ∷ fs)) _ refl (t.goes f fs h.named.0)),
    t.bounds.0,
  )

  pub take_refused : (at : ℕ) (f : Frame) (fs : List Frame) (why : Refusal) → Stands text at (within f fs) → Takes text at f.begin (Err why) → Refuses text why
  take_refused at f fs why h t = h.judged ∙ judged_next_refused text at (refusal_number why) (refusal_place why) (state content (f ∷ fs)) refl (t.goes f fs h.named.0)

  -- Before the one element.
  pub lead_on : (at : ℕ) → Leads text (Ok at) → read_xml text ≡ judge at (state ahead []) (drop at text)
  unfolding read_xml
  lead_on at h = judged text 0 (state start []) ∙ ap (gone_on text) h.goes ∙ sym (judged text at (state ahead []))

  pub lead_refused : (why : Refusal) → Leads text (Err why) → Refuses text why
  unfolding read_xml
  lead_refused why h = judged text 0 (state start []) ∙ ap (gone_on text) h.goes

  -- Its start tag.
  pub root_moves : (at : ℕ) (r : Piece) → read_xml text ≡ judge at (state ahead []) (drop at text) → Roots text at (Ok r) → Moves text at [] r
  root_moves at (Start name_end next) h t =
      let b = t.bounds in
      let tagged : Tagged text at name_end next.at = ((b.0, omega (arith, b.0, b.1, b.2), omega (arith, b.0, t.named)), omega (arith, b.0, t.named), omega (arith, b.0, b.1)) in (
        starts at (state ahead []) [] tt h name_end next.at tagged b.2 (judged_on text at next.at (state ahead []) (state content (opened (name_at text (suc at)) at ∷ [])) t.goes),
        tagged,
      )
  root_moves at (Empty name_end next) h t =
      let b = t.bounds in
      let tagged : Tagged text at name_end next.at = ((b.0, omega (arith, b.0, b.1, b.2), omega (arith, b.0, t.named)), omega (arith, b.0, t.named), omega (arith, b.0, b.1)) in (
        joins at (state ahead []) [] tt h (element (name_at text (suc at)) at next.at nothing nothing) next.at b.2 (judged_on text at next.at (state ahead []) _ t.goes),
        tagged,
      )
  root_moves at (End next) h t = absurd t.bounds
  root_moves at (Text next) h t = absurd t.bounds

  pub root_refused : (at : ℕ) (why : Refusal) → read_xml text ≡ judge at (state ahead []) (drop at text) → Roots text at (Err why) → Refuses text why
  root_refused at why h t = h ∙ judged_refused text at (refusal_number why) (refusal_place why) (state ahead []) t.goes
