-- What reading a piece says of the judgement of the text: it goes on from where the piece ends, and a refusal is one of the whole. By induction over the bytes.
-- Assumes nothing.
use Prim.Native.Nat.{ℕ, suc}
use native.Mathlib.Numerals.{add-one}
use mathlib.Core.Path.{◌≡◌, refl, sym, ◌∙◌, ap}
use mathlib.Core.Bool.{Bool, true, false, cond}
use mathlib.Core.List.{List, [], ◌∷◌}
use mathlib.Core.Option.{Option, none, some}
use borrow.Author.Tests.{eqb-true, eq-eqb}
use lib.Dec.{eqb}
use lib.ListN.{drop}
use lib.Seq.{drop-drop}
use Rattle.paper.proofs.Tests.{none-some}
use Rattle.paper.specs.Xml.{nothing, chars, Frame, Mode, start, first, heading, ahead, opening, in_name, in_tag, emptied, content, run, partly, closing, ended, State, with, step, left_out, Judged, unwanted, at_end, onward, judge}
use Rattle.xml_bytes.specs.Seeking.{Sought, stops, refused, settled, unless, onwards, seek, seek_next}
use Rattle.xml_bytes.specs.Promised.{state, seek_at}

-- How the judgement goes on past a piece.
abbrev pub gone_on : List ℕ → Sought → Judged
gone_on text (stops to t) = judge to t (drop to text)
gone_on text (refused number place) = unwanted number place

-- At the end of a text in which no piece ends.
cut : (m : Mode) (at : ℕ) (frames : List Frame) → settled m at frames [] ≡ none → at_end m at ≡ unwanted 11 at
cut start at frames h = refl
cut first at frames h = refl
cut (heading p) at frames h = refl
cut ahead at frames h = refl
cut (opening begin) at frames h = refl
cut (in_name begin name) at frames h = refl
cut (in_tag begin name) at frames h = refl
cut (emptied begin name) at frames h = refl
cut content at frames h = refl
cut (run begin k) at frames h = refl
cut (partly begin p) at frames h = refl
cut (closing name) at frames h = refl
cut (ended tree) at frames h = absurd (none-some (sym h))

module _ (text : List ℕ) where
  -- Where a run ends before a `<`, it makes no difference whether its node is added.
  run_judged : (begin k at : ℕ) (f : Frame) (fs : List Frame) (bs : List ℕ) (b : ℕ) → eqb 60 b ≡ true
      → judge at (state (run begin k) (f ∷ fs)) (b ∷ bs) ≡ judge at (state content (with f (chars begin at nothing) ∷ fs)) (b ∷ bs)
  unfolding left_out
  run_judged begin k at f fs bs b h = rw (eq-eqb b 60 (sym (eqb-true 60 b h)))

  -- A piece ends here, or reading goes on.
  module _ (at : ℕ) (more : Sought) where
    settles : (m : Mode) (frames : List Frame) (bs : List ℕ) → drop at text ≡ bs → (settled m at frames bs ≡ none → judge at (state m frames) bs ≡ gone_on text more)
        → judge at (state m frames) bs ≡ gone_on text (unless (settled m at frames bs) at more)
    settles start frames bs e h = h refl
    settles first frames bs e h = h refl
    settles (heading p) frames bs e h = h refl
    settles ahead frames bs e h = h refl
    settles (opening begin) frames bs e h = h refl
    settles (in_name begin name) frames bs e h = h refl
    settles (in_tag begin name) frames bs e h = h refl
    settles (emptied begin name) frames bs e h = h refl
    settles content frames bs e h = ap (judge at (state content frames)) (sym e)
    settles (run begin k) [] bs e h = h refl
    settles (run begin k) (f ∷ fs) [] e h = h refl
    settles (run begin k) (f ∷ fs) (b ∷ bs) e h = go (eqb 60 b) refl h
      where
        go : (t : Bool) → eqb 60 b ≡ t → (cond t (some (state content (with f (chars begin at nothing) ∷ fs))) none ≡ none → judge at (state (run begin k) (f ∷ fs)) (b ∷ bs) ≡ gone_on text more)
            → judge at (state (run begin k) (f ∷ fs)) (b ∷ bs) ≡ gone_on text (unless (cond t (some (state content (with f (chars begin at nothing) ∷ fs))) none) at more)
        go true p h = run_judged begin k at f fs bs b p ∙ ap (judge at (state content (with f (chars begin at nothing) ∷ fs))) (sym e)
        go false p h = h refl
    settles (partly begin p) frames bs e h = h refl
    settles (closing name) frames bs e h = h refl
    settles (ended tree) frames bs e h = ap (judge at (state (ended tree) frames)) (sym e)

  -- One byte, then the rest.
  one_byte : (at b : ℕ) (bs : List ℕ) (opens : Bool) (next : Option State) → ((t : State) → judge (suc at) t bs ≡ gone_on text (seek (suc at) t bs))
      → cond opens (unwanted 12 at) (onward at next (λ t. judge (suc at) t bs)) ≡ gone_on text (cond opens (refused 12 at) (onwards at next (λ t. seek (suc at) t bs)))
  one_byte at b bs true next h = refl
  one_byte at b bs false none h = refl
  one_byte at b bs false (some t) h = h t

  next_drop : (at b : ℕ) (bs : List ℕ) → drop at text ≡ b ∷ bs → drop (suc at) text ≡ bs
  next_drop at b bs e = ap (λ n. drop n text) (sym (add-one at)) ∙ sym (drop-drop 1 at text) ∙ ap (drop 1) e

  along : (bs : List ℕ) (at : ℕ) (s : State) → drop at text ≡ bs → judge at s bs ≡ gone_on text (seek at s bs)
  along [] at s e = settles at (refused 11 at) s.mode s.frames [] e (cut s.mode at s.frames)
  along (b ∷ bs) at s e =
      settles at (cond (left_out s.mode (b ∷ bs)) (refused 12 at) (onwards at (step at s b) (λ t. seek (suc at) t bs))) s.mode s.frames (b ∷ bs) e
      (λ n. one_byte at b bs (left_out s.mode (b ∷ bs)) (step at s b) (λ t. along bs (suc at) t (next_drop at b bs e)))

  -- The judgement from a place on is that past the piece which is read there.
  pub judged : (at : ℕ) (s : State) → judge at s (drop at text) ≡ gone_on text (seek_at text at s)
  judged at s = along (drop at text) at s refl

  -- The same with one byte read first.
  pub judged_next : (at : ℕ) (s : State) → at_end s.mode at ≡ unwanted 11 at → judge at s (drop at text) ≡ gone_on text (seek_next at s (drop at text))
  judged_next at s cut-here = go (drop at text) refl
    where
      go : (bs : List ℕ) → drop at text ≡ bs → judge at s bs ≡ gone_on text (seek_next at s bs)
      go [] e = cut-here
      go (b ∷ bs) e = one_byte at b bs (left_out s.mode (b ∷ bs)) (step at s b) (λ t. along bs (suc at) t (next_drop at b bs e))

  -- By what reading comes to.
  pub judged_on : (at to : ℕ) (s t : State) → seek_at text at s ≡ stops to t → judge at s (drop at text) ≡ judge to t (drop to text)
  judged_on at to s t e = judged at s ∙ ap (gone_on text) e

  pub judged_refused : (at number place : ℕ) (s : State) → seek_at text at s ≡ refused number place → judge at s (drop at text) ≡ unwanted number place
  judged_refused at number place s e = judged at s ∙ ap (gone_on text) e

  pub judged_next_on : (at to : ℕ) (s t : State) → at_end s.mode at ≡ unwanted 11 at → seek_next at s (drop at text) ≡ stops to t → judge at s (drop at text) ≡ judge to t (drop to text)
  judged_next_on at to s t h e = judged_next at s h ∙ ap (gone_on text) e

  pub judged_next_refused : (at number place : ℕ) (s : State) → at_end s.mode at ≡ unwanted 11 at → seek_next at s (drop at text) ≡ refused number place → judge at s (drop at text) ≡ unwanted number place
  judged_next_refused at number place s h e = judged_next at s h ∙ ap (gone_on text) e
