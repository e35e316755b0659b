-- What stands at a place inside an element: a run of characters, an end tag or a start tag, as a piece. Assumes nothing.
use Prim.Native.Nat.{ℕ, suc, ◌+◌, ◌≤◌, ◌<◌}
use native.Mathlib.Omega.{arith}
use borrow.Author.Tests.{eq-eqb}
use mathlib.Core.Path.{◌≡◌, ◌∙◌, ap, subst}
use mathlib.Core.Bool.{true, false}
use mathlib.Core.List.{List, ◌∷◌}
use Rattle.std.specs.Prelude.{Ok, Err}
use Rattle.paper.specs.declared.Refusal.{Refusal}
use Rattle.paper.specs.declared.Refusal.TheVariants.{NoXml, LeftOut}
use lib.ListN.{length, get_or, drop, drop_of_length-le}
use lib.Seq.{drop-cons}
use Rattle.paper.specs.Xml.{Frame, opening, content, closing, left_out, left_out_anywhere}
use Rattle.xml_bytes.specs.Seeking.{seek_next}
use Rattle.xml_bytes.specs.Promised.{state, seek_at}
use Rattle.end_tags.specs.Renaming.{Ends}
use Rattle.xml_runs.specs.Runs.{Runs}
use Rattle.xml.specs.Pieces.{Taken, Tags, Takes}
use Rattle.xml.specs.declared.Piece.TheVariants.{Start, Empty, End, Text}

module _ (text : List ℕ) (at inner : ℕ) where
  -- The text ends, or a thing that is left out opens.
  pub takes_cut : length text ≤ at → at ≤ length text → Takes text at inner (Err (NoXml at))
  takes_cut l m = record { goes = λ f fs n. rw (drop_of_length-le text l); bounds = m }

  pub takes_left_out : at < length text → left_out_anywhere (drop at text) ≡ true → Takes text at inner (Err (LeftOut at))
  unfolding left_out
  takes_left_out inside o =
      let o' = rw (drop-cons text at 0 inside) at o in
      record { goes = λ f fs n. rw (drop-cons text at 0 inside, o'); bounds = omega arith }

  -- A run of characters.
  pub takes_text : (to : ℕ) → Runs text at (Ok to) → Takes text at inner (Ok (Text (record { at = to })))
  takes_text to h = record { goes = λ f fs n. h.goes f fs; bounds = h.bounds }

  pub text_refused : (why : Refusal) → Runs text at (Err why) → Takes text at inner (Err why)
  text_refused why h = record { goes = λ f fs n. h.goes f fs; bounds = h.bounds }

  module _ (inside : at < length text) (tag : get_or text at 0 ≡ 60) (opens : left_out_anywhere (drop at text) ≡ false) where
    -- Past the `<` of a tag.
    past-mark : (f : Frame) (fs : List Frame) → seek_next at (state content (f ∷ fs)) (drop at text) ≡ seek_at text (suc at) (state (opening at) (f ∷ fs))
    unfolding left_out
    past-mark f fs =
        let o' = rw (drop-cons text at 0 inside) at opens in
        rw (drop-cons text at 0 inside, o', eq-eqb (get_or text at 0) 60 tag)

    -- The text ends there.
    pub takes_mark : (next : ℕ) → next ≡ at + 1 → length text ≤ next → Takes text at inner (Err (NoXml next))
    takes_mark next e l =
        let f : suc at ≡ next = omega arith in
        record { goes = λ g gs n. past-mark g gs ∙ ap (λ m. seek_at text m (state (opening at) (g ∷ gs))) f ∙ rw (drop_of_length-le text l); bounds = omega arith }

    -- A start tag.
    pub takes_tag : (next : ℕ) (r : Taken) → next ≡ at + 1 → (get_or text next 0 ≡ 47 → ⊥) → Tags text next r → Takes text at inner r
    takes_tag next r e no_slash h =
        let f : next ≡ suc at = omega arith in
        as_piece r (subst (λ m. get_or text m 0 ≡ 47 → ⊥) f no_slash) (subst (λ m. Tags text m r) f h)
      where
        as_piece : (r : Taken) → (get_or text (suc at) 0 ≡ 47 → ⊥) → Tags text (suc at) r → Takes text at inner r
        as_piece (Ok (Start end next)) other h = record { goes = λ g gs n. past-mark g gs ∙ h.goes at (g ∷ gs) (λ s. absurd (other s)); bounds = (h.bounds.0, omega (arith, h.bounds.0, h.named), omega (arith, h.bounds.0, h.bounds.1), h.bounds.2) }
        as_piece (Ok (Empty end next)) other h = record { goes = λ g gs n. past-mark g gs ∙ h.goes at (g ∷ gs) (λ s. absurd (other s)); bounds = (h.bounds.0, omega (arith, h.bounds.0, h.named), omega (arith, h.bounds.0, h.bounds.1), h.bounds.2) }
        as_piece (Ok (End next)) other h = absurd h.bounds
        as_piece (Ok (Text next)) other h = absurd h.bounds
        as_piece (Err why) other h = record { goes = λ g gs n. past-mark g gs ∙ h.goes at (g ∷ gs) (λ s. absurd (other s)); bounds = h.bounds }

    -- An end tag.
    module _ (room : suc at < length text) (slash : get_or text (suc at) 0 ≡ 47) (from : ℕ) (e : from ≡ at + 2) where
      past_slash : (f : Frame) (fs : List Frame) → seek_next at (state content (f ∷ fs)) (drop at text) ≡ seek_at text from (state (closing f.name) (f ∷ fs))
      unfolding left_out
      past_slash f fs =
          let two : suc (suc at) ≡ from = omega arith in
          past-mark f fs ∙ rw (drop-cons text (suc at) 0 room, slash) (ap (λ m. seek_at text m (state (closing f.name) (f ∷ fs))) two)

      pub takes_end : (to : ℕ) → Ends text from inner (Ok to) → Takes text at inner (Ok (End (record { at = to })))
      takes_end to h = record { goes = λ f fs n. past_slash f fs ∙ h.goes f fs n; bounds = (omega (arith, h.bounds.0), h.bounds.1) }

      pub end_refused : (why : Refusal) → Ends text from inner (Err why) → Takes text at inner (Err why)
      end_refused why h = record { goes = λ g gs n. past_slash g gs ∙ h.goes g gs n; bounds = h.bounds }
