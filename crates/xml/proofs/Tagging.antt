-- How reading goes through a tag: its name, the white space behind it, its end. Assumes nothing.
use Prim.Native.Nat.{ℕ, suc, ◌+◌, ◌≤◌, ◌<◌}
use native.Mathlib.Omega.{arith}
use native.Mathlib.Nat.{add-zero}
use borrow.Author.Tests.{ne_eqb, eqb-true, lt-ltb, le-ltb, ltb-false}
use mathlib.Core.Path.{◌≡◌, refl, sym, ◌∙◌, ap, subst}
use mathlib.Core.Bool.{Bool, true, false, not, ◌&&◌, ◌||◌, cond}
use mathlib.Core.List.{List, [], ◌∷◌, ◌++◌, append_assoc, append-nil}
use mathlib.Core.Logic.{⊎_elim}
use Rattle.std.specs.Prelude.{Ok, Err}
use Rattle.paper.specs.declared.Refusal.{Refusal}
use Rattle.paper.specs.declared.Refusal.TheVariants.{NoXml, LeftOut}
use mathlib.Core.Option.{Option, none, some}
use lib.Dec.{eqb, ltb}
use lib.ListN.{length, get_or, take, drop}
use lib.Seq.{drop-cons, drop-drop}
use Rattle.paper.specs.Tools.{run_of}
use Rattle.paper.specs.Names.{name_start, name_part}
use Rattle.paper.specs.Tokens.{white}
use Rattle.paper.specs.Xml.{nothing, element, xml_start, xml_part, Frame, State, opening, in_name, in_tag, emptied, content, tag_goes_on, step_mode, left_out, left_out_anywhere}
use Rattle.paper.proofs.Axes.{same_turned}
use Rattle.paper.proofs.Tests.{decide}
use Rattle.paper.proofs.Lexing.{run_more}
use Rattle.xml_bytes.specs.Seeking.{stops, settled, seek, refusing}
use Rattle.xml_bytes.specs.Promised.{Reach, state, seek_at, reached, refusal_at, calm, Reads}
use Rattle.end_tags.specs.Renaming.{name_at, added}
use Rattle.xml.specs.Pieces.{opened, tag_mode, foreign_in, Past, Taken, tag_took, TagBounds, TagEnds, EmptyEnds, HasName, Tags}
use Rattle.xml.specs.declared.Piece.TheVariants.{Start, Empty, End, Text}
use Rattle.end_tags.proofs.Ending.{added_stops, add_added}
use Rattle.xml_bytes.proofs.Steps.{Calm, is_calm, Waits, calm_opens, text_ends, opens_here, steps_on, refused_here, opens_not}
use Rattle.xml_bytes.proofs.Rows.{reads_bounds, wait_read, byte_calm}
use Rattle.xml_bytes.proofs.Signs.{part_calm, start_part, white_calm}

-- Between two pieces inside an element reading stops.
pub content_stops : (at : ℕ) (frames : List Frame) (bs : List ℕ) → seek at (state content frames) bs ≡ stops at (state content frames)
content_stops at frames [] = refl
content_stops at frames (b ∷ bs) = refl

-- NAMES.
module _ (begin : ℕ) (frames : List Frame) where
  -- A name is read to its end.
  pub name_run : (at : ℕ) (w bs : List ℕ) → seek at (state (in_name begin w) frames) bs
      ≡ seek (at + run_of name_part bs) (state (in_name begin (w ++ take (run_of name_part bs) bs)) frames) (drop (run_of name_part bs) bs)
  unfolding left_out
  name_run at w [] = rw (add-zero at)
  name_run at w (b ∷ bs) = go (name_part b) refl (name_run (suc at) (w ++ (b ∷ [])) bs)
    where
      go : (t : Bool) → name_part b ≡ t
          → seek (suc at) (state (in_name begin (w ++ (b ∷ []))) frames) bs
          ≡ seek (suc at + run_of name_part bs) (state (in_name begin ((w ++ (b ∷ [])) ++ take (run_of name_part bs) bs)) frames) (drop (run_of name_part bs) bs)
          → seek at (state (in_name begin w) frames) (b ∷ bs)
          ≡ seek (at + run_of name_part (b ∷ bs)) (state (in_name begin (w ++ take (run_of name_part (b ∷ bs)) (b ∷ bs))) frames) (drop (run_of name_part (b ∷ bs)) (b ∷ bs))
      go true h later =
          let opens = calm_opens b bs (part_calm b h).calm in
          let e : suc at + run_of name_part bs ≡ at + suc (run_of name_part bs) = omega arith in
          let f : (w ++ (b ∷ [])) ++ take (run_of name_part bs) bs ≡ w ++ (b ∷ take (run_of name_part bs) bs) = append_assoc w (b ∷ []) (take (run_of name_part bs) bs) in
          rw (h, opens) (later ∙ ap (λ n. seek n (state (in_name begin ((w ++ (b ∷ [])) ++ take (run_of name_part bs) bs)) frames) (drop (run_of name_part bs) bs)) e
          ∙ ap (λ (v : List ℕ). seek (at + suc (run_of name_part bs)) (state (in_name begin v) frames) (drop (run_of name_part bs) bs)) f)
      go false h later = rw (h, add-zero at, append-nil w, h)

  -- White space in a start tag.
  pub tag_gap : (at : ℕ) (w bs : List ℕ) → seek at (state (in_tag begin w) frames) bs ≡ seek (at + run_of white bs) (state (in_tag begin w) frames) (drop (run_of white bs) bs)
  unfolding left_out
  tag_gap at w [] = rw (add-zero at)
  tag_gap at w (b ∷ bs) = go (white b) refl (tag_gap (suc at) w bs)
    where
      go : (t : Bool) → white b ≡ t → seek (suc at) (state (in_tag begin w) frames) bs ≡ seek (suc at + run_of white bs) (state (in_tag begin w) frames) (drop (run_of white bs) bs)
          → seek at (state (in_tag begin w) frames) (b ∷ bs) ≡ seek (at + run_of white (b ∷ bs)) (state (in_tag begin w) frames) (drop (run_of white (b ∷ bs)) (b ∷ bs))
      go true h later =
          let s = white_calm b h in
          let e : suc at + run_of white bs ≡ at + suc (run_of white bs) = omega arith in
          rw (h, calm_opens b bs s.calm, s.no_xml_start) (later ∙ ap (λ n. seek n (state (in_tag begin w) frames) (drop (run_of white bs) bs)) e)
      go false h later = rw (h, add-zero at, h)

  pub name_gap : (at : ℕ) (w bs : List ℕ) → seek at (state (in_name begin w) frames) bs
      ≡ seek (at + run_of white bs) (state (tag_mode (ltb at (at + run_of white bs)) begin w) frames) (drop (run_of white bs) bs)
  unfolding left_out
  name_gap at w [] = rw (add-zero at, le-ltb at at (omega arith))
  name_gap at w (b ∷ bs) = go (white b) refl
    where
      go : (t : Bool) → white b ≡ t → seek at (state (in_name begin w) frames) (b ∷ bs)
          ≡ seek (at + run_of white (b ∷ bs)) (state (tag_mode (ltb at (at + run_of white (b ∷ bs))) begin w) frames) (drop (run_of white (b ∷ bs)) (b ∷ bs))
      go true h =
          let s = white_calm b h in
          let e : suc at + run_of white bs ≡ at + suc (run_of white bs) = omega arith in
          rw (h, calm_opens b bs s.calm, s.no_xml_part, s.no_part, lt-ltb at (at + suc (run_of white bs)) (omega arith))
          (tag_gap (suc at) w bs ∙ ap (λ n. seek n (state (in_tag begin w) frames) (drop (run_of white bs) bs)) e)
      go false h = rw (h, add-zero at, le-ltb at at (omega arith), h)

-- THE STATES THAT WAIT IN TAGS.
pub wait_empty : (begin at : ℕ) (name : List ℕ) (frames : List Frame) → Waits (state (emptied begin name) frames) at (eqb 62) (added (element name begin (suc at) nothing nothing) frames)
unfolding left_out
wait_empty begin at name frames =
    record {
      unsettled = λ bs. refl;
      goes = λ b. rw (same_turned b 62) (ap (λ (o : Option State). cond (eqb 62 b) o none) (add_added (element name begin (suc at) nothing nothing) frames));
      opens = λ bs. refl;
    }

-- In a start tag, past its name: a byte opens what is left out by where it stands, or goes on with the tag.
module _ (m : Bool) (begin at b : ℕ) (name bs : List ℕ) (frames : List Frame) (past : m ≡ false → name_part b ≡ false) where
  pub tag_step : step_mode (tag_mode m begin name) at frames b ≡ tag_goes_on begin name frames b
  tag_step = go m past
    where
      go : (t : Bool) → (t ≡ false → name_part b ≡ false) → step_mode (tag_mode t begin name) at frames b ≡ tag_goes_on begin name frames b
      go true h = refl
      go false h = rw (h refl)

  pub tag_opens : left_out (tag_mode m begin name) (b ∷ bs) ≡ (left_out_anywhere (b ∷ bs) || foreign_in m b)
  unfolding left_out
  tag_opens = go m past
    where
      and_unit : (x : Bool) → (x && true) ≡ x
      and_unit true = refl
      and_unit false = refl

      go : (t : Bool) → (t ≡ false → name_part b ≡ false) → left_out (tag_mode t begin name) (b ∷ bs) ≡ (left_out_anywhere (b ∷ bs) || foreign_in t b)
      go true h = refl
      go false h = ap (λ (x : Bool). left_out_anywhere (b ∷ bs) || x) (ap (λ (y : Bool). xml_part b && not y) (h refl) ∙ and_unit (xml_part b))

  pub tag_unsettled : (cs : List ℕ) → settled (tag_mode m begin name) at frames cs ≡ none
  tag_unsettled cs = go m
    where
      go : (t : Bool) → settled (tag_mode t begin name) at frames cs ≡ none
      go true = refl
      go false = refl

-- AT THE END OF A START TAG.
module _ (text : List ℕ) (name_end at : ℕ) (inside : at < length text) (past : Past text name_end at) (least : name_end ≤ at) where
  not_part : ltb name_end at ≡ false → name_part (get_or text at 0) ≡ false
  not_part h = past.no_part (let l : at ≤ name_end = ltb-false name_end at h in omega arith)

  -- What opens here.
  opens_by : (begin : ℕ) (name : List ℕ) (frames : List Frame)
      → left_out (tag_mode (ltb name_end at) begin name) (drop at text) ≡ (left_out_anywhere (drop at text) || foreign_in (ltb name_end at) (get_or text at 0))
  opens_by begin name frames =
      rw (drop-cons text at 0 inside) (tag_opens (ltb name_end at) begin at (get_or text at 0) name (drop (suc at) text) frames not_part)

  -- Nothing does at a calm byte that no name of XML 1.0 has.
  opens_nothing : Calm (get_or text at 0) → foreign_in (ltb name_end at) (get_or text at 0) ≡ false → (begin : ℕ) (name : List ℕ) (frames : List Frame)
      → left_out (tag_mode (ltb name_end at) begin name) (drop at text) ≡ false
  opens_nothing calm f begin name frames = opens_by begin name frames ∙ rw (opens_not text at inside calm, f)

  go_by : (begin : ℕ) (name : List ℕ) (frames : List Frame) (s : State) → Calm (get_or text at 0) → foreign_in (ltb name_end at) (get_or text at 0) ≡ false
      → tag_goes_on begin name frames (get_or text at 0) ≡ some s → seek_at text at (state (tag_mode (ltb name_end at) begin name) frames) ≡ seek_at text (suc at) s
  go_by begin name frames s calm f e =
      steps_on text at (state (tag_mode (ltb name_end at) begin name) frames) inside
      (tag_unsettled (ltb name_end at) begin at (get_or text at 0) name [] frames not_part (drop at text)) s (opens_nothing calm f begin name frames)
      (tag_step (ltb name_end at) begin at (get_or text at 0) name [] frames not_part ∙ e)

  no_name : (n : ℕ) → xml_start n ≡ false → xml_part n ≡ false → get_or text at 0 ≡ n → foreign_in (ltb name_end at) (get_or text at 0) ≡ false
  no_name n s p e = ap (foreign_in (ltb name_end at)) e ∙ go (ltb name_end at)
    where
      go : (t : Bool) → foreign_in t n ≡ false
      go true = s
      go false = p

  -- `>` opens the element.
  pub tag_closes : (to : ℕ) → get_or text at 0 ≡ 62 → to ≡ at + 1 → TagEnds text name_end at (Ok (Start name_end (record { at = to })))
  tag_closes to e f =
      let next : suc at ≡ to = omega arith in
      record {
        goes = λ begin name frames. go_by begin name frames (state content (opened name begin ∷ frames)) (subst Calm (sym e) (is_calm 62 refl)) (no_name 62 refl refl e) (ap (tag_goes_on begin name frames) e)
            ∙ content_stops (suc at) (opened name begin ∷ frames) (drop (suc at) text) ∙ ap (λ n. stops n (state content (opened name begin ∷ frames))) next;
        bounds = (refl, omega arith, omega arith);
      }

  -- `/` goes on with the end of an empty element.
  pub tag_empties : (r : Taken) → get_or text at 0 ≡ 47 → EmptyEnds text name_end (at + 1) r → TagEnds text name_end at r
  tag_empties r e h =
      let next : suc at ≡ at + 1 = omega arith in
      record {
        goes = λ begin name frames. go_by begin name frames (state (emptied begin name) frames) (subst Calm (sym e) (is_calm 47 refl)) (no_name 47 refl refl e) (ap (tag_goes_on begin name frames) e)
            ∙ ap (λ n. seek_at text n (state (emptied begin name) frames)) next ∙ h.goes begin name frames;
        bounds = h.bounds;
      }

  -- A name of XML 1.0 opens what is left out.
  pub tag_foreign : foreign_in (ltb name_end at) (get_or text at 0) ≡ true → TagEnds text name_end at (Err (LeftOut at))
  tag_foreign f =
      record {
        goes = λ begin name frames. opens_here text at (state (tag_mode (ltb name_end at) begin name) frames) inside
            (tag_unsettled (ltb name_end at) begin at (get_or text at 0) name [] frames not_part (drop at text)) (opens_by begin name frames ∙ rw f (or_last (left_out_anywhere (drop at text))));
        bounds = omega arith;
      }
    where
      or_last : (t : Bool) → (t || true) ≡ true
      or_last true = refl
      or_last false = refl

  -- No tag goes on with any other byte.
  pub tag_refused : (why : Refusal) → foreign_in (ltb name_end at) (get_or text at 0) ≡ false → (get_or text at 0 ≡ 62 → ⊥) → (get_or text at 0 ≡ 47 → ⊥)
      → why ≡ refusal_at (left_out_anywhere (drop at text)) at → TagEnds text name_end at (Err why)
  tag_refused why f no_end no_slash e =
      record {
        goes = λ begin name frames. refused_here text at (state (tag_mode (ltb name_end at) begin name) frames) inside
            (tag_unsettled (ltb name_end at) begin at (get_or text at 0) name [] frames not_part (drop at text)) (state content [])
            (opens_by begin name frames ∙ rw f (or_false' (left_out_anywhere (drop at text))))
            (tag_step (ltb name_end at) begin at (get_or text at 0) name [] frames not_part ∙ rw (past.no_space, ne_eqb (get_or text at 0) 47 no_slash, ne_eqb (get_or text at 0) 62 no_end))
            ∙ ap refusing (sym e);
        bounds = rw e (within (left_out_anywhere (drop at text)));
      }
    where
      or_false' : (t : Bool) → (t || false) ≡ t
      or_false' true = refl
      or_false' false = refl

      within : (t : Bool) → TagBounds name_end (length text) (Err (refusal_at t at))
      within true = omega arith
      within false = omega arith

-- The text ends in a start tag.
pub tag_cut : (text : List ℕ) (name_end at : ℕ) → length text ≤ at → at ≤ length text → TagEnds text name_end at (Err (NoXml at))
tag_cut text name_end at l m =
    record { goes = λ begin name frames. text_ends text at (state (tag_mode (ltb name_end at) begin name) frames) l (go begin name frames (ltb name_end at)); bounds = m }
  where
    go : (begin : ℕ) (name : List ℕ) (frames : List Frame) (t : Bool) → settled (tag_mode t begin name) at frames [] ≡ none
    go begin name frames true = refl
    go begin name frames false = refl

-- The `>` of an empty element.
module _ (text : List ℕ) (name_end at : ℕ) where
  empty_goes : (r : Reach) → Reads text at (eqb 62 ∷ []) r → (begin : ℕ) (name : List ℕ) (frames : List Frame)
      → seek_at text at (state (emptied begin name) frames) ≡ reached text (added (element name begin (suc at) nothing nothing) frames) r
  empty_goes r h begin name frames = wait_read text at (eqb 62) (state (emptied begin name) frames) (added (element name begin (suc at) nothing nothing) frames) r (wait_empty begin at name frames) (byte_calm 62 refl) h

  pub empty_read : (to : ℕ) → name_end < at → at ≤ length text → Reads text at (eqb 62 ∷ []) (Ok to) → EmptyEnds text name_end at (Ok (Empty name_end (record { at = to })))
  empty_read to l m h =
      let end = reads_bounds text at (eqb 62 ∷ []) (Ok to) m h in
      let e : suc at ≡ to = omega (arith, end.0) in
      record {
        goes = λ begin name frames. empty_goes (Ok to) h begin name frames ∙ added_stops to (element name begin (suc at) nothing nothing) frames (drop to text)
            ∙ ap (λ n. stops to (added (element name begin n nothing nothing) frames)) e;
        bounds = (refl, omega arith, end.1);
      }

  pub empty_refused : (why : Refusal) → at ≤ length text → Reads text at (eqb 62 ∷ []) (Err why) → EmptyEnds text name_end at (Err why)
  empty_refused why m h = record { goes = λ begin name frames. empty_goes (Err why) h begin name frames; bounds = reads_bounds text at (eqb 62 ∷ []) (Err why) m h }

-- A START TAG, PAST ITS `<`.
module _ (text : List ℕ) (at : ℕ) where
  -- The text ends.
  pub start_cut : length text ≤ at → at ≤ length text → Tags text at (Err (NoXml at))
  start_cut l m = record { goes = λ begin frames s. text_ends text at (state (opening begin) frames) l refl; bounds = m; named = tt }

  module _ (inside : at < length text) where
    -- The byte begins no name of ours.
    pub start_foreign : name_start (get_or text at 0) ≡ false → xml_start (get_or text at 0) ≡ true → Tags text at (Err (LeftOut at))
    unfolding left_out
    start_foreign n x =
        record {
          goes = λ begin frames s. opens_here text at (state (opening begin) frames) inside refl (rw (drop-cons text at 0 inside, x, n) (or_last (left_out_anywhere (get_or text at 0 ∷ drop (suc at) text))));
          bounds = omega arith;
          named = tt;
        }
      where
        or_last : (t : Bool) → (t || true) ≡ true
        or_last true = refl
        or_last false = refl

    pub start_refused : (why : Refusal) → name_start (get_or text at 0) ≡ false → xml_start (get_or text at 0) ≡ false → why ≡ refusal_at (left_out_anywhere (drop at text)) at → Tags text at (Err why)
    unfolding left_out
    start_refused why n x e =
        record {
          goes = λ begin frames s. refused_here text at (state (opening begin) frames) inside refl (state content [])
              (rw (drop-cons text at 0 inside, x) (or_none (left_out_anywhere (get_or text at 0 ∷ drop (suc at) text)))) (no_tag begin frames s)
              ∙ ap refusing (sym e);
          bounds = rw e (within (left_out_anywhere (drop at text)));
          named = tt;
        }
      where
        or_none : (t : Bool) → (t || false) ≡ t
        or_none true = refl
        or_none false = refl

        no_tag : (begin : ℕ) (frames : List Frame) → (get_or text at 0 ≡ 47 → frames ≡ []) → step_mode (opening begin) at frames (get_or text at 0) ≡ none
        no_tag begin frames s = rw n (⊎_elim (λ (h : eqb (get_or text at 0) 47 ≡ true). rw (h, s (eqb-true (get_or text at 0) 47 h))) (λ (h : eqb (get_or text at 0) 47 ≡ false). rw h) (decide (eqb (get_or text at 0) 47)))

        within : (t : Bool) → TagBounds (at + run_of name_part (drop at text)) (length text) (Err (refusal_at t at))
        within true = omega arith
        within false = omega arith

    -- It begins a name: then the tag goes on past the name and the white space behind it.
    pub start_names : (name_end to : ℕ) (r : Taken) → name_start (get_or text at 0) ≡ true → name_end ≡ at + 1 + run_of name_part (drop (at + 1) text)
        → to ≡ name_end + run_of white (drop name_end text) → TagEnds text name_end to r → Tags text at r
    unfolding left_out
    start_names name_end to r n e f h =
        record {
          goes = λ begin frames s. steps_on text at (state (opening begin) frames) inside refl (state (in_name begin (get_or text at 0 ∷ [])) frames) opens (rw n)
              ∙ name_run begin frames (suc at) (get_or text at 0 ∷ []) (drop (suc at) text)
              ∙ ap (λ (l : List ℕ). seek (suc at + long) (state (in_name begin (get_or text at 0 ∷ take long (drop (suc at) text))) frames) l) (drop-drop long (suc at) text)
              ∙ ap (λ m. seek_at text m (state (in_name begin (get_or text at 0 ∷ take long (drop (suc at) text))) frames)) ends
              ∙ name_gap begin frames name_end (get_or text at 0 ∷ take long (drop (suc at) text)) (drop name_end text)
              ∙ ap (λ (l : List ℕ). seek (name_end + gap) (state (tag_mode (ltb name_end (name_end + gap)) begin (get_or text at 0 ∷ take long (drop (suc at) text))) frames) l) (drop-drop gap name_end text)
              ∙ ap (λ m. seek_at text m (state (tag_mode (ltb name_end m) begin (get_or text at 0 ∷ take long (drop (suc at) text))) frames)) (sym f)
              ∙ h.goes begin (get_or text at 0 ∷ take long (drop (suc at) text)) frames
              ∙ ap (λ (w : List ℕ). tag_took begin w frames r) (sym whole);
          bounds = subst (λ m. TagBounds m (length text) r) reaches h.bounds;
          named = has-name r;
        }
      where
        part : name_part (get_or text at 0) ≡ true
        part = start_part (get_or text at 0) n

        long : ℕ
        long = run_of name_part (drop (suc at) text)

        gap : ℕ
        gap = run_of white (drop name_end text)

        opens : left_out (opening 0) (drop at text) ≡ false
        opens = rw (drop-cons text at 0 inside, calm_opens (get_or text at 0) (drop (suc at) text) (part_calm (get_or text at 0) part).calm, n)

        ends : suc at + long ≡ name_end
        ends = let one : at + 1 ≡ suc at = omega arith in sym (e ∙ ap (λ m. m + run_of name_part (drop m text)) one)

        whole : name_at text at ≡ get_or text at 0 ∷ take long (drop (suc at) text)
        whole = rw (drop-cons text at 0 inside, part)

        reaches : name_end ≡ at + run_of name_part (drop at text)
        reaches = let m : run_of name_part (drop at text) ≡ suc long = run_more text at inside name_part part in omega (arith, ends, m)

        has-name : (q : Taken) → HasName text at q
        has-name (Ok (Start end next)) = rw (run_more text at inside name_part part) (omega arith)
        has-name (Ok (Empty end next)) = rw (run_more text at inside name_part part) (omega arith)
        has-name (Ok (End next)) = tt
        has-name (Ok (Text next)) = tt
        has-name (Err why) = tt
