-- How reading goes through an end tag: the name of the element again, letter by letter, white space, and its `>`. Assumes nothing.
use Prim.Native.Nat.{ℕ, suc, ◌+◌, ◌≤◌, ◌<◌, zero}
use native.Mathlib.Omega.{arith}
use borrow.Author.Tests.{ne_eqb, eq-eqb}
use mathlib.Core.Path.{◌≡◌, refl, sym, ◌∙◌, ap, subst}
use mathlib.Core.Bool.{Bool, true, false}
use mathlib.Core.List.{List, [], ◌∷◌}
use mathlib.Core.Option.{some}
use Rattle.std.specs.Prelude.{Ok, Err}
use Rattle.paper.specs.declared.Refusal.{Refusal}
use Rattle.paper.specs.declared.Refusal.TheVariants.{NoXml}
use native.Mathlib.Decide.{ℕ_discrete}
use mathlib.Core.Logic.{by_cases}
use lib.Dec.{eqb}
use lib.ListN.{length, get_or, drop}
use lib.Seq.{drop-cons, drop-drop}
use Rattle.paper.specs.Tools.{run_of}
use Rattle.paper.specs.Names.{name_part}
use Rattle.paper.specs.Tokens.{white}
use Rattle.paper.specs.Xml.{Nodes, nothing, element, Frame, add, closing, left_out, left_out_anywhere}
use Rattle.paper.proofs.Lexing.{run_more}
use Rattle.xml_bytes.specs.Seeking.{stops, seek, refusing}
use Rattle.xml_bytes.specs.Promised.{Reach, state, seek_at, reached, Between, refusal_at, Reads}
use Rattle.end_tags.specs.Renaming.{name_at, added, Named, Renames, Ends, repeated_from}
use Rattle.xml_bytes.proofs.Steps.{Calm, is_calm, in_or_out, Waits, calm_opens, run_inside, stops_run, text_ends, steps_on, refused_here, opens_not}
use Rattle.xml_bytes.proofs.Rows.{reads_bounds, wait_read, byte_calm, reads_end, reads_taken, reads_other}
use Rattle.xml_bytes.proofs.Signs.{calm_part, white_calm}
use native.Mathlib.Nat.{add-zero}
use Rattle.paper.proofs.Axes.{same_turned}
use Rattle.paper.proofs.Tests.{and_true}
use Rattle.xml_bytes.specs.Blocks.{AllFit}

-- Where a node is read, a piece ends.
pub added_stops : (at : ℕ) (node : Nodes) (frames : List Frame) (bs : List ℕ) → seek at (added node frames) bs ≡ stops at (added node frames)
added_stops at node [] [] = refl
added_stops at node [] (b ∷ bs) = refl
added_stops at node (f ∷ fs) [] = refl
added_stops at node (f ∷ fs) (b ∷ bs) = refl

pub add_added : (node : Nodes) (frames : List Frame) → add node frames ≡ some (added node frames)
add_added node [] = refl
add_added node (f ∷ fs) = refl

-- White space in an end tag.
pub end_gap : (at : ℕ) (frames : List Frame) (bs : List ℕ) → seek at (state (closing []) frames) bs ≡ seek (at + run_of white bs) (state (closing []) frames) (drop (run_of white bs) bs)
unfolding left_out
end_gap at frames [] = rw (add-zero at)
end_gap at frames (b ∷ bs) = go (white b) refl (end_gap (suc at) frames bs)
  where
    go : (t : Bool) → white b ≡ t → seek (suc at) (state (closing []) frames) bs ≡ seek (suc at + run_of white bs) (state (closing []) frames) (drop (run_of white bs) bs)
        → seek at (state (closing []) frames) (b ∷ bs) ≡ seek (at + run_of white (b ∷ bs)) (state (closing []) frames) (drop (run_of white (b ∷ bs)) (b ∷ bs))
    go true h later =
        let e : suc at + run_of white bs ≡ at + suc (run_of white bs) = omega arith in
        rw (h, calm_opens b bs (white_calm b h).calm) (later ∙ ap (λ n. seek n (state (closing []) frames) (drop (run_of white bs) bs)) e)
    go false h later = rw (h, add-zero at, h)

pub wait_letter : (at x : ℕ) (xs : List ℕ) (frames : List Frame) → Waits (state (closing (x ∷ xs)) frames) at (eqb x) (state (closing xs) frames)
unfolding left_out
wait_letter at x xs frames = record { unsettled = λ bs. refl; goes = λ b. rw (same_turned b x); opens = λ bs. refl }

-- A name that goes on at a place has this letter first; one that ends there is empty.
name_letter : (text : List ℕ) (at : ℕ) → at < length text → name_part (get_or text at 0) ≡ true → name_at text at ≡ get_or text at 0 ∷ name_at text (suc at)
name_letter text at inside h = rw (drop-cons text at 0 inside, h)

name_over : (text : List ℕ) (at : ℕ) → at < length text → name_part (get_or text at 0) ≡ false → name_at text at ≡ []
name_over text at inside h = rw (drop-cons text at 0 inside, h)

module _ (text : List ℕ) (at inner : ℕ) where
  -- What is read so far: the letters before `letter` have come again.
  pub record Renaming (place letter : ℕ) : Type 0 where
    pub goes : (frames : List Frame) → seek_at text at (state (closing (name_at text (suc inner))) frames) ≡ seek_at text place (state (closing (name_at text letter)) frames)
    pub within : letter + run_of name_part (drop letter text) < length text
    pub least : at ≤ place
    pub most : place ≤ length text

  pub renaming_begins : (letter : ℕ) → at ≤ length text → Named text inner → letter ≡ inner + 1 → Renaming at letter
  renaming_begins letter l n e =
      let f : suc inner ≡ letter = omega arith in
      record {
        goes = λ frames. ap (λ m. seek_at text at (state (closing (name_at text m)) frames)) f;
        within = subst (λ m. m + run_of name_part (drop m text) < length text) f n;
        least = omega arith;
        most = l;
      }

  module _ (place letter : ℕ) (so_far : Renaming place letter) where
    pub letter_inside : letter < length text
    letter_inside = omega (arith, so_far.within)

    module _ (part : name_part (get_or text letter 0) ≡ true) where
      letter_goes : (r : Reach) → Reads text place (eqb (get_or text letter 0) ∷ []) r → (frames : List Frame)
          → seek_at text at (state (closing (name_at text (suc inner))) frames) ≡ reached text (state (closing (name_at text (suc letter))) frames) r
      letter_goes r h frames =
          so_far.goes frames ∙ ap (λ (w : List ℕ). seek_at text place (state (closing w) frames)) (name_letter text letter letter_inside part)
          ∙ wait_read text place (eqb (get_or text letter 0)) (state (closing (get_or text letter 0 ∷ name_at text (suc letter))) frames) (state (closing (name_at text (suc letter))) frames) r
          (wait_letter place (get_or text letter 0) (name_at text (suc letter)) frames) (byte_calm (get_or text letter 0) (calm_part (get_or text letter 0) part)) h

      pub renaming_more : (to : ℕ) → Reads text place (eqb (get_or text letter 0) ∷ []) (Ok to) → Renaming to (letter + 1)
      renaming_more to h =
          let end = reads_bounds text place (eqb (get_or text letter 0) ∷ []) (Ok to) so_far.most h in
          let e : suc letter ≡ letter + 1 = omega arith in
          let longer : run_of name_part (drop letter text) ≡ suc (run_of name_part (drop (suc letter) text)) = run_more text letter letter_inside name_part part in
          record {
            goes = λ frames. letter_goes (Ok to) h frames ∙ ap (λ m. seek_at text to (state (closing (name_at text m)) frames)) e;
            within = subst (λ m. m + run_of name_part (drop m text) < length text) e (omega (arith, so_far.within));
            least = omega (arith, so_far.least, end.0);
            most = end.1;
          }

      pub renaming_refused : (why : Refusal) → Reads text place (eqb (get_or text letter 0) ∷ []) (Err why) → Renames text at inner (Err why)
      renaming_refused why h = record { goes = λ frames. letter_goes (Err why) h frames; bounds = reads_bounds text place (eqb (get_or text letter 0) ∷ []) (Err why) so_far.most h }

    pub renaming_done : name_part (get_or text letter 0) ≡ false → Renames text at inner (Ok place)
    renaming_done over =
        record {
          goes = λ frames. so_far.goes frames ∙ ap (λ (w : List ℕ). seek_at text place (state (closing w) frames)) (name_over text letter letter_inside over);
          bounds = (so_far.least, so_far.most);
        }

  -- PAST THE NAME.
  module _ (name_end place : ℕ) (named : Renames text at inner (Ok name_end)) (e : place ≡ name_end + run_of white (drop name_end text)) where
    pub place_within : place ≤ length text
    place_within = run_inside white text name_end place e named.bounds.1

    to_place : (f : Frame) (fs : List Frame) → f.name ≡ name_at text (suc inner) → seek_at text at (state (closing f.name) (f ∷ fs)) ≡ seek_at text place (state (closing []) (f ∷ fs))
    to_place f fs n =
        ap (λ (w : List ℕ). seek_at text at (state (closing w) (f ∷ fs))) n ∙ named.goes (f ∷ fs) ∙ end_gap name_end (f ∷ fs) (drop name_end text)
        ∙ ap (λ (l : List ℕ). seek (name_end + run_of white (drop name_end text)) (state (closing []) (f ∷ fs)) l) (drop-drop (run_of white (drop name_end text)) name_end text)
        ∙ ap (λ m. seek_at text m (state (closing []) (f ∷ fs))) (sym e)

    pub end_cut : length text ≤ place → Ends text at inner (Err (NoXml place))
    end_cut l = record { goes = λ f fs n. to_place f fs n ∙ text_ends text place (state (closing []) (f ∷ fs)) l refl; bounds = place_within }

    module _ (inside : place < length text) where
      no_space : white (get_or text place 0) ≡ false
      no_space = stops_run white text name_end place e inside

      pub end_closes : (to : ℕ) → get_or text place 0 ≡ 62 → to ≡ place + 1 → Ends text at inner (Ok to)
      unfolding left_out
      end_closes to mark f =
          let next : suc place ≡ to = omega arith in
          record {
            goes = λ g fs n. to_place g fs n
                ∙ steps_on text place (state (closing []) (g ∷ fs)) inside refl (added (element g.name g.begin (suc place) g.inside nothing) fs) (opens_not text place inside (subst Calm (sym mark) (is_calm 62 refl)))
                (rw mark (add_added (element g.name g.begin (suc place) g.inside nothing) fs))
                ∙ added_stops (suc place) (element g.name g.begin (suc place) g.inside nothing) fs (drop (suc place) text)
                ∙ ap (λ m. stops m (added (element g.name g.begin m g.inside nothing) fs)) next;
            bounds = (omega (arith, named.bounds.0), omega arith);
          }

      pub end_refused : (why : Refusal) → (get_or text place 0 ≡ 62 → ⊥) → why ≡ refusal_at (left_out_anywhere (drop place text)) place → Ends text at inner (Err why)
      unfolding left_out
      end_refused why other f =
          record {
            goes = λ g fs n. to_place g fs n
                ∙ refused_here text place (state (closing []) (g ∷ fs)) inside refl (state (closing []) (g ∷ fs)) refl (rw (no_space, ne_eqb (get_or text place 0) 62 other))
                ∙ ap refusing (sym f);
            bounds = rw f (in_bounds (left_out_anywhere (drop place text)));
          }
        where
          in_bounds : (t : Bool) → Between (suc at) (length text) (Err (refusal_at t place))
          in_bounds true = omega arith
          in_bounds false = omega arith

    -- The `>` must come there.
    pub end_ends : (r : Reach) → Reads text place (eqb 62 ∷ []) r → Ends text at inner r
    end_ends r h =
        in_or_out place (length text)
        (λ inside.
        by_cases (ℕ_discrete (get_or text place 0) 62)
        (λ mark. subst (Ends text at inner) (sym (same (reads_taken text place (eqb 62) (place + 1) inside (eq-eqb 62 (get_or text place 0) (sym mark)) refl))) (end_closes inside (place + 1) mark refl))
        (λ other. subst (Ends text at inner) (sym (same (reads_other text place (eqb 62) _ inside (ne_eqb 62 (get_or text place 0) (λ e. other (sym e))) refl))) (end_refused inside _ other refl)))
        (λ l. subst (Ends text at inner) (sym (same (reads_end text place (eqb 62) l))) (end_cut l))
      where
        same : {q : Reach} → Reads text place (eqb 62 ∷ []) q → r ≡ q
        same k = h.comes ∙ sym k.comes

  -- A refusal of the name is one of the tag.
  pub end_stuck : (why : Refusal) → Renames text at inner (Err why) → Ends text at inner (Err why)
  end_stuck why h =
      record { goes = λ f fs n. ap (λ (w : List ℕ). seek_at text at (state (closing w) (f ∷ fs))) n ∙ h.goes (f ∷ fs); bounds = h.bounds }

-- LETTERS of a name that stand at another place too are read again there.
module _ (text : List ℕ) (at inner letter : ℕ) where
  pub letters_again : (n : ℕ) → at + n ≤ length text → AllFit (repeated_from text at letter) n → Renaming text at inner at letter → Renaming text at inner (at + n) (letter + n)
  letters_again zero l all so_far = rw (add-zero at, add-zero letter) so_far
  letters_again (suc n) l all so_far =
      let before = letters_again n (omega arith) (λ i m. all i (omega arith)) so_far in
      let both = and_true (name_part (get_or text (letter + n) 0)) (eqb (get_or text (letter + n) 0) (get_or text (at + n) 0)) (all n (omega arith)) in
      let place : (at + n) + 1 ≡ at + suc n = omega arith in
      let next : (letter + n) + 1 ≡ letter + suc n = omega arith in
      subst (λ m. Renaming text at inner m (letter + suc n)) place
      (subst (Renaming text at inner ((at + n) + 1)) next
      (renaming_more text at inner (at + n) (letter + n) before both.0 ((at + n) + 1)
      (reads_taken text (at + n) (eqb (get_or text (letter + n) 0)) ((at + n) + 1) (omega arith) both.1 refl)))
