-- Before the one element and past it: its start tag, and the white space behind its end. Assumes nothing.
use Prim.Native.Nat.{ℕ, suc, ◌+◌, ◌≤◌, ◌<◌}
use native.Mathlib.Omega.{arith}
use native.Mathlib.Nat.{add-zero}
use mathlib.Core.Path.{◌≡◌, refl, sym, ◌∙◌, ap, subst}
use mathlib.Core.Bool.{Bool, true, false, cond}
use mathlib.Core.List.{List, [], ◌∷◌}
use Rattle.std.specs.Prelude.{Ok, Err}
use Rattle.paper.specs.declared.Refusal.{Refusal}
use lib.ListN.{length, get_or, drop, drop_of_length-le}
use lib.Seq.{drop-cons, drop-drop}
use Rattle.paper.specs.Tools.{run_of}
use Rattle.paper.specs.Tokens.{white}
use Rattle.paper.specs.Xml.{Nodes, ahead, opening, ended, left_out, left_out_anywhere, unwanted, judge}
use Rattle.xml_bytes.specs.Promised.{state, refusal_at}
use Rattle.xml.specs.Pieces.{Taken, Tags, Roots, finished, FinishBounds, Finishes}
use Rattle.xml_bytes.proofs.Steps.{calm_opens, run_inside, stops_run, steps_on}
use Rattle.xml_bytes.proofs.Signs.{white_calm}

-- The `<` of the one element, then its start tag.
pub roots : (text : List ℕ) (at next : ℕ) (r : Taken) → at < length text → get_or text at 0 ≡ 60 → left_out_anywhere (drop at text) ≡ false → next ≡ at + 1 → Tags text next r → Roots text at r
unfolding left_out
roots text at next r inside tag opens e h =
    let f : next ≡ suc at = omega arith in
    let h' = subst (λ m. Tags text m r) f h in
    record {
      goes = steps_on text at (state ahead []) inside refl (state (opening at) []) opens (rw tag) ∙ h'.goes at [] (λ s. refl);
      bounds = h'.bounds;
      named = h'.named;
    }

-- White space past the element.
end_white : (tree : Nodes) (at : ℕ) (bs : List ℕ) → judge at (state (ended tree) []) bs ≡ judge (at + run_of white bs) (state (ended tree) []) (drop (run_of white bs) bs)
unfolding left_out
end_white tree at [] = refl
end_white tree at (b ∷ bs) = go (white b) refl (end_white tree (suc at) bs)
  where
    go : (t : Bool) → white b ≡ t → judge (suc at) (state (ended tree) []) bs ≡ judge (suc at + run_of white bs) (state (ended tree) []) (drop (run_of white bs) bs)
        → judge at (state (ended tree) []) (b ∷ bs) ≡ judge (at + run_of white (b ∷ bs)) (state (ended tree) []) (drop (run_of white (b ∷ bs)) (b ∷ bs))
    go true h later =
        let e : suc at + run_of white bs ≡ at + suc (run_of white bs) = omega arith in
        rw (h, calm_opens b bs (white_calm b h).calm) (later ∙ ap (λ n. judge n (state (ended tree) []) (drop (run_of white bs) bs)) e)
    go false h later = rw (h, add-zero at, h)

module _ (text : List ℕ) (at end : ℕ) (l : at ≤ length text) (e : end ≡ at + run_of white (drop at text)) where
  pub end_within : end ≤ length text
  end_within = run_inside white text at end e l

  to_end : (tree : Nodes) → judge at (state (ended tree) []) (drop at text) ≡ judge end (state (ended tree) []) (drop end text)
  to_end tree =
      end_white tree at (drop at text) ∙ ap (judge (at + run_of white (drop at text)) (state (ended tree) [])) (drop-drop (run_of white (drop at text)) at text)
      ∙ ap (λ n. judge n (state (ended tree) []) (drop n text)) (sym e)

  -- The text ends.
  pub finish_ends : length text ≤ end → Finishes text at (Ok end)
  finish_ends m = record { goes = λ tree. to_end tree ∙ rw (drop_of_length-le text m); bounds = let w = end_within in omega arith }

  -- Another byte stands there.
  pub finish_refused : (why : Refusal) → end < length text → why ≡ refusal_at (left_out_anywhere (drop end text)) end → Finishes text at (Err why)
  unfolding left_out
  finish_refused why inside f =
      record {
        goes = λ tree. to_end tree ∙ rw (drop-cons text end 0 inside, no_space) (go tree (left_out_anywhere (get_or text end 0 ∷ drop (suc end) text)))
            ∙ ap (λ (bs : List ℕ). finished tree (Err (refusal_at (left_out_anywhere bs) end))) (sym (drop-cons text end 0 inside)) ∙ ap (λ (r : Refusal). finished tree (Err r)) (sym f);
        bounds = rw f (within (left_out_anywhere (drop end text)));
      }
    where
      no_space : white (get_or text end 0) ≡ false
      no_space = stops_run white text at end e inside

      go : (tree : Nodes) (t : Bool) → cond t (unwanted 12 end) (unwanted 11 end) ≡ finished tree (Err (refusal_at t end))
      go tree true = refl
      go tree false = refl

      within : (t : Bool) → FinishBounds (length text) (Err (refusal_at t end))
      within true = omega arith
      within false = omega arith
