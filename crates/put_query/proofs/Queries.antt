-- Printing the top-level paths of a query: what is printed so far, with the text of the paths left, is the text of the query. Assumes nothing.
use Prim.Native.Nat.{ℕ, zero, suc, ◌+◌, ◌-◌, ◌*◌, ◌≤◌, ◌<◌}
use native.Mathlib.Omega.{arith}
use mathlib.Core.Path.{◌≡◌, refl, sym, ◌∙◌, ap, subst}
use mathlib.Core.Bool.{Bool, true, ◌||◌, cond}
use mathlib.Core.List.{List, [], ◌∷◌, ◌++◌, append_assoc, append-nil}
use mathlib.Core.Logic.{⊎_elim}
use mathlib.Core.Option.{none, some}
use lib.Dec.{leb}
use lib.ListN.{length, get_or, drop, drop_of_length-le}
use borrow.Author.Tests.{lt-ltb, le-ltb}
use Rattle.paper.specs.Tools.{found, ascii}
use Rattle.paper.specs.Limits.{bracket_limit}
use Rattle.paper.specs.Query.{Steps}
use Rattle.paper.specs.Query.{Query as Queried}
use Rattle.paper.specs.Items.{path_at, take_steps, take_path, take_within, take_paths, as_query, decode}
use Rattle.paper.specs.Printing.{Piece, relative_pieces, path_pieces, paths_pieces, pieces, text_of, printed}
use Rattle.paper.specs.Answers.{text_got}
use Rattle.paper.proofs.Tests.{found_some, some_inj, none-some, or_right}
use Rattle.shape.proofs.Operands.{at_place}
use Rattle.pen.specs.Putting.{Puts, between}
use Rattle.pen.proofs.Putting.{puts_none, puts_both, puts_as}
use Rattle.put_query.specs.declared.Reached.{Reached}
use Rattle.put_query.specs.Writing.{Some, Prints, Query, item_room}
use Rattle.slashes.specs.Deep.{passed}
use Rattle.put_query.proofs.Chains.{text_append}
use Rattle.slashes.proofs.Deepening.{within}
use Rattle.put_query.proofs.Skipping.{Skips, skips, path_text}
use Rattle.put_query.proofs.Rows.{between_brief}

-- The pieces of paths, with `|` between them.
abbrev pub joined : Bool → List Steps → List Piece
joined brief [] = []
joined brief (p ∷ ps) = path_pieces brief p ++ paths_pieces brief ps

-- What is left to print.
pub record PathsRest (brief : Bool) (names : List (List ℕ)) (items old out : List ℕ) (place byte : ℕ) : Type 0 where
  pub rest : List Steps
  pub fuel : ℕ
  pub done : List ℕ
  pub takes : take_paths fuel (drop place items) ≡ some rest
  pub text : done ++ text_of names (joined brief rest) ≡ text_got brief names (decode items)
  pub puts : Puts done 0 old out byte
  pub inside : place ≤ length items
  pub low : byte ≤ item_room * place

pub paths_start : (brief : Bool) (names : List (List ℕ)) (items old : List ℕ) → Query items → PathsRest brief names items old old 0 0
unfolding decode printed pieces
paths_start brief names items old q =
    found_some (take_paths (length items) items) as_query q.query q.decoded
    (λ ps e f.
    record {
      rest = ps;
      fuel = length items;
      done = [];
      takes = e;
      text = go ps f ∙ sym (ap (text_got brief names) q.decoded);
      puts = puts_none 0 old;
      inside = omega arith;
      low = omega arith;
    })
  where
    go : (ps : List Steps) → as_query ps ≡ some q.query → text_of names (joined brief ps) ≡ printed brief names q.query
    go [] f = none-some f
    go (p ∷ ps) f = ap (λ (x : Queried). text_of names (path_pieces brief x.first ++ paths_pieces brief x.others)) (some_inj f)

-- Reading one path more.
one_path : (fuel w : ℕ) (ws : List ℕ) (t : List Steps) → take_paths fuel (w ∷ ws) ≡ some t
    → (number : ℕ) × (n : ℕ) × (fuel ≡ suc n) × (path_at w ≡ some number)
    × (found (take_steps (take_within bracket_limit) number ws) (λ r. found (take_paths n r.1) (λ ps. some (r.0 ∷ ps))) ≡ some t)
one_path zero w ws t h = none-some h
one_path (suc n) w ws t h =
    found_some (take_path (take_within bracket_limit) true (w ∷ ws)) (λ r. found (take_paths n r.1) (λ ps. some (r.0 ∷ ps))) t h
    (λ r p q.
    found_some (path_at w) (λ k. cond (leb 1 k || true) (take_steps (take_within bracket_limit) k ws) none) r p
    (λ number e f.
    let g : take_steps (take_within bracket_limit) number ws ≡ some r = rw (or_right (leb 1 number) refl) at f in
    (number, n, refl, e, rw g q)))

module _ (brief : Bool) (names : List (List ℕ)) (items old out : List ℕ) (place byte : ℕ) (l : place < length items) (k : PathsRest brief names items old out place byte) where
  -- Where items are left, a path stands.
  here : (number : ℕ) × (n : ℕ) × (k.fuel ≡ suc n) × (path_at (get_or items place 0) ≡ some number)
      × (found (take_steps (take_within bracket_limit) number (drop (place + 1) items)) (λ r. found (take_paths n r.1) (λ ps. some (r.0 ∷ ps))) ≡ some k.rest)
  here = one_path k.fuel (get_or items place 0) (drop (place + 1) items) k.rest (rw (at_place items place l) at k.takes)

  pub path_there : path_at (get_or items place 0) ≡ none → ⊥
  path_there h = none-some (sym h ∙ here.3)

  -- The steps of the path, and those that are left of them behind `//`.
  module _ (number : ℕ) (e : path_at (get_or items place 0) ≡ some number) where
    all-steps : (s : Steps × List ℕ) × (take_steps (take_within bracket_limit) number (drop (place + 1) items) ≡ some s) × (found (take_paths here.1 s.1) (λ ps. some (s.0 ∷ ps)) ≡ some k.rest)
    all-steps =
        let same : here.0 ≡ number = some_inj (sym here.3 ∙ e) in
        found_some (take_steps (take_within bracket_limit) number (drop (place + 1) items)) (λ r. found (take_paths here.1 r.1) (λ ps. some (r.0 ∷ ps))) k.rest (rw same at here.4)
        (λ r p q. (r, p, q))

    left_steps : (skip : ℕ) → skip ≡ passed brief items (place + 1) number → Skips bracket_limit items (place + 1) brief names number all-steps.0.0 all-steps.0.1 skip
    left_steps skip h =
        subst (Skips bracket_limit items (place + 1) brief names number all-steps.0.0 all-steps.0.1) (sym h)
        (skips bracket_limit items (place + 1) brief names number all-steps.0.0 all-steps.0.1 (omega (arith, l)) all-steps.1)

    pub path_skips : (skip : ℕ) → skip ≡ passed brief items (place + 1) number → (skip ≤ number) × (place + 1 + skip ≤ length items) × (skip ≤ 1)
    path_skips skip h = let s = left_steps skip h in (s.few, s.inside, s.alone)

    pub path_steps : (skip : ℕ) → skip ≡ passed brief items (place + 1) number → Some (take_steps (take_within bracket_limit) (number - skip) (drop (place + 1 + skip) items))
    path_steps skip h = let s = left_steps skip h in record { tree = (s.rest, all-steps.0.1); taken_whole = s.takes }

    -- One path more.
    pub paths_more : (begun mid new last : List ℕ) (opened skip ready byte' : ℕ) (r : Reached) → Puts (47 ∷ []) byte out begun opened
        → skip ≡ passed brief items (place + 1) number → Puts (between (ascii "/") skip) opened begun mid ready
        → Prints names items (place + 1 + skip) ready 0 (take_steps (take_within bracket_limit) (number - skip) (drop (place + 1 + skip) items)) (relative_pieces brief) mid new r
        → Puts (between (ascii "|") (length items - r.item)) r.byte new last byte' → PathsRest brief names items old last r.item byte'
    paths_more begun mid new last opened skip ready byte' r p h p' v q =
        let s = left_steps skip h in
        let sign = between (ascii "/") skip in
        let bar = between (ascii "|") (length items - r.item) in
        let own = text_of names (relative_pieces brief v.what) in
        let same : ◌≡◌ {A = Steps × List ℕ} (s.rest, all-steps.0.1) (v.what, drop r.item items) = some_inj (sym s.takes ∙ v.reads) in
        let path-own : 47 ∷ (sign ++ own) ≡ text_of names (path_pieces brief all-steps.0.0) =
        ap (λ z. 47 ∷ (sign ++ text_of names (relative_pieces brief z.0))) (sym same) ∙
        path_text bracket_limit items (place + 1) brief names number skip all-steps.0.0 all-steps.0.1 all-steps.1 s in
        found_some (take_paths here.1 (drop r.item items)) (λ ps. some (all-steps.0.0 ∷ ps)) k.rest
        (ap (λ z. found (take_paths here.1 z.1) (λ ps. some (all-steps.0.0 ∷ ps))) (sym same) ∙ all-steps.2)
        (λ ps t f.
        record {
          rest = ps;
          fuel = here.1;
          done = k.done ++ (47 ∷ (sign ++ own) ++ bar);
          takes = t;
          text =
              append_assoc k.done (47 ∷ (sign ++ own) ++ bar) (text_of names (joined brief ps)) ∙
              ap (λ (x : List ℕ). k.done ++ x)
              (append_assoc (47 ∷ (sign ++ own)) bar (text_of names (joined brief ps)) ∙
              ap (λ (x : List ℕ). 47 ∷ (sign ++ own) ++ x) (bar_text here.1 r.item ps t) ∙
              ap (λ (x : List ℕ). x ++ text_of names (paths_pieces brief ps)) path-own ∙
              sym (text_append names (path_pieces brief all-steps.0.0) (paths_pieces brief ps)) ∙
              ap (λ (x : List Steps). text_of names (joined brief x)) (some_inj f)) ∙
              k.text;
          puts = puts_both k.puts (puts_both (puts_as (append_assoc (47 ∷ []) sign own) (puts_both (puts_both p p') v.puts)) q);
          inside = v.inside;
          low = omega (arith, k.low, v.low, p.moved, p'.moved, q.moved, between_brief (ascii "/") skip, between_brief (ascii "|") (length items - r.item));
        })
      where
        bar_text : (n next : ℕ) (ps : List Steps) → take_paths n (drop next items) ≡ some ps
            → between (ascii "|") (length items - next) ++ text_of names (joined brief ps) ≡ text_of names (paths_pieces brief ps)
        bar_text n next [] t =
            ⊎_elim (λ m. never n (rw (at_place items next m) at t)) (λ m. rw (le-ltb 0 (length items - next) (omega arith))) (within next (length items))
          where
            never : (f : ℕ) → take_paths f (get_or items next 0 ∷ drop (next + 1) items) ≡ some [] → between (ascii "|") (length items - next) ++ [] ≡ []
            never f h =
                let o = one_path f (get_or items next 0) (drop (next + 1) items) [] h in
                found_some (take_steps (take_within bracket_limit) o.0 (drop (next + 1) items)) (λ r. found (take_paths o.1 r.1) (λ qs. some (r.0 ∷ qs))) [] o.4
                (λ x y z. found_some (take_paths o.1 x.1) (λ qs. some (x.0 ∷ qs)) [] z (λ a b c. absurd (let d : ◌≡◌ {A = ℕ} (suc (length a)) 0 = ap length (some_inj c) in omega arith)))
        bar_text n next (s ∷ ps) t =
            ⊎_elim (λ m. rw (lt-ltb 0 (length items - next) (omega arith))) (λ m. let d : drop next items ≡ [] = drop_of_length-le items m in never n (rw d at t)) (within next (length items))
          where
            never : (f : ℕ) → take_paths f [] ≡ some (s ∷ ps) → between (ascii "|") (length items - next) ++ text_of names (joined brief (s ∷ ps)) ≡ text_of names (paths_pieces brief (s ∷ ps))
            never zero h = absurd (let d : ◌≡◌ {A = ℕ} 0 (suc (length ps)) = ap length (some_inj h) in omega arith)
            never (suc f) h = absurd (let d : ◌≡◌ {A = ℕ} 0 (suc (length ps)) = ap length (some_inj h) in omega arith)

-- No items left.
pub paths_done : (brief : Bool) (names : List (List ℕ)) (items old out : List ℕ) (place byte : ℕ) → length items ≤ place → PathsRest brief names items old out place byte
    → Puts (text_got brief names (decode items)) 0 old out byte
paths_done brief names items old out place byte l k =
    puts_as (sym (append-nil k.done) ∙ ap (λ (x : List Steps). k.done ++ text_of names (joined brief x)) (empty k.fuel (rw (drop_of_length-le items l) at k.takes)) ∙ k.text) k.puts
  where
    empty : (f : ℕ) → take_paths f [] ≡ some k.rest → [] ≡ k.rest
    empty zero h = some_inj h
    empty (suc f) h = some_inj h
