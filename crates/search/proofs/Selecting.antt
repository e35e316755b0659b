-- The top-level paths of a query, one by one: those read so far do not lead to the node, and what is left to read decides. Assumes nothing.
use Prim.Native.Nat.{ℕ, zero, suc, ◌+◌, ◌≤◌, ◌<◌}
use native.Mathlib.Omega.{arith}
use native.Mathlib.Numerals.{add-one}
use mathlib.Core.Path.{◌≡◌, refl, sym, ◌∙◌, ap}
use mathlib.Core.Bool.{Bool, true, false, ◌||◌}
use mathlib.Core.List.{List, [], ◌∷◌}
use mathlib.Core.Option.{some}
use lib.Dec.{leb}
use lib.ListN.{length, get_or, drop, drop_of_length-le}
use lib.Seq.{drop-cons}
use Rattle.paper.specs.Tools.{some_of}
use Rattle.paper.specs.Limits.{bracket_limit, item_limit}
use Rattle.paper.specs.Query.{Steps, Query, paths}
use Rattle.paper.specs.Items.{path_at, take_steps, take_path, take_within, take_paths, as_query, decode}
use Rattle.paper.specs.Document.{Table, nodes, marked}
use Rattle.paper.specs.Selection.{arrives, selects}
use Rattle.paper.proofs.Tests.{or_left, or_right, found_some, none-some, some_inj}
use Rattle.shape.specs.Ending.{Ends, Readable}
use Rattle.search.specs.Searches.{Fits, Settles, ending, goes}
use Rattle.search.proofs.Ending.{arrives_goes}

query_paths : (ps : List Steps) (q : Query) → as_query ps ≡ some q → paths q ≡ ps
query_paths [] q e = none-some e
query_paths (p ∷ ps) q e = ap paths (sym (some_inj e))

-- The next path can be read.
pub record NextPath (items : List ℕ) (place room : ℕ) (ahead : List Steps) (count : ℕ) : Type 0 where
  pub steps : Fits items (place + 1) room (take_steps (take_within bracket_limit) count (drop (place + 1) items))
  pub later : List Steps
  pub fuel : ℕ
  pub here : ahead ≡ steps.what ∷ later
  pub then_read : take_paths fuel steps.rest ≡ some later

module _ (t : Table) (m : List ℕ) (items : List ℕ) (k : ℕ) where
  -- Does one of these paths lead to the node?
  abbrev Some : List Steps → Bool
  Some ps = some_of (λ p. arrives t m p 0 k) ps

  pub record PathsLeft (place : ℕ) : Type 0 where
    pub ahead : List Steps
    pub fuel : ℕ
    pub goes_on : take_paths fuel (drop place items) ≡ some ahead
    pub inside : place ≤ length items
    pub answer : (q : Query) → decode items ≡ some q → Some (paths q) ≡ Some ahead

  pub paths_begin : Readable (decode items) → PathsLeft 0
  unfolding decode
  paths_begin r =
      found_some (take_paths (length items) items) as_query r.0 r.1
      (λ ps u v.
      record {
        ahead = ps;
        fuel = length items;
        goes_on = u;
        inside = omega arith;
        answer = λ q e. ap Some (ap paths (some_inj (sym e ∙ r.1)) ∙ query_paths ps r.0 v);
      })

  module _ (room : ℕ) (few : length items ≤ room) (short : length items ≤ item_limit) (place : ℕ) (d : PathsLeft place) where
    pub next-path {ℓ} : {C : Type ℓ} → place < length items → ((count : ℕ) → path_at (get_or items place 0) ≡ some count → NextPath items place room d.ahead count → C) → C
    next-path {C = C} on k = go d.fuel (rw (drop-cons items place 0 on) at d.goes_on)
      where
        go : (fuel : ℕ) → take_paths fuel (get_or items place 0 ∷ drop (suc place) items) ≡ some d.ahead → C
        go zero e = none-some e
        go (suc fuel) e =
            found_some (take_path (take_within bracket_limit) true (get_or items place 0 ∷ drop (suc place) items)) _ d.ahead e
            (λ a u v.
            found_some (take_paths fuel a.1) _ d.ahead v
            (λ ps x y.
            found_some (path_at (get_or items place 0)) _ a u
            (λ count p q.
            let read : take_steps (take_within bracket_limit) count (drop (suc place) items) ≡ some a = rw (or_right (leb 1 count) refl) at q in
            k count p
            (record {
              steps =
                  record {
                    what = a.0;
                    rest = a.1;
                    reads = ap (λ (j : ℕ). take_steps (take_within bracket_limit) count (drop j items)) (add-one place) ∙ read;
                    room_for = omega (arith, few);
                    inside = omega arith;
                    few = short;
                  };
              later = ps;
              fuel = fuel;
              here = sym (some_inj y);
              then_read = x;
            }))))

    module _ (inside : k < nodes t) (count : ℕ) (n : NextPath items place room d.ahead count) (b : Bool)
        (v : Settles (take_steps (take_within bracket_limit) count (drop (place + 1) items)) (λ s. goes t m (ending (nodes t) k) s 0) b) where
      -- What is decided of the next path is whether it leads to the node.
      leads_there : arrives t m n.steps.what 0 k ≡ b
      leads_there = arrives_goes t m n.steps.what 0 k inside ∙ sym (v n.steps.what n.steps.rest n.steps.reads)

      pub path_hit : b ≡ true → marked m 0 ≡ true → (q : Query) → decode items ≡ some q → true ≡ selects t m q k
      unfolding selects
      path_hit h root q e =
          sym (rw root (d.answer q e ∙ ap Some n.here ∙ or_left (Some n.later) (leads_there ∙ h)))

      pub path_missed : b ≡ false → (next : ℕ) → Ends items (place + 1) (take_steps (take_within bracket_limit) count (drop (place + 1) items)) next → PathsLeft next
      path_missed h next w =
          let same : ◌≡◌ {A = Steps × List ℕ} (w.what, drop next items) (n.steps.what, n.steps.rest) = some_inj (sym w.reads ∙ n.steps.reads) in
          record {
            ahead = n.later;
            fuel = n.fuel;
            goes_on = ap (take_paths n.fuel) (ap (λ (x : Steps × List ℕ). x.1) same) ∙ n.then_read;
            inside = w.inside;
            answer = λ q e. d.answer q e ∙ ap Some n.here ∙ ap (λ y. y || Some n.later) (leads_there ∙ h);
          }

  -- At the end of the items no path has led to the node.
  pub paths_over : (place : ℕ) → length items ≤ place → PathsLeft place → marked m 0 ≡ true → (q : Query) → decode items ≡ some q → false ≡ selects t m q k
  unfolding selects
  paths_over place off d root q e =
      let none_left : d.ahead ≡ [] = go d.fuel (rw (drop_of_length-le items off) at d.goes_on) in
      sym (rw root (d.answer q e ∙ ap Some none_left))
    where
      go : (fuel : ℕ) → take_paths fuel [] ≡ some d.ahead → d.ahead ≡ []
      go zero h = sym (some_inj h)
      go (suc fuel) h = sym (some_inj h)

  -- Where the root is unmarked nothing is selected.
  pub unrooted : marked m 0 ≡ false → (q : Query) → false ≡ selects t m q k
  unfolding selects
  unrooted h q = sym (rw h)
