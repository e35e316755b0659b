-- Printing an operand of `and`, by its first item: a path, or what stands in a bracket. Assumes nothing.
use Prim.Native.Nat.{ℕ, zero, suc, ◌+◌, ◌-◌, ◌≤◌, ◌<◌}
use native.Mathlib.Omega.{arith}
use mathlib.Core.Path.{◌≡◌, refl, sym, ◌∙◌, ap, subst}
use mathlib.Core.Bool.{Bool}
use mathlib.Core.List.{List, [], ◌∷◌, ◌++◌, append_assoc}
use mathlib.Core.Logic.{⊎_elim}
use mathlib.Core.Option.{none, some}
use lib.ListN.{length, get_or, drop}
use Rattle.paper.specs.Tools.{found, ascii}
use Rattle.paper.specs.Query.{path, negated}
use Rattle.paper.specs.Items.{not_item, path_at, Taken, take_steps, take_operand, take_expr, take_within}
use Rattle.paper.specs.Printing.{Piece, open_group, close_round, expr_pieces, relative_pieces, text_of}
use Rattle.paper.proofs.Tests.{found_some, none-some}
use Rattle.item.specs.declared.Item.{Item}
use Rattle.item.specs.declared.Item.TheVariants.{Path, Step as StepItem, And, Or, Not, Bad}
use Rattle.item.proofs.Saying.{Said}
use Rattle.shape.specs.Walks.{operators}
use Rattle.shape.proofs.Operators.{Operator, each}
use Rattle.shape.proofs.Operands.{at_place, operand_past, operand_path, operand_bare, operand_other, operand_step, operand_denied, operand_same, joined_there, in_bracket, operators_there}
use Rattle.pen.specs.Putting.{Puts}
use Rattle.pen.proofs.Putting.{puts_both, puts_as}
use Rattle.put_query.specs.declared.Reached.{Reached}
use Rattle.put_query.specs.Writing.{operand_pieces, Some, Prints, sign_room}
use Rattle.put_query.proofs.Chains.{text_append}
use Rattle.slashes.proofs.Deepening.{within}

-- An operand begins with an item.
pub operand_there : (depth : ℕ) (items : List ℕ) (at : ℕ) → Some (take_operand (take_within depth) (drop at items)) → at < length items
operand_there depth items at s = ⊎_elim (λ l. l) (λ l. none-some (sym (operand_past (take_within depth) items at l) ∙ s.taken_whole)) (within at (length items))

-- Something found after another thing: that was found.
some_found : {A B : Type 0} (o : Taken A) (next : A × List ℕ → Taken B) → Some (found o next) → Some o
some_found o next s = found_some o next s.tree s.taken_whole (λ a p q. record { tree = a; taken_whole = p })

some_same : {A : Type 0} {o u : Taken A} → o ≡ u → Some o → Some u
some_same e s = record { tree = s.tree; taken_whole = sym e ∙ s.taken_whole }

-- What holds where one bracket more may be opened holds at a depth that is not 0.
deeper : (P : ℕ → ℕ → Type 0) → ((d : ℕ) → P d (suc d)) → (depth : ℕ) → 1 ≤ depth → P (depth - 1) depth
deeper P next zero z = absurd (omega arith)
deeper P next (suc d) z = subst (λ (k : ℕ). P k (suc d)) (let e : d ≡ suc d - 1 = omega arith in e) (next d)

module _ (depth : ℕ) (items : List ℕ) (at : ℕ) (l : at < length items) where
  -- A path has a step.
  pub path_opens : (number : ℕ) → path_at (get_or items at 0) ≡ some number → Some (take_operand (take_within depth) (drop at items))
      → Some (take_steps (take_within depth) number (drop (at + 1) items))
  path_opens number e s = some_found (take_steps (take_within depth) number (drop (at + 1) items)) (λ r. some (path r.0, r.1)) (some_same (read number e s) s)
    where
      read : (n : ℕ) → path_at (get_or items at 0) ≡ some n → Some (take_operand (take_within depth) (drop at items))
          → take_operand (take_within depth) (drop at items) ≡ found (take_steps (take_within depth) n (drop (at + 1) items)) (λ r. some (path r.0, r.1))
      read zero e s =
          none-some (sym (ap (take_operand (take_within depth)) (at_place items at l) ∙ operand_bare (take_within depth) (get_or items at 0) (drop (at + 1) items) e) ∙ s.taken_whole)
      read (suc n) e s = ap (take_operand (take_within depth)) (at_place items at l) ∙ operand_path (take_within depth) (get_or items at 0) (suc n) (drop (at + 1) items) e (omega arith)

  pub path_prints : (brief : Bool) (names : List (List ℕ)) (pen number : ℕ) (old new : List ℕ) (r : Reached) → path_at (get_or items at 0) ≡ some number → Some (take_operand (take_within depth) (drop at items))
      → Prints names items (at + 1) pen 0 (take_steps (take_within depth) number (drop (at + 1) items)) (relative_pieces brief) old new r
      → Prints names items at pen sign_room (take_operand (take_within depth) (drop at items)) (operand_pieces brief) old new r
  path_prints brief names pen zero old new r e s w =
      none-some (sym (ap (take_operand (take_within depth)) (at_place items at l) ∙ operand_bare (take_within depth) (get_or items at 0) (drop (at + 1) items) e) ∙ s.taken_whole)
  path_prints brief names pen (suc n) old new r e s w =
      record {
        what = path w.what;
        reads = rw (at_place items at l, operand_path (take_within depth) (get_or items at 0) (suc n) (drop (at + 1) items) e (omega arith), w.reads);
        puts = w.puts;
        onward = omega (arith, w.onward);
        inside = w.inside;
        low = omega (arith, w.low);
      }

  -- Where no bracket may be opened, no item of a bracket stands.
  deep_enough : take_operand (take_within 0) (get_or items at 0 ∷ drop (at + 1) items) ≡ none → Some (take_operand (take_within depth) (drop at items)) → 1 ≤ depth
  deep_enough h s = go depth s
    where
      go : (d : ℕ) → Some (take_operand (take_within d) (drop at items)) → 1 ≤ d
      go zero t = none-some (sym (ap (take_operand (take_within 0)) (at_place items at l) ∙ h) ∙ t.taken_whole)
      go (suc d) t = omega arith

-- The items of brackets need one to be opened.
shut_not : (ws : List ℕ) → take_operand (take_within 0) (not_item ∷ ws) ≡ none
unfolding take_operand
shut_not ws = refl

shut_joined : (ws : List ℕ) (operator : ℕ) → Operator operator → take_operand (take_within 0) (operator ∷ ws) ≡ none
unfolding take_operand
shut_joined ws = each (λ operator. take_operand (take_within 0) (operator ∷ ws) ≡ none) refl refl

-- What is left after a path and `not` is an operator.
is_operator : (depth w : ℕ) (i : Item) (ws : List ℕ) → Said w i → ((number : ℕ) → i ≡ Path number → ⊥) → (i ≡ Not → ⊥)
    → Some (take_operand (take_within depth) (w ∷ ws)) → Operator w
is_operator depth w (Path number) ws s p n t = absurd (p number refl)
is_operator depth w (StepItem st) ws s p n t = none-some (sym (operand_step (take_within depth) w ws s.0 s.1) ∙ t.taken_whole)
is_operator depth w And ws s p n t = (omega arith, omega arith)
is_operator depth w Or ws s p n t = (omega arith, omega arith)
is_operator depth w Not ws s p n t = absurd (n refl)
is_operator depth w Bad ws s p n t = none-some (sym (operand_other (take_within depth) w ws s.0 s.2 s.3 s.4) ∙ t.taken_whole)

-- The text in brackets.
close_text : (names : List (List ℕ)) (ps : List Piece) (opening : List ℕ) → opening ++ text_of names ps ++ (41 ∷ []) ≡ opening ++ text_of names (ps ++ (close_round ∷ []))
close_text names ps opening = append_assoc opening (text_of names ps) (41 ∷ []) ∙ ap (λ (x : List ℕ). opening ++ x) (sym (text_append names ps (close_round ∷ [])))

-- What stands in a bracket, which is one that may be opened.
module _ (items : List ℕ) (at depth : ℕ) (s : Some (take_operand (take_within depth) (drop at items))) where
  there : at < length items
  there = operand_there depth items at s

  pub operator_there : (i : Item) → Said (get_or items at 0) i → ((number : ℕ) → i ≡ Path number → ⊥) → (i ≡ Not → ⊥) → Operator (get_or items at 0)
  operator_there i g p n =
      is_operator depth (get_or items at 0) i (drop (at + 1) items) g p n (some_same (ap (take_operand (take_within depth)) (at_place items at there)) s)

  pub not_deep : get_or items at 0 ≡ not_item → 1 ≤ depth
  not_deep e = deep_enough depth items at there (rw e (shut_not (drop (at + 1) items))) s

  pub joined_deep : Operator (get_or items at 0) → 1 ≤ depth
  joined_deep o = deep_enough depth items at there (shut_joined (drop (at + 1) items) (get_or items at 0) o) s

  pub not_opens : get_or items at 0 ≡ not_item → Some (take_expr (take_within (depth - 1)) (drop (at + 1) items))
  not_opens e =
      deeper (λ less d. Some (take_operand (take_within d) (drop at items)) → Some (take_expr (take_within less) (drop (at + 1) items)))
      (λ d t.
      some_found (take_expr (take_within d) (drop (at + 1) items)) (λ r. some (negated r.0, r.1))
      (some_same (rw (at_place items at there, e) (operand_denied (take_within (suc d)) (drop (at + 1) items))) t))
      depth (not_deep e) s

  pub joined_opens : Operator (get_or items at 0) → Some (take_expr (take_within (depth - 1)) (drop at items))
  joined_opens o =
      deeper (λ less d. Some (take_operand (take_within d) (drop at items)) → Some (take_expr (take_within less) (drop at items)))
      (λ d t. some_same (operand_same items at d there o) t)
      depth (joined_deep o) s

  module _ (brief : Bool) (names : List (List ℕ)) (pen opened : ℕ) (old mid new last : List ℕ) (inner r : Reached) where
    pub not_prints : get_or items at 0 ≡ not_item → Puts (ascii "not(") pen old mid opened
        → Prints names items (at + 1 + operators (drop (at + 1) items)) opened sign_room (take_expr (take_within (depth - 1)) (drop (at + 1) items)) (expr_pieces brief) mid new inner
        → Puts (41 ∷ []) inner.byte new last r.byte → r.item ≡ inner.item
        → Prints names items at pen sign_room (take_operand (take_within depth) (drop at items)) (operand_pieces brief) old last r
    not_prints e p w q i =
        deeper
        (λ less d.
        Prints names items (at + 1 + operators (drop (at + 1) items)) opened sign_room (take_expr (take_within less) (drop (at + 1) items)) (expr_pieces brief) mid new inner
        → Prints names items at pen sign_room (take_operand (take_within d) (drop at items)) (operand_pieces brief) old last r)
        (λ d v.
        record {
          what = negated v.what;
          reads = rw (at_place items at there, e, operand_denied (take_within (suc d)) (drop (at + 1) items), v.reads, i);
          puts = puts_as (close_text names (expr_pieces brief v.what) (ascii "not(")) (puts_both (puts_both p v.puts) q);
          onward = omega (arith, v.onward);
          inside = omega (arith, v.inside);
          low = omega (arith, v.low, p.moved, q.moved);
        })
        depth (not_deep e) w

    pub joined_prints : Operator (get_or items at 0) → Puts (40 ∷ []) pen old mid opened
        → Prints names items (at + operators (drop at items)) opened sign_room (take_expr (take_within (depth - 1)) (drop at items)) (expr_pieces brief) mid new inner
        → Puts (41 ∷ []) inner.byte new last r.byte → r.item ≡ inner.item
        → Prints names items at pen sign_room (take_operand (take_within depth) (drop at items)) (operand_pieces brief) old last r
    joined_prints o p w q i =
        deeper
        (λ less d.
        Prints names items (at + operators (drop at items)) opened sign_room (take_expr (take_within less) (drop at items)) (expr_pieces brief) mid new inner
        → Prints names items at pen sign_room (take_operand (take_within d) (drop at items)) (operand_pieces brief) old last r)
        (λ d v.
        let read : take_operand (take_within (suc d)) (drop at items) ≡ some (v.what, drop r.item items) =
        operand_same items at d there o ∙ v.reads ∙ ap (λ (k : ℕ). some (v.what, drop k items)) (sym i) in
        let grouped-so : operand_pieces brief v.what ≡ open_group ∷ expr_pieces brief v.what ++ (close_round ∷ []) =
        rw (in_bracket (get_or items at 0) o v.what (joined_there items at d there o v.what r.item read)) in
        record {
          what = v.what;
          reads = read;
          puts = puts_as (close_text names (expr_pieces brief v.what) (ascii "(") ∙ ap (text_of names) (sym grouped-so)) (puts_both (puts_both p v.puts) q);
          onward = omega (arith, v.onward);
          inside = omega (arith, v.inside);
          low = omega (arith, v.low, p.moved, q.moved, operators_there items at d there o);
        })
        depth (joined_deep o) w
