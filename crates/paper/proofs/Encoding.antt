-- What decoding finds has these very items: it is a query that can stand in memory, nested at most to the limit.
-- By induction over the brackets that may still be opened, and over each count. Assumes nothing.
use Prim.Native.Nat.{ℕ, zero, suc, ◌+◌, ◌≤◌, ◌<◌}
use native.Mathlib.Omega.{arith}
use mathlib.Core.Path.{◌≡◌, refl, sym, ◌∙◌, ap, ap₂, subst}
use mathlib.Core.Bool.{Bool, true, false, ◌&&◌, ◌||◌, cond, false≢true}
use mathlib.Core.List.{List, [], ◌∷◌, ◌++◌, append_assoc}
use mathlib.Core.Option.{none, some}
use lib.Dec.{eqb, leb}
use lib.ListN.{length, drop, replicate}
use borrow.Author.Tests.{eqb-true, lt-ltb}
use Rattle.paper.specs.Tools.{found, begins}
use Rattle.paper.specs.Limits.{bracket_limit}
use Rattle.paper.specs.Query.{Expr, path, both, either, negated, Steps, Preds, Query}
use Rattle.paper.specs.Items.{count_bound, and_item, or_item, not_item, pack_path, pack_step, path_at, step_at, step_count, pred_count}
use Rattle.paper.specs.Items.{encode_expr, encode_steps, encode_preds, encode_paths, encode, good_expr, good_steps, good_preds, good_paths, good}
use Rattle.paper.specs.Items.{leading, Taken, take_preds, take_steps, take_path, take_operand, take_ands, take_term, take_ors, take_expr, take_within, take_paths, as_query, decode}
use Rattle.paper.specs.Measures.{is_and, is_or, in_brackets, nest_expr, nest_steps, nest_preds, nest_paths, nesting}
use Rattle.paper.proofs.Tests.{true_and, none-some, some_inj, found_some, or_false}
use Rattle.paper.proofs.Fields.{path_found, step_found}

-- What was taken from items: they are its own, then those left; it can stand in memory; and its nesting, with what its place adds, is at most d.
pub record From (ws : List ℕ) (e : Expr) (rest : List ℕ) (nest d : ℕ) : Type 0 where
  pub items : ws ≡ encode_expr e ++ rest
  pub fine : good_expr e ≡ true
  pub nested : nest ≤ d

-- The same of steps and of predicates, which also have the count that was asked for.
pub record FromSteps (ws : List ℕ) (n : ℕ) (s : Steps) (rest : List ℕ) (d : ℕ) : Type 0 where
  pub items : ws ≡ encode_steps s ++ rest
  pub count : step_count s ≡ n
  pub fine : good_steps s ≡ true
  pub nested : nest_steps s ≤ d

pub record FromPreds (ws : List ℕ) (n : ℕ) (ps : Preds) (rest : List ℕ) (d : ℕ) : Type 0 where
  pub items : ws ≡ encode_preds ps ++ rest
  pub count : pred_count ps ≡ n
  pub fine : good_preds ps ≡ true
  pub nested : nest_preds ps ≤ d

-- A bracket adds one, or nothing.
pub bracket_most : (b : Bool) (n : ℕ) → in_brackets b n ≤ 1 + n
bracket_most true n = omega arith
bracket_most false n = omega arith

bracket_or : (a b : Bool) (n : ℕ) → in_brackets a n ≤ in_brackets (a || b) n
bracket_or true b n = omega arith
bracket_or false true n = omega arith
bracket_or false false n = omega arith

bracket_least : (b : Bool) (n : ℕ) → n ≤ in_brackets b n
bracket_least true n = omega arith
bracket_least false n = omega arith

-- The items that were counted stand first.
counted : (w : ℕ) (ws : List ℕ) → ws ≡ replicate (leading w ws) w ++ drop (leading w ws) ws
counted w [] = refl
counted w (x ∷ xs) = go (eqb x w) refl (counted w xs)
  where
    go : (b : Bool) → eqb x w ≡ b → xs ≡ replicate (leading w xs) w ++ drop (leading w xs) xs
        → x ∷ xs ≡ replicate (leading w (x ∷ xs)) w ++ drop (leading w (x ∷ xs)) (x ∷ xs)
    go true p later = rw p (ap₂ ◌∷◌ (eqb-true x w p) later)
    go false p later = rw p

-- One more of a run may stand before it or after it.
shift : (n w : ℕ) (ws : List ℕ) → replicate (suc n) w ++ ws ≡ replicate n w ++ (w ∷ ws)
shift zero w ws = refl
shift (suc n) w ws = ap (λ l. w ∷ l) (shift n w ws)

begun : (w : ℕ) (ws : List ℕ) → begins w ws ≡ true → ws ≡ w ∷ drop 1 ws
begun w [] h = absurd (false≢true h)
begun w (x ∷ xs) h = ap (λ y. y ∷ xs) (sym (eqb-true w x h))

-- A run of operators, whose items stand before its operands: `one` takes an operand, `more n e` takes n more and joins each to e.
module _ (d item : ℕ) (one : List ℕ → Taken Expr) (more : ℕ → Expr → List ℕ → Taken Expr) (join : Expr → Expr → Expr) (nest_left nest_right : Expr → ℕ)
    (stops : (e : Expr) (ws : List ℕ) → more 0 e ws ≡ some (e, ws))
    (goes : (n : ℕ) (e : Expr) (ws : List ℕ) → more (suc n) e ws ≡ found (one ws) (λ r. more n (join e r.0) r.1))
    (encode-join : (a b : Expr) → encode_expr (join a b) ≡ item ∷ encode_expr a ++ encode_expr b) (good-join : (a b : Expr) → good_expr (join a b) ≡ (good_expr a && good_expr b))
    (nest_join : (a b : Expr) → nest_left a ≤ d → nest_right b ≤ d → nest_left (join a b) ≤ d) (nest-one : (a : Expr) → nest_right a ≤ d → nest_left a ≤ d)
    (from_one : (ws : List ℕ) (r : Expr × List ℕ) → one ws ≡ some r → From ws r.0 r.1 (nest_right r.0) d) where
  -- The rest of it.
  from_more : (n : ℕ) (a : Expr) (ws : List ℕ) (r : Expr × List ℕ) → good_expr a ≡ true → nest_left a ≤ d → more n a ws ≡ some r
      → From (replicate n item ++ (encode_expr a ++ ws)) r.0 r.1 (nest_left r.0) d
  from_more zero a ws r g l h =
      subst (λ (x : Expr × List ℕ). From (encode_expr a ++ ws) x.0 x.1 (nest_left x.0) d) (some_inj (sym (stops a ws) ∙ h))
      (record { items = refl; fine = g; nested = l })
  from_more (suc n) a ws r g l h =
      found_some (one ws) _ r (sym (goes n a ws) ∙ h)
      (λ b u v.
      let f = from_one ws b u in
      let i = from_more n (join a b.0) b.1 r (good-join a b.0 ∙ true_and g f.fine) (nest_join a b.0 l f.nested) v in
      record {
        items =
            ap (λ l. replicate (suc n) item ++ (encode_expr a ++ l)) f.items ∙
            shift n item (encode_expr a ++ (encode_expr b.0 ++ b.1)) ∙
            ap (λ l. replicate n item ++ (item ∷ l)) (sym (append_assoc (encode_expr a) (encode_expr b.0) b.1)) ∙
            ap (λ l. replicate n item ++ (l ++ b.1)) (sym (encode-join a b.0)) ∙
            i.items;
        fine = i.fine;
        nested = i.nested;
      })

  -- The whole of it.
  from_run : (ws : List ℕ) (r : Expr × List ℕ) → found (one (drop (leading item ws) ws)) (λ a. more (leading item ws) a.0 a.1) ≡ some r → From ws r.0 r.1 (nest_left r.0) d
  from_run ws r h =
      found_some (one (drop (leading item ws) ws)) _ r h
      (λ a u v.
      let f = from_one (drop (leading item ws) ws) a u in
      let i = from_more (leading item ws) a.0 a.1 r f.fine (nest-one a.0 f.nested) v in
      record { items = counted item ws ∙ ap (λ l. replicate (leading item ws) item ++ l) f.items ∙ i.items; fine = i.fine; nested = i.nested })

-- `within` takes well what stands in a bracket, where d brackets may be opened.
module _ (d : ℕ) (within : List ℕ → Taken Expr)
    (sound : (ws : List ℕ) (r : Expr × List ℕ) → within ws ≡ some r → From ws r.0 r.1 (1 + nest_expr r.0) d) where
  pub from_preds : (n : ℕ) (ws : List ℕ) (r : Preds × List ℕ) → take_preds within n ws ≡ some r → FromPreds ws n r.0 r.1 d
  from_preds zero ws r h =
      subst (λ (x : Preds × List ℕ). FromPreds ws 0 x.0 x.1 d) (some_inj h)
      (record { items = refl; count = refl; fine = refl; nested = omega arith })
  from_preds (suc n) ws r h =
      found_some (within ws) _ r h
      (λ a p q.
      found_some (take_preds within n a.1) _ r q
      (λ b u v.
      let f = sound ws a p in
      let g = from_preds n a.1 b u in
      subst (λ (x : Preds × List ℕ). FromPreds ws (suc n) x.0 x.1 d) (some_inj v)
      (record {
        items = f.items ∙ ap (λ l. encode_expr a.0 ++ l) g.items ∙ sym (append_assoc (encode_expr a.0) (encode_preds b.0) b.1);
        count = ap suc g.count;
        fine = true_and f.fine g.fine;
        nested = omega (arith, f.nested, g.nested);
      })))

  pub from_steps : (n : ℕ) (ws : List ℕ) (r : Steps × List ℕ) → take_steps within n ws ≡ some r → FromSteps ws n r.0 r.1 d
  from_steps zero ws r h =
      subst (λ (x : Steps × List ℕ). FromSteps ws 0 x.0 x.1 d) (some_inj h)
      (record { items = refl; count = refl; fine = refl; nested = omega arith })
  from_steps (suc n) [] r h = none-some h
  from_steps (suc n) (w ∷ ws) r h =
      found_some (step_at w) _ r h
      (λ t p q.
      found_some (take_preds within t.count ws) _ r q
      (λ a u v.
      found_some (take_steps within n a.1) _ r v
      (λ b x y.
      let i = step_found w t p in
      let f = from_preds t.count ws a u in
      let g = from_steps n a.1 b x in
      subst (λ (z : Steps × List ℕ). FromSteps (w ∷ ws) (suc n) z.0 z.1 d) (some_inj y)
      (record {
        items =
            ap₂ ◌∷◌ (i.0 ∙ ap (pack_step t.axis t.test) (sym f.count))
            (f.items ∙ ap (λ l. encode_preds a.0 ++ l) g.items ∙ sym (append_assoc (encode_preds a.0) (encode_steps b.0) b.1));
        count = ap suc g.count;
        fine = true_and (true_and (true_and i.1 (lt-ltb (pred_count a.0) count_bound (omega (arith, i.2, f.count)))) f.fine) g.fine;
        nested = omega (arith, f.nested, g.nested);
      }))))

  -- A path, with at least one step unless it may be bare.
  pub from_path : (bare_too : Bool) (ws : List ℕ) (r : Steps × List ℕ) → take_path within bare_too ws ≡ some r
      → (ws ≡ pack_path (step_count r.0) ∷ encode_steps r.0 ++ r.1) × (step_count r.0 < count_bound) × (good_steps r.0 ≡ true) × (nest_steps r.0 ≤ d)
      × ((leb 1 (step_count r.0) || bare_too) ≡ true)
  from_path bare_too [] r h = none-some h
  from_path bare_too (w ∷ ws) r h = found_some (path_at w) _ r h (λ n p q. go n p q (leb 1 n || bare_too) refl)
    where
      go : (n : ℕ) → path_at w ≡ some n → cond (leb 1 n || bare_too) (take_steps within n ws) none ≡ some r → (b : Bool) → (leb 1 n || bare_too) ≡ b
          → (w ∷ ws ≡ pack_path (step_count r.0) ∷ encode_steps r.0 ++ r.1) × (step_count r.0 < count_bound) × (good_steps r.0 ≡ true) × (nest_steps r.0 ≤ d)
          × ((leb 1 (step_count r.0) || bare_too) ≡ true)
      go n p q true e =
          let f = from_steps n ws r (rw e at q) in
          let i = path_found w n p in
          (ap₂ ◌∷◌ (i.0 ∙ ap pack_path (sym f.count)) f.items, omega (arith, i.1, f.count), f.fine, f.nested, ap (λ k. leb 1 k || bare_too) f.count ∙ e)
      go n p q false e = none-some (rw e at q)

  -- An operand of `and`.
  pub from_operand : (ws : List ℕ) (r : Expr × List ℕ) → take_operand within ws ≡ some r → From ws r.0 r.1 (in_brackets (is_or r.0 || is_and r.0) (nest_expr r.0)) d
  unfolding take_operand
  from_operand ws r h = denied (begins not_item ws) refl h
    where
      Goal : Type 0
      Goal = From ws r.0 r.1 (in_brackets (is_or r.0 || is_and r.0) (nest_expr r.0)) d

      steps : found (take_path within false ws) (λ x. some (path x.0, x.1)) ≡ some r → Goal
      steps q =
          found_some (take_path within false ws) _ r q
          (λ a u v.
          let f = from_path false ws a u in
          let one : leb 1 (step_count a.0) ≡ true = or_false (leb 1 (step_count a.0)) f.4 in
          subst (λ (x : Expr × List ℕ). From ws x.0 x.1 (in_brackets (is_or x.0 || is_and x.0) (nest_expr x.0)) d) (some_inj v)
          (record { items = f.0; fine = true_and (true_and one (lt-ltb _ _ f.1)) f.2; nested = f.3 }))

      grouped : (b : Bool) → (begins and_item ws || begins or_item ws) ≡ b
          → cond (begins and_item ws || begins or_item ws) (within ws) (found (take_path within false ws) (λ x. some (path x.0, x.1))) ≡ some r → Goal
      grouped true e q =
          let f = sound ws r (rw e at q) in
          record { items = f.items; fine = f.fine; nested = omega (arith, f.nested, bracket_most (is_or r.0 || is_and r.0) (nest_expr r.0)) }
      grouped false e q = steps (rw e at q)

      denied : (b : Bool) → begins not_item ws ≡ b → take_operand within ws ≡ some r → Goal
      denied true e q =
          found_some (within (drop 1 ws)) (λ x. some (negated x.0, x.1)) r (rw e at q)
          (λ a u v.
          let f = sound (drop 1 ws) a u in
          subst (λ (x : Expr × List ℕ). From ws x.0 x.1 (in_brackets (is_or x.0 || is_and x.0) (nest_expr x.0)) d) (some_inj v)
          (record { items = begun not_item ws e ∙ ap (λ l. not_item ∷ l) f.items; fine = f.fine; nested = f.nested }))
      denied false e q = grouped (begins and_item ws || begins or_item ws) refl (rw e at q)

  -- An operand of `or`, which is a run of `and`.
  pub from_term : (ws : List ℕ) (r : Expr × List ℕ) → take_term within ws ≡ some r → From ws r.0 r.1 (in_brackets (is_or r.0) (nest_expr r.0)) d
  unfolding take_term
  from_term =
      from_run d and_item (take_operand within) (take_ands within) both (λ e. in_brackets (is_or e) (nest_expr e)) (λ e. in_brackets (is_or e || is_and e) (nest_expr e))
      (λ e ws. refl) (λ n e ws. refl) (λ a b. refl) (λ a b. refl) (λ a b l m. omega arith) (λ a l. omega (arith, bracket_or (is_or a) (is_and a) (nest_expr a))) from_operand

  -- A whole expression, which is a run of `or`.
  pub from_expr : (ws : List ℕ) (r : Expr × List ℕ) → take_expr within ws ≡ some r → From ws r.0 r.1 (nest_expr r.0) d
  unfolding take_expr
  from_expr =
      from_run d or_item (take_term within) (take_ors within) either nest_expr (λ e. in_brackets (is_or e) (nest_expr e))
      (λ e ws. refl) (λ n e ws. refl) (λ a b. refl) (λ a b. refl) (λ a b l m. omega arith) (λ a l. omega (arith, bracket_least (is_or a) (nest_expr a))) from_term

-- What stands in a bracket, by the number of brackets that may be opened.
pub from_within : (d : ℕ) (ws : List ℕ) (r : Expr × List ℕ) → take_within d ws ≡ some r → From ws r.0 r.1 (1 + nest_expr r.0) d
from_within zero ws r h = none-some h
from_within (suc d) ws r h =
    let f = from_expr d (take_within d) (from_within d) ws r h in
    record { items = f.items; fine = f.fine; nested = omega (arith, f.nested) }

-- Top-level paths.
from_paths : (n : ℕ) (ws : List ℕ) (ps : List Steps) → take_paths n ws ≡ some ps
    → (ws ≡ encode_paths ps) × (good_paths ps ≡ true) × (nest_paths ps ≤ bracket_limit)
from_paths zero [] ps h = subst (λ (x : List Steps). ([] ≡ encode_paths x) × (good_paths x ≡ true) × (nest_paths x ≤ bracket_limit)) (some_inj h) (refl, refl, omega arith)
from_paths zero (w ∷ ws) ps h = none-some h
from_paths (suc n) [] ps h = subst (λ (x : List Steps). ([] ≡ encode_paths x) × (good_paths x ≡ true) × (nest_paths x ≤ bracket_limit)) (some_inj h) (refl, refl, omega arith)
from_paths (suc n) (w ∷ ws) ps h =
    found_some (take_path (take_within bracket_limit) true (w ∷ ws)) _ ps h
    (λ a u v.
    found_some (take_paths n a.1) _ ps v
    (λ qs x y.
    let f = from_path bracket_limit (take_within bracket_limit) (from_within bracket_limit) true (w ∷ ws) a u in
    let g = from_paths n a.1 qs x in
    subst (λ (z : List Steps). (w ∷ ws ≡ encode_paths z) × (good_paths z ≡ true) × (nest_paths z ≤ bracket_limit)) (some_inj y)
    (f.0 ∙ ap (λ l. pack_path (step_count a.0) ∷ encode_steps a.0 ++ l) g.0, true_and (true_and (lt-ltb _ _ f.1) f.2) g.1, omega (arith, f.3, g.2))))

-- What decoding finds is encoded in these very items.
pub record Decoded (ws : List ℕ) (q : Query) : Type 0 where
  pub items : ws ≡ encode q
  pub fine : good q ≡ true
  pub nested : nesting q ≤ bracket_limit

-- ENCODE AFTER DECODE.
pub encode_decode : (ws : List ℕ) (q : Query) → decode ws ≡ some q → Decoded ws q
unfolding decode encode good nesting
encode_decode ws q h = found_some (take_paths (length ws) ws) as_query q h (λ ps u v. go ps v (from_paths (length ws) ws ps u))
  where
    go : (ps : List Steps) → as_query ps ≡ some q → (ws ≡ encode_paths ps) × (good_paths ps ≡ true) × (nest_paths ps ≤ bracket_limit) → Decoded ws q
    go [] e f = none-some e
    go (p ∷ ps) e f = subst (λ (x : Query). Decoded ws x) (some_inj e) (record { items = f.0; fine = f.1; nested = f.2 })
