-- Decoding after encoding gives the query back, whatever items follow.
-- By induction over the query. An expression is read on three levels, as the printed text has them: as a whole (`or`), as a term of `or`
-- (`and`), and as an operand of `and`. On each level the items of a left-grouped run are counted first, so the law says what is read where
-- some were counted already. Assumes nothing.
use Prim.Native.Nat.{ℕ, zero, suc, ◌+◌, ◌*◌, ◌≤◌, ◌<◌}
use native.Mathlib.Omega.{arith}
use native.Mathlib.Nat.{add-zero, zero-add}
use mathlib.Core.Path.{◌≡◌, refl, ◌∙◌, ap}
use mathlib.Core.Bool.{true, false, ◌&&◌, ◌||◌}
use mathlib.Core.List.{List, [], ◌∷◌, ◌++◌, append_assoc}
use mathlib.Core.Option.{some}
use lib.Dec.{eqb, ltb, leb}
use lib.ListN.{length, drop, length-append}
use borrow.Author.Tests.{ne_eqb, ltb-true, leb-true, le-leb}
use Rattle.paper.specs.Tools.{found}
use Rattle.paper.specs.Limits.{bracket_limit}
use Rattle.paper.specs.Query.{Axis, Test, Expr, path, both, either, negated, Steps, stop, step, Preds, bare, pred, Query, paths}
use Rattle.paper.specs.Items.{count_bound, and_item, or_item, step_count, pred_count}
use Rattle.paper.specs.Items.{encode_expr, encode_steps, encode_preds, encode_paths, encode, good_test, good_expr, good_steps, good_preds, good_paths, good}
use Rattle.paper.specs.Items.{leading, Taken, take_preds, take_steps, take_operand, take_ands, take_term, take_ors, take_expr, take_within, take_paths, decode}
use Rattle.paper.specs.Measures.{is_and, is_or, in_brackets, nest_expr, nest_steps, nest_preds, nest_paths, nesting}
use Rattle.paper.proofs.Tests.{and_true, or_right}
use Rattle.paper.proofs.Fields.{path-at, step-at}

-- Reading a whole expression, or a term, where k operators were counted before.
unfoldable ors_from : (List ℕ → Taken Expr) → ℕ → List ℕ → Taken Expr
ors_from within k ws = found (take_term within (drop (leading or_item ws) ws)) (λ r. take_ors within (leading or_item ws + k) r.0 r.1)

unfoldable ands_from : (List ℕ → Taken Expr) → ℕ → List ℕ → Taken Expr
ands_from within k ws = found (take_operand within (drop (leading and_item ws) ws)) (λ r. take_ands within (leading and_item ws + k) r.0 r.1)

-- With none counted before, that is what the definitions read.
whole : (within : List ℕ → Taken Expr) (ws : List ℕ) → take_expr within ws ≡ ors_from within 0 ws
unfolding take_expr ors_from
whole within ws = rw add-zero

term : (within : List ℕ → Taken Expr) (ws : List ℕ) → take_term within ws ≡ ands_from within 0 ws
unfolding take_term ands_from
term within ws = rw add-zero

-- An operator's item is counted.
one_or : (within : List ℕ → Taken Expr) (k : ℕ) (ws : List ℕ) → ors_from within k (or_item ∷ ws) ≡ ors_from within (suc k) ws
unfolding ors_from
one_or within k ws = let e : suc (leading or_item ws) + k ≡ leading or_item ws + suc k = omega arith in rw e

one_and : (within : List ℕ → Taken Expr) (k : ℕ) (ws : List ℕ) → ands_from within k (and_item ∷ ws) ≡ ands_from within (suc k) ws
unfolding ands_from
one_and within k ws = let e : suc (leading and_item ws) + k ≡ leading and_item ws + suc k = omega arith in rw e

-- What reading makes of an encoded expression, on the three levels.
record Reads (e : Expr) : Type 0 where
  expr : (d k : ℕ) (ws : List ℕ) → nest_expr e ≤ d → ors_from (take_within d) k (encode_expr e ++ ws) ≡ take_ors (take_within d) k e ws
  term : (d k : ℕ) (ws : List ℕ) → in_brackets (is_or e) (nest_expr e) ≤ d → ands_from (take_within d) k (encode_expr e ++ ws) ≡ take_ands (take_within d) k e ws
  operand : (d : ℕ) (ws : List ℕ) → in_brackets (is_or e || is_and e) (nest_expr e) ≤ d → take_operand (take_within d) (encode_expr e ++ ws) ≡ some (e, ws)

-- Where no `or` stands first, the whole is a term; where no `and` stands first, a term is an operand.
as_whole : (within : List ℕ → Taken Expr) (k : ℕ) (ws rest : List ℕ) (e : Expr) → leading or_item ws ≡ 0 → take_term within ws ≡ some (e, rest)
    → ors_from within k ws ≡ take_ors within k e rest
unfolding ors_from
as_whole within k ws rest e l h = rw (l, h, zero-add k)

as_term : (within : List ℕ → Taken Expr) (k : ℕ) (ws rest : List ℕ) (e : Expr) → leading and_item ws ≡ 0 → take_operand within ws ≡ some (e, rest)
    → ands_from within k ws ≡ take_ands within k e rest
unfolding ands_from
as_term within k ws rest e l h = rw (l, h, zero-add k)

-- A bracket opens one level more.
opened : (e : Expr) → ((d k : ℕ) (ws : List ℕ) → nest_expr e ≤ d → ors_from (take_within d) k (encode_expr e ++ ws) ≡ take_ors (take_within d) k e ws)
    → (d : ℕ) (ws : List ℕ) → suc (nest_expr e) ≤ d → take_within d (encode_expr e ++ ws) ≡ some (e, ws)
opened e r zero ws h = absurd (omega arith)
opened e r (suc d) ws h = whole (take_within d) (encode_expr e ++ ws) ∙ r d 0 ws (omega arith)

-- What is no operator is read as an operand on each level.
plain : (e : Expr) → is_or e ≡ false → is_and e ≡ false → ((ws : List ℕ) → leading or_item (encode_expr e ++ ws) ≡ 0) → ((ws : List ℕ) → leading and_item (encode_expr e ++ ws) ≡ 0)
    → ((d : ℕ) (ws : List ℕ) → nest_expr e ≤ d → take_operand (take_within d) (encode_expr e ++ ws) ≡ some (e, ws)) → Reads e
plain e o a lo la read = record { expr = whole_of; term = term_of; operand = operand_of }
  where
    term_at : (d k : ℕ) (ws : List ℕ) → nest_expr e ≤ d → ands_from (take_within d) k (encode_expr e ++ ws) ≡ take_ands (take_within d) k e ws
    term_at d k ws h = as_term (take_within d) k (encode_expr e ++ ws) ws e (la ws) (read d ws h)

    whole_of : (d k : ℕ) (ws : List ℕ) → nest_expr e ≤ d → ors_from (take_within d) k (encode_expr e ++ ws) ≡ take_ors (take_within d) k e ws
    whole_of d k ws h = as_whole (take_within d) k (encode_expr e ++ ws) ws e (lo ws) (term (take_within d) (encode_expr e ++ ws) ∙ term_at d 0 ws h)

    term_of : (d k : ℕ) (ws : List ℕ) → in_brackets (is_or e) (nest_expr e) ≤ d → ands_from (take_within d) k (encode_expr e ++ ws) ≡ take_ands (take_within d) k e ws
    term_of d k ws h = term_at d k ws (rw o at h)

    operand_of : (d : ℕ) (ws : List ℕ) → in_brackets (is_or e || is_and e) (nest_expr e) ≤ d → take_operand (take_within d) (encode_expr e ++ ws) ≡ some (e, ws)
    operand_of d ws h = read d ws (rw (o, a) at h)

-- `not`.
read_negated : (a : Expr) → Reads a → Reads (negated a)
unfolding take_operand
read_negated a r = plain (negated a) refl refl (λ ws. refl) (λ ws. refl) (λ d ws h. rw (opened a r.expr d ws (omega arith)))

-- `or`.
read_either : (a b : Expr) → Reads a → Reads b → Reads (either a b)
unfolding take_operand
read_either a b ra rb = record { expr = whole_of; term = term_of; operand = operand_of }
  where
    e : Expr
    e = either a b

    whole_of : (d k : ℕ) (ws : List ℕ) → nest_expr e ≤ d → ors_from (take_within d) k (encode_expr e ++ ws) ≡ take_ors (take_within d) k e ws
    whole_of d k ws h =
        one_or (take_within d) k (encode_expr a ++ encode_expr b ++ ws) ∙
        ap (ors_from (take_within d) (suc k)) (append_assoc (encode_expr a) (encode_expr b) ws) ∙
        ra.expr d (suc k) (encode_expr b ++ ws) (omega arith) ∙
        rw (term (take_within d) (encode_expr b ++ ws) ∙ rb.term d 0 ws (omega arith))

    operand_of : (d : ℕ) (ws : List ℕ) → 1 + nest_expr e ≤ d → take_operand (take_within d) (encode_expr e ++ ws) ≡ some (e, ws)
    operand_of d ws h = opened e whole_of d ws (omega arith)

    term_of : (d k : ℕ) (ws : List ℕ) → 1 + nest_expr e ≤ d → ands_from (take_within d) k (encode_expr e ++ ws) ≡ take_ands (take_within d) k e ws
    term_of d k ws h = as_term (take_within d) k (encode_expr e ++ ws) ws e refl (operand_of d ws h)

-- `and`.
read_both : (a b : Expr) → Reads a → Reads b → Reads (both a b)
unfolding take_operand
read_both a b ra rb = record { expr = whole_of; term = term_of; operand = operand_of }
  where
    e : Expr
    e = both a b

    term_of : (d k : ℕ) (ws : List ℕ) → nest_expr e ≤ d → ands_from (take_within d) k (encode_expr e ++ ws) ≡ take_ands (take_within d) k e ws
    term_of d k ws h =
        one_and (take_within d) k (encode_expr a ++ encode_expr b ++ ws) ∙
        ap (ands_from (take_within d) (suc k)) (append_assoc (encode_expr a) (encode_expr b) ws) ∙
        ra.term d (suc k) (encode_expr b ++ ws) (omega arith) ∙
        rw (rb.operand d ws (omega arith))

    whole_of : (d k : ℕ) (ws : List ℕ) → nest_expr e ≤ d → ors_from (take_within d) k (encode_expr e ++ ws) ≡ take_ors (take_within d) k e ws
    whole_of d k ws h =
        as_whole (take_within d) k (encode_expr e ++ ws) ws e refl (term (take_within d) (encode_expr e ++ ws) ∙ term_of d 0 ws h)

    operand_of : (d : ℕ) (ws : List ℕ) → 1 + nest_expr e ≤ d → take_operand (take_within d) (encode_expr e ++ ws) ≡ some (e, ws)
    operand_of d ws h = opened e whole_of d ws (omega arith)

-- What reading makes of encoded steps and predicates.
abbrev ReadsSteps : Steps → Type 0
ReadsSteps s = (d : ℕ) (ws : List ℕ) → nest_steps s ≤ d → take_steps (take_within d) (step_count s) (encode_steps s ++ ws) ≡ some (s, ws)

abbrev ReadsPreds : Preds → Type 0
ReadsPreds ps = (d : ℕ) (ws : List ℕ) → nest_preds ps ≤ d → take_preds (take_within d) (pred_count ps) (encode_preds ps ++ ws) ≡ some (ps, ws)

-- No path item is that of an operator.
path-item : (c n : ℕ) → 0 < n → n < 8 → eqb (c * 8) n ≡ false
path-item c n p q = ne_eqb (c * 8) n (λ e. omega arith)

item_path : (c n : ℕ) → 0 < n → n < 8 → eqb n (c * 8) ≡ false
item_path c n p q = ne_eqb n (c * 8) (λ e. omega arith)

-- A path in a predicate.
read-path : (s : Steps) → 1 ≤ step_count s → step_count s < count_bound → ReadsSteps s → Reads (path s)
unfolding take_operand
read-path s some-step few r =
    plain (path s) refl refl (λ ws. rw (path-item c 3 (omega arith) (omega arith))) (λ ws. rw (path-item c 2 (omega arith) (omega arith)))
    (λ d ws h.
    rw (item_path c 4 (omega arith) (omega arith), item_path c 2 (omega arith) (omega arith), item_path c 3 (omega arith) (omega arith), path-at c few, le-leb 1 c some-step, r d ws h))
  where
    c : ℕ
    c = step_count s

-- One step more.
read-step : (a : Axis) (t : Test) (ps : Preds) (rest : Steps) → good_test t ≡ true → pred_count ps < count_bound → ReadsPreds ps → ReadsSteps rest
    → ReadsSteps (step a t ps rest)
read-step a t ps rest g few rp rs d ws h =
    rw (step-at a t (pred_count ps) g few, append_assoc (encode_preds ps) (encode_steps rest) ws, rp d (encode_steps rest ++ ws) (omega arith), rs d ws (omega arith))

-- One predicate more.
read_pred : (e : Expr) (ps : Preds) → Reads e → ReadsPreds ps → ReadsPreds (pred e ps)
read_pred e ps re rp d ws h =
    rw (append_assoc (encode_expr e) (encode_preds ps) ws, opened e re.expr d (encode_preds ps ++ ws) (omega arith), rp d ws (omega arith))

mutual
  reads : (e : Expr) → good_expr e ≡ true → Reads e
  reads (path s) g =
      let h = and_true (leb 1 (step_count s) && ltb (step_count s) count_bound) (good_steps s) g in
      let k = and_true (leb 1 (step_count s)) (ltb (step_count s) count_bound) h.0 in
      read-path s (leb-true _ _ k.0) (ltb-true _ _ k.1) (reads_steps s h.1)
  reads (both a b) g = let h = and_true (good_expr a) (good_expr b) g in read_both a b (reads a h.0) (reads b h.1)
  reads (either a b) g = let h = and_true (good_expr a) (good_expr b) g in read_either a b (reads a h.0) (reads b h.1)
  reads (negated a) g = read_negated a (reads a g)

  reads_steps : (s : Steps) → good_steps s ≡ true → ReadsSteps s
  reads_steps stop g = λ d ws h. refl
  reads_steps (step a t ps rest) g =
      let h = and_true (good_test t && ltb (pred_count ps) count_bound && good_preds ps) (good_steps rest) g in
      let k = and_true (good_test t && ltb (pred_count ps) count_bound) (good_preds ps) h.0 in
      let l = and_true (good_test t) (ltb (pred_count ps) count_bound) k.0 in
      read-step a t ps rest l.0 (ltb-true _ _ l.1) (reads_preds ps k.1) (reads_steps rest h.1)

  reads_preds : (ps : Preds) → good_preds ps ≡ true → ReadsPreds ps
  reads_preds bare g = λ d ws h. refl
  reads_preds (pred e ps) g = let h = and_true (good_expr e) (good_preds ps) g in read_pred e ps (reads e h.0) (reads_preds ps h.1)

-- An expression is read back from its items, whatever follows them.
pub expr_encode : (e : Expr) → good_expr e ≡ true → (d : ℕ) (ws : List ℕ) → nest_expr e ≤ d → take_expr (take_within d) (encode_expr e ++ ws) ≡ some (e, ws)
expr_encode e g d ws h = whole (take_within d) (encode_expr e ++ ws) ∙ (reads e g).expr d 0 ws h

-- Top-level paths, to the end of the items.
read-paths : (ps : List Steps) (n : ℕ) → good_paths ps ≡ true → nest_paths ps ≤ bracket_limit → length (encode_paths ps) ≤ n
    → take_paths n (encode_paths ps) ≡ some ps
read-paths [] zero g h l = refl
read-paths [] (suc n) g h l = refl
read-paths (p ∷ ps) zero g h l = absurd (omega arith)
read-paths (p ∷ ps) (suc n) g h l =
    let i = and_true (ltb (step_count p) count_bound && good_steps p) (good_paths ps) g in
    let j = and_true (ltb (step_count p) count_bound) (good_steps p) i.0 in
    let few : length (encode_paths ps) ≤ n = omega (arith, simp length-append at l) in
    rw (path-at (step_count p) (ltb-true _ _ j.0), or_right (leb 1 (step_count p)) refl, reads_steps p j.1 bracket_limit (encode_paths ps) (omega arith), read-paths ps n i.1 (omega arith) (omega arith))

-- DECODE AFTER ENCODE: a query that can stand in memory, nested at most to the limit, is read back from its items.
pub decode_encode : (q : Query) → good q ≡ true → nesting q ≤ bracket_limit → decode (encode q) ≡ some q
unfolding decode encode good nesting
decode_encode q g h = rw (read-paths (paths q) (length (encode_paths (paths q))) g h (omega arith))
