-- The bounds of the readers on steps, predicates, operands and paths never tell: with a bound of all tokens left or more, a reader goes on as if it had none.
-- A reader leaves no more tokens than it was given, since what it gets is derived from them. Assumes nothing.
use Prim.Native.Nat.{ℕ, zero, suc, ◌-◌, ◌≤◌}
use native.Mathlib.Omega.{arith}
use mathlib.Core.Path.{◌≡◌, refl, sym, ◌∙◌, ap}
use mathlib.Core.Bool.{Bool, true, false, cond}
use mathlib.Core.List.{List, [], ◌∷◌}
use mathlib.Core.Option.{Option}
use lib.ListN.{length, drop, length-drop}
use Rattle.paper.specs.Tokens.{slash, slashes, open_square, close_square, finish, Placed}
use Rattle.paper.specs.Query.{Expr, Steps, stop, Preds, bare, pred, Query, paths}
use Rattle.paper.specs.Reading.{Got, got, refused, then, at, sees, says, pass, before, deep, joins}
use Rattle.paper.specs.Reading.{read_preds, read_tested, read_step, read_steps, read_path, read_paths}
use Rattle.query_grammar.proofs.Leaving.{Leaves, leaves_less, step_leaves, operand_leaves, term_leaves, path_leaves}
use Rattle.query_grammar.proofs.Runs.{Run, spelling, and_run, or_run}
use Rattle.query_grammar.proofs.Sound.{closed_got, step_got, operand_got, term_got, path_got}

-- The readers with a bound of all tokens left.
module _ (newer : Bool) (look : List ℕ → Option ℕ) (within : ℕ → List Placed → Got Expr) where
  unfoldable pub all_preds : List Placed → Got Preds
  all_preds ts = read_preds newer look within (length ts) ts

  unfoldable pub all_steps : List Placed → Got Steps
  all_steps ts = read_steps newer look within (length ts) ts

  unfoldable pub all_paths : List Placed → Got Query
  all_paths ts = read_paths newer look within (length ts) ts

unfoldable pub all_run : Run → Expr → List Placed → Got Expr
all_run run a ts = run.more (length ts) a ts

-- One turn of each, which goes on with another reader.
module _ (newer : Bool) (look : List ℕ → Option ℕ) (within : ℕ → List Placed → Got Expr) where
  abbrev pub preds_turn : (List Placed → Got Preds) → List Placed → Got Preds
  preds_turn more ts =
      cond (sees open_square ts) (then (then (within (at ts) (drop 1 ts)) (pass close_square)) (λ e left. then (more left) (λ ps. got (pred e ps)))) (got bare ts)

  abbrev pub steps_turn : (List Placed → Got Steps) → List Placed → Got Steps
  steps_turn more ts =
      then (read_step newer look within ts)
      (λ s left.
      cond (sees slash left) (then (more (drop 1 left)) (λ rest. got (before s rest)))
      (cond (sees slashes left) (then (more (drop 1 left)) (λ rest. got (before s (deep rest)))) (got (before s stop) left)))

  abbrev pub paths_turn : (List Placed → Got Query) → List Placed → Got Query
  paths_turn more ts =
      then (read_path newer look within ts)
      (λ p left.
      cond (joins newer left) (then (more (drop 1 left)) (λ q. got (record { first = p; others = paths q }))) (pass finish (record { first = p; others = [] }) left))

abbrev pub run_turn : Run → (Expr → List Placed → Got Expr) → Expr → List Placed → Got Expr
run_turn run more a ts = cond (says (spelling run) ts) (then (run.one (drop 1 ts)) (λ b. more (run.join a b))) (got a ts)

-- Readers that go on alike read alike.
then_same : {A B : Type 0} (r : Got A) (f g : A → List Placed → Got B) → ((a : A) (left : List Placed) → r ≡ got a left → f a left ≡ g a left) → then r f ≡ then r g
then_same (got a left) f g h = h a left refl
then_same (refused n p) f g h = refl

cond_same : {A : Type 0} (b : Bool) {x y u v : A} → x ≡ u → y ≡ v → cond b x y ≡ cond b u v
cond_same true p q = p
cond_same false p q = q

-- A reader with a bound, which goes on by a turn that leaves fewer tokens; beside them it may carry what was read before.
module _ {X A : Type 0} (read : ℕ → X → List Placed → Got A) (turn : (X → List Placed → Got A) → X → List Placed → Got A)
    (goes : (n : ℕ) (x : X) (ts : List Placed) → read (suc n) x ts ≡ turn (read n) x ts) (nothing : (n : ℕ) (x : X) → turn (read n) x [] ≡ read zero x [])
    (same : (f g : X → List Placed → Got A) (x : X) (ts : List Placed) → ((y : X) (left : List Placed) → length left ≤ length ts - 1 → f y left ≡ g y left) → turn f x ts ≡ turn g x ts) where
  -- Any two bounds that suffice read alike.
  any_bound : (n m : ℕ) (x : X) (ts : List Placed) → length ts ≤ n → length ts ≤ m → read n x ts ≡ read m x ts
  any_bound zero zero x ts h k = refl
  any_bound zero (suc m) x [] h k = sym (goes m x [] ∙ nothing m x)
  any_bound zero (suc m) x (t ∷ ts) h k = absurd (omega arith)
  any_bound (suc n) zero x [] h k = goes n x [] ∙ nothing n x
  any_bound (suc n) zero x (t ∷ ts) h k = absurd (omega arith)
  any_bound (suc n) (suc m) x ts h k =
      goes n x ts ∙ same (read n) (read m) x ts (λ y left l. any_bound n m y left (omega arith) (omega arith)) ∙ sym (goes m x ts)

  -- So with a bound of all tokens left it goes on as if it had none.
  unbounded : (x : X) (ts : List Placed) → read (length ts) x ts ≡ turn (λ y left. read (length left) y left) x ts
  unbounded x ts =
      any_bound (length ts) (suc (length ts)) x ts (omega arith) (omega arith) ∙ goes (length ts) x ts ∙
      same (read (length ts)) (λ y left. read (length left) y left) x ts (λ y left l. any_bound (length ts) (length left) y left (omega arith) (omega arith))

-- A run, whose operands leave no more tokens than there were.
run_on : (run : Run) → ((ts : List Placed) (b : Expr) (left : List Placed) → run.one ts ≡ got b left → length left ≤ length ts)
    → (a : Expr) (ts : List Placed) → all_run run a ts ≡ run_turn run (all_run run) a ts
unfolding all_run
run_on run less =
    unbounded run.more (run_turn run) run.goes (λ n a. sym (run.stops a []))
    (λ f g a ts same.
    cond_same (says (spelling run) ts)
    (then_same (run.one (drop 1 ts)) _ _ (λ b left u. same (run.join a b) left (omega (arith, less (drop 1 ts) b left u, length-drop 1 ts))))
    refl)

module _ (newer : Bool) (look : List ℕ → Option ℕ) (within : ℕ → List Placed → Got Expr) (Inside : List Placed → Expr → List Placed → Type 0)
    (sound : (p : ℕ) (ts : List Placed) (e : Expr) (left : List Placed) → within p ts ≡ got e left → Inside ts e left)
    (leaves : (ts : List Placed) (e : Expr) (rest : List Placed) → Inside ts e rest → Leaves ts rest) where
  -- A turn goes on with fewer tokens than it was given.
  preds_same : (f g : List Placed → Got Preds) (ts : List Placed) → ((left : List Placed) → length left ≤ length ts - 1 → f left ≡ g left) → preds_turn newer look within f ts ≡ preds_turn newer look within g ts
  preds_same f g ts same =
      cond_same (sees open_square ts)
      (then_same (then (within (at ts) (drop 1 ts)) (pass close_square)) _ _
      (λ e left u.
      let i = closed_got newer look within Inside sound close_square refl (λ w. refl) (at ts) (drop 1 ts) e left u in
      let less : suc (length left) ≤ length (drop 1 ts) = leaves_less (leaves _ _ _ i.1) in
      let one : length (drop 1 ts) ≡ length ts - 1 = length-drop 1 ts in
      ap (λ r. then r (λ ps. got (pred e ps))) (same left (omega arith))))
      refl

  steps_same : (f g : List Placed → Got Steps) (ts : List Placed) → ((left : List Placed) → length left ≤ length ts - 1 → f left ≡ g left) → steps_turn newer look within f ts ≡ steps_turn newer look within g ts
  steps_same f g ts same =
      then_same (read_step newer look within ts) _ _
      (λ s left u.
      let less : length left ≤ length ts = leaves_less (step_leaves newer look Inside leaves (step_got newer look within Inside sound ts s left u)) in
      let one : length (drop 1 left) ≡ length left - 1 = length-drop 1 left in
      let e = same (drop 1 left) (omega arith) in
      cond_same (sees slash left) (ap (λ r. then r (λ rest. got (before s rest))) e)
      (cond_same (sees slashes left) (ap (λ r. then r (λ rest. got (before s (deep rest)))) e) refl))

  paths_same : (f g : List Placed → Got Query) (ts : List Placed) → ((left : List Placed) → length left ≤ length ts - 1 → f left ≡ g left) → paths_turn newer look within f ts ≡ paths_turn newer look within g ts
  paths_same f g ts same =
      then_same (read_path newer look within ts) _ _
      (λ p left u.
      let less : length left ≤ length ts = leaves_less (path_leaves newer look Inside leaves (path_got newer look within Inside sound ts p left u)) in
      let one : length (drop 1 left) ≡ length left - 1 = length-drop 1 left in
      cond_same (joins newer left) (ap (λ r. then r (λ q. got (record { first = p; others = paths q }))) (same (drop 1 left) (omega arith))) refl)

  -- How each goes on.
  pub preds_on : (ts : List Placed) → all_preds newer look within ts ≡ preds_turn newer look within (all_preds newer look within) ts
  unfolding all_preds
  preds_on ts =
      unbounded {X = Unit {0}} (λ n x us. read_preds newer look within n us) (λ f x us. preds_turn newer look within (f tt) us) (λ n x us. refl) (λ n x. refl)
      (λ f g x us same. preds_same (f tt) (g tt) us (λ left l. same tt left l)) tt ts

  pub steps_on : (ts : List Placed) → all_steps newer look within ts ≡ steps_turn newer look within (all_steps newer look within) ts
  unfolding all_steps read_step read_tested
  steps_on ts =
      unbounded {X = Unit {0}} (λ n x us. read_steps newer look within n us) (λ f x us. steps_turn newer look within (f tt) us) (λ n x us. refl) (λ n x. refl)
      (λ f g x us same. steps_same (f tt) (g tt) us (λ left l. same tt left l)) tt ts

  pub ands_on : (a : Expr) (ts : List Placed) → all_run (and_run newer look within) a ts ≡ run_turn (and_run newer look within) (all_run (and_run newer look within)) a ts
  ands_on = run_on (and_run newer look within) (λ ts b left u. leaves_less (operand_leaves newer look Inside leaves (operand_got newer look within Inside sound ts b left u)))

  pub ors_on : (a : Expr) (ts : List Placed) → all_run (or_run newer look within) a ts ≡ run_turn (or_run newer look within) (all_run (or_run newer look within)) a ts
  ors_on = run_on (or_run newer look within) (λ ts b left u. leaves_less (term_leaves newer look Inside leaves (term_got newer look within Inside sound ts b left u)))

  pub paths_on : (ts : List Placed) → all_paths newer look within ts ≡ paths_turn newer look within (all_paths newer look within) ts
  unfolding all_paths read_path
  paths_on ts =
      unbounded {X = Unit {0}} (λ n x us. read_paths newer look within n us) (λ f x us. paths_turn newer look within (f tt) us) (λ n x us. refl) (λ n x. refl)
      (λ f g x us same. paths_same (f tt) (g tt) us (λ left l. same tt left l)) tt ts
