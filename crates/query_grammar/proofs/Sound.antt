-- What a reader gets is derived from the tokens that it took.
-- By induction over the brackets that may still be opened, and over the most steps, predicates and operands that may come. Assumes nothing.
use Prim.Native.Nat.{ℕ, zero, suc}
use mathlib.Core.Path.{◌≡◌, refl, sym, ◌∙◌, ap, subst}
use mathlib.Core.Bool.{Bool, true, false, ◌&&◌, false≢true}
use mathlib.Core.List.{List, [], ◌∷◌}
use mathlib.Core.Option.{Option, none, some}
use lib.ListN.{length, drop}
use Rattle.paper.specs.Tools.{ascii}
use Rattle.paper.specs.Tokens.{Token, slash, slashes, dot, dots, colons, bar, open_square, close_square, open_round, close_round, star, finish, word, sort, is, letters, Placed}
use Rattle.paper.specs.Query.{Axis, self, child, parent, Test, any_node, text_node, named, any_element}
use Rattle.paper.specs.Query.{Expr, negated, Steps, stop, Preds, bare, pred, Query}
use Rattle.paper.specs.Reading.{Got, got, then, next, at, sees, says, pass, axis_named, axis_ahead, Step, deep, starts_step, joins}
use Rattle.paper.specs.Reading.{read_preds, read_tail, read_name, read_tested, read_axis, read_dot, read_step, read_steps, read_operand, read_term, read_expr, read_path, read_paths, read_within}
use Rattle.paper.proofs.Tests.{and_true, none-some}
use Rattle.query_grammar.specs.Grammar.{tok, lone, PredsIn, no_pred, one_pred, TestIn, star_test, node_test, text_test, name_test}
use Rattle.query_grammar.specs.Grammar.{DotIn, dot_alone, dot_preds, StepIn, dot_step, dots_step, child_step, axis_step, StepsIn, last_step_lem, slash_step, slashes_step}
use Rattle.query_grammar.specs.Grammar.{OperandIn, path_operand, round_operand, not_operand, TermIn, one_operand, and_operand, ExprIn, one_term, or_term}
use Rattle.query_grammar.specs.Grammar.{PathIn, root_path, slash_path, slashes_path, Joins, bar_joins, union_joins, QueryIn, one_path, join_path, Within}
use Rattle.query_grammar.proofs.Seeing.{of_sort, seen, lettered, said, chosen, not-got, as_got, got_value, got_left, then_got, passed}
use Rattle.query_grammar.proofs.Runs.{Run, spelling, and_run, or_run, run_keeps}

pub drop_two : (ts : List Placed) → drop 1 (drop 1 ts) ≡ drop 2 ts
drop_two [] = refl
drop_two (t ∷ ts) = refl

-- An axis before `::`.
pub axis-ahead {ℓ} : {C : Type ℓ} (ts : List Placed) (a : Axis) → axis_ahead ts ≡ some a
    → ((w : List ℕ) → ts ≡ tok (at ts) (word w) ∷ tok (at (drop 1 ts)) colons ∷ drop 2 ts → axis_named w ≡ some a → C) → C
axis-ahead {C = C} ts a h k = chosen (sees colons (drop 1 ts)) h (λ c e. go (letters (next ts)) refl c e) (λ c e. none-some e)
  where
    go : (w : List ℕ) → letters (next ts) ≡ w → sees colons (drop 1 ts) ≡ true → axis_named w ≡ some a → C
    go [] p c e = none-some e
    go (x ∷ w) p c e =
        let rest : drop 1 ts ≡ tok (at (drop 1 ts)) colons ∷ drop 2 ts = seen colons (drop 1 ts) refl c ∙ ap (λ l. tok (at (drop 1 ts)) colons ∷ l) (drop_two ts) in
        k (x ∷ w) (lettered x w ts (sym p) ∙ ap (λ l. tok (at ts) (word (x ∷ w)) ∷ l) rest) e

-- Steps are at least one.
pub steps_long : (newer : Bool) (look : List ℕ → Option ℕ) (Inside : List Placed → Expr → List Placed → Type 0) {ts rest : List Placed} {s : Steps} → StepsIn newer look Inside ts s rest
    → lone s ≡ false
steps_long newer look Inside (last_step_lem d) = refl
steps_long newer look Inside (slash_step d f) = refl
steps_long newer look Inside (slashes_step d f) = refl

module _ (newer : Bool) (look : List ℕ → Option ℕ) (within : ℕ → List Placed → Got Expr) (Inside : List Placed → Expr → List Placed → Type 0)
    (inside : (p : ℕ) (ts : List Placed) (e : Expr) (left : List Placed) → within p ts ≡ got e left → Inside ts e left) where
  -- What was read in a bracket, up to the token that closes it.
  pub closed_got : (t : Token) → is t finish ≡ false → ((w : List ℕ) → of_sort (sort t) w ≡ t) → (p : ℕ) (ts : List Placed) (e : Expr) (left : List Placed)
      → then (within p ts) (pass t) ≡ got e left → (q : ℕ) × Inside ts e (tok q t ∷ left)
  closed_got t n plain p ts e left h =
      then_got (within p ts) (pass t) h
      (λ a mid u v.
      passed t a mid v
      (λ s ea el.
      let head : mid ≡ tok (at mid) t ∷ left = seen t mid n s ∙ ap (λ x. tok (at mid) x ∷ drop 1 mid) (plain (letters (next mid))) ∙ ap (λ l. tok (at mid) t ∷ l) el in
      (at mid, subst (λ x. Inside ts x (tok (at mid) t ∷ left)) ea (subst (λ l. Inside ts a l) head (inside p ts a mid u)))))

  pub preds_got : (n : ℕ) (ts : List Placed) (ps : Preds) (left : List Placed) → read_preds newer look within n ts ≡ got ps left → PredsIn newer look Inside ts ps left
  preds_got zero ts ps left h = as_got (λ x l. PredsIn newer look Inside ts x l) h no_pred
  preds_got (suc n) ts ps left h =
      chosen (sees open_square ts) h
      (λ s k.
      then_got (then (within (at ts) (drop 1 ts)) (pass close_square)) _ k
      (λ e mid u v.
      then_got (read_preds newer look within n mid) _ v
      (λ qs l x y.
      let i = closed_got close_square refl (λ w. refl) (at ts) (drop 1 ts) e mid u in
      as_got (λ z m. PredsIn newer look Inside ts z m) y
      (subst (λ m. PredsIn newer look Inside m (pred e qs) l) (sym (seen open_square ts refl s)) (one_pred i.1 (preds_got n mid qs l x))))))
      (λ s k. as_got (λ x l. PredsIn newer look Inside ts x l) k no_pred)

  tail-got {ℓ} : {C : Type ℓ} (a : Axis) (t : Test) (ts : List Placed) (s : Step) (left : List Placed) → read_tail newer look within a t ts ≡ got s left
      → ((ps : Preds) → PredsIn newer look Inside ts ps left → record { axis = a; test = t; preds = ps } ≡ s → C) → C
  unfolding read_tail
  tail-got a t ts s left h k =
      then_got (read_preds newer look within (length ts) ts) _ h
      (λ ps mid u v. k ps (subst (λ l. PredsIn newer look Inside ts ps l) (got_left v) (preds_got (length ts) ts ps mid u)) (got_value v))

  -- `node()` and `text()`, each with the predicates after it.
  call-got {ℓ} : {C : Type ℓ} (x : ℕ) (w : List ℕ) (a : Axis) (t : Test) (ts : List Placed) (s : Step) (left : List Placed)
      → (sees open_round (drop 1 ts) && says (x ∷ w) ts) ≡ true → then (pass close_round t (drop 2 ts)) (read_tail newer look within a) ≡ got s left
      → ((p q r : ℕ) (us : List Placed) (ps : Preds) → ts ≡ tok p (word (x ∷ w)) ∷ tok q open_round ∷ tok r close_round ∷ us → PredsIn newer look Inside us ps left
      → record { axis = a; test = t; preds = ps } ≡ s → C) → C
  call-got x w a t ts s left c h k =
      then_got (pass close_round t (drop 2 ts)) (read_tail newer look within a) h
      (λ t' mid u v.
      passed close_round t (drop 2 ts) u
      (λ z et el.
      tail-got a t' mid s left v
      (λ ps d f.
      let b = and_true (sees open_round (drop 1 ts)) (says (x ∷ w) ts) c in
      let two : drop 1 (drop 1 ts) ≡ tok (at (drop 2 ts)) close_round ∷ mid = drop_two ts ∙ seen close_round (drop 2 ts) refl z ∙ ap (λ l. tok (at (drop 2 ts)) close_round ∷ l) el in
      let one : drop 1 ts ≡ tok (at (drop 1 ts)) open_round ∷ tok (at (drop 2 ts)) close_round ∷ mid =
      seen open_round (drop 1 ts) refl b.0 ∙ ap (λ l. tok (at (drop 1 ts)) open_round ∷ l) two in
      k (at ts) (at (drop 1 ts)) (at (drop 2 ts)) mid ps (said x w ts b.1 ∙ ap (λ l. tok (at ts) (word (x ∷ w)) ∷ l) one) d
      (ap (λ y. record { axis = a; test = y; preds = ps }) et ∙ f))))

  -- Test and predicates.
  tested-got {ℓ} : {C : Type ℓ} (a : Axis) (ts : List Placed) (s : Step) (left : List Placed) → read_tested newer look within a ts ≡ got s left
      → ((t : Test) (us : List Placed) (ps : Preds) → TestIn newer look Inside ts t us → PredsIn newer look Inside us ps left → record { axis = a; test = t; preds = ps } ≡ s → C) → C
  unfolding read_tested
  tested-got {C = C} a ts s left h k =
      chosen (sees star ts) h
      (λ c e.
      tail-got a any_element (drop 1 ts) s left e
      (λ ps d f. k any_element (drop 1 ts) ps (subst (λ m. TestIn newer look Inside m any_element (drop 1 ts)) (sym (seen star ts refl c)) star_test) d f))
      (λ c1 e1.
      chosen (sees open_round (drop 1 ts) && says (ascii "node") ts) e1
      (λ c e. call-got 110 (ascii "ode") a any_node ts s left c e (λ p q r us ps m d f. k any_node us ps (subst (λ l. TestIn newer look Inside l any_node us) (sym m) node_test) d f))
      (λ c2 e2.
      chosen (sees open_round (drop 1 ts) && says (ascii "text") ts) e2
      (λ c e. call-got 116 (ascii "ext") a text_node ts s left c e (λ p q r us ps m d f. k text_node us ps (subst (λ l. TestIn newer look Inside l text_node us) (sym m) text_test) d f))
      (λ c3 e3. chosen (sees (word []) ts) e3 (λ c e. name (look (letters (next ts))) refl c e) (λ c e. not-got e))))
    where
      name : (o : Option ℕ) → look (letters (next ts)) ≡ o → sees (word []) ts ≡ true → read_name newer look within o a ts ≡ got s left → C
      name none p c e = not-got e
      name (some v) p c e =
          tail-got a (named v) (drop 1 ts) s left e
          (λ ps d f. k (named v) (drop 1 ts) ps (subst (λ m. TestIn newer look Inside m (named v) (drop 1 ts)) (sym (seen (word []) ts refl c)) (name_test p)) d f)

  -- What follows `.` and `..`.
  dot-got {ℓ} : {C : Type ℓ} (a : Axis) (ts : List Placed) (s : Step) (left : List Placed) → read_dot newer look within a ts ≡ got s left
      → ((ps : Preds) → DotIn newer look Inside ts ps left → record { axis = a; test = any_node; preds = ps } ≡ s → C) → C
  dot-got a ts s left h k =
      chosen newer h (λ n e. tail-got a any_node ts s left e (λ ps d f. k ps (dot_preds n d) f))
      (λ n e. k bare (subst (λ l. DotIn newer look Inside ts bare l) (got_left e) dot_alone) (got_value e))

  -- A step.
  pub step_got : (ts : List Placed) (s : Step) (left : List Placed) → read_step newer look within ts ≡ got s left → StepIn newer look Inside ts s left
  unfolding read_step
  step_got ts s left h =
      chosen (sees dot ts) h
      (λ c e.
      dot-got self (drop 1 ts) s left e
      (λ ps d q. subst (λ x. StepIn newer look Inside ts x left) q (subst (λ m. StepIn newer look Inside m (record { axis = self; test = any_node; preds = ps }) left) (sym (seen dot ts refl c)) (dot_step d))))
      (λ c1 e1.
      chosen (sees dots ts) e1
      (λ c e.
      dot-got parent (drop 1 ts) s left e
      (λ ps d q. subst (λ x. StepIn newer look Inside ts x left) q (subst (λ m. StepIn newer look Inside m (record { axis = parent; test = any_node; preds = ps }) left) (sym (seen dots ts refl c)) (dots_step d))))
      (λ c e. full (axis_ahead ts) refl e))
    where
      full : (o : Option Axis) → axis_ahead ts ≡ o → read_axis newer look within o ts ≡ got s left → StepIn newer look Inside ts s left
      full none p e = tested-got child ts s left e (λ t us ps d f q. subst (λ x. StepIn newer look Inside ts x left) q (child_step d f))
      full (some a) p e =
          axis-ahead ts a p
          (λ w m n.
          tested-got a (drop 2 ts) s left e
          (λ t us ps d f q. subst (λ x. StepIn newer look Inside ts x left) q (subst (λ l. StepIn newer look Inside l (record { axis = a; test = t; preds = ps }) left) (sym m) (axis_step n d f))))

  -- Steps.
  pub steps_got : (n : ℕ) (ts : List Placed) (ss : Steps) (left : List Placed) → read_steps newer look within n ts ≡ got ss left → StepsIn newer look Inside ts ss left
  steps_got zero ts ss left h = not-got h
  steps_got (suc n) ts ss left h =
      then_got (read_step newer look within ts) _ h
      (λ s mid u v.
      let d = step_got ts s mid u in
      chosen (sees slash mid) v
      (λ c e.
      then_got (read_steps newer look within n (drop 1 mid)) _ e
      (λ rest l x y.
      as_got (λ z m. StepsIn newer look Inside ts z m) y
      (slash_step (subst (λ m. StepIn newer look Inside ts s m) (seen slash mid refl c) d) (steps_got n (drop 1 mid) rest l x))))
      (λ c1 e1.
      chosen (sees slashes mid) e1
      (λ c e.
      then_got (read_steps newer look within n (drop 1 mid)) _ e
      (λ rest l x y.
      as_got (λ z m. StepsIn newer look Inside ts z m) y
      (slashes_step (subst (λ m. StepIn newer look Inside ts s m) (seen slashes mid refl c) d) (steps_got n (drop 1 mid) rest l x))))
      (λ c e. as_got (λ z m. StepsIn newer look Inside ts z m) e (last_step_lem d))))

  -- An operand.
  pub operand_got : (ts : List Placed) (e : Expr) (left : List Placed) → read_operand newer look within ts ≡ got e left → OperandIn newer look Inside ts e left
  unfolding read_operand
  operand_got ts x left h =
      chosen (says (ascii "not") ts && sees open_round (drop 1 ts)) h
      (λ c e.
      then_got (then (within (at (drop 1 ts)) (drop 2 ts)) (pass close_round)) _ e
      (λ a mid u v.
      let i = closed_got close_round refl (λ w. refl) (at (drop 1 ts)) (drop 2 ts) a mid u in
      let b = and_true (says (ascii "not") ts) (sees open_round (drop 1 ts)) c in
      let rest : drop 1 ts ≡ tok (at (drop 1 ts)) open_round ∷ drop 2 ts = seen open_round (drop 1 ts) refl b.1 ∙ ap (λ l. tok (at (drop 1 ts)) open_round ∷ l) (drop_two ts) in
      let whole : ts ≡ tok (at ts) (word (ascii "not")) ∷ tok (at (drop 1 ts)) open_round ∷ drop 2 ts =
      said 110 (ascii "ot") ts b.0 ∙ ap (λ l. tok (at ts) (word (ascii "not")) ∷ l) rest in
      as_got (λ z m. OperandIn newer look Inside ts z m) v (subst (λ m. OperandIn newer look Inside m (negated a) mid) (sym whole) (not_operand i.1))))
      (λ c1 e1.
      chosen (sees open_round ts) e1
      (λ c e.
      let i = closed_got close_round refl (λ w. refl) (at ts) (drop 1 ts) x left e in
      subst (λ m. OperandIn newer look Inside m x left) (sym (seen open_round ts refl c)) (round_operand i.1))
      (λ c e.
      then_got (read_steps newer look within (length ts) ts) _ e
      (λ s mid u v. as_got (λ z m. OperandIn newer look Inside ts z m) v (path_operand (steps_got (length ts) ts s mid u)))))

  -- A run: the operands that its word joins are added to what was read before them.
  run_got : (run : Run) (F G : List Placed → Expr → List Placed → Type 0) → ((ts rest : List Placed) (e : Expr) → G ts e rest → F ts e rest)
      → ((p : ℕ) (ts us rest : List Placed) (a b : Expr) → F ts a (tok p (word (spelling run)) ∷ us) → G us b rest → F ts (run.join a b) rest)
      → ((ts : List Placed) (e : Expr) (left : List Placed) → run.one ts ≡ got e left → G ts e left)
      → (ts : List Placed) (e : Expr) (left : List Placed) → then (run.one ts) (λ a mid. run.more (length mid) a mid) ≡ got e left → F ts e left
  run_got run F G alone joins one ts e left h =
      then_got (run.one ts) _ h
      (λ a mid u v.
      run_keeps run (F ts) (λ r. r ≡ got e left → F ts e left) (λ b us d k. as_got (F ts) k d)
      (λ p b us d next k q. then_got (run.one us) next q (λ c rest w x. k c rest (joins p ts us rest b c d (one us c rest w)) x)) (length mid) a mid (alone ts mid a (one ts a mid u)) v)

  pub term_got : (ts : List Placed) (e : Expr) (left : List Placed) → read_term newer look within ts ≡ got e left → TermIn newer look Inside ts e left
  unfolding read_term
  term_got =
      run_got (and_run newer look within) (TermIn newer look Inside) (OperandIn newer look Inside) (λ ts rest e d. one_operand d) (λ p ts us rest a b d f. and_operand d f) operand_got

  pub expr_got : (ts : List Placed) (e : Expr) (left : List Placed) → read_expr newer look within ts ≡ got e left → ExprIn newer look Inside ts e left
  unfolding read_expr
  expr_got = run_got (or_run newer look within) (ExprIn newer look Inside) (TermIn newer look Inside) (λ ts rest e d. one_term d) (λ p ts us rest a b d f. or_term d f) term_got

  -- An absolute path.
  pub path_got : (ts : List Placed) (s : Steps) (left : List Placed) → read_path newer look within ts ≡ got s left → PathIn newer look Inside ts s left
  unfolding read_path
  path_got ts s left h =
      chosen (sees slashes ts) h
      (λ c e.
      then_got (read_steps newer look within (length (drop 1 ts)) (drop 1 ts)) _ e
      (λ r mid u v.
      as_got (λ z m. PathIn newer look Inside ts z m) v
      (subst (λ m. PathIn newer look Inside m (deep r) mid) (sym (seen slashes ts refl c)) (slashes_path (steps_got (length (drop 1 ts)) (drop 1 ts) r mid u)))))
      (λ c1 e1.
      chosen (sees slash ts) e1
      (λ c e.
      chosen (starts_step (next (drop 1 ts))) e
      (λ f g. subst (λ m. PathIn newer look Inside m s left) (sym (seen slash ts refl c)) (slash_path (steps_got (length (drop 1 ts)) (drop 1 ts) s left g)))
      (λ f g. as_got (λ z m. PathIn newer look Inside ts z m) g (subst (λ m. PathIn newer look Inside m stop (drop 1 ts)) (sym (seen slash ts refl c)) root_path)))
      (λ c e. not-got e))

  -- A path that the word `union` follows is not `/` alone, since a word after `/` is a name.
  path_long : (ts : List Placed) (s : Steps) (left : List Placed) → read_path newer look within ts ≡ got s left → says (ascii "union") left ≡ true → lone s ≡ false
  unfolding read_path
  path_long ts s left h w =
      chosen (sees slashes ts) h
      (λ c e. then_got (read_steps newer look within (length (drop 1 ts)) (drop 1 ts)) _ e (λ r mid u v. ap lone (sym (got_value v))))
      (λ c1 e1.
      chosen (sees slash ts) e1
      (λ c e.
      chosen (starts_step (next (drop 1 ts))) e
      (λ f g. steps_long newer look Inside (steps_got (length (drop 1 ts)) (drop 1 ts) s left g))
      (λ f g.
      let word_next : left ≡ tok (at left) (word (ascii "union")) ∷ drop 1 left = said 117 (ascii "nion") left w in
      absurd (false≢true (sym f ∙ ap (λ l. starts_step (next l)) (got_left g ∙ word_next)))))
      (λ c e. not-got e))

  -- The token that joins a path to the next.
  pub joined : (ts : List Placed) (s : Steps) (mid : List Placed) → read_path newer look within ts ≡ got s mid → joins newer mid ≡ true
      → (t : Token) × Joins newer s t × (mid ≡ tok (at mid) t ∷ drop 1 mid)
  joined ts s mid u c = go (sees bar mid) refl
    where
      go : (b : Bool) → sees bar mid ≡ b → (t : Token) × Joins newer s t × (mid ≡ tok (at mid) t ∷ drop 1 mid)
      go true b = (bar, bar_joins, seen bar mid refl b)
      go false b =
          let both = and_true (says (ascii "union") mid) newer (rw b at c) in
          (word (ascii "union"), union_joins both.1 (path_long ts s mid u both.0), said 117 (ascii "nion") mid both.0)

  -- Paths, joined, up to the end of the text.
  pub paths-got : (n : ℕ) (ts : List Placed) (q : Query) (left : List Placed) → read_paths newer look within n ts ≡ got q left
      → (mid : List Placed) × QueryIn newer look Inside ts q mid × (sees finish mid ≡ true) × (drop 1 mid ≡ left)
  paths-got zero ts q left h = not-got h
  paths-got (suc n) ts q left h =
      then_got (read_path newer look within ts) _ h
      (λ p mid u v.
      let d = path_got ts p mid u in
      chosen (joins newer mid) v
      (λ c e.
      then_got (read_paths newer look within n (drop 1 mid)) _ e
      (λ r l x y.
      let i = paths-got n (drop 1 mid) r l x in
      let j = joined ts p mid u c in
      (i.0, subst (λ z. QueryIn newer look Inside ts z i.0) (got_value y) (join_path j.1 (subst (λ m. PathIn newer look Inside ts p m) j.2 d) i.1), i.2, i.3 ∙ got_left y)))
      (λ c e. passed finish (record { first = p; others = [] }) mid e (λ s ea el. (mid, subst (λ z. QueryIn newer look Inside ts z mid) ea (one_path d), s, el))))

-- What was read in a bracket, by the number of brackets that may be opened.
pub within_got : (newer : Bool) (look : List ℕ → Option ℕ) (d p : ℕ) (ts : List Placed) (e : Expr) (left : List Placed) → read_within newer look d p ts ≡ got e left → Within newer look d ts e left
within_got newer look zero p ts e left h = not-got h
within_got newer look (suc d) p ts e left h = expr_got newer look (read_within newer look d) (Within newer look d) (within_got newer look d) ts e left h
