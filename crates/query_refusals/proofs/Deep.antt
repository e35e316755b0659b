-- A refusal 4 is given at the bracket that is one too many, where the tokens up to it begin a query.
-- By induction over the brackets that may still be opened, and over the readers' bounds: what was read before the bracket stands on its own, and what is open is closed after it. Assumes nothing.
use Prim.Native.Nat.{ℕ, zero, suc, ◌+◌}
use native.Mathlib.Omega.{arith}
use mathlib.Core.Path.{◌≡◌, refl, sym, ◌∙◌, ap, subst}
use mathlib.Core.Bool.{Bool, true, ◌&&◌}
use mathlib.Core.List.{List, [], ◌∷◌}
use mathlib.Core.Option.{Option, none, some}
use lib.ListN.{length, drop}
use Rattle.paper.specs.Tools.{ascii}
use Rattle.paper.specs.Tokens.{Token, slash, slashes, dot, dots, colons, open_square, close_square, open_round, close_round, star, finish, word, letters, Placed}
use Rattle.paper.specs.Query.{Axis, self, child, parent, Test, any_node, text_node, named, any_element}
use Rattle.paper.specs.Query.{Expr, path, negated, Steps, stop, Preds, bare, pred, paths}
use Rattle.paper.specs.Reading.{Got, got, refused, then, next, at, sees, says, pass, axis_ahead, before, deep, starts_step, joins}
use Rattle.paper.specs.Reading.{read_preds, read_tail, read_name, read_tested, read_axis, read_dot, read_step, read_steps, read_operand, read_term, read_expr, read_path, read_paths, read_within}
use Rattle.paper.proofs.Tests.{and_true}
use Rattle.query_grammar.specs.Grammar.{tok, PredsIn, no_pred, one_pred, TestIn, star_test, node_test, text_test, name_test}
use Rattle.query_grammar.specs.Grammar.{DotIn, dot_preds, StepIn, dot_step, dots_step, child_step, axis_step, StepsIn, last_step_lem, slash_step, slashes_step}
use Rattle.query_grammar.specs.Grammar.{OperandIn, path_operand, round_operand, not_operand, TermIn, one_operand, and_operand, ExprIn, one_term, or_term}
use Rattle.query_grammar.specs.Grammar.{PathIn, slash_path, slashes_path, Joins, bar_joins, union_joins, QueryIn, one_path, join_path, Within, reading}
use Rattle.query_grammar.proofs.Seeing.{seen, said, chosen, passed}
use Rattle.query_grammar.proofs.Runs.{Run, spelling, and_run, or_run, run_keeps}
use Rattle.query_grammar.proofs.Sound.{drop_two, axis-ahead, closed_got, step_got, operand_got, term_got, path_got, joined, within_got}
use Rattle.query_refusals.specs.Refusals.{opening, closing, AllKnown, Reached}
use Rattle.query_refusals.proofs.Pieces.{Front, front_none, front_cons, front_open, front_close, front_then, Piece, step_piece, term_piece, expr_piece, path_piece, within_piece}

-- What was read up to a bracket that is one too many, and how it can go on.
record Deep {X : Type 0} (F More : List Placed → X → List Placed → Type 0) (d : ℕ) (ts : List Placed) (p : ℕ) : Type 0 where
  put : List Placed → List Placed
  token : Placed
  after : List Placed
  front : Front d put
  split : ts ≡ put (token ∷ after)
  place : token.place ≡ p
  bracket : opening token.token ≡ 1
  fits : (more : List Placed → List Placed) × (x : X) × ((rest : List Placed) → F (put (more rest)) x rest)
  deeper : (more : List Placed → List Placed) × (x : X) × ((rest : List Placed) → More (put (token ∷ more rest)) x rest)

-- It stands within a greater thing, between tokens before and after it.
deep_on : {X Y : Type 0} {G GMore : List Placed → Y → List Placed → Type 0} (F More : List Placed → X → List Placed → Type 0) (d e : ℕ) (p : ℕ) (ts mid : List Placed)
    (g tail : List Placed → List Placed) (c : Y → X) → ((h : List Placed → List Placed) → Front d h → Front e (λ us. g (h us))) → ts ≡ g mid
    → ((us rest : List Placed) (y : Y) → G us y (tail rest) → F (g us) (c y) rest) → ((us rest : List Placed) (y : Y) → GMore us y (tail rest) → More (g us) (c y) rest)
    → Deep G GMore d mid p → Deep F More e ts p
deep_on F More d e p ts mid g tail c wrap s conv conv' x =
    record {
      put = λ us. g (x.put us);
      token = x.token;
      after = x.after;
      front = wrap x.put x.front;
      split = s ∙ ap g x.split;
      place = x.place;
      bracket = x.bracket;
      fits = (λ rest. x.fits.0 (tail rest), c x.fits.1, λ rest. conv (x.put (x.fits.0 (tail rest))) rest x.fits.1 (x.fits.2 (tail rest)));
      deeper = (λ rest. x.deeper.0 (tail rest), c x.deeper.1, λ rest. conv' (x.put (x.token ∷ x.deeper.0 (tail rest))) rest x.deeper.1 (x.deeper.2 (tail rest)));
    }

-- It stands after a piece and a token that is no bracket.
deep_after : {X Y Z : Type 0} {G GMore : List Placed → Y → List Placed → Type 0} {H HMore : List Placed → X → List Placed → Type 0} (F More : List Placed → Z → List Placed → Type 0) (d p : ℕ)
    (start us : List Placed) (t : Placed) (y : Y) (c : X → Z) → opening t.token ≡ 0 → closing t.token ≡ 0
    → ((vs ws rest : List Placed) (x : X) → G vs y (t ∷ ws) → H ws x rest → F vs (c x) rest) → ((vs ws rest : List Placed) (x : X) → GMore vs y (t ∷ ws) → HMore ws x rest → More vs (c x) rest)
    → Piece G GMore start y (t ∷ us) → Deep H HMore d us p → Deep F More d start p
deep_after F More d p start us t y c o n conv conv' g x =
    deep_on F More d d p start us (λ l. g.put (t ∷ l)) (λ l. l) c (λ h f. front_then g.front (front_cons t (omega arith) (omega arith) f)) g.split
    (λ ws rest z i. conv (g.put (t ∷ ws)) ws rest z (g.here (t ∷ ws)) i) (λ ws rest z i. conv' (g.put (t ∷ ws)) ws rest z (g.deeper (t ∷ ws)) i) x

-- A value is no refusal, and no refusal is another.
got-refused {ℓ} : {A : Type 0} {a : A} {left : List Placed} {n p : ℕ} {C : Type ℓ} → got a left ≡ refused n p → C
got-refused h = absurd (let z : ◌≡◌ {A = ℕ} 0 1 = cc in omega arith)

three-four {ℓ} : {A : Type 0} {p q : ℕ} {C : Type ℓ} → ◌≡◌ {A = Got A} (refused 3 p) (refused 4 q) → C
three-four h = absurd (let z : ◌≡◌ {A = ℕ} 3 4 = cc in omega arith)

five-four {ℓ} : {A : Type 0} {p q : ℕ} {C : Type ℓ} → ◌≡◌ {A = Got A} (refused 5 p) (refused 4 q) → C
five-four h = absurd (let z : ◌≡◌ {A = ℕ} 5 4 = cc in omega arith)

-- Of two readers after each other one refuses.
then-refused {ℓ} : {A B : Type 0} {C : Type ℓ} (r : Got A) (more : A → List Placed → Got B) {n p : ℕ} → then r more ≡ refused n p
    → (r ≡ refused n p → C) → ((a : A) (mid : List Placed) → r ≡ got a mid → more a mid ≡ refused n p → C) → C
then-refused (got a mid) more h f k = k a mid refl h
then-refused (refused n p) more h f k = f (let e = h in cc)

pass-four {ℓ} : {A : Type 0} {C : Type ℓ} (t : Token) (a : A) (ts : List Placed) {p : ℕ} → pass t a ts ≡ refused 4 p → C
pass-four t a ts h = chosen (sees t ts) h (λ s e. got-refused e) (λ s e. three-four e)

closed_four : (r : Got Expr) (t : Token) {p : ℕ} → then r (pass t) ≡ refused 4 p → r ≡ refused 4 p
closed_four r t h = then-refused r (pass t) h (λ e. e) (λ a mid u v. pass-four t a mid v)

-- Either the bracket at place q is one too many, or a later one in it.
data DeepIn (Inside More : List Placed → Expr → List Placed → Type 0) (d q : ℕ) (ts : List Placed) (p : ℕ) : Type 0 where
  this_one : d ≡ 0 → q ≡ p → DeepIn Inside More d q ts p
  later_one : (k : ℕ) → d ≡ 1 + k → Deep Inside More k ts p → DeepIn Inside More d q ts p

-- What joins paths is no bracket.
joins_plain : {newer : Bool} {s : Steps} {t : Token} → Joins newer s t → (opening t ≡ 0) × (closing t ≡ 0)
joins_plain bar_joins = (refl, refl)
joins_plain (union_joins n l) = (refl, refl)

-- Test and predicates.
Tested : Bool → (List ℕ → Option ℕ) → (List Placed → Expr → List Placed → Type 0) → List Placed → Test × Preds → List Placed → Type 0
Tested newer look Inside ts x rest = (us : List Placed) × TestIn newer look Inside ts x.0 us × PredsIn newer look Inside us x.1 rest

module _ (newer : Bool) (look : List ℕ → Option ℕ) (known : AllKnown look) (within : ℕ → List Placed → Got Expr) (Inside More : List Placed → Expr → List Placed → Type 0) (d : ℕ)
    (sound : (p : ℕ) (ts : List Placed) (e : Expr) (left : List Placed) → within p ts ≡ got e left → Inside ts e left)
    (piece : (ts : List Placed) (e : Expr) (rest : List Placed) → Inside ts e rest → Piece Inside More ts e rest)
    (inside : (q : ℕ) (ts : List Placed) (p : ℕ) → within q ts ≡ refused 4 p → DeepIn Inside More d q ts p)
    (simple : (x : Expr) × ((rest : List Placed) → More (tok 0 (word (ascii "a")) ∷ rest) x rest)) where
  bracket_deep : {X : Type 0} (F FMore : List Placed → X → List Placed → Type 0) (lead : List Placed → List Placed) → Front 0 lead → (b t : Token) (q : ℕ) → opening b ≡ 1 → closing b ≡ 0 → (c : Expr → X)
      → ((us rest : List Placed) (e : Expr) → Inside us e (tok 0 t ∷ rest) → F (lead (tok q b ∷ us)) (c e) rest)
      → ((us rest : List Placed) (e : Expr) → More us e (tok 0 t ∷ rest) → FMore (lead (tok q b ∷ us)) (c e) rest)
      → (more : List Placed → List Placed) × (x : X) × ((rest : List Placed) → F (lead (more rest)) x rest)
      → (us : List Placed) (p : ℕ) → within q us ≡ refused 4 p → Deep F FMore d (lead (tok q b ∷ us)) p
  bracket_deep {X} F FMore lead f b t q o n c conv conv' fit us p h = go (inside q us p h)
    where
      go : DeepIn Inside More d q us p → Deep F FMore d (lead (tok q b ∷ us)) p
      go (this_one z e) =
          record {
            put = lead;
            token = tok q b;
            after = us;
            front = subst (λ k. Front k lead) (sym z) f;
            split = refl;
            place = e;
            bracket = o;
            fits = fit;
            deeper = (λ rest. tok 0 (word (ascii "a")) ∷ tok 0 t ∷ rest, c simple.0, λ rest. conv' (tok 0 (word (ascii "a")) ∷ tok 0 t ∷ rest) rest simple.0 (simple.1 (tok 0 t ∷ rest)));
          }
      go (later_one k z x) =
          deep_on F FMore k d p (lead (tok q b ∷ us)) us (λ l. lead (tok q b ∷ l)) (λ l. tok 0 t ∷ l) c
          (λ h g. subst (λ m. Front m (λ l. lead (tok q b ∷ h l))) (sym z) (front_then f (front_open (tok q b) (omega arith) (omega arith) g))) refl conv conv' x

  preds_deep : (n : ℕ) (ts : List Placed) (p : ℕ) → read_preds newer look within n ts ≡ refused 4 p → Deep (PredsIn newer look Inside) (PredsIn newer look More) d ts p
  preds_deep zero ts p h = got-refused h
  preds_deep (suc n) ts p h =
      chosen (sees open_square ts) h
      (λ s k.
      subst (λ l. Deep (PredsIn newer look Inside) (PredsIn newer look More) d l p) (sym (seen open_square ts refl s))
      (then-refused (then (within (at ts) (drop 1 ts)) (pass close_square)) _ k
      (λ e.
      bracket_deep (PredsIn newer look Inside) (PredsIn newer look More) (λ l. l) front_none open_square close_square (at ts) refl refl (λ x. pred x bare)
      (λ us rest x i. one_pred i no_pred) (λ us rest x i. one_pred i no_pred) (λ l. l, bare, λ rest. no_pred) (drop 1 ts) p (closed_four (within (at ts) (drop 1 ts)) close_square e))
      (λ e mid u v.
      then-refused (read_preds newer look within n mid) _ v
      (λ r.
      let i = closed_got newer look within Inside sound close_square refl (λ w. refl) (at ts) (drop 1 ts) e mid u in
      let x = piece (drop 1 ts) e (tok i.0 close_square ∷ mid) i.1 in
      deep_on (PredsIn newer look Inside) (PredsIn newer look More) d d p (tok (at ts) open_square ∷ drop 1 ts) mid (λ l. tok (at ts) open_square ∷ x.put (tok i.0 close_square ∷ l)) (λ l. l) (pred e)
      (λ g f. front_then (front_close (tok i.0 close_square) refl refl (front_open (tok (at ts) open_square) refl refl x.front)) f)
      (ap (λ l. tok (at ts) open_square ∷ l) x.split)
      (λ us rest ps y. one_pred (x.here (tok i.0 close_square ∷ us)) y) (λ us rest ps y. one_pred (x.deeper (tok i.0 close_square ∷ us)) y)
      (preds_deep n mid p r))
      (λ ps l x y. got-refused y))))
      (λ s k. got-refused k)

  tail_deep : (a : Axis) (t : Test) (ts : List Placed) (p : ℕ) → read_tail newer look within a t ts ≡ refused 4 p → Deep (PredsIn newer look Inside) (PredsIn newer look More) d ts p
  unfolding read_tail
  tail_deep a t ts p h = then-refused (read_preds newer look within (length ts) ts) _ h (λ r. preds_deep (length ts) ts p r) (λ ps mid u v. got-refused v)

  -- The predicates after a test.
  after_test : (t : Test) (p : ℕ) (ts mid : List Placed) (g : List Placed → List Placed) → ((h : List Placed → List Placed) → Front d h → Front d (λ us. g (h us))) → ts ≡ g mid
      → ((us : List Placed) → TestIn newer look Inside (g us) t us) → ((us : List Placed) → TestIn newer look More (g us) t us)
      → Deep (PredsIn newer look Inside) (PredsIn newer look More) d mid p → Deep (Tested newer look Inside) (Tested newer look More) d ts p
  unfolding Tested
  after_test t p ts mid g f s here deeper x =
      deep_on (Tested newer look Inside) (Tested newer look More) d d p ts mid g (λ l. l) (λ ps. (t, ps)) f s (λ us rest ps y. (us, here us, y)) (λ us rest ps y. (us, deeper us, y)) x

  call_deep : (x : ℕ) (w : List ℕ) (a : Axis) (t : Test) (ts : List Placed) (p : ℕ) → (sees open_round (drop 1 ts) && says (x ∷ w) ts) ≡ true
      → then (pass close_round t (drop 2 ts)) (read_tail newer look within a) ≡ refused 4 p
      → ((i j k : ℕ) (us : List Placed) → TestIn newer look Inside (tok i (word (x ∷ w)) ∷ tok j open_round ∷ tok k close_round ∷ us) t us)
      → ((i j k : ℕ) (us : List Placed) → TestIn newer look More (tok i (word (x ∷ w)) ∷ tok j open_round ∷ tok k close_round ∷ us) t us) → Deep (Tested newer look Inside) (Tested newer look More) d ts p
  call_deep x w a t ts p c h here deeper =
      then-refused (pass close_round t (drop 2 ts)) (read_tail newer look within a) h (λ r. pass-four close_round t (drop 2 ts) r)
      (λ t' mid u v.
      passed close_round t (drop 2 ts) u
      (λ z et el.
      let b = and_true (sees open_round (drop 1 ts)) (says (x ∷ w) ts) c in
      let two : drop 1 (drop 1 ts) ≡ tok (at (drop 2 ts)) close_round ∷ mid = drop_two ts ∙ seen close_round (drop 2 ts) refl z ∙ ap (λ l. tok (at (drop 2 ts)) close_round ∷ l) el in
      let one : drop 1 ts ≡ tok (at (drop 1 ts)) open_round ∷ tok (at (drop 2 ts)) close_round ∷ mid =
      seen open_round (drop 1 ts) refl b.0 ∙ ap (λ l. tok (at (drop 1 ts)) open_round ∷ l) two in
      after_test t p ts mid (λ us. tok (at ts) (word (x ∷ w)) ∷ tok (at (drop 1 ts)) open_round ∷ tok (at (drop 2 ts)) close_round ∷ us)
      (λ g f. front_cons (tok (at ts) (word (x ∷ w))) refl refl (front_then (front_close (tok (at (drop 2 ts)) close_round) refl refl (front_open (tok (at (drop 1 ts)) open_round) refl refl front_none)) f))
      (said x w ts b.1 ∙ ap (λ l. tok (at ts) (word (x ∷ w)) ∷ l) one) (here (at ts) (at (drop 1 ts)) (at (drop 2 ts))) (deeper (at ts) (at (drop 1 ts)) (at (drop 2 ts)))
      (tail_deep a t' mid p v)))

  tested_deep : (a : Axis) (ts : List Placed) (p : ℕ) → read_tested newer look within a ts ≡ refused 4 p → Deep (Tested newer look Inside) (Tested newer look More) d ts p
  unfolding read_tested
  tested_deep a ts p h =
      chosen (sees star ts) h
      (λ c e.
      after_test any_element p ts (drop 1 ts) (λ us. tok (at ts) star ∷ us) (λ g f. front_cons (tok (at ts) star) refl refl f) (seen star ts refl c) (λ us. star_test) (λ us. star_test)
      (tail_deep a any_element (drop 1 ts) p e))
      (λ c1 e1.
      chosen (sees open_round (drop 1 ts) && says (ascii "node") ts) e1
      (λ c e. call_deep 110 (ascii "ode") a any_node ts p c e (λ i j k us. node_test) (λ i j k us. node_test))
      (λ c2 e2.
      chosen (sees open_round (drop 1 ts) && says (ascii "text") ts) e2
      (λ c e. call_deep 116 (ascii "ext") a text_node ts p c e (λ i j k us. text_test) (λ i j k us. text_test))
      (λ c3 e3. chosen (sees (word []) ts) e3 (λ c e. name (look (letters (next ts))) refl c e) (λ c e. three-four e))))
    where
      name : (o : Option ℕ) → look (letters (next ts)) ≡ o → sees (word []) ts ≡ true → read_name newer look within o a ts ≡ refused 4 p → Deep (Tested newer look Inside) (Tested newer look More) d ts p
      name none q c e = five-four e
      name (some v) q c e =
          after_test (named v) p ts (drop 1 ts) (λ us. tok (at ts) (word (letters (next ts))) ∷ us) (λ g f. front_cons (tok (at ts) (word (letters (next ts)))) refl refl f) (seen (word []) ts refl c)
          (λ us. name_test q) (λ us. name_test q) (tail_deep a (named v) (drop 1 ts) p e)

  dot_deep : (a : Axis) (ts : List Placed) (p : ℕ) → read_dot newer look within a ts ≡ refused 4 p → Deep (DotIn newer look Inside) (DotIn newer look More) d ts p
  dot_deep a ts p h =
      chosen newer h
      (λ n e.
      deep_on (DotIn newer look Inside) (DotIn newer look More) d d p ts ts (λ l. l) (λ l. l) (λ ps. ps) (λ g f. f) refl (λ us rest ps y. dot_preds n y) (λ us rest ps y. dot_preds n y)
      (tail_deep a any_node ts p e))
      (λ n e. got-refused e)

  step_deep : (ts : List Placed) (p : ℕ) → read_step newer look within ts ≡ refused 4 p → Deep (StepIn newer look Inside) (StepIn newer look More) d ts p
  unfolding read_step Tested
  step_deep ts p h =
      chosen (sees dot ts) h
      (λ c e.
      deep_on (StepIn newer look Inside) (StepIn newer look More) d d p ts (drop 1 ts) (λ l. tok (at ts) dot ∷ l) (λ l. l) (λ ps. record { axis = self; test = any_node; preds = ps })
      (λ g f. front_cons (tok (at ts) dot) refl refl f) (seen dot ts refl c) (λ us rest ps y. dot_step y) (λ us rest ps y. dot_step y) (dot_deep self (drop 1 ts) p e))
      (λ c1 e1.
      chosen (sees dots ts) e1
      (λ c e.
      deep_on (StepIn newer look Inside) (StepIn newer look More) d d p ts (drop 1 ts) (λ l. tok (at ts) dots ∷ l) (λ l. l) (λ ps. record { axis = parent; test = any_node; preds = ps })
      (λ g f. front_cons (tok (at ts) dots) refl refl f) (seen dots ts refl c) (λ us rest ps y. dots_step y) (λ us rest ps y. dots_step y) (dot_deep parent (drop 1 ts) p e))
      (λ c e. full (axis_ahead ts) refl e))
    where
      full : (o : Option Axis) → axis_ahead ts ≡ o → read_axis newer look within o ts ≡ refused 4 p → Deep (StepIn newer look Inside) (StepIn newer look More) d ts p
      full none q e =
          deep_on (StepIn newer look Inside) (StepIn newer look More) d d p ts ts (λ l. l) (λ l. l) (λ (x : Test × Preds). record { axis = child; test = x.0; preds = x.1 }) (λ g f. f) refl
          (λ us rest x y. child_step y.1 y.2) (λ us rest x y. child_step y.1 y.2) (tested_deep child ts p e)
      full (some a) q e =
          axis-ahead ts a q
          (λ w m n.
          deep_on (StepIn newer look Inside) (StepIn newer look More) d d p ts (drop 2 ts) (λ l. tok (at ts) (word w) ∷ tok (at (drop 1 ts)) colons ∷ l) (λ l. l)
          (λ (x : Test × Preds). record { axis = a; test = x.0; preds = x.1 })
          (λ g f. front_cons (tok (at ts) (word w)) refl refl (front_cons (tok (at (drop 1 ts)) colons) refl refl f)) m
          (λ us rest x y. axis_step n y.1 y.2) (λ us rest x y. axis_step n y.1 y.2) (tested_deep a (drop 2 ts) p e))

  steps_deep : (n : ℕ) (ts : List Placed) (p : ℕ) → read_steps newer look within n ts ≡ refused 4 p → Deep (StepsIn newer look Inside) (StepsIn newer look More) d ts p
  steps_deep zero ts p h = three-four h
  steps_deep (suc n) ts p h =
      then-refused (read_step newer look within ts) _ h
      (λ r.
      deep_on (StepsIn newer look Inside) (StepsIn newer look More) d d p ts ts (λ l. l) (λ l. l) (λ s. before s stop) (λ g f. f) refl (λ us rest s y. last_step_lem y) (λ us rest s y. last_step_lem y) (step_deep ts p r))
      (λ s mid u v.
      let g = step_got newer look within Inside sound ts s mid u in
      chosen (sees slash mid) v
      (λ c e.
      then-refused (read_steps newer look within n (drop 1 mid)) _ e
      (λ r.
      deep_after (StepsIn newer look Inside) (StepsIn newer look More) d p ts (drop 1 mid) (tok (at mid) slash) s (λ ss. before s ss) refl refl
      (λ vs ws rest ss y z. slash_step y z) (λ vs ws rest ss y z. slash_step y z)
      (step_piece newer look Inside More piece (subst (λ l. StepIn newer look Inside ts s l) (seen slash mid refl c) g)) (steps_deep n (drop 1 mid) p r))
      (λ ss l k m. got-refused m))
      (λ c1 e1.
      chosen (sees slashes mid) e1
      (λ c e.
      then-refused (read_steps newer look within n (drop 1 mid)) _ e
      (λ r.
      deep_after (StepsIn newer look Inside) (StepsIn newer look More) d p ts (drop 1 mid) (tok (at mid) slashes) s (λ ss. before s (deep ss)) refl refl
      (λ vs ws rest ss y z. slashes_step y z) (λ vs ws rest ss y z. slashes_step y z)
      (step_piece newer look Inside More piece (subst (λ l. StepIn newer look Inside ts s l) (seen slashes mid refl c) g)) (steps_deep n (drop 1 mid) p r))
      (λ ss l k m. got-refused m))
      (λ c e. got-refused e)))

  -- A name that stands for an operand.
  name_operand : (w : List ℕ) (k : ℕ) → (x : Expr) × ((rest : List Placed) → OperandIn newer look Inside (tok k (word w) ∷ rest) x rest)
  name_operand w k = (_, λ rest. path_operand (last_step_lem (child_step (name_test (known w).1) no_pred)))

  operand_deep : (ts : List Placed) (p : ℕ) → read_operand newer look within ts ≡ refused 4 p → Deep (OperandIn newer look Inside) (OperandIn newer look More) d ts p
  unfolding read_operand
  operand_deep ts p h =
      chosen (says (ascii "not") ts && sees open_round (drop 1 ts)) h
      (λ c e.
      let b = and_true (says (ascii "not") ts) (sees open_round (drop 1 ts)) c in
      let rest : drop 1 ts ≡ tok (at (drop 1 ts)) open_round ∷ drop 2 ts = seen open_round (drop 1 ts) refl b.1 ∙ ap (λ l. tok (at (drop 1 ts)) open_round ∷ l) (drop_two ts) in
      let whole : ts ≡ tok (at ts) (word (ascii "not")) ∷ tok (at (drop 1 ts)) open_round ∷ drop 2 ts =
      said 110 (ascii "ot") ts b.0 ∙ ap (λ l. tok (at ts) (word (ascii "not")) ∷ l) rest in
      let name = name_operand (ascii "not") (at ts) in
      subst (λ l. Deep (OperandIn newer look Inside) (OperandIn newer look More) d l p) (sym whole)
      (bracket_deep (OperandIn newer look Inside) (OperandIn newer look More) (λ l. tok (at ts) (word (ascii "not")) ∷ l) (front_cons (tok (at ts) (word (ascii "not"))) refl refl front_none) open_round close_round (at (drop 1 ts)) refl refl negated
      (λ us r x i. not_operand i) (λ us r x i. not_operand i) (λ l. l, name.0, name.1) (drop 2 ts) p
      (closed_four (within (at (drop 1 ts)) (drop 2 ts)) close_round (then-refused (then (within (at (drop 1 ts)) (drop 2 ts)) (pass close_round)) _ e (λ r. r) (λ a mid u v. got-refused v)))))
      (λ c1 e1.
      chosen (sees open_round ts) e1
      (λ c e.
      let name = name_operand (ascii "a") 0 in
      subst (λ l. Deep (OperandIn newer look Inside) (OperandIn newer look More) d l p) (sym (seen open_round ts refl c))
      (bracket_deep (OperandIn newer look Inside) (OperandIn newer look More) (λ l. l) front_none open_round close_round (at ts) refl refl (λ x. x)
      (λ us r x i. round_operand i) (λ us r x i. round_operand i) (λ l. tok 0 (word (ascii "a")) ∷ l, name.0, name.1) (drop 1 ts) p (closed_four (within (at ts) (drop 1 ts)) close_round e)))
      (λ c e.
      then-refused (read_steps newer look within (length ts) ts) _ e
      (λ r.
      deep_on (OperandIn newer look Inside) (OperandIn newer look More) d d p ts ts (λ l. l) (λ l. l) path (λ g f. f) refl (λ us rest s y. path_operand y) (λ us rest s y. path_operand y) (steps_deep (length ts) ts p r))
      (λ s mid u v. got-refused v)))

  -- A run: its first operand, or one that its word joins to those before it.
  run_deep : (run : Run) (F FMore G GMore : List Placed → Expr → List Placed → Type 0) → ((ts us : List Placed) (e : Expr) → F ts e us → Piece F FMore ts e us)
      → ((ts rest : List Placed) (e : Expr) → G ts e rest → F ts e rest) → ((ts rest : List Placed) (e : Expr) → GMore ts e rest → FMore ts e rest)
      → ((q : ℕ) (ts us rest : List Placed) (a b : Expr) → F ts a (tok q (word (spelling run)) ∷ us) → G us b rest → F ts (run.join a b) rest)
      → ((q : ℕ) (ts us rest : List Placed) (a b : Expr) → FMore ts a (tok q (word (spelling run)) ∷ us) → GMore us b rest → FMore ts (run.join a b) rest)
      → ((ts : List Placed) (e : Expr) (left : List Placed) → run.one ts ≡ got e left → G ts e left) → ((ts : List Placed) (p : ℕ) → run.one ts ≡ refused 4 p → Deep G GMore d ts p)
      → (ts : List Placed) (p : ℕ) → then (run.one ts) (λ a left. run.more (length left) a left) ≡ refused 4 p → Deep F FMore d ts p
  run_deep run F FMore G GMore pieced alone alone' joins joins' read one ts p h =
      then-refused (run.one ts) _ h
      (λ r. deep_on F FMore d d p ts ts (λ l. l) (λ l. l) (λ x. x) (λ g f. f) refl (λ us rest x y. alone us rest x y) (λ us rest x y. alone' us rest x y) (one ts p r))
      (λ a mid u v.
      run_keeps run (F ts) (λ r. r ≡ refused 4 p → Deep F FMore d ts p) (λ b us t k. got-refused k)
      (λ q b us t next k r.
      let w : Placed = tok q (word (spelling run)) in
      then-refused (run.one us) next r
      (λ o.
      deep_after F FMore d p ts us w b (run.join b) refl refl (λ vs ws rest c i j. joins q vs ws rest b c i j) (λ vs ws rest c i j. joins' q vs ws rest b c i j) (pieced ts (w ∷ us) b t) (one us p o))
      (λ c rest i j. k c rest (joins q ts us rest b c t (read us c rest i)) j))
      (length mid) a mid (alone ts mid a (read ts a mid u)) v)

  term_deep : (ts : List Placed) (p : ℕ) → read_term newer look within ts ≡ refused 4 p → Deep (TermIn newer look Inside) (TermIn newer look More) d ts p
  unfolding read_term
  term_deep =
      run_deep (and_run newer look within) (TermIn newer look Inside) (TermIn newer look More) (OperandIn newer look Inside) (OperandIn newer look More) (λ ts us e t. term_piece newer look Inside More piece t)
      (λ ts rest e o. one_operand o) (λ ts rest e o. one_operand o) (λ q ts us rest a b t o. and_operand t o) (λ q ts us rest a b t o. and_operand t o)
      (operand_got newer look within Inside sound) operand_deep

  expr_deep : (ts : List Placed) (p : ℕ) → read_expr newer look within ts ≡ refused 4 p → Deep (ExprIn newer look Inside) (ExprIn newer look More) d ts p
  unfolding read_expr
  expr_deep =
      run_deep (or_run newer look within) (ExprIn newer look Inside) (ExprIn newer look More) (TermIn newer look Inside) (TermIn newer look More) (λ ts us e t. expr_piece newer look Inside More piece t)
      (λ ts rest e o. one_term o) (λ ts rest e o. one_term o) (λ q ts us rest a b t o. or_term t o) (λ q ts us rest a b t o. or_term t o)
      (term_got newer look within Inside sound) term_deep

  path_deep : (ts : List Placed) (p : ℕ) → read_path newer look within ts ≡ refused 4 p → Deep (PathIn newer look Inside) (PathIn newer look More) d ts p
  unfolding read_path
  path_deep ts p h =
      chosen (sees slashes ts) h
      (λ c e.
      then-refused (read_steps newer look within (length (drop 1 ts)) (drop 1 ts)) _ e
      (λ r.
      deep_on (PathIn newer look Inside) (PathIn newer look More) d d p ts (drop 1 ts) (λ l. tok (at ts) slashes ∷ l) (λ l. l) deep (λ g f. front_cons (tok (at ts) slashes) refl refl f) (seen slashes ts refl c)
      (λ us rest s y. slashes_path y) (λ us rest s y. slashes_path y) (steps_deep (length (drop 1 ts)) (drop 1 ts) p r))
      (λ s mid u v. got-refused v))
      (λ c1 e1.
      chosen (sees slash ts) e1
      (λ c e.
      chosen (starts_step (next (drop 1 ts))) e
      (λ f r.
      deep_on (PathIn newer look Inside) (PathIn newer look More) d d p ts (drop 1 ts) (λ l. tok (at ts) slash ∷ l) (λ l. l) (λ s. s) (λ g k. front_cons (tok (at ts) slash) refl refl k) (seen slash ts refl c)
      (λ us rest s y. slash_path y) (λ us rest s y. slash_path y) (steps_deep (length (drop 1 ts)) (drop 1 ts) p r))
      (λ f r. got-refused r))
      (λ c e. three-four e))

  paths_deep : (n : ℕ) (ts : List Placed) (p : ℕ) → read_paths newer look within n ts ≡ refused 4 p → Deep (QueryIn newer look Inside) (QueryIn newer look More) d ts p
  paths_deep zero ts p h = three-four h
  paths_deep (suc n) ts p h =
      then-refused (read_path newer look within ts) _ h
      (λ r.
      deep_on (QueryIn newer look Inside) (QueryIn newer look More) d d p ts ts (λ l. l) (λ l. l) (λ s. record { first = s; others = [] }) (λ g f. f) refl (λ us rest s y. one_path y) (λ us rest s y. one_path y) (path_deep ts p r))
      (λ s mid u v.
      let g = path_got newer look within Inside sound ts s mid u in
      chosen (joins newer mid) v
      (λ c e.
      then-refused (read_paths newer look within n (drop 1 mid)) _ e
      (λ r.
      let j = joined newer look within Inside sound ts s mid u c in
      let plain = joins_plain j.1 in
      deep_after (QueryIn newer look Inside) (QueryIn newer look More) d p ts (drop 1 mid) (tok (at mid) j.0) s (λ q. record { first = s; others = paths q }) plain.0 plain.1
      (λ vs ws rest q y z. join_path j.1 y z) (λ vs ws rest q y z. join_path j.1 y z)
      (path_piece newer look Inside More piece (subst (λ l. PathIn newer look Inside ts s l) j.2 g)) (paths_deep n (drop 1 mid) p r))
      (λ q l k m. got-refused m))
      (λ c e. pass-four finish (record { first = s; others = [] }) mid e))

-- A name in a bracket.
name_in : (newer : Bool) (look : List ℕ → Option ℕ) → AllKnown look → (d : ℕ) → (x : Expr) × ((rest : List Placed) → Within newer look (suc d) (tok 0 (word (ascii "a")) ∷ rest) x rest)
name_in newer look known d = (_, λ rest. one_term (one_operand (path_operand (last_step_lem (child_step (name_test (known (ascii "a")).1) no_pred)))))

within_deep : (newer : Bool) (look : List ℕ → Option ℕ) → AllKnown look → (d q : ℕ) (ts : List Placed) (p : ℕ) → read_within newer look d q ts ≡ refused 4 p → DeepIn (Within newer look d) (Within newer look (suc d)) d q ts p
within_deep newer look known zero q ts p h = this_one refl (let e = h in cc)
within_deep newer look known (suc d) q ts p h =
    later_one d (omega arith)
    (expr_deep newer look known (read_within newer look d) (Within newer look d) (Within newer look (suc d)) d (within_got newer look d) (within_piece newer look d) (within_deep newer look known d) (name_in newer look known d) ts p h)

-- What a refusal 4 says of its bracket and the tokens before it.
pub reached : (newer : Bool) (look : List ℕ → Option ℕ) (d : ℕ) (ts : List Placed) (p : ℕ) → AllKnown look → reading newer look d ts ≡ refused 4 p → Reached newer look d ts p
reached newer look d ts p known h =
    let x = paths_deep newer look known (read_within newer look d) (Within newer look d) (Within newer look (suc d)) d (within_got newer look d) (within_piece newer look d) (within_deep newer look known d) (name_in newer look known d) (length ts) ts p h in
    let fin : List Placed = tok 0 finish ∷ [] in
    record {
      before = x.put [];
      token = x.token;
      after = x.after;
      split = x.split ∙ x.front.apart (x.token ∷ x.after);
      place = x.place;
      bracket = x.bracket;
      count = omega (arith, x.front.open_by []);
      fits = (x.fits.0 fin, x.fits.1, (0, subst (λ l. QueryIn newer look (Within newer look d) l x.fits.1 fin) (x.front.apart (x.fits.0 fin)) (x.fits.2 fin)));
      deeper = (x.deeper.0 fin, x.deeper.1, (0, subst (λ l. QueryIn newer look (Within newer look (suc d)) l x.deeper.1 fin) (x.front.apart (x.token ∷ x.deeper.0 fin)) (x.deeper.2 fin)));
    }
