-- What is derived stands on its own: its tokens, before any others, are those of the same thing, also where more brackets may be open; and each bracket that they open they close.
-- By induction over the derivation. Assumes nothing.
use Prim.Native.Nat.{ℕ, zero, suc, ◌+◌}
use native.Mathlib.Omega.{arith}
use mathlib.Core.Path.{◌≡◌, refl, sym, ◌∙◌, ap}
use mathlib.Core.Bool.{Bool}
use mathlib.Core.List.{List, [], ◌∷◌, ◌++◌, append_assoc}
use mathlib.Core.Option.{Option}
use Rattle.paper.specs.Tools.{ascii}
use Rattle.paper.specs.Tokens.{slash, slashes, dot, dots, colons, open_square, close_square, open_round, close_round, star, word, Placed}
use Rattle.paper.specs.Query.{Test, Expr, Steps, Preds}
use Rattle.paper.specs.Reading.{Step}
use Rattle.query_grammar.specs.Grammar.{tok, PredsIn, no_pred, one_pred, TestIn, star_test, node_test, text_test, name_test}
use Rattle.query_grammar.specs.Grammar.{DotIn, dot_alone, dot_preds, StepIn, dot_step, dots_step, child_step, axis_step, StepsIn, last_step_lem, slash_step, slashes_step}
use Rattle.query_grammar.specs.Grammar.{OperandIn, path_operand, round_operand, not_operand, TermIn, one_operand, and_operand, ExprIn, one_term, or_term}
use Rattle.query_grammar.specs.Grammar.{PathIn, root_path, slash_path, slashes_path, Within}
use Rattle.query_refusals.specs.Refusals.{opened, closed}

-- Tokens put before others, which leave so many brackets open.
pub record Front (n : ℕ) (h : List Placed → List Placed) : Type 0 where
  pub apart : (us : List Placed) → h us ≡ h [] ++ us
  pub open_by : (us : List Placed) → opened (h us) + closed us ≡ closed (h us) + opened us + n

pub front_none : Front 0 (λ us. us)
front_none = record { apart = λ us. refl; open_by = λ us. omega arith }

pub front_cons : {n : ℕ} {h : List Placed → List Placed} (t : Placed) → opened (t ∷ []) ≡ 0 → closed (t ∷ []) ≡ 0 → Front n h → Front n (λ us. t ∷ h us)
front_cons t o c f = record { apart = λ us. ap (λ l. t ∷ l) (f.apart us); open_by = λ us. omega (arith, f.open_by us) }

pub front_open : {n : ℕ} {h : List Placed → List Placed} (t : Placed) → opened (t ∷ []) ≡ 1 → closed (t ∷ []) ≡ 0 → Front n h → Front (1 + n) (λ us. t ∷ h us)
front_open t o c f = record { apart = λ us. ap (λ l. t ∷ l) (f.apart us); open_by = λ us. omega (arith, f.open_by us) }

pub front_close : {n : ℕ} {h : List Placed → List Placed} (t : Placed) → opened (t ∷ []) ≡ 0 → closed (t ∷ []) ≡ 1 → Front (1 + n) h → Front n (λ us. h (t ∷ us))
front_close {h = h} t o c f =
    record {
      apart = λ us. f.apart (t ∷ us) ∙ sym (append_assoc (h []) (t ∷ []) us) ∙ ap (λ l. l ++ us) (sym (f.apart (t ∷ [])));
      open_by = λ us. omega (arith, f.open_by (t ∷ us));
    }

pub front_then : {n : ℕ} {g h : List Placed → List Placed} → Front 0 g → Front n h → Front n (λ us. g (h us))
front_then {g = g} {h = h} e f =
    record {
      apart = λ us. e.apart (h us) ∙ ap (λ l. g [] ++ l) (f.apart us) ∙ sym (append_assoc (g []) (h []) us) ∙ ap (λ l. l ++ us) (sym (e.apart (h [])));
      open_by = λ us. omega (arith, e.open_by (h us), f.open_by us);
    }

-- The tokens of a thing, before any others.
pub record Piece {X : Type 0} (F Deeper : List Placed → X → List Placed → Type 0) (ts : List Placed) (x : X) (rest : List Placed) : Type 0 where
  pub put : List Placed → List Placed
  pub front : Front 0 put
  pub split : ts ≡ put rest
  pub here : (us : List Placed) → F (put us) x us
  pub deeper : (us : List Placed) → Deeper (put us) x us

-- A thing made of another by tokens before and after it that leave no bracket open;
wrapped_piece : {X Y : Type 0} {F FDeeper : List Placed → X → List Placed → Type 0} {G GDeeper : List Placed → Y → List Placed → Type 0} {ts rest : List Placed} {x : X} {y : Y}
    (lead tail : List Placed → List Placed) → ((h : List Placed → List Placed) → Front 0 h → Front 0 (λ us. lead (h (tail us))))
    → ((us vs : List Placed) → F us x (tail vs) → G (lead us) y vs) → ((us vs : List Placed) → FDeeper us x (tail vs) → GDeeper (lead us) y vs)
    → Piece F FDeeper ts x (tail rest) → Piece G GDeeper (lead ts) y rest
wrapped_piece lead tail wrap made made' a =
    record {
      put = λ us. lead (a.put (tail us));
      front = wrap a.put a.front;
      split = ap lead a.split;
      here = λ us. made (a.put (tail us)) us (a.here (tail us));
      deeper = λ us. made' (a.put (tail us)) us (a.deeper (tail us));
    }

-- or of two, with such tokens between them.
two_pieces : {X Y Z : Type 0} {F FDeeper : List Placed → X → List Placed → Type 0} {G GDeeper : List Placed → Y → List Placed → Type 0} {H HDeeper : List Placed → Z → List Placed → Type 0}
    {ts us rest : List Placed} {x : X} {y : Y} {z : Z} (between : List Placed → List Placed) → Front 0 between
    → ((vs ws rs : List Placed) → F vs x (between ws) → G ws y rs → H vs z rs) → ((vs ws rs : List Placed) → FDeeper vs x (between ws) → GDeeper ws y rs → HDeeper vs z rs)
    → Piece F FDeeper ts x (between us) → Piece G GDeeper us y rest → Piece H HDeeper ts z rest
two_pieces between f made made' a b =
    record {
      put = λ us. a.put (between (b.put us));
      front = front_then a.front (front_then f b.front);
      split = a.split ∙ ap (λ l. a.put (between l)) b.split;
      here = λ us. made (a.put (between (b.put us))) (b.put us) us (a.here (between (b.put us))) (b.here us);
      deeper = λ us. made' (a.put (between (b.put us))) (b.put us) us (a.deeper (between (b.put us))) (b.deeper us);
    }

module _ (newer : Bool) (look : List ℕ → Option ℕ) (Inside More : List Placed → Expr → List Placed → Type 0)
    (inside : (ts : List Placed) (e : Expr) (rest : List Placed) → Inside ts e rest → Piece Inside More ts e rest) where
  pub preds_piece : {ts rest : List Placed} {ps : Preds} → PredsIn newer look Inside ts ps rest → Piece (PredsIn newer look Inside) (PredsIn newer look More) ts ps rest
  preds_piece no_pred = record { put = λ us. us; front = front_none; split = refl; here = λ us. no_pred; deeper = λ us. no_pred }
  preds_piece (one_pred {p = p} {q = q} i d) =
      let e = inside _ _ _ i in
      let f = preds_piece d in
      record {
        put = λ us. tok p open_square ∷ e.put (tok q close_square ∷ f.put us);
        front = front_then (front_close (tok q close_square) refl refl (front_open (tok p open_square) refl refl e.front)) f.front;
        split = ap (λ l. tok p open_square ∷ l) (e.split ∙ ap (λ l. e.put (tok q close_square ∷ l)) f.split);
        here = λ us. one_pred (e.here (tok q close_square ∷ f.put us)) (f.here us);
        deeper = λ us. one_pred (e.deeper (tok q close_square ∷ f.put us)) (f.deeper us);
      }

  call_piece : {rest : List Placed} {t : Test} (w : List ℕ) (p q r : ℕ) → ((us : List Placed) → TestIn newer look Inside (tok p (word w) ∷ tok q open_round ∷ tok r close_round ∷ us) t us)
      → ((us : List Placed) → TestIn newer look More (tok p (word w) ∷ tok q open_round ∷ tok r close_round ∷ us) t us)
      → Piece (TestIn newer look Inside) (TestIn newer look More) (tok p (word w) ∷ tok q open_round ∷ tok r close_round ∷ rest) t rest
  call_piece w p q r here deeper =
      record {
        put = λ us. tok p (word w) ∷ tok q open_round ∷ tok r close_round ∷ us;
        front = front_cons (tok p (word w)) refl refl (front_close (tok r close_round) refl refl (front_open (tok q open_round) refl refl front_none));
        split = refl;
        here = here;
        deeper = deeper;
      }

  test_piece : {ts rest : List Placed} {t : Test} → TestIn newer look Inside ts t rest → Piece (TestIn newer look Inside) (TestIn newer look More) ts t rest
  test_piece (star_test {p = p}) = record { put = λ us. tok p star ∷ us; front = front_cons (tok p star) refl refl front_none; split = refl; here = λ us. star_test; deeper = λ us. star_test }
  test_piece (node_test {p = p} {q = q} {r = r}) = call_piece (ascii "node") p q r (λ us. node_test) (λ us. node_test)
  test_piece (text_test {p = p} {q = q} {r = r}) = call_piece (ascii "text") p q r (λ us. text_test) (λ us. text_test)
  test_piece (name_test {p = p} {w = w} h) =
      record { put = λ us. tok p (word w) ∷ us; front = front_cons (tok p (word w)) refl refl front_none; split = refl; here = λ us. name_test h; deeper = λ us. name_test h }

  dot_piece : {ts rest : List Placed} {ps : Preds} → DotIn newer look Inside ts ps rest → Piece (DotIn newer look Inside) (DotIn newer look More) ts ps rest
  dot_piece dot_alone = record { put = λ us. us; front = front_none; split = refl; here = λ us. dot_alone; deeper = λ us. dot_alone }
  dot_piece (dot_preds v d) = wrapped_piece (λ us. us) (λ us. us) (λ h f. f) (λ us vs a. dot_preds v a) (λ us vs a. dot_preds v a) (preds_piece d)

  pub step_piece : {ts rest : List Placed} {s : Step} → StepIn newer look Inside ts s rest → Piece (StepIn newer look Inside) (StepIn newer look More) ts s rest
  step_piece (dot_step {p = p} d) =
      wrapped_piece (λ us. tok p dot ∷ us) (λ us. us) (λ h f. front_cons (tok p dot) refl refl f) (λ us vs a. dot_step a) (λ us vs a. dot_step a) (dot_piece d)
  step_piece (dots_step {p = p} d) =
      wrapped_piece (λ us. tok p dots ∷ us) (λ us. us) (λ h f. front_cons (tok p dots) refl refl f) (λ us vs a. dots_step a) (λ us vs a. dots_step a) (dot_piece d)
  step_piece (child_step d f) = two_pieces (λ us. us) front_none (λ vs ws rs a b. child_step a b) (λ vs ws rs a b. child_step a b) (test_piece d) (preds_piece f)
  step_piece (axis_step {p = p} {q = q} {w = w} n d f) =
      let a = test_piece d in
      let b = preds_piece f in
      record {
        put = λ us. tok p (word w) ∷ tok q colons ∷ a.put (b.put us);
        front = front_cons (tok p (word w)) refl refl (front_cons (tok q colons) refl refl (front_then a.front b.front));
        split = ap (λ l. tok p (word w) ∷ tok q colons ∷ l) (a.split ∙ ap a.put b.split);
        here = λ us. axis_step n (a.here (b.put us)) (b.here us);
        deeper = λ us. axis_step n (a.deeper (b.put us)) (b.deeper us);
      }

  pub steps_piece : {ts rest : List Placed} {s : Steps} → StepsIn newer look Inside ts s rest → Piece (StepsIn newer look Inside) (StepsIn newer look More) ts s rest
  steps_piece (last_step_lem d) = wrapped_piece (λ us. us) (λ us. us) (λ h f. f) (λ us vs a. last_step_lem a) (λ us vs a. last_step_lem a) (step_piece d)
  steps_piece (slash_step {p = p} d f) =
      two_pieces (λ us. tok p slash ∷ us) (front_cons (tok p slash) refl refl front_none) (λ vs ws rs a b. slash_step a b) (λ vs ws rs a b. slash_step a b) (step_piece d) (steps_piece f)
  steps_piece (slashes_step {p = p} d f) =
      two_pieces (λ us. tok p slashes ∷ us) (front_cons (tok p slashes) refl refl front_none) (λ vs ws rs a b. slashes_step a b) (λ vs ws rs a b. slashes_step a b) (step_piece d) (steps_piece f)

  pub operand_piece : {ts rest : List Placed} {e : Expr} → OperandIn newer look Inside ts e rest → Piece (OperandIn newer look Inside) (OperandIn newer look More) ts e rest
  operand_piece (path_operand d) = wrapped_piece (λ us. us) (λ us. us) (λ h f. f) (λ us vs a. path_operand a) (λ us vs a. path_operand a) (steps_piece d)
  operand_piece (round_operand {p = p} {q = q} i) =
      wrapped_piece (λ us. tok p open_round ∷ us) (λ us. tok q close_round ∷ us) (λ h f. front_close (tok q close_round) refl refl (front_open (tok p open_round) refl refl f))
      (λ us vs a. round_operand a) (λ us vs a. round_operand a) (inside _ _ _ i)
  operand_piece (not_operand {p = p} {q = q} {r = r} i) =
      wrapped_piece (λ us. tok p (word (ascii "not")) ∷ tok q open_round ∷ us) (λ us. tok r close_round ∷ us)
      (λ h f. front_cons (tok p (word (ascii "not"))) refl refl (front_close (tok r close_round) refl refl (front_open (tok q open_round) refl refl f)))
      (λ us vs a. not_operand a) (λ us vs a. not_operand a) (inside _ _ _ i)

  pub term_piece : {ts rest : List Placed} {e : Expr} → TermIn newer look Inside ts e rest → Piece (TermIn newer look Inside) (TermIn newer look More) ts e rest
  term_piece (one_operand d) = wrapped_piece (λ us. us) (λ us. us) (λ h f. f) (λ us vs a. one_operand a) (λ us vs a. one_operand a) (operand_piece d)
  term_piece (and_operand {p = p} d f) =
      two_pieces (λ us. tok p (word (ascii "and")) ∷ us) (front_cons (tok p (word (ascii "and"))) refl refl front_none)
      (λ vs ws rs a b. and_operand a b) (λ vs ws rs a b. and_operand a b) (term_piece d) (operand_piece f)

  pub expr_piece : {ts rest : List Placed} {e : Expr} → ExprIn newer look Inside ts e rest → Piece (ExprIn newer look Inside) (ExprIn newer look More) ts e rest
  expr_piece (one_term d) = wrapped_piece (λ us. us) (λ us. us) (λ h f. f) (λ us vs a. one_term a) (λ us vs a. one_term a) (term_piece d)
  expr_piece (or_term {p = p} d f) =
      two_pieces (λ us. tok p (word (ascii "or")) ∷ us) (front_cons (tok p (word (ascii "or"))) refl refl front_none)
      (λ vs ws rs a b. or_term a b) (λ vs ws rs a b. or_term a b) (expr_piece d) (term_piece f)

  pub path_piece : {ts rest : List Placed} {s : Steps} → PathIn newer look Inside ts s rest → Piece (PathIn newer look Inside) (PathIn newer look More) ts s rest
  path_piece (root_path {p = p}) = record { put = λ us. tok p slash ∷ us; front = front_cons (tok p slash) refl refl front_none; split = refl; here = λ us. root_path; deeper = λ us. root_path }
  path_piece (slash_path {p = p} d) =
      wrapped_piece (λ us. tok p slash ∷ us) (λ us. us) (λ h f. front_cons (tok p slash) refl refl f) (λ us vs a. slash_path a) (λ us vs a. slash_path a) (steps_piece d)
  path_piece (slashes_path {p = p} d) =
      wrapped_piece (λ us. tok p slashes ∷ us) (λ us. us) (λ h f. front_cons (tok p slashes) refl refl f) (λ us vs a. slashes_path a) (λ us vs a. slashes_path a) (steps_piece d)

pub within_piece : (newer : Bool) (look : List ℕ → Option ℕ) (d : ℕ) (ts : List Placed) (e : Expr) (rest : List Placed) → Within newer look d ts e rest → Piece (Within newer look d) (Within newer look (suc d)) ts e rest
within_piece newer look zero ts e rest i = absurd i
within_piece newer look (suc d) ts e rest i = expr_piece newer look (Within newer look d) (Within newer look (suc d)) (within_piece newer look d) i
