-- Each reader decides by the tokens that it takes and the one after them, where every name is known.
-- Reader by reader, in the order in which they are made of each other; runs by induction over the tokens left. Assumes nothing.
use Prim.Native.Nat.{ℕ, zero, suc, ◌≤◌, ◌<◌}
use native.Mathlib.Omega.{arith}
use mathlib.Core.Path.{◌≡◌, refl, sym, ◌∙◌, ap, ap₂, subst}
use mathlib.Core.Bool.{Bool, true, false, ◌&&◌, ◌||◌, cond, false≢true}
use mathlib.Core.List.{List, [], ◌∷◌, ◌++◌, append_assoc}
use mathlib.Core.Logic.{◌⊎◌, inl, inr}
use mathlib.Core.Option.{Option, none, some}
use lib.ListN.{length, drop, length-append}
use Rattle.paper.specs.Tools.{ascii, same}
use Rattle.paper.specs.Tokens.{Token, slash, slashes, dot, dots, colons, bar, open_square, close_square, open_round, close_round, star, finish, stray, word, is, letters, Placed}
use Rattle.paper.specs.Query.{Axis, self, child, parent, Test, any_node, text_node, named, any_element}
use Rattle.paper.specs.Query.{Expr, path, negated, Steps, stop, Preds, bare, pred, Query, paths}
use Rattle.paper.specs.Reading.{Got, got, refused, then, next, at, sees, says, wrong, pass, axis_named, axis_ahead, Step, before, deep, starts_step, joins}
use Rattle.paper.specs.Reading.{read_tail, read_tested, read_dot, read_step, read_operand, read_term, read_expr, read_path}
use Rattle.paper.proofs.Tests.{and_true, none-some}
use Rattle.paper.proofs.Refusing.{or_none}
use Rattle.paper.proofs.Same.{same_equal, same_refl}
use Rattle.query_grammar.specs.Grammar.{tok, ended}
use Rattle.query_grammar.proofs.Seeing.{same_sort, not_word, seen, said, chosen}
use Rattle.query_grammar.proofs.Leaving.{Leaves}
use Rattle.query_grammar.proofs.Runs.{Run, spelling, and_run, or_run}
use Rattle.query_grammar.proofs.Fuel.{all_preds, all_steps, all_run, run_turn, all_paths, preds_on, steps_on, ands_on, ors_on, paths_on}
use Rattle.query_grammar.proofs.Complete.{and_false, square_done, round_done}
use Rattle.query_refusals.proofs.Local.{Alike, Shuts, Follows, like, shut, Unended, Fails, Local, takes, fails, Default}
use Rattle.query_refusals.proofs.Local.{local_cons, local_same, local_when, local_got, local_then, local_map, local_pass, default_pass}

-- Tokens that end whatever was read before them.
square_shuts : (p : ℕ) (us : List Placed) → Shuts (tok p close_square ∷ us)
square_shuts p us = record { done = square_done p us; no_step = refl }

round_shuts : (p : ℕ) (us : List Placed) → Shuts (tok p close_round ∷ us)
round_shuts p us = record { done = round_done p us; no_step = refl }

-- What the next token says stays so.
follow : {B : Type 0} {b : B} (test : Token → B) {ts us : List Placed} → Follows ts us → test (next ts) ≡ b → (Shuts us → test (next us) ≡ b) → test (next us) ≡ b
follow test (like a) h k = ap test (sym a.token) ∙ h
follow test (shut s) h k = k s

alike_cons : (p : ℕ) (t : Token) (ts us : List Placed) → Alike (tok p t ∷ ts) us → is finish t ≡ false → us ≡ tok p t ∷ drop 1 us
alike_cons p t ts [] a n = absurd (false≢true (sym n ∙ ap (is finish) a.token))
alike_cons p t ts (u ∷ us) a n = ap₂ (λ x y. tok x y ∷ us) (sym a.place) (sym a.token)

shorter : (us used left : List Placed) → us ≡ used ++ left → length left ≤ length us
shorter us used left s = omega (arith, simp length-append at (ap length s))

default_map : {A B : Type 0} (g : A → B) {f : List Placed → Got A} → Default f → Default (λ us. then (f us) (λ a. got (g a)))
default_map g d = record { more = d.more; value = g d.value; open_end = d.open_end; shuts = d.shuts; reads = λ us s. ap (λ r. then r (λ a. got (g a))) (d.reads us s) }

-- What starts no step is none of the tokens that do.
record Stuck (t : Token) : Type 0 where
  no_word : is (word []) t ≡ false
  no_star : is star t ≡ false
  no_dot : is dot t ≡ false
  no_dots : is dots t ≡ false

stuck : (t : Token) → starts_step t ≡ false → Stuck t
stuck t h =
    let three = or_none (is (word []) t || is star t || is dot t) (is dots t) h in
    let two = or_none (is (word []) t || is star t) (is dot t) three.0 in
    let one = or_none (is (word []) t) (is star t) two.0 in
    record { no_word = one.0; no_star = one.1; no_dot = two.1; no_dots = three.1 }

-- What starts a step is not `(`, and no end.
starts_plain : (t : Token) → starts_step t ≡ true → (is open_round t ≡ false) × (is finish t ≡ false)
starts_plain slash h = (refl, refl)
starts_plain slashes h = (refl, refl)
starts_plain dot h = (refl, refl)
starts_plain dots h = (refl, refl)
starts_plain colons h = (refl, refl)
starts_plain bar h = (refl, refl)
starts_plain open_square h = (refl, refl)
starts_plain close_square h = (refl, refl)
starts_plain open_round h = absurd (false≢true h)
starts_plain close_round h = (refl, refl)
starts_plain star h = (refl, refl)
starts_plain finish h = absurd (false≢true h)
starts_plain stray h = (refl, refl)
starts_plain (word w) h = (refl, refl)

-- What joins paths is a token, and no end.
joins_head : (newer : Bool) (ts : List Placed) → joins newer ts ≡ true → ts ≡ tok (at ts) (next ts) ∷ drop 1 ts
joins_head newer [] h = absurd (false≢true h)
joins_head newer (t ∷ ts) h = refl

joins_on : (newer : Bool) (ts : List Placed) → joins newer ts ≡ true → is finish (next ts) ≡ false
joins_on newer ts h = go (is finish (next ts)) refl
  where
    go : (b : Bool) → is finish (next ts) ≡ b → is finish (next ts) ≡ false
    go true e =
        let end : next ts ≡ finish = sym (same_sort finish (next ts) e) in
        absurd (false≢true (sym (ap (λ x. is bar x || (same (ascii "union") (letters x) && newer)) end) ∙ h))
    go false e = e

no_axis : (b : Bool) → ◌≡◌ {A = Option Axis} (cond b none none) none
no_axis true = refl
no_axis false = refl

-- A reader that refuses its first token.
refuses : {A : Type 0} {f : List Placed → Got A} (ts : List Placed) → ((us : List Placed) → next us ≡ next ts → f us ≡ wrong us)
    → (t : Token) (a : A) → is finish t ≡ false → ((us : List Placed) → Shuts us → f (tok 0 t ∷ us) ≡ got a us) → Local false f ts
refuses ts h t a n c =
    fails 3 (at ts)
    (record {
      used = [];
      left = ts;
      split = refl;
      unended = λ us. refl;
      number = inl refl;
      there = refl;
      stands = λ us o. h us (sym o.token) ∙ ap (refused 3) (sym o.place);
      completion = λ three. record { more = tok 0 t ∷ []; value = a; open_end = λ us. rw n; reads = c; mild = λ us s. tt };
    })

-- What stands in a bracket at a place is read so, or the bracket is one too many.
pub data Bracket (within : ℕ → List Placed → Got Expr) (p : ℕ) (ts : List Placed) : Type 0 where
  opens : Local false (within p) ts → Bracket within p ts
  too_many : ((us : List Placed) → within p us ≡ refused 4 p) → Bracket within p ts

local_bracket : {A : Type 0} {f : List Placed → Got A} (within : ℕ → List Placed → Got Expr) (after : List Placed → Got A) (p : ℕ) (t : Token) (ts : List Placed) → is finish t ≡ false
    → ((us : List Placed) → f (tok p t ∷ us) ≡ after us) → (Local false (within p) ts → Local false after ts) → ((us : List Placed) → within p us ≡ refused 4 p → after us ≡ refused 4 p)
    → Bracket within p ts → Local true f (tok p t ∷ ts)
local_bracket within after p t ts n e o c (opens l) = local_cons after (tok p t) n e (o l)
local_bracket {f = f} within after p t ts n e o c (too_many h) =
    fails 4 p
    (record {
      used = [];
      left = tok p t ∷ ts;
      split = refl;
      unended = λ us. refl;
      number = inr refl;
      there = refl;
      stands = λ us a. ap f (alike_cons p t ts us a n) ∙ e (drop 1 us) ∙ c (drop 1 us) (h (drop 1 us));
      completion = λ three. absurd (omega arith);
    })

module _ (newer : Bool) (look : List ℕ → Option ℕ) (total : (w : List ℕ) → (v : ℕ) × (look w ≡ some v)) (within : ℕ → List Placed → Got Expr)
    (Read : List Placed → Expr → List Placed → Type 0)
    (sound : (p : ℕ) (ts : List Placed) (e : Expr) (left : List Placed) → within p ts ≡ got e left → Read ts e left)
    (leaves : (ts : List Placed) (e : Expr) (rest : List Placed) → Read ts e rest → Leaves ts rest)
    (inside : (p : ℕ) (ts : List Placed) → Bracket within p ts) where
  -- Predicates.
  default_preds : Default (all_preds newer look within)
  default_preds = record { more = []; value = bare; open_end = λ us. refl; shuts = λ us s. s; reads = λ us s. preds_on newer look within Read sound leaves us ∙ rw s.done.over.stepped.square }

  preds-turn : (n : ℕ) → ((us : List Placed) → length us < n → Local true (all_preds newer look within) us) → (ts : List Placed) → length ts < suc n → Local true (all_preds newer look within) ts
  preds-turn n rec ts l = go (sees open_square ts) refl
    where
      after : List Placed → Got Preds
      after us = then (then (within (at ts) us) (pass close_square)) (λ e left. then (all_preds newer look within left) (λ ps. got (pred e ps)))

      go : (b : Bool) → sees open_square ts ≡ b → Local true (all_preds newer look within) ts
      go true h =
          let head = seen open_square ts refl h in
          let one : length ts ≡ suc (length (drop 1 ts)) = ap length head in
          subst (λ m. Local true (all_preds newer look within) m) (sym head)
          (local_bracket within after (at ts) open_square (drop 1 ts) refl (λ us. preds_on newer look within Read sound leaves (tok (at ts) open_square ∷ us))
          (λ m.
          local_then (λ e left. then (all_preds newer look within left) (λ ps. got (pred e ps)))
          (local_then (pass close_square) m (λ e used left s. local_pass close_square refl refl refl (λ w. refl) square_shuts e left)
          (λ e. default_pass close_square refl refl refl (λ w. refl) square_shuts e))
          (λ e used left s. local_map (pred e) (rec left (omega (arith, shorter (drop 1 ts) used left s))))
          (λ e. default_map (pred e) default_preds))
          (λ us c. rw c)
          (inside (at ts) (drop 1 ts)))
      go false h =
          takes bare [] ts refl (λ us. refl)
          (λ us f. preds_on newer look within Read sound leaves us ∙ rw (follow (is open_square) f h (λ s. s.done.over.stepped.square)))

  local_preds_below : (n : ℕ) (ts : List Placed) → length ts < n → Local true (all_preds newer look within) ts
  local_preds_below zero ts l = absurd (omega arith)
  local_preds_below (suc n) ts l = preds-turn n (λ us m. local_preds_below n us m) ts l

  local_tail : (a : Axis) (t : Test) (ts : List Placed) → Local true (read_tail newer look within a t) ts
  unfolding read_tail all_preds
  local_tail a t ts = local_map (λ ps. record { axis = a; test = t; preds = ps }) (local_preds_below (suc (length ts)) ts (omega arith))

  default_tail : (a : Axis) (t : Test) → Default (read_tail newer look within a t)
  unfolding read_tail all_preds
  default_tail a t = default_map (λ ps. record { axis = a; test = t; preds = ps }) default_preds

  -- A test and what follows, where a word comes first.
  local_call : (a : Axis) (t : Test) (ts : List Placed) → Local true (λ us. then (pass close_round t us) (read_tail newer look within a)) ts
  local_call a t ts =
      local_then (read_tail newer look within a) (local_pass close_round refl refl refl (λ w. refl) round_shuts t ts) (λ x used left s. local_tail a x left) (λ x. default_tail a x)

  local_named : (a : Axis) (p : ℕ) (w : List ℕ) (ts : List Placed) → Local true (λ us. read_tested newer look within a (tok p (word w) ∷ us)) ts
  unfolding read_tested
  local_named a p w ts = node (sees open_round ts && same (ascii "node") w) refl
    where
      name : (sees open_round ts && same (ascii "node") w) ≡ false → (sees open_round ts && same (ascii "text") w) ≡ false
          → Local true (λ us. read_tested newer look within a (tok p (word w) ∷ us)) ts
      name h k =
          let v = total w in
          local_when (read_tail newer look within a (named v.0))
          (λ us f.
          rw (follow (λ x. is open_round x && same (ascii "node") w) f h (λ s. rw s.done.over.stepped.round), follow (λ x. is open_round x && same (ascii "text") w) f k (λ s. rw s.done.over.stepped.round), v.1))
          (local_tail a (named v.0) ts)

      text : (b : Bool) → (sees open_round ts && same (ascii "text") w) ≡ b → (sees open_round ts && same (ascii "node") w) ≡ false
          → Local true (λ us. read_tested newer look within a (tok p (word w) ∷ us)) ts
      text true h k =
          let b = and_true (sees open_round ts) (same (ascii "text") w) h in
          subst (λ x. Local true (λ us. read_tested newer look within a (tok p (word x) ∷ us)) ts) (same_equal (ascii "text") w b.1)
          (subst (λ l. Local true (λ us. read_tested newer look within a (tok p (word (ascii "text")) ∷ us)) l) (sym (seen open_round ts refl b.0))
          (local_cons (λ us. then (pass close_round text_node us) (read_tail newer look within a)) (tok (at ts) open_round) refl (λ us. refl) (local_call a text_node (drop 1 ts))))
      text false h k = name k h

      node : (b : Bool) → (sees open_round ts && same (ascii "node") w) ≡ b → Local true (λ us. read_tested newer look within a (tok p (word w) ∷ us)) ts
      node true h =
          let b = and_true (sees open_round ts) (same (ascii "node") w) h in
          subst (λ x. Local true (λ us. read_tested newer look within a (tok p (word x) ∷ us)) ts) (same_equal (ascii "node") w b.1)
          (subst (λ l. Local true (λ us. read_tested newer look within a (tok p (word (ascii "node")) ∷ us)) l) (sym (seen open_round ts refl b.0))
          (local_cons (λ us. then (pass close_round any_node us) (read_tail newer look within a)) (tok (at ts) open_round) refl (λ us. refl) (local_call a any_node (drop 1 ts))))
      node false h = text (sees open_round ts && same (ascii "text") w) refl h

  -- A name that completes a step.
  name_reads : (a : Axis) (us : List Placed) → Shuts us → read_tested newer look within a (tok 0 (word (ascii "a")) ∷ us) ≡ got (record { axis = a; test = named (total (ascii "a")).0; preds = bare }) us
  unfolding read_tested default_tail default_map default_preds
  name_reads a us s = rw (s.done.over.stepped.round, (total (ascii "a")).1) ((default_tail a (named (total (ascii "a")).0)).reads us s)

  no_test : (a : Axis) (us : List Placed) → is star (next us) ≡ false → is (word []) (next us) ≡ false → read_tested newer look within a us ≡ wrong us
  unfolding read_tested
  no_test a us s w =
      let n : letters (next us) ≡ [] = not_word (next us) w in
      let node : (sees open_round (drop 1 us) && says (ascii "node") us) ≡ false = rw n (and_false (sees open_round (drop 1 us))) in
      let text : (sees open_round (drop 1 us) && says (ascii "text") us) ≡ false = rw n (and_false (sees open_round (drop 1 us))) in
      rw (s, node, text, w)

  -- Test and predicates.
  local_tested : (a : Axis) (ts : List Placed) → Local false (read_tested newer look within a) ts
  unfolding read_tested
  local_tested a ts = starred (sees star ts) refl
    where
      wordy : (b : Bool) → sees (word []) ts ≡ b → sees star ts ≡ false → Local false (read_tested newer look within a) ts
      wordy true h k =
          subst (λ l. Local false (read_tested newer look within a) l) (sym (seen (word []) ts refl h))
          (local_cons (λ us. read_tested newer look within a (tok (at ts) (word (letters (next ts))) ∷ us)) (tok (at ts) (word (letters (next ts)))) refl (λ us. refl) (local_named a (at ts) (letters (next ts)) (drop 1 ts)))
      wordy false h k =
          refuses ts (λ us e. no_test a us (ap (is star) e ∙ k) (ap (is (word [])) e ∙ h)) (word (ascii "a")) (record { axis = a; test = named (total (ascii "a")).0; preds = bare }) refl
          (λ us s. name_reads a us s)

      starred : (b : Bool) → sees star ts ≡ b → Local false (read_tested newer look within a) ts
      starred true h =
          subst (λ l. Local false (read_tested newer look within a) l) (sym (seen star ts refl h))
          (local_cons (read_tail newer look within a any_element) (tok (at ts) star) refl (λ us. refl) (local_tail a any_element (drop 1 ts)))
      starred false h = wordy (sees (word []) ts) refl h

  -- A step, by its first token.
  local_step_word : (p : ℕ) (w : List ℕ) (ts : List Placed) → Local true (λ us. read_step newer look within (tok p (word w) ∷ us)) ts
  unfolding read_step
  local_step_word p w ts = go (axis_ahead (tok p (word w) ∷ ts)) refl
    where
      go : (o : Option Axis) → axis_ahead (tok p (word w) ∷ ts) ≡ o → Local true (λ us. read_step newer look within (tok p (word w) ∷ us)) ts
      go none h =
          local_when (λ us. read_tested newer look within child (tok p (word w) ∷ us))
          (λ us f. rw (follow (λ x. cond (is colons x) (axis_named w) none) f h (λ s. rw s.done.over.stepped.colon)))
          (local_named child p w ts)
      go (some a) h =
          chosen (sees colons ts) h
          (λ c e.
          subst (λ l. Local true (λ us. read_step newer look within (tok p (word w) ∷ us)) l) (sym (seen colons ts refl c))
          (local_cons (read_tested newer look within a) (tok (at ts) colons) refl (λ us. rw e) (local_tested a (drop 1 ts))))
          (λ c e. none-some e)

  local_dot : (a : Axis) (ts : List Placed) → Local true (read_dot newer look within a) ts
  local_dot a ts = go newer refl
    where
      go : (b : Bool) → newer ≡ b → Local true (read_dot newer look within a) ts
      go true n = local_same (read_tail newer look within a any_node) (λ us. rw n) (local_tail a any_node ts)
      go false n = local_same (got (record { axis = a; test = any_node; preds = bare })) (λ us. rw n) (local_got (record { axis = a; test = any_node; preds = bare }) ts)

  local_step : (p : ℕ) (t : Token) (ts : List Placed) → starts_step t ≡ true → Local true (λ us. read_step newer look within (tok p t ∷ us)) ts
  unfolding read_step read_tested
  local_step p slash ts h = absurd (false≢true h)
  local_step p slashes ts h = absurd (false≢true h)
  local_step p dot ts h = local_dot self ts
  local_step p dots ts h = local_dot parent ts
  local_step p colons ts h = absurd (false≢true h)
  local_step p bar ts h = absurd (false≢true h)
  local_step p open_square ts h = absurd (false≢true h)
  local_step p close_square ts h = absurd (false≢true h)
  local_step p open_round ts h = absurd (false≢true h)
  local_step p close_round ts h = absurd (false≢true h)
  local_step p star ts h = local_same (read_tail newer look within child any_element) (λ us. rw (no_axis (sees colons us))) (local_tail child any_element ts)
  local_step p finish ts h = absurd (false≢true h)
  local_step p stray ts h = absurd (false≢true h)
  local_step p (word w) ts h = local_step_word p w ts

  no_step : (us : List Placed) → starts_step (next us) ≡ false → read_step newer look within us ≡ wrong us
  unfolding read_step
  no_step us h =
      let k = stuck (next us) h in
      let n : axis_ahead us ≡ none = rw (not_word (next us) k.no_word) (no_axis (sees colons (drop 1 us))) in
      rw (k.no_dot, k.no_dots, n) (no_test child us k.no_star k.no_word)

  -- What follows a step.
  go_on : Step → List Placed → Got Steps
  go_on s left =
      cond (sees slash left) (then (all_steps newer look within (drop 1 left)) (λ rest. got (before s rest)))
      (cond (sees slashes left) (then (all_steps newer look within (drop 1 left)) (λ rest. got (before s (deep rest)))) (got (before s stop) left))

  default_on : (s : Step) → Default (go_on s)
  unfolding go_on
  default_on s = record { more = []; value = before s stop; open_end = λ us. refl; shuts = λ us c. c; reads = λ us c. rw (c.done.over.one, c.done.over.two) }

  local_on : (n : ℕ) → ((us : List Placed) → length us < n → Local false (all_steps newer look within) us) → (s : Step) (ts : List Placed) → length ts ≤ n → Local true (go_on s) ts
  unfolding go_on
  local_on n rec s ts l = go (sees slash ts) refl
    where
      two : (b : Bool) → sees slashes ts ≡ b → sees slash ts ≡ false → Local true (go_on s) ts
      two true h k =
          let head = seen slashes ts refl h in
          let one : length ts ≡ suc (length (drop 1 ts)) = ap length head in
          subst (λ m. Local true (go_on s) m) (sym head)
          (local_cons (λ us. then (all_steps newer look within us) (λ rest. got (before s (deep rest)))) (tok (at ts) slashes) refl (λ us. refl) (local_map (λ rest. before s (deep rest)) (rec (drop 1 ts) (omega arith))))
      two false h k =
          takes (before s stop) [] ts refl (λ us. refl)
          (λ us f. rw (follow (is slash) f k (λ c. c.done.over.one), follow (is slashes) f h (λ c. c.done.over.two)))

      go : (b : Bool) → sees slash ts ≡ b → Local true (go_on s) ts
      go true h =
          let head = seen slash ts refl h in
          let one : length ts ≡ suc (length (drop 1 ts)) = ap length head in
          subst (λ m. Local true (go_on s) m) (sym head)
          (local_cons (λ us. then (all_steps newer look within us) (λ rest. got (before s rest))) (tok (at ts) slash) refl (λ us. refl) (local_map (λ rest. before s rest) (rec (drop 1 ts) (omega arith))))
      go false h = two (sees slashes ts) refl h

  -- Steps, by their first token.
  steps_from : (n : ℕ) → ((us : List Placed) → length us < n → Local false (all_steps newer look within) us) → (p : ℕ) (t : Token) (ts : List Placed) → starts_step t ≡ true → length ts ≤ n
      → Local true (λ us. all_steps newer look within (tok p t ∷ us)) ts
  unfolding go_on
  steps_from n rec p t ts h l =
      local_same (λ us. then (read_step newer look within (tok p t ∷ us)) go_on) (λ us. steps_on newer look within Read sound leaves (tok p t ∷ us))
      (local_then go_on (local_step p t ts h) (λ s used left e. local_on n rec s left (omega (arith, shorter ts used left e))) (λ s. default_on s))

  no_steps : (us : List Placed) → starts_step (next us) ≡ false → all_steps newer look within us ≡ wrong us
  no_steps us h = steps_on newer look within Read sound leaves us ∙ rw (no_step us h)

  name_steps : Steps
  name_steps = before (record { axis = child; test = named (total (ascii "a")).0; preds = bare }) stop

  steps_name : (us : List Placed) → Shuts us → all_steps newer look within (tok 0 (word (ascii "a")) ∷ us) ≡ got name_steps us
  unfolding read_step name_steps
  steps_name us s =
      let one : read_step newer look within (tok 0 (word (ascii "a")) ∷ us) ≡ got (record { axis = child; test = named (total (ascii "a")).0; preds = bare }) us =
      rw s.done.over.stepped.colon (name_reads child us s) in
      steps_on newer look within Read sound leaves (tok 0 (word (ascii "a")) ∷ us) ∙ rw (one, s.done.over.one, s.done.over.two)

  steps-turn : (n : ℕ) → ((us : List Placed) → length us < n → Local false (all_steps newer look within) us) → (ts : List Placed) → length ts < suc n → Local false (all_steps newer look within) ts
  steps-turn n rec [] l = refuses [] (λ us e. no_steps us (ap starts_step e)) (word (ascii "a")) name_steps refl (λ us s. steps_name us s)
  steps-turn n rec (t ∷ ts) l = go (starts_step t.token) refl
    where
      go : (b : Bool) → starts_step t.token ≡ b → Local false (all_steps newer look within) (t ∷ ts)
      go true h = local_cons (λ us. all_steps newer look within (t ∷ us)) t (starts_plain t.token h).1 (λ us. refl) (steps_from n rec t.place t.token ts h (omega arith))
      go false h = refuses (t ∷ ts) (λ us e. no_steps us (ap starts_step e ∙ h)) (word (ascii "a")) name_steps refl (λ us s. steps_name us s)

  local_steps_below : (n : ℕ) (ts : List Placed) → length ts < n → Local false (all_steps newer look within) ts
  local_steps_below zero ts l = absurd (omega arith)
  local_steps_below (suc n) ts l = steps-turn n (λ us m. local_steps_below n us m) ts l

  local_steps : (ts : List Placed) → Local false (all_steps newer look within) ts
  local_steps ts = local_steps_below (suc (length ts)) ts (omega arith)

  local_steps_from : (p : ℕ) (t : Token) (ts : List Placed) → starts_step t ≡ true → Local true (λ us. all_steps newer look within (tok p t ∷ us)) ts
  local_steps_from p t ts h = steps_from (length ts) (λ us m. local_steps_below (length ts) us m) p t ts h (omega arith)

  -- An operand.
  operand_steps : (us : List Placed) → (says (ascii "not") us && sees open_round (drop 1 us)) ≡ false → sees open_round us ≡ false
      → read_operand newer look within us ≡ then (all_steps newer look within us) (λ s. got (path s))
  unfolding read_operand all_steps
  operand_steps us h k = rw (h, k)

  operand_name : (us : List Placed) → Shuts us → read_operand newer look within (tok 0 (word (ascii "a")) ∷ us) ≡ got (path name_steps) us
  operand_name us s = operand_steps (tok 0 (word (ascii "a")) ∷ us) refl refl ∙ rw (steps_name us s)

  no_operand : (us : List Placed) → starts_step (next us) ≡ false → sees open_round us ≡ false → read_operand newer look within us ≡ wrong us
  no_operand us h k =
      let n : (says (ascii "not") us && sees open_round (drop 1 us)) ≡ false = rw (not_word (next us) (stuck (next us) h).no_word) in
      operand_steps us n k ∙ rw (no_steps us h)

  local_denied : (p : ℕ) (ts : List Placed) → sees open_round ts ≡ true → Local true (λ us. read_operand newer look within (tok p (word (ascii "not")) ∷ us)) ts
  unfolding read_operand
  local_denied p ts h =
      subst (λ m. Local true (λ us. read_operand newer look within (tok p (word (ascii "not")) ∷ us)) m) (sym (seen open_round ts refl h))
      (local_bracket within (λ us. then (then (within (at ts) us) (pass close_round)) (λ e. got (negated e))) (at ts) open_round (drop 1 ts) refl (λ us. refl)
      (λ m.
      local_map negated
      (local_then (pass close_round) m (λ e used left s. local_pass close_round refl refl refl (λ w. refl) round_shuts e left)
      (λ e. default_pass close_round refl refl refl (λ w. refl) round_shuts e)))
      (λ us c. rw c)
      (inside (at ts) (drop 1 ts)))

  local_round : (p : ℕ) (ts : List Placed) → Local true (read_operand newer look within) (tok p open_round ∷ ts)
  unfolding read_operand
  local_round p ts =
      local_bracket within (λ us. then (within p us) (pass close_round)) p open_round ts refl (λ us. refl)
      (λ m.
      local_then (pass close_round) m (λ e used left s. local_pass close_round refl refl refl (λ w. refl) round_shuts e left)
      (λ e. default_pass close_round refl refl refl (λ w. refl) round_shuts e))
      (λ us c. rw c)
      (inside p ts)

  local_operand : (ts : List Placed) → Local false (read_operand newer look within) ts
  local_operand [] = refuses [] (λ us e. no_operand us (ap starts_step e) (ap (is open_round) e)) (word (ascii "a")) (path name_steps) refl (λ us s. operand_name us s)
  local_operand (t ∷ ts) = go (starts_step t.token) refl
    where
      steps : (b : Bool) → (says (ascii "not") (t ∷ ts) && sees open_round ts) ≡ b → starts_step t.token ≡ true → Local false (read_operand newer look within) (t ∷ ts)
      steps true k h =
          let b = and_true (says (ascii "not") (t ∷ ts)) (sees open_round ts) k in
          subst (λ m. Local false (read_operand newer look within) m) (sym (said 110 (ascii "ot") (t ∷ ts) b.0))
          (local_cons (λ us. read_operand newer look within (tok t.place (word (ascii "not")) ∷ us)) (tok t.place (word (ascii "not"))) refl (λ us. refl) (local_denied t.place ts b.1))
      steps false k h =
          local_cons (λ us. read_operand newer look within (t ∷ us)) t (starts_plain t.token h).1 (λ us. refl)
          (local_when {gentle = true} (λ us. then (all_steps newer look within (t ∷ us)) (λ s. got (path s)))
          (λ us f.
          operand_steps (t ∷ us) (follow (λ x. says (ascii "not") (t ∷ []) && is open_round x) f k (λ s. rw s.done.over.stepped.round (and_false (says (ascii "not") (t ∷ []))))) (starts_plain t.token h).0)
          (local_map path (local_steps_from t.place t.token ts h)))

      other : (b : Bool) → is open_round t.token ≡ b → starts_step t.token ≡ false → Local false (read_operand newer look within) (t ∷ ts)
      other true k h =
          subst (λ m. Local false (read_operand newer look within) m) (sym (seen open_round (t ∷ ts) refl k)) (local_when (read_operand newer look within) (λ us f. refl) (local_round t.place ts))
      other false k h =
          refuses (t ∷ ts) (λ us e. no_operand us (ap starts_step e ∙ h) (ap (is open_round) e ∙ k)) (word (ascii "a")) (path name_steps) refl (λ us s. operand_name us s)

      go : (b : Bool) → starts_step t.token ≡ b → Local false (read_operand newer look within) (t ∷ ts)
      go true h = steps (says (ascii "not") (t ∷ ts) && sees open_round ts) refl h
      go false h = other (is open_round t.token) refl h

  -- A term, and an expression: an operand and the run after it.
  module _ (run : Run) (on : (a : Expr) (us : List Placed) → all_run run a us ≡ run_turn run (all_run run) a us) (local-one : (ts : List Placed) → Local false run.one ts)
      (no_word : (us : List Placed) → Shuts us → says (spelling run) us ≡ false) where
    default_run : (a : Expr) → Default (all_run run a)
    default_run a = record { more = []; value = a; open_end = λ us. refl; shuts = λ us s. s; reads = λ us s. on a us ∙ rw (no_word us s) }

    run-turn : (n : ℕ) → ((a : Expr) (us : List Placed) → length us < n → Local true (all_run run a) us) → (a : Expr) (ts : List Placed) → length ts < suc n → Local true (all_run run a) ts
    run-turn n rec a ts l = go (says (spelling run) ts) refl
      where
        go : (b : Bool) → says (spelling run) ts ≡ b → Local true (all_run run a) ts
        go true h =
            let head = said run.initial run.others ts h in
            let one : length ts ≡ suc (length (drop 1 ts)) = ap length head in
            subst (λ m. Local true (all_run run a) m) (sym head)
            (local_cons (λ us. then (run.one us) (λ b. all_run run (run.join a b))) (tok (at ts) (word (spelling run))) refl (λ us. on a (tok (at ts) (word (spelling run)) ∷ us) ∙ rw (same_refl (spelling run)))
            (local_then (λ b. all_run run (run.join a b)) (local-one (drop 1 ts)) (λ b used left s. rec (run.join a b) left (omega (arith, shorter (drop 1 ts) used left s)))
            (λ b. default_run (run.join a b))))
        go false h = takes a [] ts refl (λ us. refl) (λ us f. on a us ∙ rw (follow (λ x. same (spelling run) (letters x)) f h (λ s. no_word us s)))

    local_run_below : (n : ℕ) (a : Expr) (ts : List Placed) → length ts < n → Local true (all_run run a) ts
    local_run_below zero a ts l = absurd (omega arith)
    local_run_below (suc n) a ts l = run-turn n (λ b us m. local_run_below n b us m) a ts l

    local_run : (ts : List Placed) → Local false (λ us. then (run.one us) (all_run run)) ts
    local_run ts = local_then (all_run run) (local-one ts) (λ a used left s. local_run_below (suc (length left)) a left (omega arith)) default_run

  local_term : (ts : List Placed) → Local false (read_term newer look within) ts
  unfolding read_term all_run
  local_term = local_run (and_run newer look within) (ands_on newer look within Read sound leaves) local_operand (λ us s. s.done.no_and)

  pub local_expr : (ts : List Placed) → Local false (read_expr newer look within) ts
  unfolding read_expr all_run
  local_expr = local_run (or_run newer look within) (ors_on newer look within Read sound leaves) local_term (λ us s. s.done.no_or)

  -- An absolute path.
  local_path : (ts : List Placed) → Local false (read_path newer look within) ts
  unfolding read_path all_steps
  local_path ts = deeply (sees slashes ts) refl
    where
      after : List Placed → Got Steps
      after us = cond (starts_step (next us)) (all_steps newer look within us) (got stop us)

      rest : (us : List Placed) (b : Bool) → starts_step (next us) ≡ b → Local true after us
      rest [] true h = absurd (false≢true h)
      rest (t ∷ us) true h =
          local_cons (λ vs. all_steps newer look within (t ∷ vs)) t (starts_plain t.token h).1 (λ vs. rw h) (local_steps_from t.place t.token us h)
      rest us false h = takes stop [] us refl (λ vs. refl) (λ vs f. rw (follow starts_step f h (λ s. s.no_step)))

      plainly : (b : Bool) → sees slash ts ≡ b → sees slashes ts ≡ false → Local false (read_path newer look within) ts
      plainly true h k =
          subst (λ m. Local false (read_path newer look within) m) (sym (seen slash ts refl h))
          (local_cons after (tok (at ts) slash) refl (λ us. refl) (rest (drop 1 ts) (starts_step (next (drop 1 ts))) refl))
      plainly false h k =
          refuses ts (λ us e. rw (ap (is slashes) e ∙ k, ap (is slash) e ∙ h)) slash stop refl (λ us s. rw s.no_step)

      deeply : (b : Bool) → sees slashes ts ≡ b → Local false (read_path newer look within) ts
      deeply true h =
          subst (λ m. Local false (read_path newer look within) m) (sym (seen slashes ts refl h))
          (local_cons (λ us. then (all_steps newer look within us) (λ r. got (deep r))) (tok (at ts) slashes) refl (λ us. refl) (local_map deep (local_steps (drop 1 ts))))
      deeply false h = plainly (sees slash ts) refl h

  -- Tokens are read as a query; or they are refused at a token, whatever follows it, and after a refusal 3 the tokens before can be completed.
  finish_shuts : (p : ℕ) (us : List Placed) → Shuts (tok p finish ∷ us)
  finish_shuts p us =
      record { done = record { over = record { stepped = record { square = refl; round = refl; colon = refl }; one = refl; two = refl }; no_and = refl; no_or = refl }; no_step = refl }

  pub record Stops (ts : List Placed) (n p : ℕ) : Type 0 where
    pub used : List Placed
    pub left : List Placed
    pub split : ts ≡ used ++ left
    pub unended : Unended used
    pub number : (n ≡ 3) ⊎ (n ≡ 4)
    pub there : p ≡ at left
    pub stands : (us : List Placed) → Alike left us → all_paths newer look within (used ++ us) ≡ refused n p
    pub completion : n ≡ 3 → (more : List Placed) × (q : Query) × Unended more × (all_paths newer look within (used ++ (more ++ (tok 0 finish ∷ []))) ≡ got q [])

  pub data Verdict (ts : List Placed) : Type 0 where
    gets : (q : Query) (left : List Placed) → all_paths newer look within ts ≡ got q left → Verdict ts
    stops : (n p : ℕ) → Stops ts n p → Verdict ts

  -- The first path fails;
  first_stops : (ts : List Placed) (n p : ℕ) → Fails false (read_path newer look within) ts n p → Stops ts n p
  first_stops ts n p x =
      record {
        used = x.used;
        left = x.left;
        split = x.split;
        unended = x.unended;
        number = x.number;
        there = x.there;
        stands = λ us a. paths_on newer look within Read sound leaves (x.used ++ us) ∙ rw (x.stands us a);
        completion = λ three.
            let c = x.completion three in
            let fin = tok 0 finish ∷ [] in (
              c.more,
              record { first = c.value; others = [] },
              c.open_end,
              paths_on newer look within Read sound leaves (x.used ++ (c.more ++ fin)) ∙ rw (c.reads fin (finish_shuts 0 [])),
            );
      }

  module _ (ts : List Placed) (s : Steps) (used left : List Placed) (split : ts ≡ used ++ left) (unended : Unended used)
      (took : (us : List Placed) → Follows left us → read_path newer look within (used ++ us) ≡ got s us) where
    -- or another after what joins them;
    later_stops : (n p : ℕ) → joins newer left ≡ true → Stops (drop 1 left) n p → Stops ts n p
    later_stops n p b x =
        let t : Placed = tok (at left) (next left) in
        let head : left ≡ t ∷ drop 1 left = joins_head newer left b in
        let begun : (us : List Placed) → read_path newer look within (used ++ (t ∷ us)) ≡ got s (t ∷ us) =
        λ us. took (t ∷ us) (subst (λ l. Follows l (t ∷ us)) (sym head) (like (record { token = refl; place = refl }))) in
        let more : (us : List Placed) → all_paths newer look within ((used ++ (t ∷ x.used)) ++ us) ≡ then (all_paths newer look within (x.used ++ us)) (λ q. got (record { first = s; others = paths q })) =
        λ us.
        ap (all_paths newer look within) (append_assoc used (t ∷ x.used) us) ∙ paths_on newer look within Read sound leaves (used ++ (t ∷ (x.used ++ us))) ∙ rw (begun (x.used ++ us), b) in
        record {
          used = used ++ (t ∷ x.used);
          left = x.left;
          split = split ∙ ap (λ l. used ++ l) (head ∙ ap (λ l. t ∷ l) x.split) ∙ sym (append_assoc used (t ∷ x.used) x.left);
          unended = λ us. ap ended (append_assoc used (t ∷ x.used) us) ∙ unended (t ∷ (x.used ++ us)) ∙ rw (joins_on newer left b) (x.unended us);
          number = x.number;
          there = x.there;
          stands = λ us a. more us ∙ rw (x.stands us a);
          completion = λ three.
              let c = x.completion three in
              (c.0, record { first = s; others = paths c.1 }, c.2, more (c.0 ++ (tok 0 finish ∷ [])) ∙ rw c.3);
        }

    -- or a path is followed by neither that nor the end.
    end_stops : joins newer left ≡ false → sees finish left ≡ false → Stops ts 3 (at left)
    end_stops b f =
        record {
          used = used;
          left = left;
          split = split;
          unended = unended;
          number = inl refl;
          there = refl;
          stands = λ us a.
              let no-bar : joins newer us ≡ false = ap (λ x. is bar x || (same (ascii "union") (letters x) && newer)) (sym a.token) ∙ b in
              let no_end : sees finish us ≡ false = ap (is finish) (sym a.token) ∙ f in
              paths_on newer look within Read sound leaves (used ++ us) ∙ rw (took us (like a), no-bar, no_end, a.place);
          completion = λ three.
              ([], record { first = s; others = [] }, λ us. refl, paths_on newer look within Read sound leaves (used ++ (tok 0 finish ∷ [])) ∙ rw (took (tok 0 finish ∷ []) (shut (finish_shuts 0 []))));
        }

    verdict_on : ((us : List Placed) → length us < length ts → Verdict us) → Verdict ts
    verdict_on rec = barred (joins newer left) refl
      where
        begun : all_paths newer look within ts ≡ cond (joins newer left) (then (all_paths newer look within (drop 1 left)) (λ q. got (record { first = s; others = paths q }))) (pass finish (record { first = s; others = [] }) left)
        begun =
            paths_on newer look within Read sound leaves ts ∙ rw (ap (read_path newer look within) split ∙ took left (like (record { token = refl; place = refl })))

        again : joins newer left ≡ true → Verdict (drop 1 left) → Verdict ts
        again b (gets q l e) = gets (record { first = s; others = paths q }) l (begun ∙ rw (b, e))
        again b (stops n p x) = stops n p (later_stops n p b x)

        closed : (c : Bool) → sees finish left ≡ c → joins newer left ≡ false → Verdict ts
        closed true f b = gets (record { first = s; others = [] }) (drop 1 left) (begun ∙ rw (b, f))
        closed false f b = stops 3 (at left) (end_stops b f)

        barred : (c : Bool) → joins newer left ≡ c → Verdict ts
        barred true b =
            let one : length left ≡ suc (length (drop 1 left)) = ap length (joins_head newer left b) in
            again b (rec (drop 1 left) (omega (arith, shorter ts used left split)))
        barred false b = closed (sees finish left) refl b

  verdict_turn : (n : ℕ) → ((us : List Placed) → length us < n → Verdict us) → (ts : List Placed) → length ts < suc n → Local false (read_path newer look within) ts → Verdict ts
  verdict_turn n rec ts l (takes s used left split unended took) = verdict_on ts s used left split unended took (λ us m. rec us (omega arith))
  verdict_turn n rec ts l (fails m p x) = stops m p (first_stops ts m p x)

  verdict_below : (n : ℕ) (ts : List Placed) → length ts < n → Verdict ts
  verdict_below zero ts l = absurd (omega arith)
  verdict_below (suc n) ts l = verdict_turn n (λ us m. verdict_below n us m) ts l (local_path ts)

  pub verdict : (ts : List Placed) → Verdict ts
  verdict ts = verdict_below (suc (length ts)) ts (omega arith)
