-- Reading the tokens of a printed query gives the query back, each name by the number that is looked up.
-- By induction over the query. An expression is read on three levels, as the printed text has them: as a whole (`or`), as a term of `or` (`and`), and as an operand
-- of `and`. On each level a left-grouped run is read from its first operand on. Assumes nothing.
use Prim.Native.Nat.{ℕ, zero, suc, ◌+◌, ◌-◌, ◌≤◌, ◌<◌}
use native.Mathlib.Omega.{arith}
use mathlib.Core.Path.{◌≡◌, refl, sym, ◌∙◌, ap, ap₂}
use mathlib.Core.Bool.{Bool, true, false, ◌&&◌, ◌||◌, cond}
use mathlib.Core.List.{List, [], ◌∷◌, ◌++◌, append_assoc, append-nil, map}
use mathlib.Core.Option.{Option, some}
use lib.ListN.{length, get_or, drop, length-append}
use Rattle.paper.specs.Tools.{ascii, same}
use Rattle.paper.specs.Tokens.{Token, slash, slashes, colons, open_square, close_square, open_round, close_round, finish, word, is, Placed}
use Rattle.paper.specs.Reading.{Got, got, then, next, at, sees, says, axis_named, Step, before, deep, starts_step}
use Rattle.paper.specs.Reading.{read_preds, read_tail, read_tested, read_dot, read_step, read_steps, read_operand, read_term, read_expr, read_path, read_paths, read_within}
use Rattle.paper.specs.Query.{Axis, self, child, Test, any_node, text_node, named, any_element}
use Rattle.paper.specs.Query.{Expr, path, both, either, negated, Steps, stop, step, Preds, bare, pred}
use Rattle.paper.specs.Items.{step_count, pred_count}
use Rattle.paper.specs.Measures.{is_and, is_or, in_brackets, nest_expr, nest_steps, nest_preds, nest_paths}
use Rattle.paper.specs.Printing.{Piece, close_pred, open_group, and_word, or_word, bar_sign, test_word}
use Rattle.paper.specs.Printing.{close_round as close_sign}
use Rattle.paper.specs.Printing.{axis_text, grouped, head_pieces, expr_pieces, relative_pieces, later_pieces, preds_pieces, path_pieces, paths_pieces}
use Rattle.paper.proofs.Same.{same_refl}
use Rattle.paper.proofs.Axes.{axis-named}
use Rattle.paper.proofs.Abbreviating.{Plain, none_there, by_head, by_later}
use Rattle.query_grammar.specs.Grammar.{tok}
use Rattle.query_grammar.proofs.Runs.{Run, spelling, and_run, or_run}
use Rattle.query_grammar.proofs.Complete.{and_false}
use Rattle.round_trip.proofs.Spelling.{test_tokens, piece_tokens, tokens_of, first_place, laid, Spelt}

-- The query with other numbers for its names.
abbrev pub new_test : (ℕ → ℕ) → Test → Test
new_test f any_node = any_node
new_test f text_node = text_node
new_test f (named v) = named (f v)
new_test f any_element = any_element

abbrev mutual
  pub new_expr : (ℕ → ℕ) → Expr → Expr
  new_expr f (path s) = path (new_steps f s)
  new_expr f (both a b) = both (new_expr f a) (new_expr f b)
  new_expr f (either a b) = either (new_expr f a) (new_expr f b)
  new_expr f (negated a) = negated (new_expr f a)

  pub new_steps : (ℕ → ℕ) → Steps → Steps
  new_steps f stop = stop
  new_steps f (step a t ps rest) = step a (new_test f t) (new_preds f ps) (new_steps f rest)

  pub new_preds : (ℕ → ℕ) → Preds → Preds
  new_preds f bare = bare
  new_preds f (pred e ps) = pred (new_expr f e) (new_preds f ps)

-- Each name is one of the list, and each path in a predicate has a step.
abbrev mutual
  pub OfList : (ℕ → Type 0) → Expr → Type 0
  OfList P (path s) = (1 ≤ step_count s) × StepsOf P s
  OfList P (both a b) = OfList P a × OfList P b
  OfList P (either a b) = OfList P a × OfList P b
  OfList P (negated a) = OfList P a

  pub StepsOf : (ℕ → Type 0) → Steps → Type 0
  StepsOf P stop = Unit {0}
  StepsOf P (step a t ps rest) = Spelt P t × PredsOf P ps × StepsOf P rest

  pub PredsOf : (ℕ → Type 0) → Preds → Type 0
  PredsOf P bare = Unit {0}
  PredsOf P (pred e ps) = OfList P e × PredsOf P ps

abbrev pub AllOf : (ℕ → Type 0) → List Steps → Type 0
AllOf P [] = Unit {0}
AllOf P (p ∷ ps) = StepsOf P p × AllOf P ps

-- Tokens laid one after the other: the places left after some of them.
abbrev pub after : List ℕ → List Token → List ℕ
after places [] = places
after places (t ∷ ts) = after (drop 1 places) ts

laid_append : (places : List ℕ) (ts us : List Token) (rest : List Placed) → laid places (ts ++ us) rest ≡ laid places ts (laid (after places ts) us rest)
laid_append places [] us rest = refl
laid_append places (t ∷ ts) us rest = ap (λ (x : List Placed). record { place = first_place places; token = t } ∷ x) (laid_append (drop 1 places) ts us rest)

tokens_append : (names : List (List ℕ)) (ps qs : List Piece) → tokens_of names (ps ++ qs) ≡ tokens_of names ps ++ tokens_of names qs
tokens_append names [] qs = refl
tokens_append names (p ∷ ps) qs =
    ap (λ (t : List Token). piece_tokens names p ++ t) (tokens_append names ps qs) ∙ sym (append_assoc (piece_tokens names p) (tokens_of names ps) (tokens_of names qs))

-- The pieces, and others after them.
pub shown : (names : List (List ℕ)) (places : List ℕ) (ps qs : List Piece) (rest : List Placed)
    → laid places (tokens_of names (ps ++ qs)) rest ≡ laid places (tokens_of names ps) (laid (after places (tokens_of names ps)) (tokens_of names qs) rest)
shown names places ps qs rest = ap (λ (t : List Token). laid places t rest) (tokens_append names ps qs) ∙ laid_append places (tokens_of names ps) (tokens_of names qs) rest

laid_long : (places : List ℕ) (ts : List Token) (rest : List Placed) → length (laid places ts rest) ≡ length ts + length rest
laid_long places [] rest = omega arith
laid_long places (t ∷ ts) rest = omega (arith, laid_long (drop 1 places) ts rest)

-- What may follow a path: no predicate, no step, no bracket, no `::`.
pub record Calm (ts : List Placed) : Type 0 where
  pub no_square : sees open_square ts ≡ false
  pub no_slash : sees slash ts ≡ false
  pub no_slashes : sees slashes ts ≡ false
  pub no_round : sees open_round ts ≡ false
  pub no_colons : sees colons ts ≡ false

-- How many operators a left-grouped run has.
abbrev or_count : Expr → ℕ
or_count (path s) = 0
or_count (both a b) = 0
or_count (either a b) = suc (or_count a)
or_count (negated a) = 0

abbrev and_count : Expr → ℕ
and_count (path s) = 0
and_count (both a b) = suc (and_count a)
and_count (either a b) = 0
and_count (negated a) = 0

abbrev term_pieces : Bool → Expr → List Piece
term_pieces brief e = grouped (is_or e) (expr_pieces brief e)

abbrev operand_pieces : Bool → Expr → List Piece
operand_pieces brief e = grouped (is_or e || is_and e) (expr_pieces brief e)

-- A left-grouped run of n operators: its first operand is read, and the others are joined to it.
record RunRead (run : Run) (n : ℕ) (e : Expr) (ts rest : List Placed) : Type 0 where
  first : Expr
  left : List Placed
  reads : run.one ts ≡ got first left
  long : n + length rest ≤ length left
  chain : (m : ℕ) → run.more (n + m) first left ≡ run.more m e rest

-- One operand alone;
run_one : (run : Run) (n : ℕ) (e : Expr) (ts rest : List Placed) → n ≡ 0 → run.one ts ≡ got e rest → RunRead run n e ts rest
run_one run n e ts rest none h = record { first = e; left = rest; reads = h; long = omega arith; chain = λ m. let k : n + m ≡ m = omega arith in rw k }

-- one operand more, behind the word;
run_more : (run : Run) (n p : ℕ) (a b : Expr) (ts us rest : List Placed) → RunRead run n a ts (tok p (word (spelling run)) ∷ us) → run.one us ≡ got b rest → length rest ≤ length us
    → RunRead run (suc n) (run.join a b) ts rest
run_more run n p a b ts us rest r h l =
    record {
      first = r.first;
      left = r.left;
      reads = r.reads;
      long = omega (arith, r.long);
      chain = λ m. let k : suc n + m ≡ n + suc m = omega arith in
          rw k (r.chain (suc m) ∙ run.goes m a (tok p (word (spelling run)) ∷ us) ∙ rw (same_refl (spelling run), h));
    }

-- and the whole run, which ends where its word does not follow.
run_ends_lem : (run : Run) (m : ℕ) (e : Expr) (rest : List Placed) → says (spelling run) rest ≡ false → run.more m e rest ≡ got e rest
run_ends_lem run zero e rest h = run.stops e rest
run_ends_lem run (suc m) e rest h = run.goes m e rest ∙ rw h

run-whole : (run : Run) (n : ℕ) (e : Expr) (ts rest : List Placed) → RunRead run n e ts rest → says (spelling run) rest ≡ false
    → then (run.one ts) (λ a left. run.more (length left) a left) ≡ got e rest
run-whole run n e ts rest r h = rw r.reads (go (length r.left) r.long)
  where
    go : (m : ℕ) → n + length rest ≤ m → run.more m r.first r.left ≡ got e rest
    go m l =
        let k : m ≡ n + (m - n) = omega arith in
        rw k (r.chain (m - n) ∙ run_ends_lem run (m - n) e rest h)

module _ (P : ℕ → Type 0) (names : List (List ℕ)) (brief newer : Bool) (look : List ℕ → Option ℕ) (f : ℕ → ℕ) (finds : (v : ℕ) → P v → look (get_or names v []) ≡ some (f v)) where
  -- An expression as a run of `or`, and as a run of `and`.
  abbrev OrsRead : ℕ → Expr → List Placed → List Placed → Type 0
  OrsRead d e ts rest = RunRead (or_run newer look (read_within newer look d)) (or_count e) (new_expr f e) ts rest

  abbrev AndsRead : ℕ → Expr → List Placed → List Placed → Type 0
  AndsRead d e ts rest = RunRead (and_run newer look (read_within newer look d)) (and_count e) (new_expr f e) ts rest

  -- What reading makes of a printed expression, on the three levels.
  record Reads (e : Expr) : Type 0 where
    expr : (d : ℕ) (places : List ℕ) (rest : List Placed) → nest_expr e ≤ d → Calm rest → says (ascii "and") rest ≡ false
        → OrsRead d e (laid places (tokens_of names (expr_pieces brief e)) rest) rest
    term : (d : ℕ) (places : List ℕ) (rest : List Placed) → in_brackets (is_or e) (nest_expr e) ≤ d → Calm rest
        → AndsRead d e (laid places (tokens_of names (term_pieces brief e)) rest) rest
    operand : (d : ℕ) (places : List ℕ) (rest : List Placed) → in_brackets (is_or e || is_and e) (nest_expr e) ≤ d → Calm rest
        → read_operand newer look (read_within newer look d) (laid places (tokens_of names (operand_pieces brief e)) rest) ≡ got (new_expr f e) rest

  -- The whole of it is read where its word does not follow.
  whole_read : (d : ℕ) (e : Expr) (ts rest : List Placed) → OrsRead d e ts rest → says (ascii "or") rest ≡ false → read_expr newer look (read_within newer look d) ts ≡ got (new_expr f e) rest
  unfolding read_expr
  whole_read d e ts rest o h = run-whole (or_run newer look (read_within newer look d)) (or_count e) (new_expr f e) ts rest o h

  term_read : (d : ℕ) (e : Expr) (ts rest : List Placed) → AndsRead d e ts rest → says (ascii "and") rest ≡ false → read_term newer look (read_within newer look d) ts ≡ got (new_expr f e) rest
  unfolding read_term
  term_read d e ts rest o h = run-whole (and_run newer look (read_within newer look d)) (and_count e) (new_expr f e) ts rest o h

  -- A term is an expression, and an operand is a term, each with no operator of its own.
  as_whole : (d : ℕ) (e : Expr) (ts rest : List Placed) → or_count e ≡ 0 → AndsRead d e ts rest → says (ascii "and") rest ≡ false → OrsRead d e ts rest
  as_whole d e ts rest z t n = run_one (or_run newer look (read_within newer look d)) (or_count e) (new_expr f e) ts rest z (term_read d e ts rest t n)

  as_term : (d : ℕ) (e : Expr) (ts rest : List Placed) → and_count e ≡ 0 → read_operand newer look (read_within newer look d) ts ≡ got (new_expr f e) rest → AndsRead d e ts rest
  as_term d e ts rest z h = run_one (and_run newer look (read_within newer look d)) (and_count e) (new_expr f e) ts rest z h

  -- What stands in a bracket that is closed by a token of no word.
  in_bracket : (e : Expr) → Reads e → (d place : ℕ) (places : List ℕ) (rest : List Placed) → suc (nest_expr e) ≤ d → Calm rest → says (ascii "and") rest ≡ false → says (ascii "or") rest ≡ false
      → read_within newer look d place (laid places (tokens_of names (expr_pieces brief e)) rest) ≡ got (new_expr f e) rest
  in_bracket e r zero place places rest h c a o = absurd (omega arith)
  in_bracket e r (suc d) place places rest h c a o = whole_read d e (laid places (tokens_of names (expr_pieces brief e)) rest) rest (r.expr d places rest (omega arith) c a) o

  -- A closing round bracket follows calmly.
  closes : (places : List ℕ) (rest : List Placed) → Calm (laid places (close_round ∷ []) rest)
  closes places rest = record { no_square = refl; no_slash = refl; no_slashes = refl; no_round = refl; no_colons = refl }

  -- What is no operator is read as an operand on each level.
  plain : (e : Expr) → is_or e ≡ false → is_and e ≡ false → or_count e ≡ 0 → and_count e ≡ 0
      → ((d : ℕ) (places : List ℕ) (rest : List Placed) → nest_expr e ≤ d → Calm rest
      → read_operand newer look (read_within newer look d) (laid places (tokens_of names (expr_pieces brief e)) rest) ≡ got (new_expr f e) rest) → Reads e
  plain e o a oc ac read = record { expr = whole_of; term = term_of; operand = operand_of }
    where
      term_at : (d : ℕ) (places : List ℕ) (rest : List Placed) → nest_expr e ≤ d → Calm rest → AndsRead d e (laid places (tokens_of names (expr_pieces brief e)) rest) rest
      term_at d places rest h c = as_term d e (laid places (tokens_of names (expr_pieces brief e)) rest) rest ac (read d places rest h c)

      whole_of : (d : ℕ) (places : List ℕ) (rest : List Placed) → nest_expr e ≤ d → Calm rest → says (ascii "and") rest ≡ false → OrsRead d e (laid places (tokens_of names (expr_pieces brief e)) rest) rest
      whole_of d places rest h c n = as_whole d e (laid places (tokens_of names (expr_pieces brief e)) rest) rest oc (term_at d places rest h c) n

      term_of : (d : ℕ) (places : List ℕ) (rest : List Placed) → in_brackets (is_or e) (nest_expr e) ≤ d → Calm rest → AndsRead d e (laid places (tokens_of names (term_pieces brief e)) rest) rest
      term_of d places rest h c = rw o (term_at d places rest (rw o at h) c)

      operand_of : (d : ℕ) (places : List ℕ) (rest : List Placed) → in_brackets (is_or e || is_and e) (nest_expr e) ≤ d → Calm rest
          → read_operand newer look (read_within newer look d) (laid places (tokens_of names (operand_pieces brief e)) rest) ≡ got (new_expr f e) rest
      operand_of d places rest h c = rw (o, a) (read d places rest (rw (o, a) at h) c)

  -- An operator in round brackets.
  group : (e : Expr) → ((d : ℕ) (places : List ℕ) (rest : List Placed) → nest_expr e ≤ d → Calm rest → says (ascii "and") rest ≡ false → OrsRead d e (laid places (tokens_of names (expr_pieces brief e)) rest) rest)
      → (d : ℕ) (places : List ℕ) (rest : List Placed) → 1 + nest_expr e ≤ d
      → read_operand newer look (read_within newer look d) (laid places (tokens_of names (open_group ∷ expr_pieces brief e ++ (close_sign ∷ []))) rest) ≡ got (new_expr f e) rest
  unfolding read_operand
  group e r zero places rest h = absurd (omega arith)
  group e r (suc d) places rest h =
      let inner = after (drop 1 places) (tokens_of names (expr_pieces brief e)) in
      let tail = laid inner (close_round ∷ []) rest in
      rw (
        shown names (drop 1 places) (expr_pieces brief e) (close_sign ∷ []) rest,
        whole_read d e (laid (drop 1 places) (tokens_of names (expr_pieces brief e)) tail) tail (r d (drop 1 places) tail (omega arith) (closes inner rest) refl) refl,
      )

  -- `not`.
  read_negated : (a : Expr) → Reads a → Reads (negated a)
  unfolding read_operand
  read_negated a r =
      plain (negated a) refl refl refl refl
      (λ d places rest h c.
      let inner = after (drop 1 (drop 1 places)) (tokens_of names (expr_pieces brief a)) in
      let tail = laid inner (close_round ∷ []) rest in
      rw (
        shown names (drop 1 (drop 1 places)) (expr_pieces brief a) (close_sign ∷ []) rest,
        in_bracket a r d (first_place (drop 1 places)) (drop 1 (drop 1 places)) tail (omega arith) (closes inner rest) refl refl,
      ))

  -- `or`.
  read_either : (a b : Expr) → Reads a → Reads b → Reads (either a b)
  read_either a b ra rb = record { expr = whole_of; term = term_of; operand = λ d places rest h c. group (either a b) whole_of d places rest h }
    where
      e : Expr
      e = either a b

      whole_of : (d : ℕ) (places : List ℕ) (rest : List Placed) → nest_expr e ≤ d → Calm rest → says (ascii "and") rest ≡ false → OrsRead d e (laid places (tokens_of names (expr_pieces brief e)) rest) rest
      whole_of d places rest h c n =
          let there = after places (tokens_of names (expr_pieces brief a)) in
          let tail = laid there (tokens_of names (or_word ∷ term_pieces brief b)) rest in
          let oa = ra.expr d places tail (omega arith) (record { no_square = refl; no_slash = refl; no_slashes = refl; no_round = refl; no_colons = refl }) refl in
          let tb = term_read d b (laid (drop 1 there) (tokens_of names (term_pieces brief b)) rest) rest (rb.term d (drop 1 there) rest (omega arith) c) n in
          let us = laid (drop 1 there) (tokens_of names (term_pieces brief b)) rest in
          rw (shown names places (expr_pieces brief a) (or_word ∷ term_pieces brief b) rest)
          (run_more (or_run newer look (read_within newer look d)) (or_count a) (first_place there) (new_expr f a) (new_expr f b) (laid places (tokens_of names (expr_pieces brief a)) tail) us rest oa tb
          (omega (arith, laid_long (drop 1 there) (tokens_of names (term_pieces brief b)) rest)))

      term_of : (d : ℕ) (places : List ℕ) (rest : List Placed) → 1 + nest_expr e ≤ d → Calm rest → AndsRead d e (laid places (tokens_of names (term_pieces brief e)) rest) rest
      term_of d places rest h c = as_term d e (laid places (tokens_of names (term_pieces brief e)) rest) rest refl (group e whole_of d places rest (omega arith))

  -- `and`.
  read_both : (a b : Expr) → Reads a → Reads b → Reads (both a b)
  read_both a b ra rb = record { expr = whole_of; term = term_of; operand = λ d places rest h c. group (both a b) whole_of d places rest h }
    where
      e : Expr
      e = both a b

      term_of : (d : ℕ) (places : List ℕ) (rest : List Placed) → nest_expr e ≤ d → Calm rest → AndsRead d e (laid places (tokens_of names (expr_pieces brief e)) rest) rest
      term_of d places rest h c =
          let there = after places (tokens_of names (term_pieces brief a)) in
          let tail = laid there (tokens_of names (and_word ∷ operand_pieces brief b)) rest in
          let oa = ra.term d places tail (omega arith) (record { no_square = refl; no_slash = refl; no_slashes = refl; no_round = refl; no_colons = refl }) in
          let ob = rb.operand d (drop 1 there) rest (omega arith) c in
          let us = laid (drop 1 there) (tokens_of names (operand_pieces brief b)) rest in
          rw (shown names places (term_pieces brief a) (and_word ∷ operand_pieces brief b) rest)
          (run_more (and_run newer look (read_within newer look d)) (and_count a) (first_place there) (new_expr f a) (new_expr f b) (laid places (tokens_of names (term_pieces brief a)) tail) us rest oa ob
          (omega (arith, laid_long (drop 1 there) (tokens_of names (operand_pieces brief b)) rest)))

      whole_of : (d : ℕ) (places : List ℕ) (rest : List Placed) → nest_expr e ≤ d → Calm rest → says (ascii "and") rest ≡ false → OrsRead d e (laid places (tokens_of names (expr_pieces brief e)) rest) rest
      whole_of d places rest h c n = as_whole d e (laid places (tokens_of names (expr_pieces brief e)) rest) rest refl (term_of d places rest h c) n

  -- What reading makes of printed predicates and steps.
  abbrev ReadsPreds : Preds → Type 0
  ReadsPreds ps =
      (d n : ℕ) (places : List ℕ) (rest : List Placed) → nest_preds ps ≤ d → pred_count ps ≤ n → sees open_square rest ≡ false
      → read_preds newer look (read_within newer look d) n (laid places (tokens_of names (preds_pieces brief ps)) rest) ≡ got (new_preds f ps) rest

  -- What is read once a step is, by the `/` or `//` that follows it.
  abbrev onward : ℕ → ℕ → Step → List Placed → Got Steps
  onward d n s left =
      let more = then (read_steps newer look (read_within newer look d) n (drop 1 left)) (λ rest. got (before s rest)) in
      let deeper = then (read_steps newer look (read_within newer look d) n (drop 1 left)) (λ rest. got (before s (deep rest))) in
      cond (sees slash left) more (cond (sees slashes left) deeper (got (before s stop) left))

  -- Steps as those of a path in a predicate, and as those that follow a step.
  record ReadsSteps (s : Steps) : Type 0 where
    relative : (d n : ℕ) (places : List ℕ) (rest : List Placed) → nest_steps s ≤ d → 1 ≤ step_count s → step_count s ≤ n → Calm rest
        → read_steps newer look (read_within newer look d) n (laid places (tokens_of names (relative_pieces brief s)) rest) ≡ got (new_steps f s) rest
    later : (d n : ℕ) (places : List ℕ) (one : Step) (rest : List Placed) → nest_steps s ≤ d → step_count s ≤ n → Calm rest
        → onward d n one (laid places (tokens_of names (later_pieces brief s)) rest) ≡ got (before one (new_steps f s)) rest

  read_bare : ReadsPreds bare
  read_bare d zero places rest h l c = refl
  read_bare d (suc n) places rest h l c = rw c

  -- One predicate more.
  read_pred : (e : Expr) (ps : Preds) → Reads e → ReadsPreds ps → ReadsPreds (pred e ps)
  read_pred e ps re rp d zero places rest h l c = absurd (omega arith)
  read_pred e ps re rp d (suc n) places rest h l c =
      let inner = after (drop 1 places) (tokens_of names (expr_pieces brief e)) in
      let tail = laid inner (tokens_of names (close_pred ∷ preds_pieces brief ps)) rest in
      rw (
        shown names (drop 1 places) (expr_pieces brief e) (close_pred ∷ preds_pieces brief ps) rest,
        in_bracket e re d (first_place places) (drop 1 places) tail (omega arith) (record { no_square = refl; no_slash = refl; no_slashes = refl; no_round = refl; no_colons = refl }) refl refl,
        rp d n (drop 1 inner) rest (omega arith) (omega arith) c,
      )

  -- A test, where no round bracket follows.
  test_read : (a : Axis) (t : Test) (within : ℕ → List Placed → Got Expr) (places : List ℕ) (left : List Placed) → Spelt P t → sees open_round left ≡ false
      → read_tested newer look within a (laid places (test_tokens names t) left) ≡ read_tail newer look within a (new_test f t) left
  unfolding read_tested
  test_read a any_node within places left k c = refl
  test_read a text_node within places left k c = refl
  test_read a (named v) within places left k c = rw (c, finds v k)
  test_read a any_element within places left k c = refl

  -- What is no sign of a step is not seen where steps follow, and what is no square bracket not where predicates do.
  later_apart : (x : Token) → is x slash ≡ false → is x slashes ≡ false → (places : List ℕ) (s : Steps) (rest : List Placed) → sees x rest ≡ false
      → sees x (laid places (tokens_of names (later_pieces brief s)) rest) ≡ false
  later_apart x one two places stop rest c = c
  later_apart x one two places (step a t ps s) rest c =
      by_later (λ qs. sees x (laid places (tokens_of names qs) rest) ≡ false) brief a t ps s (λ d. two) one

  preds_apart : (x : Token) → is x open_square ≡ false → (places : List ℕ) (ps : Preds) (left : List Placed) → sees x left ≡ false
      → sees x (laid places (tokens_of names (preds_pieces brief ps)) left) ≡ false
  preds_apart x one places bare left c = c
  preds_apart x one places (pred e ps) left c = one

  -- There are no more predicates, steps and paths than tokens.
  pred_tokens : (ps : Preds) → pred_count ps ≤ length (tokens_of names (preds_pieces brief ps))
  pred_tokens bare = omega arith
  pred_tokens (pred e ps) =
      rw (tokens_append names (expr_pieces brief e) (close_pred ∷ preds_pieces brief ps)) (omega (arith, pred_tokens ps, length-append (tokens_of names (expr_pieces brief e)) (close_square ∷ tokens_of names (preds_pieces brief ps))))

  test-tokens : (t : Test) → 1 ≤ length (tokens_of names (test_word t ∷ []))
  test-tokens any_node = omega arith
  test-tokens text_node = omega arith
  test-tokens (named v) = omega arith
  test-tokens any_element = omega arith

  head_tokens : (a : Axis) (t : Test) (count : ℕ) → 1 ≤ length (tokens_of names (head_pieces brief a t count))
  head_tokens a t count = by_head (λ hs. 1 ≤ length (tokens_of names hs)) brief a t count (λ p. omega arith) (λ p. omega arith) (λ e. test-tokens t) (omega arith)

  one_step_tokens : (a : Axis) (t : Test) (ps : Preds) (rest : Steps) → step_count rest ≤ length (tokens_of names (later_pieces brief rest)) → suc (step_count rest) ≤ length (tokens_of names (relative_pieces brief (step a t ps rest)))
  one_step_tokens a t ps rest l =
      let hs = head_pieces brief a t (pred_count ps) in
      rw (tokens_append names hs (preds_pieces brief ps ++ later_pieces brief rest), tokens_append names (preds_pieces brief ps) (later_pieces brief rest))
      (omega (
        arith,
        head_tokens a t (pred_count ps),
        length-append (tokens_of names hs) (tokens_of names (preds_pieces brief ps) ++ tokens_of names (later_pieces brief rest)),
        length-append (tokens_of names (preds_pieces brief ps)) (tokens_of names (later_pieces brief rest)),
      ))

  mutual
    later_tokens : (s : Steps) → step_count s ≤ length (tokens_of names (later_pieces brief s))
    later_tokens stop = omega arith
    later_tokens (step a t ps rest) =
        by_later (λ qs. suc (step_count rest) ≤ length (tokens_of names qs)) brief a t ps rest (λ d. omega (arith, step_tokens rest))
        (omega (arith, one_step_tokens a t ps rest (later_tokens rest)))

    step_tokens : (s : Steps) → step_count s ≤ length (tokens_of names (relative_pieces brief s))
    step_tokens stop = omega arith
    step_tokens (step a t ps rest) = one_step_tokens a t ps rest (later_tokens rest)

  -- How a head begins: with a token that a step begins with, no round bracket, and no `not(`.
  record Begins (ts : List Placed) : Type 0 where
    starts : starts_step (next ts) ≡ true
    no_group : sees open_round ts ≡ false
    no_not : says (ascii "not") ts && sees open_round (drop 1 ts) ≡ false

  test_begins : (t : Test) (places : List ℕ) (left : List Placed) → sees open_round left ≡ false → Begins (laid places (tokens_of names (test_word t ∷ [])) left)
  test_begins any_node places left c = record { starts = refl; no_group = refl; no_not = refl }
  test_begins text_node places left c = record { starts = refl; no_group = refl; no_not = refl }
  test_begins (named v) places left c = record { starts = refl; no_group = refl; no_not = rw c (and_false (same (ascii "not") (get_or names v []))) }
  test_begins any_element places left c = record { starts = refl; no_group = refl; no_not = refl }

  head_begins : (a : Axis) (t : Test) (count : ℕ) (places : List ℕ) (left : List Placed) → sees open_round left ≡ false → Begins (laid places (tokens_of names (head_pieces brief a t count)) left)
  head_begins a t count places left c =
      by_head (λ hs. Begins (laid places (tokens_of names hs) left)) brief a t count (λ p. record { starts = refl; no_group = refl; no_not = refl }) (λ p. record { starts = refl; no_group = refl; no_not = refl })
      (λ e. test_begins t places left c) (record { starts = refl; no_group = refl; no_not = and_false (same (ascii "not") (axis_text a)) })

  -- A test with no axis before it, where no round bracket and no `::` follows.
  child_read : (t : Test) (within : ℕ → List Placed → Got Expr) (places : List ℕ) (left : List Placed) → Spelt P t → sees open_round left ≡ false → sees colons left ≡ false
      → read_step newer look within (laid places (tokens_of names (test_word t ∷ [])) left) ≡ read_tail newer look within child (new_test f t) left
  unfolding read_step
  child_read any_node within places left k c n = test_read child any_node within places left k c
  child_read text_node within places left k c n = test_read child text_node within places left k c
  child_read (named v) within places left k c n = rw n (test_read child (named v) within places left k c)
  child_read any_element within places left k c n = rw n (test_read child any_element within places left k c)

  -- A head is read as its axis and test, with the predicates that are read behind it; `.` and `..` have none.
  module _ (a : Axis) (t : Test) (ps : Preds) (d : ℕ) (follow : List Placed) where
    abbrev whole : Step
    whole = record { axis = a; test = new_test f t; preds = new_preds f ps }

    abbrev HeadReads : List Piece → Type 0
    HeadReads hs =
        (places : List ℕ) (left : List Placed) → Spelt P t → sees open_round left ≡ false → sees colons left ≡ false → (ps ≡ bare → left ≡ follow)
        → read_tail newer look (read_within newer look d) a (new_test f t) left ≡ got whole follow
        → read_step newer look (read_within newer look d) (laid places (tokens_of names hs) left) ≡ got whole follow

    dot_read : (along : Axis) (left : List Placed) → Plain along a t (pred_count ps) → (ps ≡ bare → left ≡ follow)
        → read_tail newer look (read_within newer look d) a (new_test f t) left ≡ got whole follow → read_dot newer look (read_within newer look d) along left ≡ got whole follow
    dot_read along left p e h = rw (p.axis, p.test) (go newer (rw (p.axis, p.test) at h))
      where
        none : ps ≡ bare
        none = none_there ps p.none

        go : (b : Bool) → read_tail newer look (read_within newer look d) along any_node left ≡ got (record { axis = along; test = any_node; preds = new_preds f ps }) follow
            → cond b (read_tail newer look (read_within newer look d) along any_node left) (got (record { axis = along; test = any_node; preds = bare }) left)
            ≡ got (record { axis = along; test = any_node; preds = new_preds f ps }) follow
        go true g = g
        go false g = rw (none, e none)

    head_read : HeadReads (head_pieces brief a t (pred_count ps))
    unfolding read_step
    head_read =
        by_head HeadReads brief a t (pred_count ps) (λ p places left k c n e h. dot_read self left p e h) (λ p places left k c n e h. dot_read Axis.parent left p e h)
        (λ p places left k c n e h. child_read t (read_within newer look d) places left k c n ∙ ap (λ x. read_tail newer look (read_within newer look d) x (new_test f t) left) (sym p) ∙ h)
        (λ places left k c n e h.
        rw (
          axis-named a,
          append-nil (test_tokens names t),
          test_read a t (read_within newer look d) (drop 1 (drop 1 places)) left k c,
        ) h)

  -- A step, and what follows it.
  module _ (a : Axis) (t : Test) (ps : Preds) (s : Steps) (places : List ℕ) (rest : List Placed) where
    abbrev headed : List ℕ
    headed = after places (tokens_of names (head_pieces brief a t (pred_count ps)))

    abbrev follows : List Placed
    follows = laid (after headed (tokens_of names (preds_pieces brief ps))) (tokens_of names (later_pieces brief s)) rest

    abbrev predicates : List Placed
    predicates = laid headed (tokens_of names (preds_pieces brief ps)) follows

    split : laid places (tokens_of names (relative_pieces brief (step a t ps s))) rest ≡ laid places (tokens_of names (head_pieces brief a t (pred_count ps))) predicates
    split =
        shown names places (head_pieces brief a t (pred_count ps)) (preds_pieces brief ps ++ later_pieces brief s) rest ∙
        ap (laid places (tokens_of names (head_pieces brief a t (pred_count ps)))) (shown names headed (preds_pieces brief ps) (later_pieces brief s) rest)

    no_round : Calm rest → sees open_round predicates ≡ false
    no_round c = preds_apart open_round refl headed ps follows (later_apart open_round refl refl (after headed (tokens_of names (preds_pieces brief ps))) s rest c.no_round)

    no_colons : Calm rest → sees colons predicates ≡ false
    no_colons c = preds_apart colons refl headed ps follows (later_apart colons refl refl (after headed (tokens_of names (preds_pieces brief ps))) s rest c.no_colons)

    begins_so : Calm rest → Begins (laid places (tokens_of names (relative_pieces brief (step a t ps s))) rest)
    begins_so c = rw split (head_begins a t (pred_count ps) places predicates (no_round c))

    step_read : (d : ℕ) → Spelt P t → ReadsPreds ps → nest_preds ps ≤ d → Calm rest
        → read_step newer look (read_within newer look d) (laid places (tokens_of names (relative_pieces brief (step a t ps s))) rest)
        ≡ got (record { axis = a; test = new_test f t; preds = new_preds f ps }) follows
    unfolding read_tail
    step_read d k rp h c =
        rw split
        (head_read a t ps d follows places predicates k (no_round c) (no_colons c) (λ e. rw e)
        (rw (rp d (length predicates) headed follows h (omega (arith, pred_tokens ps, laid_long headed (tokens_of names (preds_pieces brief ps)) follows)) no_square)))
      where
        no_square : sees open_square follows ≡ false
        no_square = later_apart open_square refl refl (after headed (tokens_of names (preds_pieces brief ps))) s rest c.no_square

  -- No step more, and one step more.
  read_stop : ReadsSteps stop
  read_stop = record { relative = λ d n places rest h o l c. absurd (omega arith); later = λ d n places one rest h l c. rw (c.no_slash, c.no_slashes) }

  read-step : (a : Axis) (t : Test) (ps : Preds) (s : Steps) → Spelt P t → ReadsPreds ps → ReadsSteps s → ReadsSteps (step a t ps s)
  read-step a t ps s k rp rs = record { relative = relative_of; later = later_of }
    where
      relative_of : (d n : ℕ) (places : List ℕ) (rest : List Placed) → nest_steps (step a t ps s) ≤ d → 1 ≤ suc (step_count s) → suc (step_count s) ≤ n → Calm rest
          → read_steps newer look (read_within newer look d) n (laid places (tokens_of names (relative_pieces brief (step a t ps s))) rest) ≡ got (new_steps f (step a t ps s)) rest
      relative_of d zero places rest h o l c = absurd (omega arith)
      relative_of d (suc n) places rest h o l c =
          rw (step_read a t ps s places rest d k rp (omega arith) c)
          (rs.later d n (after (headed a t ps s places rest) (tokens_of names (preds_pieces brief ps))) (record { axis = a; test = new_test f t; preds = new_preds f ps }) rest (omega arith) (omega arith) c)

      later_of : (d n : ℕ) (places : List ℕ) (one : Step) (rest : List Placed) → nest_steps (step a t ps s) ≤ d → suc (step_count s) ≤ n → Calm rest
          → onward d n one (laid places (tokens_of names (later_pieces brief (step a t ps s))) rest) ≡ got (before one (new_steps f (step a t ps s))) rest
      later_of d n places one rest h l c =
          by_later (λ qs. onward d n one (laid places (tokens_of names qs) rest) ≡ got (before one (new_steps f (step a t ps s))) rest) brief a t ps s
          (λ p. rw (rs.relative d n (drop 1 places) rest (omega arith) p.more (omega arith) c, p.axis, p.test, p.preds))
          (rw (relative_of d n (drop 1 places) rest h (omega arith) l c))

  -- A path in a predicate.
  read-path : (s : Steps) → 1 ≤ step_count s → ReadsSteps s → Reads (path s)
  unfolding read_operand
  read-path stop o rs = absurd (omega arith)
  read-path (step a t ps s) o rs =
      plain (path (step a t ps s)) refl refl refl refl
      (λ d places rest h c.
      let ts = laid places (tokens_of names (relative_pieces brief (step a t ps s))) rest in
      let b = begins_so a t ps s places rest c in
      rw (
        b.no_not,
        b.no_group,
        rs.relative d (length ts) places rest h o (omega (arith, step_tokens (step a t ps s), laid_long places (tokens_of names (relative_pieces brief (step a t ps s))) rest)) c,
      ))

  mutual
    reads : (e : Expr) → OfList P e → Reads e
    reads (path s) k = read-path s k.0 (reads_steps s k.1)
    reads (both a b) k = read_both a b (reads a k.0) (reads b k.1)
    reads (either a b) k = read_either a b (reads a k.0) (reads b k.1)
    reads (negated a) k = read_negated a (reads a k)

    reads_steps : (s : Steps) → StepsOf P s → ReadsSteps s
    reads_steps stop k = read_stop
    reads_steps (step a t ps s) k = read-step a t ps s k.0 (reads_preds ps k.1) (reads_steps s k.2)

    reads_preds : (ps : Preds) → PredsOf P ps → ReadsPreds ps
    reads_preds bare k = read_bare
    reads_preds (pred e ps) k = read_pred e ps (reads e k.0) (reads_preds ps k.1)

  -- A top-level path, where another or the end follows.
  read_top : (s : Steps) → StepsOf P s → (d : ℕ) (places : List ℕ) (rest : List Placed) → nest_steps s ≤ d → Calm rest → starts_step (next rest) ≡ false
      → read_path newer look (read_within newer look d) (laid places (tokens_of names (path_pieces brief s)) rest) ≡ got (new_steps f s) rest
  unfolding read_path
  read_top stop k d places rest h c n = rw n
  read_top (step a t ps s) k d places rest h c n =
      let told = tokens_of names (relative_pieces brief (step a t ps s)) in
      let behind = tokens_of names (relative_pieces brief s) in
      by_later (λ qs. read_path newer look (read_within newer look d) (laid places (tokens_of names qs) rest) ≡ got (new_steps f (step a t ps s)) rest) brief a t ps s
      (λ p.
      rw (
        (reads_steps s k.2).relative d (length (laid (drop 1 places) behind rest)) (drop 1 places) rest (omega arith) p.more (omega (arith, step_tokens s, laid_long (drop 1 places) behind rest)) c,
        p.axis,
        p.test,
        p.preds,
      ))
      (rw (begins_so a t ps s (drop 1 places) rest c).starts
      ((reads_steps (step a t ps s) k).relative d (length (laid (drop 1 places) told rest)) (drop 1 places) rest h (omega arith) (omega (arith, step_tokens (step a t ps s), laid_long (drop 1 places) told rest)) c))

  -- The paths of a query, to the end of the text.
  pub reads_paths : (ps : List Steps) (p : Steps) → StepsOf P p → AllOf P ps → (d n : ℕ) (places : List ℕ) (end : ℕ) → nest_paths (p ∷ ps) ≤ d → length ps < n
      → read_paths newer look (read_within newer look d) n (laid places (tokens_of names (path_pieces brief p ++ paths_pieces brief ps)) (record { place = end; token = finish } ∷ []))
      ≡ got (record { first = new_steps f p; others = map (new_steps f) ps }) []
  reads_paths [] p k ks d zero places end h l = absurd (omega arith)
  reads_paths [] p k ks d (suc n) places end h l =
      rw (
        shown names places (path_pieces brief p) [] (record { place = end; token = finish } ∷ []),
        read_top p k d places (record { place = end; token = finish } ∷ []) (omega arith) (record { no_square = refl; no_slash = refl; no_slashes = refl; no_round = refl; no_colons = refl }) refl,
      )
  reads_paths (q ∷ ps) p k ks d zero places end h l = absurd (omega arith)
  reads_paths (q ∷ ps) p k ks d (suc n) places end h l =
      let last : List Placed = record { place = end; token = finish } ∷ [] in
      let there = after places (tokens_of names (path_pieces brief p)) in
      let tail = laid there (tokens_of names (bar_sign ∷ path_pieces brief q ++ paths_pieces brief ps)) last in
      rw (
        shown names places (path_pieces brief p) (bar_sign ∷ path_pieces brief q ++ paths_pieces brief ps) last,
        read_top p k d places tail (omega arith) (record { no_square = refl; no_slash = refl; no_slashes = refl; no_round = refl; no_colons = refl }) refl,
        reads_paths ps q ks.0 ks.1 d n (drop 1 there) end (omega arith) (omega arith),
      )

  path_tokens : (p : Steps) → 1 ≤ length (tokens_of names (path_pieces brief p))
  path_tokens stop = omega arith
  path_tokens (step a t ps s) = omega (arith, later_tokens (step a t ps s))

  paths_tokens : (ps : List Steps) → length ps ≤ length (tokens_of names (paths_pieces brief ps))
  paths_tokens [] = omega arith
  paths_tokens (p ∷ ps) =
      rw (tokens_append names (path_pieces brief p) (paths_pieces brief ps)) (omega (arith, paths_tokens ps, length-append (tokens_of names (path_pieces brief p)) (tokens_of names (paths_pieces brief ps))))

  -- There is room for each path in the tokens.
  pub enough_tokens : (p : Steps) (ps : List Steps) (places : List ℕ) (rest : List Placed) → length ps < length (laid places (tokens_of names (path_pieces brief p ++ paths_pieces brief ps)) rest)
  enough_tokens p ps places rest =
      let ts = tokens_of names (path_pieces brief p ++ paths_pieces brief ps) in
      let e : length ts ≡ length (tokens_of names (path_pieces brief p)) + length (tokens_of names (paths_pieces brief ps)) =
      ap length (tokens_append names (path_pieces brief p) (paths_pieces brief ps)) ∙ length-append (tokens_of names (path_pieces brief p)) (tokens_of names (paths_pieces brief ps)) in
      omega (arith, path_tokens p, paths_tokens ps, laid_long places ts rest)

-- With the same numbers the query is the same.
same_test : (t : Test) → new_test (λ v. v) t ≡ t
same_test any_node = refl
same_test text_node = refl
same_test (named v) = refl
same_test any_element = refl

mutual
  same_expr : (e : Expr) → new_expr (λ v. v) e ≡ e
  same_expr (path s) = ap path (same_steps s)
  same_expr (both a b) = ap₂ both (same_expr a) (same_expr b)
  same_expr (either a b) = ap₂ either (same_expr a) (same_expr b)
  same_expr (negated a) = ap negated (same_expr a)

  pub same_steps : (s : Steps) → new_steps (λ v. v) s ≡ s
  same_steps stop = refl
  same_steps (step a t ps rest) = rw (same_test t) (ap₂ (step a t) (same_preds ps) (same_steps rest))

  same_preds : (ps : Preds) → new_preds (λ v. v) ps ≡ ps
  same_preds bare = refl
  same_preds (pred e ps) = ap₂ pred (same_expr e) (same_preds ps)

pub same_paths : (ps : List Steps) → map (new_steps (λ v. v)) ps ≡ ps
same_paths [] = refl
same_paths (p ∷ ps) = ap₂ ◌∷◌ (same_steps p) (same_paths ps)
