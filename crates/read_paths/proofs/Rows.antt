-- Reading rows of predicates and of steps, and what brackets, operands and single steps come to. Each row's invariant: what is left to read gives the answer of the whole. Assumes nothing.
use Prim.Native.Nat.{ℕ, zero, suc, ◌+◌, ◌-◌, ◌*◌, ◌≤◌, ◌<◌}
use native.Mathlib.Omega.{arith}
use mathlib.Core.Path.{◌≡◌, refl, sym, ◌∙◌, ap}
use mathlib.Core.Bool.{Bool, true, false, cond}
use mathlib.Core.List.{List, [], ◌∷◌, ◌++◌, append_assoc, append-nil}
use mathlib.Core.Option.{Option}
use lib.ListN.{length, drop, length-append}
use Rattle.paper.specs.Tokens as paper
use Rattle.paper.specs.Tokens.{Placed}
use Rattle.paper.specs.Query.{Axis, Test, Expr, path, both, either, negated, Steps, stop, Preds, bare, pred}
use Rattle.paper.specs.Items.{axis_number, test_number, pack_path, pack_step, step_count, pred_count, encode_expr, encode_steps, encode_preds, count_bound}
use Rattle.paper.specs.Reading.{Got, got, refused, then, at, sees, pass, Step, before, deep, read_preds, read_tail, read_step, read_steps}
use Rattle.token.specs.declared.Cursor.{Cursor}
use Rattle.item.specs.Unpacked.{packed}
use Rattle.marks.specs.Marks.{tokens_at, Past}
use Rattle.ahead.specs.Looking.{Slashed, NoSlash}
use Rattle.slots.specs.Slots.{Wrote, deep_items}
use Rattle.read_paths.specs.Parts.{Gives, deep_if, step_items, path_items}
use Rattle.slots.proofs.Writing.{wrote_nothing, wrote_more, wrote_head}
use Rattle.read_paths.proofs.Runs.{some_token, some-fuel}

-- What is built of what is read may be built at once.
pub then_then : {A B C : Type 0} (o : Got A) (f : A → B) (g : B → C) → then (then o (λ a. got (f a))) (λ b. got (g b)) ≡ then o (λ a. got (g (f a)))
then_then (got a left) f g = refl
then_then (refused n place) f g = refl

pub then_got : {A : Type 0} (o : Got A) → o ≡ then o (λ a. got a)
then_got (got a left) = refl
then_got (refused n place) = refl

-- PREDICATES.
expr_some : (e : Expr) → 1 ≤ length (encode_expr e)
expr_some (path s) = omega arith
expr_some (both a b) = omega arith
expr_some (either a b) = omega arith
expr_some (negated a) = omega arith

pub record PredRow (newer : Bool) (look : List ℕ → Option ℕ) (within : ℕ → List Placed → Got Expr) (text old out : List ℕ) (from slot here filled taken : ℕ) : Type 0 where
  pub build : Preds → Preds
  pub fuel : ℕ
  pub raw : List ℕ
  pub counts : (ps : Preds) → pred_count (build ps) ≡ taken + pred_count ps
  pub codes : (ps : Preds) → encode_preds (build ps) ≡ raw ++ encode_preds ps
  pub goes_on : read_preds newer look within (length (tokens_at text from)) (tokens_at text from) ≡ then (read_preds newer look within fuel (tokens_at text here)) (λ ps. got (build ps))
  pub enough : length (tokens_at text here) ≤ fuel
  pub wrote : Wrote old out (slot + 1) raw
  pub ends : filled ≡ slot + 1 + length raw
  pub few : taken ≤ length raw
  pub onward : from ≤ here
  pub inside : here ≤ length text
  pub fewer : length (tokens_at text here) ≤ length (tokens_at text from)
  pub grows : filled + 3 * from ≤ slot + 1 + 3 * here

module _ (newer : Bool) (look : List ℕ → Option ℕ) (within : ℕ → List Placed → Got Expr) (text old : List ℕ) (from slot : ℕ) where
  pub preds_start : from ≤ length text → PredRow newer look within text old old from slot from (slot + 1) 0
  preds_start inside =
      record {
        build = λ ps. ps;
        fuel = length (tokens_at text from);
        raw = [];
        counts = λ ps. omega arith;
        codes = λ ps. refl;
        goes_on = then_got (read_preds newer look within (length (tokens_at text from)) (tokens_at text from));
        enough = omega arith;
        wrote = wrote_nothing old (slot + 1);
        ends = omega arith;
        few = omega arith;
        onward = omega arith;
        inside = inside;
        fewer = omega arith;
        grows = omega arith;
      }

  module _ (out : List ℕ) (here filled taken : ℕ) (l : PredRow newer look within text old out from slot here filled taken) where
    -- A `[` comes next.
    module _ (mid bracket : ℕ) (s : sees paper.open_square (tokens_at text here) ≡ true) (e : bracket ≡ at (tokens_at text here)) (p : Past text here mid) where
      abbrev inner : Got Expr
      inner = then (within bracket (tokens_at text mid)) (pass paper.close_square)

      there : (f : ℕ) → l.fuel ≡ suc f
          → read_preds newer look within l.fuel (tokens_at text here) ≡ then inner (λ e left. then (read_preds newer look within f left) (λ ps. got (pred e ps)))
      there f z = ap (λ n. read_preds newer look within n (tokens_at text here)) z ∙ rw (s, ← e, p.rest)

      pub preds_more : (out' : List ℕ) (past end : ℕ) → Gives text out out' mid filled (3 * mid) filled inner encode_expr past end
          → PredRow newer look within text old out' from slot past end (taken + 1)
      preds_more out' past end g =
          some-fuel l.fuel (omega (arith, l.enough, p.fewer))
          (λ f z.
          let code = encode_expr g.what in
          record {
            build = λ ps. l.build (pred g.what ps);
            fuel = f;
            raw = l.raw ++ code;
            counts = λ ps. l.counts (pred g.what ps) ∙ (omega arith);
            codes = λ ps. l.codes (pred g.what ps) ∙ sym (append_assoc l.raw code (encode_preds ps));
            goes_on =
                l.goes_on ∙ ap (λ o. then o (λ ps. got (l.build ps))) (there f z ∙ ap (λ o. then o (λ e left. then (read_preds newer look within f left) (λ ps. got (pred e ps)))) g.reads) ∙
                then_then (read_preds newer look within f (tokens_at text past)) (pred g.what) l.build;
            enough = omega (arith, l.enough, p.fewer, g.fewer);
            wrote = wrote_more old out out' (slot + 1) filled l.raw code l.wrote l.ends g.wrote;
            ends = omega (arith, g.ends, l.ends, length-append l.raw code);
            few = omega (arith, l.few, length-append l.raw code, expr_some g.what);
            onward = omega (arith, l.onward, p.onward, g.onward);
            inside = g.inside;
            fewer = omega (arith, l.fewer, p.fewer, g.fewer);
            grows = omega (arith, l.grows, g.grows, p.onward);
          })

      pub preds_stuck : (a : Axis) (t : Test) (n place : ℕ) → inner ≡ refused n place → read_tail newer look within a t (tokens_at text from) ≡ refused n place
      unfolding read_tail
      preds_stuck a t n place h =
          some-fuel l.fuel (omega (arith, l.enough, p.fewer))
          (λ f z.
          ap (λ o. then o (λ ps. got (record { axis = a; test = t; preds = ps })))
          (l.goes_on ∙ ap (λ o. then o (λ ps. got (l.build ps))) (there f z ∙ ap (λ o. then o (λ e left. then (read_preds newer look within f left) (λ ps. got (pred e ps)))) h)))

    -- None comes: the step's item is put before its predicates.
    pub preds_done : (new : List ℕ) (axis test made : ℕ) (a : Axis) (t : Test) → axis ≡ axis_number a → test ≡ test_number t → sees paper.open_square (tokens_at text here) ≡ false
        → (taken < count_bound → made ≡ packed (record { axis = axis; test = test; count = taken })) → Wrote out new slot (made ∷ [])
        → Gives text old new from slot (3 * from) (slot + 1) (read_tail newer look within a t (tokens_at text from)) step_items here filled
    unfolding read_tail
    preds_done new axis test made a t ea et s right v =
        let ps = l.build bare in
        let code : encode_preds ps ≡ l.raw = l.codes bare ∙ append-nil l.raw in
        let count : pred_count ps ≡ taken = l.counts bare ∙ (omega arith) in
        record {
          what = record { axis = a; test = t; preds = ps };
          reads = ap (λ o. then o (λ ps. got (record { axis = a; test = t; preds = ps }))) (l.goes_on ∙ ap (λ o. then o (λ ps. got (l.build ps))) (over l.fuel));
          wrote =
              rw (code, count)
              (wrote_head old out new slot made (pack_step a t taken) l.raw l.wrote v (λ few. right (omega (arith, l.few)) ∙ rw (ea, et)));
          ends = omega (arith, l.ends, ap length code);
          onward = l.onward;
          inside = l.inside;
          fewer = l.fewer;
          grows = omega (arith, l.grows);
        }
      where
        over : (n : ℕ) → read_preds newer look within n (tokens_at text here) ≡ got bare (tokens_at text here)
        over zero = refl
        over (suc n) = rw s

-- STEPS.
before_code : (lead : Bool) (s : Step) (rest : Steps) → encode_steps (deep_if lead (before s rest)) ≡ (deep_items lead ++ step_items s) ++ encode_steps rest
before_code true s rest = refl
before_code false s rest = refl

before_count : (lead : Bool) (s : Step) (rest : Steps) → step_count (deep_if lead (before s rest)) ≡ length (deep_items lead) + suc (step_count rest)
before_count true s rest = omega arith
before_count false s rest = omega arith

pub deep_few : (lead : Bool) → length (deep_items lead) ≤ 1
deep_few true = omega arith
deep_few false = omega arith

-- At the head of a turn; `lead` tells whether `//` stands before the next step.
pub record StepRow (newer : Bool) (look : List ℕ → Option ℕ) (within : ℕ → List Placed → Got Expr) (text old out : List ℕ) (from slot : ℕ) (all : Got Steps) (here filled : ℕ) (lead : Bool) (taken : ℕ) : Type 0 where
  pub build : Steps → Steps
  pub fuel : ℕ
  pub raw : List ℕ
  pub counts : (s : Steps) → step_count (build s) ≡ taken + step_count s
  pub codes : (s : Steps) → encode_steps (build s) ≡ raw ++ encode_steps s
  pub goes_on : all ≡ then (read_steps newer look within fuel (tokens_at text here)) (λ s. got (build (deep_if lead s)))
  pub enough : length (tokens_at text here) ≤ fuel
  pub wrote : Wrote old out (slot + 1) raw
  pub ends : filled ≡ slot + 1 + length raw
  pub few : taken ≤ length raw
  pub onward : from ≤ here
  pub inside : here ≤ length text
  pub fewer : length (tokens_at text here) ≤ length (tokens_at text from)
  pub grows : filled + 3 * from ≤ slot + 1 + 3 * here

-- After a step was read, before what stands after it is looked at.
pub record Stepped (newer : Bool) (look : List ℕ → Option ℕ) (within : ℕ → List Placed → Got Expr) (text old out : List ℕ) (from slot : ℕ) (all : Got Steps) (past filled taken : ℕ) : Type 0 where
  pub build : Steps → Steps
  pub fuel : ℕ
  pub raw : List ℕ
  pub counts : (s : Steps) → step_count (build s) ≡ taken + step_count s
  pub codes : (s : Steps) → encode_steps (build s) ≡ raw ++ encode_steps s
  pub goes_on : all
      ≡ cond (sees paper.slash (tokens_at text past)) (then (read_steps newer look within fuel (drop 1 (tokens_at text past))) (λ s. got (build s)))
      (cond (sees paper.slashes (tokens_at text past)) (then (read_steps newer look within fuel (drop 1 (tokens_at text past))) (λ s. got (build (deep s)))) (got (build stop) (tokens_at text past)))
  pub enough : length (tokens_at text past) ≤ suc fuel
  pub wrote : Wrote old out (slot + 1) raw
  pub ends : filled ≡ slot + 1 + length raw
  pub few : taken ≤ length raw
  pub onward : from ≤ past
  pub inside : past ≤ length text
  pub fewer : length (tokens_at text past) ≤ length (tokens_at text from)
  pub grows : filled + 3 * from ≤ slot + 3 * past

spread : (b c : Bool) (o : Got Steps) (f g k : Steps → Steps) (x : Steps) (ts : List Placed)
    → then (cond b (then o (λ r. got (f r))) (cond c (then o (λ r. got (g r))) (got x ts))) (λ s. got (k s))
    ≡ cond b (then o (λ r. got (k (f r)))) (cond c (then o (λ r. got (k (g r)))) (got (k x) ts))
spread true c o f g k x ts = then_then o f k
spread false true o f g k x ts = then_then o g k
spread false false o f g k x ts = refl

module _ (newer : Bool) (look : List ℕ → Option ℕ) (within : ℕ → List Placed → Got Expr) (text old : List ℕ) (from slot : ℕ) (deep' : Bool) where
  abbrev all-steps : Got Steps
  all-steps = then (read_steps newer look within (length (tokens_at text from)) (tokens_at text from)) (λ s. got (deep_if deep' s))

  pub steps_start : from ≤ length text → StepRow newer look within text old old from slot all-steps from (slot + 1) deep' 0
  steps_start inside =
      record {
        build = λ s. s;
        fuel = length (tokens_at text from);
        raw = [];
        counts = λ s. omega arith;
        codes = λ s. refl;
        goes_on = refl;
        enough = omega arith;
        wrote = wrote_nothing old (slot + 1);
        ends = omega arith;
        few = omega arith;
        onward = omega arith;
        inside = inside;
        fewer = omega arith;
        grows = omega arith;
      }

module _ (newer : Bool) (look : List ℕ → Option ℕ) (within : ℕ → List Placed → Got Expr) (text old : List ℕ) (from slot : ℕ) (all : Got Steps) where
  module _ (out : List ℕ) (here filled : ℕ) (lead : Bool) (taken : ℕ) (l : StepRow newer look within text old out from slot all here filled lead taken) where
    -- One step is read, behind the step of `//` where that is written.
    pub step_more : (mid out' : List ℕ) (start past end : ℕ) → Wrote out mid filled (deep_items lead) → start ≡ filled + length (deep_items lead)
        → Gives text mid out' here start (3 * here + 2) start (read_step newer look within (tokens_at text here)) step_items past end
        → Stepped newer look within text old out' from slot all past end (taken + (start - filled + 1))
    step_more mid out' start past end w e g =
        some-fuel l.fuel (omega (arith, l.enough, some_token text here))
        (λ f z.
        let s = g.what in
        let code = deep_items lead ++ step_items s in
        let long : length code ≡ length (deep_items lead) + length (step_items s) = length-append (deep_items lead) (step_items s) in
        record {
          build = λ rest. l.build (deep_if lead (before s rest));
          fuel = f;
          raw = l.raw ++ code;
          counts = λ rest. omega (arith, l.counts (deep_if lead (before s rest)), before_count lead s rest);
          codes = λ rest. l.codes (deep_if lead (before s rest)) ∙ ap (λ x. l.raw ++ x) (before_code lead s rest) ∙ sym (append_assoc l.raw code (encode_steps rest));
          goes_on =
              l.goes_on ∙ ap (λ n. then (read_steps newer look within n (tokens_at text here)) (λ r. got (l.build (deep_if lead r)))) z ∙
              rw g.reads
              (spread (sees paper.slash (tokens_at text past)) (sees paper.slashes (tokens_at text past)) (read_steps newer look within f (drop 1 (tokens_at text past))) (before s)
              (λ rest. before s (deep rest)) (λ r. l.build (deep_if lead r)) (before s stop) (tokens_at text past));
          enough = omega (arith, l.enough, g.fewer);
          wrote =
              wrote_more old out out' (slot + 1) filled l.raw code l.wrote l.ends
              (wrote_more out mid out' filled start (deep_items lead) (step_items s) w e g.wrote);
          ends = omega (arith, l.ends, g.ends, length-append l.raw code);
          few = omega (arith, l.few, length-append l.raw code);
          onward = omega (arith, l.onward, g.onward);
          inside = g.inside;
          fewer = omega (arith, l.fewer, g.fewer);
          grows = omega (arith, l.grows, g.grows, deep_few lead);
        })

    pub step_stuck : (n place : ℕ) → read_step newer look within (tokens_at text here) ≡ refused n place → all ≡ refused n place
    step_stuck n place h =
        some-fuel l.fuel (omega (arith, l.enough, some_token text here))
        (λ f z. l.goes_on ∙ ap (λ n. then (read_steps newer look within n (tokens_at text here)) (λ r. got (l.build (deep_if lead r)))) z ∙ rw h)

  module _ (out : List ℕ) (past filled taken : ℕ) (l : Stepped newer look within text old out from slot all past filled taken) where
    -- `/` or `//` comes next.
    pub steps_more : (here : Cursor) (lead : Bool) → Slashed text past lead here.at → StepRow newer look within text old out from slot all here.at filled lead taken
    steps_more here true j =
        record {
          build = l.build;
          fuel = l.fuel;
          raw = l.raw;
          counts = l.counts;
          codes = l.codes;
          goes_on = l.goes_on ∙ rw (j.single, j.double, j.passed.rest);
          enough = omega (arith, l.enough, j.passed.fewer);
          wrote = l.wrote;
          ends = l.ends;
          few = l.few;
          onward = omega (arith, l.onward, j.passed.onward);
          inside = j.passed.inside;
          fewer = omega (arith, l.fewer, j.passed.fewer);
          grows = omega (arith, l.grows, j.passed.onward);
        }
    steps_more here false j =
        record {
          build = l.build;
          fuel = l.fuel;
          raw = l.raw;
          counts = l.counts;
          codes = l.codes;
          goes_on = l.goes_on ∙ rw (j.single, j.passed.rest);
          enough = omega (arith, l.enough, j.passed.fewer);
          wrote = l.wrote;
          ends = l.ends;
          few = l.few;
          onward = omega (arith, l.onward, j.passed.onward);
          inside = j.passed.inside;
          fewer = omega (arith, l.fewer, j.passed.fewer);
          grows = omega (arith, l.grows, j.passed.onward);
        }

    -- Neither comes: the path's item is put before its steps.
    pub steps_done : (new : List ℕ) (made place : ℕ) → NoSlash text past place → (taken < count_bound → made ≡ pack_path taken) → Wrote out new slot (made ∷ [])
        → Gives text old new from slot (3 * from) slot all path_items past filled
    steps_done new made place j right v =
        let s = l.build stop in
        let code : encode_steps s ≡ l.raw = l.codes stop ∙ append-nil l.raw in
        let count : step_count s ≡ taken = l.counts stop ∙ (omega arith) in
        record {
          what = s;
          reads = l.goes_on ∙ rw (j.0, j.1);
          wrote = rw (code, count) (wrote_head old out new slot made (pack_path taken) l.raw l.wrote v (λ few. right (omega (arith, l.few))));
          ends = omega (arith, l.ends, ap length code);
          onward = l.onward;
          inside = l.inside;
          fewer = l.fewer;
          grows = l.grows;
        }
