-- Lean compositions over calls, from the same over the entry points' definitions: a call's contract says what it answered and left by those. Assumes nothing.
use Prim.Native.Nat.{ℕ, ◌≤◌}
use mathlib.Core.Path.{◌≡◌, refl, sym, ◌∙◌, ap}
use mathlib.Core.List.{List}
use lib.ListN.{length, take}
use Rattle.paper.specs.Document.{table_of}
use Rattle.paper.specs.Answers.{value, refusal, run_answer, run_marks}
use Rattle.paper.specs.Lean.{compose_lean_answer, compose_lean_out}
use Rattle.paper.specs.Told.{told}
use Rattle.paper.specs.Told.{Answer}
use Rattle.std.specs.Prelude.{Ok}
use Rattle.call_promises.specs.Calls.{scratch_lent}
use Rattle.entry_promises.specs.LeanEntries.{ComposesLean, GroupedLean}
use Rattle.call_promises.specs.LeanCalls.{LeanCall, LeanAsComposed, NoMoreRefusals, LeanExactness, LeanSecrecy, LeanScratchEnough, LeanBy, GroupedLeanBy, LeanThreeInTurn, LeanThreeSecrets}
use Rattle.call_promises.proofs.Telling.{told_same}
use Rattle.call_promises.proofs.Calls.{old_items, composed_value, composed_left, old-marks, scratch-room, run_value, run_left, run_as, shows, height_value, paths_value, scratch_value}
use Rattle.call_promises.proofs.ChainCalls.{runs_by}
use Rattle.entry_promises.proofs.LeanEntries as entries

-- What the contract says of a call, of the slices by the names they have in the statements.
module _ {outer inner both : List ℕ} {answer : Answer} (c : LeanCall outer inner answer both) where
  abbrev lent_items : List ℕ
  lent_items = c.args.1.1.0.now

  lean_said : told answer ≡ compose_lean_answer outer inner (length lent_items)
  lean_said = rw (c.outer_lent, c.inner_lent) at c.met.0

  lean_left : both ≡ compose_lean_out outer inner lent_items
  lean_left = sym c.out_left ∙ (rw (c.outer_lent, c.inner_lent) at c.met.1)

lean_value : {outer inner both : List ℕ} {n : ℕ} (c : LeanCall outer inner (Ok n) both) → compose_lean_answer outer inner (length (lent_items c)) ≡ value n
lean_value c = sym (lean_said c)

-- THE SAME AS COMPOSED.
pub lean_as_composed : LeanAsComposed
lean_as_composed outer inner lean both parents kinds given marks marks' n m a b l c run-lean run-both =
    let t = table_of parents kinds in
    let one = run_as run-lean (ap (take n) (lean_left l)) refl in
    let other = run_as run-both (ap (take m) (composed_left c)) refl in
    let alike = entries.lean_as_composed outer inner (lent_items l) (old_items c) t given (old-marks run-lean) (old-marks run-both) n m a b (scratch-room run-lean) (scratch-room run-both)
    (lean_value l) (composed_value c) one other in (
      alike.0,
      run_left run-lean ∙ ap (λ ws. run_marks (take n ws) t given (old-marks run-lean) (scratch-room run-lean)) (lean_left l) ∙ alike.1
          ∙ sym (run_left run-both ∙ ap (λ ws. run_marks (take m ws) t given (old-marks run-both) (scratch-room run-both)) (composed_left c)),
    )

-- NO MORE REFUSALS.
pub no_more_refusals : NoMoreRefusals
no_more_refusals outer inner both lean n answer c l room =
    let (m, said, few) = entries.no_more_refusals outer inner (length (old_items c)) n (composed_value c) in
    (m, told_same answer (Ok m) (lean_said l ∙ ap (compose_lean_answer outer inner) room ∙ said), few)

-- EXACTNESS.
pub lean_exactness : LeanExactness
lean_exactness outer inner both parents kinds given marks shown last n a b c composing run-both run_first run-second =
    let t = table_of parents kinds in
    let said = run_as run-both (ap (take n) (lean_left composing)) refl in
    let second = run_as run-second refl (run_left run_first) in
    let alike = entries.lean_exactness outer inner (lent_items composing) t given (old-marks run-both) (old-marks run_first) (old-marks run-second) n a b c
    (scratch-room run-both) (scratch-room run_first) (scratch-room run-second) (lean_value composing) said (run_value run_first) second in (
      alike.0,
      run_left run-both ∙ ap (λ ws. run_marks (take n ws) t given (old-marks run-both) (scratch-room run-both)) (lean_left composing)
          ∙ alike.1
          ∙ ap (λ m. run_marks outer t m (old-marks run-second) (scratch-room run-second)) (sym (run_left run_first)) ∙ sym (run_left run-second),
    )

-- SECRECY.
pub lean_secrecy : LeanSecrecy
lean_secrecy outer inner both parents kinds parents' kinds' ps ks ps' ks' n composing v v' same-parents same-kinds qs ls qs' ls' w w' =
    let x = rw (lean_left composing) at (shows w) in
    let x' = rw (lean_left composing) at (shows w') in
    let alike = entries.lean_secrecy outer inner (lent_items composing) (table_of parents kinds) (table_of parents' kinds') n v.kept v'.kept v.count v'.count ps ks ps' ks'
    (lean_value composing) (shows v) (shows v') same-parents same-kinds w.kept w'.kept w.count w'.count qs ls qs' ls' x x' in
    (alike.2, alike.3)

-- SCRATCH.
pub lean_scratch_enough : LeanScratchEnough
lean_scratch_enough outer inner both parents kinds given marks n oh op ih ip bytes place composing outer-high outer-many inner-high inner-many told-bytes run enough =
    let t = table_of parents kinds in
    let lent = length run.args.1.1.1.1.0.now in
    let said : run_answer (take n both) t given lent (scratch_lent run) ≡ refusal 10 place = rw (run.query_lent, run.parents_lent, run.kinds_lent, run.given_lent) at (sym run.met.0) in
    entries.lean_scratch_enough outer inner (lent_items composing) t given n oh op ih ip bytes lent (scratch_lent run) place (lean_value composing)
    (height_value outer-high) (paths_value outer-many) (height_value inner-high) (paths_value inner-many) (scratch_value told-bytes) enough
    (rw (lean_left composing) at said)

-- What the calls of a grouping did, by the definitions.
composes : {outer inner both : List ℕ} → LeanBy outer inner both → ComposesLean outer inner both
composes c =
    record {
      old = lent_items c.call;
      count = c.count;
      accepted = lean_value c.call;
      left = c.first ∙ ap (take c.count) (lean_left c.call);
    }

grouped : {a b c last_two first_two : List ℕ} → GroupedLeanBy a b c last_two first_two → GroupedLean a b c last_two first_two
grouped g =
    record {
      bc = g.bc;
      ab = g.ab;
      b_on_c = composes g.b_on_c;
      a_on_bc = composes g.a_on_bc;
      a_on_b = composes g.a_on_b;
      ab_on_c = composes g.ab_on_c;
    }

-- THREE VIEWS.
pub lean_three_in_turn : LeanThreeInTurn
lean_three_in_turn a b c last_two first_two parents kinds given shown sold asked marks marks' i j k l m g run-c run-b run-a run-last run_first =
    entries.lean_three_in_turn a b c last_two first_two (table_of parents kinds) given shown sold asked marks marks' i j k l m (grouped g) (runs_by run-c) (runs_by run-b) (runs_by run-a)
    (runs_by run-last) (runs_by run_first)

-- THREE VIEWS' SECRETS.
pub lean_three_secrets : LeanThreeSecrets
lean_three_secrets a b c last_two first_two parents kinds parents' kinds' ps ks ps' ks' g v v' same-parents same-kinds =
    let both = entries.lean_three_secrets a b c last_two first_two (table_of parents kinds) (table_of parents' kinds') v.kept v'.kept v.count v'.count ps ks ps' ks' (grouped g)
    (shows v) (shows v') same-parents same-kinds in (
      λ qs ls qs' ls' w w'. let same = both.0 w.kept w'.kept w.count w'.count qs ls qs' ls' (shows w) (shows w') in (same.2, same.3),
      λ qs ls qs' ls' w w'. let same = both.1 w.kept w'.kept w.count w'.count qs ls qs' ls' (shows w) (shows w') in (same.2, same.3),
    )
