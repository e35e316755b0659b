-- Lean compositions over the entry points: what an accepted one left is what the definitions give, and of the definitions the demands are theorems; where the composition is accepted the lean one is, being no larger and no deeper. Assumes nothing.
use Prim.Native.Nat.{ℕ, ◌≤◌}
use native.Mathlib.Omega.{arith}
use mathlib.Core.Path.{◌≡◌, refl, sym, ◌∙◌, ap, ap₂, subst}
use mathlib.Core.Bool.{Bool, true, ◌||◌}
use mathlib.Core.List.{List}
use mathlib.Core.Option.{Option, none, some}
use lib.Dec.{ltb}
use lib.ListN.{length, take}
use borrow.Author.Tests.{ltb-false, le-ltb}
use Rattle.paper.specs.Tools.{when}
use Rattle.paper.specs.Limits.{item_limit, bracket_limit}
use Rattle.paper.specs.Query.{Query}
use Rattle.paper.specs.Items.{encode, decode, good}
use Rattle.paper.specs.Measures.{size, nesting, height}
use Rattle.paper.specs.Document.{Table, nodes, table_fault, marks_fault, table_of}
use Rattle.paper.specs.Selection.{kept}
use Rattle.paper.specs.Composition.{composed}
use Rattle.paper.specs.Answers.{value, line, line_query, too_long, short_of_items, at_exit, marked_count, composing_answer, compose_answer, made_got, composing_out, compose_out}
use Rattle.paper.specs.Answers.{Answer as Told}
use Rattle.paper.specs.Room.{path_count, scratch_bytes}
use Rattle.paper.specs.Lean.{composed_lean, compose_lean_answer, compose_lean_out}
use Rattle.paper.proofs.Tests.{some_inj}
use Rattle.paper.proofs.Refusing.{line_value, when_none, or_none}
use Rattle.paper.proofs.Sizes.{size_items}
use Rattle.paper.proofs.Encoding.{encode_decode}
use Rattle.paper.proofs.Keeping.{length_kept, kept_good}
use Rattle.theorems.specs.Demands.{all_marked, view}
use Rattle.lean_theorems.proofs.Leans as lean
use Rattle.lean_theorems.proofs.Smaller.{no_larger}
use Rattle.lean_theorems.proofs.Shallower.{no_deeper}
use Rattle.lean_theorems.proofs.Lower as lower
use Rattle.lean_theorems.proofs.Forms.{lean_read_back}
use Rattle.entry_promises.specs.Chains.{Runs}
use Rattle.entry_promises.specs.LeanEntries.{IsMade, LeanAcceptance, NoMoreRefusals, LeanNeverMalformed, LeanAsComposed, LeanExactness, LeanTogether, LeanSecrecy, LeanScratchEnough}
use Rattle.entry_promises.specs.LeanEntries.{ComposesLean, GroupedLean, LeanThreeInTurn, LeanThreeTogether, LeanThreeSecrets}
use Rattle.entry_promises.proofs.Accepting.{query_value, first_written, rest, fits, composition, ran, left_by, runs, shown, shown_alike, measure_is, scratch_is}
use Rattle.entry_promises.proofs.Entries.{well_formed, room_enough}
use Rattle.entry_promises.proofs.Chains.{runs_is, can_run, alike}

-- What an accepted composition was lent, whatever way two queries are made one.
apart {ℓ} : {C : Type ℓ} (makes : Query → Query → Query) (outer inner : List ℕ) (room n : ℕ) → composing_answer makes outer inner room ≡ value n
    → (length outer ≤ item_limit → length inner ≤ item_limit → (o i : Query) → decode outer ≡ some o → decode inner ≡ some i → rest room (makes o i) ≡ value n → C) → C
apart makes outer inner room n h next =
    let later : Query → Query → Told = λ o i. rest room (makes o i) in
    let one = line_value 1 n (when (too_long outer item_limit || too_long inner item_limit) 0) (line_query 6 0 (decode outer) (λ o. line_query 6 1 (decode inner) (later o))) h in
    let few = or_none (too_long outer item_limit) (too_long inner item_limit) (when_none (too_long outer item_limit || too_long inner item_limit) 0 one.0) in
    query_value n 6 0 (decode outer) (λ o. line_query 6 1 (decode inner) (later o)) one.1
    (λ o d g. query_value n 6 1 (decode inner) (later o) g (λ i e k. next (ltb-false item_limit (length outer) few.0) (ltb-false item_limit (length inner) few.1) o i d e k))

-- There was room for it.
has_room : (room n : ℕ) (q : Query) → rest room q ≡ value n → size q ≤ room
has_room room n q h =
    let nine = line_value 9 n (when (ltb bracket_limit (nesting q)) (nesting q)) (line 10 (short_of_items room (size q)) (value (size q))) h in
    let ten = line_value 10 n (short_of_items room (size q)) (value (size q)) nine.1 in
    ltb-false room (size q) (or_none (ltb room (size q)) (ltb item_limit (size q)) (when_none (ltb room (size q) || ltb item_limit (size q)) (size q) ten.0)).0

-- And what it left.
made : (makes : Query → Query → Query)
    → ((o i : Query) → good o ≡ true → good i ≡ true → size (makes o i) ≤ item_limit → nesting (makes o i) ≤ bracket_limit → decode (encode (makes o i)) ≡ some (makes o i))
    → (outer inner out : List ℕ) (n : ℕ) → composing_answer makes outer inner (length out) ≡ value n
    → IsMade makes outer inner (take n (composing_out makes outer inner out)) × (length (take n (composing_out makes outer inner out)) ≡ n)
made makes back outer inner out n h =
    apart makes outer inner (length out) n h
    (λ few few₁ o i d e k.
    let f = fits (length out) n (makes o i) k in
    let left : take n (composing_out makes outer inner out) ≡ encode (makes o i) =
    ap (λ a. take n (at_exit a (made_got makes (decode outer) (decode inner)) out)) h ∙ ap₂ (λ x y. take n (at_exit (value n) (made_got makes x y) out)) d e
    ∙ first_written (encode (makes o i)) out n (sym (size_items (makes o i) ∙ f.0)) in
    let long : length (take n (composing_out makes outer inner out)) ≡ n = ap length left ∙ size_items (makes o i) ∙ f.0 in (
      record {
        outer_is = o;
        inner_is = i;
        outer_few = few;
        inner_few = few₁;
        outer_decodes = d;
        inner_decodes = e;
        decodes = ap decode left ∙ back o i (encode_decode outer o d).fine (encode_decode inner i e).fine f.1 f.2;
        few = omega (arith, long, f.0, f.1);
      },
      long,
    ))

-- AN ACCEPTED LEAN COMPOSITION LEAVES A QUERY,
pub lean_acceptance : LeanAcceptance
unfolding compose_lean_answer compose_lean_out
lean_acceptance outer inner out n h = made composed_lean lean_read_back outer inner out n h

-- AND IS ACCEPTED WHERE THE COMPOSITION IS.
accepted_rest : (room : ℕ) (q : Query) → nesting q ≤ bracket_limit → size q ≤ room → size q ≤ item_limit → rest room q ≡ value (size q)
accepted_rest room q deep fit few = rw (le-ltb bracket_limit (nesting q) deep, le-ltb room (size q) fit, le-ltb item_limit (size q) few)

lean_rest : (outer inner : List ℕ) (room : ℕ) (o i : Query) → length outer ≤ item_limit → length inner ≤ item_limit → decode outer ≡ some o → decode inner ≡ some i
    → compose_lean_answer outer inner room ≡ rest room (composed_lean o i)
unfolding compose_lean_answer
lean_rest outer inner room o i few few₁ d e = rw (le-ltb item_limit (length outer) few, le-ltb item_limit (length inner) few₁, d, e)

pub no_more_refusals : NoMoreRefusals
unfolding compose_answer
no_more_refusals outer inner room n h =
    apart composed outer inner room n h
    (λ few few₁ o i d e k.
    let f = fits room n (composed o i) k in
    let small = no_larger o i in
    let q = composed_lean o i in (
      size q,
      lean_rest outer inner room o i few few₁ d e
          ∙ accepted_rest room q (omega (arith, no_deeper o i, f.2)) (omega (arith, small, has_room room n (composed o i) k)) (omega (arith, small, f.1)),
      omega (arith, small, f.0),
    ))

-- IT IS A QUERY.
pub lean_never_malformed : LeanNeverMalformed
lean_never_malformed outer inner out n t given marks_room scratch_room place h =
    let w = (lean_acceptance outer inner out n h).0 in
    well_formed (take n (compose_lean_out outer inner out)) (composed_lean w.outer_is w.inner_is) t given marks_room scratch_room place w.decodes

-- A RUN OF IT IS ONE OF THE COMPOSITION.
pub lean_as_composed : LeanAsComposed
lean_as_composed outer inner out old t given marks marks' n m a b room room' h h' run-lean run-both =
    let w = (lean_acceptance outer inner out n h).0 in
    let v = (composition outer inner old m h').0 in
    let o = w.outer_is in
    let i = w.inner_is in
    let same : composed v.outer_is v.inner_is ≡ composed o i =
    ap₂ composed (some_inj (sym v.outer_decodes ∙ w.outer_decodes)) (some_inj (sym v.inner_decodes ∙ w.inner_decodes)) in
    let one = ran _ t given marks room a run-lean in
    let other = ran _ t given marks' room' b run-both in
    let alike = left_by (composed_lean o i) w.decodes one ∙ lean.same_kept t given o i one.table_good one.marks_good
    ∙ sym (left_by (composed o i) (v.decodes ∙ ap some same) other) in
    (one.counted ∙ ap (marked_count t) alike ∙ sym other.counted, alike)

-- EXACTNESS.
pub lean_exactness : LeanExactness
lean_exactness outer inner out t given marks first second n a b c room room₁ room₂ h run-both run_first run-second =
    let w = (lean_acceptance outer inner out n h).0 in
    let o = w.outer_is in
    let i = w.inner_is in
    let both = ran _ t given marks room a run-both in
    let before = ran _ t given first room₁ b run_first in
    let after = ran _ t _ second room₂ c run-second in
    let alike =
    left_by (composed_lean o i) w.decodes both ∙ lean.lean_exactness t given o i both.table_good both.marks_good
    ∙ ap (λ m. kept t m o) (sym (left_by i w.inner_decodes before)) ∙ sym (left_by o w.outer_decodes after) in
    (both.counted ∙ ap (marked_count t) alike ∙ sym after.counted, alike)

-- ITS PREMISES CAN BE MET.
pub lean_together : LeanTogether
lean_together outer inner out t given first o q n b room room₁ room₂ h run_first d e enough enough₂ =
    let w = (lean_acceptance outer inner out n h).0 in
    let i = w.inner_is in
    let r = ran inner t given first room₁ b run_first in
    let g = r.lengths in
    let left = left_by i w.inner_decodes r in
    let is-both : composed_lean o i ≡ q = ap (λ o. composed_lean o i) (some_inj (sym e ∙ w.outer_decodes)) ∙ some_inj (sym w.decodes ∙ d) in
    let alike = ap (kept t given) (sym is-both) ∙ lean.lean_exactness t given o i r.table_good r.marks_good ∙ ap (λ m. kept t m o) (sym left) in (
      marked_count t (kept t given q),
      runs _ t given room q w.few g.nodes_few g.kinds_all g.given_all d r.table_good r.marks_good enough,
      runs outer t _ room₂ o w.outer_few g.nodes_few g.kinds_all (ap length left ∙ length_kept t given i) e r.table_good
          (ap (marks_fault t) left ∙ kept_good t given i r.table_good r.marks_good) enough₂ ∙
          ap (λ m. value (marked_count t m)) (sym alike),
    )

-- SECRECY.
pub lean_secrecy : LeanSecrecy
lean_secrecy outer inner out t u n a b l m parentsₜ kindsₜ parentsᵤ kindsᵤ h in-t in-u same-parents same-kinds =
    let w = (lean_acceptance outer inner out n h).0 in
    let o = w.outer_is in
    let i = w.inner_is in
    let inₜ = shown inner t (all_marked t) a l parentsₜ kindsₜ i w.inner_decodes in-t in
    let inᵤ = shown inner u (all_marked u) b m parentsᵤ kindsᵤ i w.inner_decodes in-u in
    alike (take n (compose_lean_out outer inner out)) (composed_lean o i) t u w.decodes
    (lean.lean_secrecy t u o i inₜ.table_good inᵤ.table_good (sym inₜ.view ∙ ap₂ table_of same-parents same-kinds ∙ inᵤ.view))

-- SCRATCH.
pub lean_scratch_enough : LeanScratchEnough
lean_scratch_enough outer inner out t given n oh op ih ip bytes marks_room scratch_room place h oh-told op-told ih-told ip-told bytes-told enough =
    let w = (lean_acceptance outer inner out n h).0 in
    let o = w.outer_is in
    let i = w.inner_is in
    let outer-high = measure_is height outer o oh w.outer_decodes oh-told in
    let inner-high = measure_is height inner i ih w.inner_decodes ih-told in
    let inner-paths = measure_is path_count inner i ip w.inner_decodes ip-told in
    let most : bytes ≡ scratch_bytes (nodes t) (height o) (height i) (path_count i) =
    scratch_is (nodes t) oh op ih ip bytes bytes-told ∙ rw (outer-high, inner-high, inner-paths) in
    room_enough _ (composed_lean o i) t given marks_room scratch_room place w.decodes (omega (arith, lower.lean_scratch_enough t o i, most))

-- THREE VIEWS. What an accepted lean composition is, where its parts are known.
is_lean : {outer inner both : List ℕ} → ComposesLean outer inner both → IsMade composed_lean outer inner both
is_lean {outer} {inner} {both} c = subst (IsMade composed_lean outer inner) (sym c.left) (lean_acceptance outer inner c.old c.count c.accepted).0

lean_is : {outer inner both : List ℕ} (o i : Query) → decode outer ≡ some o → decode inner ≡ some i → ComposesLean outer inner both → decode both ≡ some (composed_lean o i)
lean_is o i d e c =
    let w = is_lean c in
    w.decodes ∙ ap₂ (λ o i. some (composed_lean o i)) (some_inj (sym w.outer_decodes ∙ d)) (some_inj (sym w.inner_decodes ∙ e))

-- The queries of both groupings.
record Are (a b c last_two first_two : List ℕ) : Type 0 where
  a_is : Query
  b_is : Query
  c_is : Query
  a_decodes : decode a ≡ some a_is
  b_decodes : decode b ≡ some b_is
  c_decodes : decode c ≡ some c_is
  last_decodes : decode last_two ≡ some (composed_lean a_is (composed_lean b_is c_is))
  first_decodes : decode first_two ≡ some (composed_lean (composed_lean a_is b_is) c_is)
  a_few : length a ≤ item_limit
  b_few : length b ≤ item_limit
  last_few : length last_two ≤ item_limit
  first_few : length first_two ≤ item_limit

are : {a b c last_two first_two : List ℕ} → GroupedLean a b c last_two first_two → Are a b c last_two first_two
are g =
    let v = is_lean g.a_on_b in
    let w = is_lean g.b_on_c in
    let bc = lean_is w.outer_is w.inner_is w.outer_decodes w.inner_decodes g.b_on_c in
    let ab = lean_is v.outer_is w.outer_is v.outer_decodes w.outer_decodes g.a_on_b in
    record {
      a_is = v.outer_is;
      b_is = w.outer_is;
      c_is = w.inner_is;
      a_decodes = v.outer_decodes;
      b_decodes = w.outer_decodes;
      c_decodes = w.inner_decodes;
      last_decodes = lean_is v.outer_is (composed_lean w.outer_is w.inner_is) v.outer_decodes bc g.a_on_bc;
      first_decodes = lean_is (composed_lean v.outer_is w.outer_is) w.inner_is ab w.inner_decodes g.ab_on_c;
      a_few = v.outer_few;
      b_few = w.outer_few;
      last_few = (is_lean g.a_on_bc).few;
      first_few = (is_lean g.ab_on_c).few;
    }

pub lean_three_in_turn : LeanThreeInTurn
lean_three_in_turn a b c last_two first_two t given shown sold asked marks marks' i j k l m g run-c run-b run-a run-last run_first =
    let w = are g in
    let one = runs_is w.c_is w.c_decodes run-c in
    let two = runs_is w.b_is w.b_decodes run-b in
    let three = runs_is w.a_is w.a_decodes run-a in
    let last = runs_is (composed_lean w.a_is (composed_lean w.b_is w.c_is)) w.last_decodes run-last in
    let first = runs_is (composed_lean (composed_lean w.a_is w.b_is) w.c_is) w.first_decodes run_first in
    let both = lean.lean_three_in_turn t given w.a_is w.b_is w.c_is one.2 one.3 in
    let in-turn : kept t (kept t (kept t given w.c_is) w.b_is) w.a_is ≡ asked =
    ap (λ s. kept t (kept t s w.b_is) w.a_is) (sym one.0) ∙ ap (λ s. kept t s w.a_is) (sym two.0) ∙ sym three.0 in
    let lasts = last.0 ∙ both.0 ∙ in-turn in
    let firsts = first.0 ∙ both.1 ∙ in-turn in
    (last.1 ∙ ap (marked_count t) lasts ∙ sym three.1, lasts, first.1 ∙ ap (marked_count t) firsts ∙ sym three.1, firsts)

-- ITS PREMISES CAN BE MET.
pub lean_three_together : LeanThreeTogether
lean_three_together a b c last_two first_two t given shown i g run-c =
    let w = are g in
    let r = ran c t given run-c.old run-c.room i run-c.accepted in
    let ft = r.table_good in
    let fm = r.marks_good in
    let few = r.lengths.nodes_few in
    let all = r.lengths.kinds_all in
    let seen = (runs_is w.c_is w.c_decodes run-c).0 in
    let sold = kept t shown w.b_is in
    let asked = kept t sold w.a_is in
    let shown-all : length shown ≡ nodes t = ap length seen ∙ length_kept t given w.c_is in
    let shown-good : marks_fault t shown ≡ none = ap (marks_fault t) seen ∙ kept_good t given w.c_is ft fm in
    let both = lean.lean_three_in_turn t given w.a_is w.b_is w.c_is ft fm in
    let in-turn : kept t (kept t (kept t given w.c_is) w.b_is) w.a_is ≡ asked = ap (λ s. kept t (kept t s w.b_is) w.a_is) (sym seen) in
    let last = can_run {query = last_two} {t = t} {given = given} (composed_lean w.a_is (composed_lean w.b_is w.c_is)) w.last_few few all r.lengths.given_all w.last_decodes ft fm in
    let first = can_run {query = first_two} {t = t} {given = given} (composed_lean (composed_lean w.a_is w.b_is) w.c_is) w.first_few few all r.lengths.given_all w.first_decodes ft fm in (
      marked_count t sold,
      marked_count t asked,
      sold,
      asked,
      can_run w.b_is w.b_few few all shown-all w.b_decodes ft shown-good,
      can_run w.a_is w.a_few few all (length_kept t shown w.b_is) w.a_decodes ft (kept_good t shown w.b_is ft shown-good),
      subst (λ m. Runs last_two t given (marked_count t m) m) (both.0 ∙ in-turn) last,
      subst (λ m. Runs first_two t given (marked_count t m) m) (both.1 ∙ in-turn) first,
    )

pub lean_three_secrets : LeanThreeSecrets
lean_three_secrets a b c last_two first_two t u i j l m parentsₜ kindsₜ parentsᵤ kindsᵤ g in-t in-u same-parents same-kinds =
    let w = are g in
    let inₜ = shown c t (all_marked t) i l parentsₜ kindsₜ w.c_is w.c_decodes in-t in
    let inᵤ = shown c u (all_marked u) j m parentsᵤ kindsᵤ w.c_is w.c_decodes in-u in
    let both = lean.lean_three_secrets t u w.a_is w.b_is w.c_is inₜ.table_good inᵤ.table_good (sym inₜ.view ∙ ap₂ table_of same-parents same-kinds ∙ inᵤ.view) in
    (alike last_two _ t u w.last_decodes both.0, alike first_two _ t u w.first_decodes both.1)
