-- Three views in a row over the entry points: accepted compositions and runs are those of the definitions (`Accepting`), and of the definitions the chain's laws are theorems. Assumes nothing.
use Prim.Native.Nat.{ℕ, ◌≤◌}
use native.Mathlib.Omega.{arith}
use mathlib.Core.Path.{◌≡◌, sym, ◌∙◌, ap, ap₂, subst}
use mathlib.Core.List.{List}
use mathlib.Core.Option.{none, some}
use lib.ListN.{length, replicate, length-replicate}
use Rattle.paper.specs.Limits.{item_limit, node_limit}
use Rattle.paper.specs.Query.{Query}
use Rattle.paper.specs.Items.{decode}
use Rattle.paper.specs.Document.{Table, nodes, table_fault, marks_fault, table_of}
use Rattle.paper.specs.Selection.{kept}
use Rattle.paper.specs.Composition.{composed}
use Rattle.paper.specs.Answers.{value, scratch_of, marked_count, run_answer}
use Rattle.paper.proofs.Tests.{some_inj}
use Rattle.paper.proofs.Keeping.{length_kept, kept_good}
use Rattle.theorems.specs.Demands.{all_marked, view}
use Rattle.chain_theorems.proofs.Chains as chains
use Rattle.entry_promises.specs.Entries.{IsComposition, AlikeAfter}
use Rattle.entry_promises.specs.Chains.{Composes, Grouped, Runs, ThreeInTurn, ThreeTogether, ThreeSecrets}
use Rattle.entry_promises.proofs.Accepting.{composition, ran, left_by, runs, shown, shown_alike}

-- What an accepted composition is.
is_composition : {outer inner both : List ℕ} → Composes outer inner both → IsComposition outer inner both
is_composition {outer} {inner} {both} c = subst (IsComposition outer inner) (sym c.left) (composition outer inner c.old c.count c.accepted).0

-- Where its parts are known, it is their composition.
composes_is : {outer inner both : List ℕ} (o i : Query) → decode outer ≡ some o → decode inner ≡ some i → Composes outer inner both → decode both ≡ some (composed o i)
composes_is o i d e c =
    let w = is_composition c in
    w.decodes ∙ ap₂ (λ o i. some (composed o i)) (some_inj (sym w.outer_decodes ∙ d)) (some_inj (sym w.inner_decodes ∙ e))

-- The queries of both groupings.
record Are (a b c last_two first_two : List ℕ) : Type 0 where
  a_is : Query
  b_is : Query
  c_is : Query
  a_decodes : decode a ≡ some a_is
  b_decodes : decode b ≡ some b_is
  c_decodes : decode c ≡ some c_is
  last_decodes : decode last_two ≡ some (composed a_is (composed b_is c_is))
  first_decodes : decode first_two ≡ some (composed (composed a_is b_is) c_is)
  a_few : length a ≤ item_limit
  b_few : length b ≤ item_limit
  last_few : length last_two ≤ item_limit
  first_few : length first_two ≤ item_limit

are : {a b c last_two first_two : List ℕ} → Grouped a b c last_two first_two → Are a b c last_two first_two
are g =
    let v = is_composition g.a_on_b in
    let w = is_composition g.b_on_c in
    let bc = composes_is w.outer_is w.inner_is w.outer_decodes w.inner_decodes g.b_on_c in
    let ab = composes_is v.outer_is w.outer_is v.outer_decodes w.outer_decodes g.a_on_b in
    record {
      a_is = v.outer_is;
      b_is = w.outer_is;
      c_is = w.inner_is;
      a_decodes = v.outer_decodes;
      b_decodes = w.outer_decodes;
      c_decodes = w.inner_decodes;
      last_decodes = composes_is v.outer_is (composed w.outer_is w.inner_is) v.outer_decodes bc g.a_on_bc;
      first_decodes = composes_is (composed v.outer_is w.outer_is) w.inner_is ab w.inner_decodes g.ab_on_c;
      a_few = v.outer_few;
      b_few = w.outer_few;
      last_few = (is_composition g.a_on_bc).few;
      first_few = (is_composition g.ab_on_c).few;
    }

-- What an accepted run left and counted.
pub runs_is : {query : List ℕ} {t : Table} {given : List ℕ} {n : ℕ} {marks : List ℕ} (q : Query) → decode query ≡ some q → Runs query t given n marks
    → (marks ≡ kept t given q) × (n ≡ marked_count t marks) × (table_fault t ≡ none) × (marks_fault t given ≡ none)
runs_is {query} {t} {given} {n} {marks} q d r =
    let k = ran query t given r.old r.room n r.accepted in
    (r.left ∙ left_by q d k, k.counted ∙ ap (marked_count t) (sym r.left), k.table_good, k.marks_good)

-- THREE VIEWS.
pub three_in_turn : ThreeInTurn
three_in_turn a b c last_two first_two t given shown sold asked marks marks' i j k l m g run-c run-b run-a run-last run_first =
    let w = are g in
    let one = runs_is w.c_is w.c_decodes run-c in
    let two = runs_is w.b_is w.b_decodes run-b in
    let three = runs_is w.a_is w.a_decodes run-a in
    let last = runs_is (composed w.a_is (composed w.b_is w.c_is)) w.last_decodes run-last in
    let first = runs_is (composed (composed w.a_is w.b_is) w.c_is) w.first_decodes run_first in
    let both = chains.three_in_turn t given w.a_is w.b_is w.c_is one.2 one.3 in
    let in-turn : kept t (kept t (kept t given w.c_is) w.b_is) w.a_is ≡ asked =
    ap (λ s. kept t (kept t s w.b_is) w.a_is) (sym one.0) ∙ ap (λ s. kept t s w.a_is) (sym two.0) ∙ sym three.0 in
    let lasts = last.0 ∙ both.0 ∙ in-turn in
    let firsts = first.0 ∙ both.1 ∙ in-turn in
    (last.1 ∙ ap (marked_count t) lasts ∙ sym three.1, lasts, first.1 ∙ ap (marked_count t) firsts ∙ sym three.1, firsts)

-- A run that no line refuses can be had, with marks as long as the table and as much scratch as it needs.
pub can_run : {query : List ℕ} {t : Table} {given : List ℕ} (q : Query) → length query ≤ item_limit → nodes t ≤ node_limit → length t.kinds ≡ nodes t → length given ≡ nodes t
    → decode query ≡ some q → table_fault t ≡ none → marks_fault t given ≡ none → Runs query t given (marked_count t (kept t given q)) (kept t given q)
can_run {query} {t} {given} q few nodes_few kinds_all given_all d ft fm =
    let old : List ℕ = replicate (nodes t) 0 in
    let needed = scratch_of t q in
    let said : run_answer query t given (length old) needed ≡ value (marked_count t (kept t given q)) =
    ap (λ n. run_answer query t given n needed) (length-replicate (nodes t) 0) ∙ runs query t given needed q few nodes_few kinds_all given_all d ft fm (omega arith) in
    record { old = old; room = needed; accepted = said; left = sym (left_by q d (ran query t given old needed _ said)) }

-- ITS PREMISES CAN BE MET.
pub three_together : ThreeTogether
three_together a b c last_two first_two t given shown i g run-c =
    let w = are g in
    let r = ran c t given run-c.old run-c.room i run-c.accepted in
    let ft = r.table_good in
    let fm = r.marks_good in
    let few = r.lengths.nodes_few in
    let all = r.lengths.kinds_all in
    let seen = (runs_is w.c_is w.c_decodes run-c).0 in
    let sold = kept t shown w.b_is in
    let asked = kept t sold w.a_is in
    let shown-all : length shown ≡ nodes t = ap length seen ∙ length_kept t given w.c_is in
    let shown-good : marks_fault t shown ≡ none = ap (marks_fault t) seen ∙ kept_good t given w.c_is ft fm in
    let both = chains.three_in_turn t given w.a_is w.b_is w.c_is ft fm in
    let in-turn : kept t (kept t (kept t given w.c_is) w.b_is) w.a_is ≡ asked = ap (λ s. kept t (kept t s w.b_is) w.a_is) (sym seen) in
    let last = can_run {query = last_two} {t = t} {given = given} (composed w.a_is (composed w.b_is w.c_is)) w.last_few few all r.lengths.given_all w.last_decodes ft fm in
    let first = can_run {query = first_two} {t = t} {given = given} (composed (composed w.a_is w.b_is) w.c_is) w.first_few few all r.lengths.given_all w.first_decodes ft fm in (
      marked_count t sold,
      marked_count t asked,
      sold,
      asked,
      can_run w.b_is w.b_few few all shown-all w.b_decodes ft shown-good,
      can_run w.a_is w.a_few few all (length_kept t shown w.b_is) w.a_decodes ft (kept_good t shown w.b_is ft shown-good),
      subst (λ m. Runs last_two t given (marked_count t m) m) (both.0 ∙ in-turn) last,
      subst (λ m. Runs first_two t given (marked_count t m) m) (both.1 ∙ in-turn) first,
    )

-- What shows two documents alike by the definitions does so by runs and extracts.
pub alike : (query : List ℕ) (q : Query) (t u : Table) → decode query ≡ some q → view t q ≡ view u q → AlikeAfter query t (all_marked t) u (all_marked u)
alike query q t u d same x y l m ps ks ps' ks' in-t in-u =
    shown_alike (shown query t (all_marked t) x l ps ks q d in-t) (shown query u (all_marked u) y m ps' ks' q d in-u) same

-- THREE VIEWS' SECRETS.
pub three_secrets : ThreeSecrets
three_secrets a b c last_two first_two t u i j l m parentsₜ kindsₜ parentsᵤ kindsᵤ g in-t in-u same-parents same-kinds =
    let w = are g in
    let inₜ = shown c t (all_marked t) i l parentsₜ kindsₜ w.c_is w.c_decodes in-t in
    let inᵤ = shown c u (all_marked u) j m parentsᵤ kindsᵤ w.c_is w.c_decodes in-u in
    let both = chains.three_secrets t u w.a_is w.b_is w.c_is inₜ.table_good inᵤ.table_good (sym inₜ.view ∙ ap₂ table_of same-parents same-kinds ∙ inᵤ.view) in
    (alike last_two _ t u w.last_decodes both.0, alike first_two _ t u w.first_decodes both.1)
