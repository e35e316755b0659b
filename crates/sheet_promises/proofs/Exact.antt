-- The sheet is exact: each column grows by the sum over the documents, which begins at 0 and never reaches the bound at which a column begins anew. By induction over the documents. Assumes nothing.
use Prim.Native.Nat.{ℕ, zero, suc, ◌+◌, ◌%◌, ◌^◌, ◌<◌, ◌≤◌}
use native.Mathlib.Nat.{mod-lt, mod-eq_of_lt}
use native.Mathlib.Omega.{arith}
use mathlib.Core.Path.{◌≡◌, refl, sym, ◌∙◌, ap}
use mathlib.Core.Bool.{Bool, true, false, cond}
use mathlib.Core.List.{List, [], ◌∷◌}
use mathlib.Core.Option.{none}
use lib.Dec.{eqb}
use lib.ListN.{length, get_or, replicate, length-replicate, get_or-replicate}
use Rattle.paper.specs.Limits.{names_limit}
use Rattle.paper.specs.Names.{names_fault, names_of}
use Rattle.paper.specs.Sheet.{Outcome, shown, turned_down, File, number_limit, document_limit, all_of, kept_of, hidden_of, adds, adds_refusal, sum_over, outcomes, sheet}
use Rattle.sheet_theorems.proofs.Fitting.{sums_fit}
use Rattle.tally.specs.Tallies.{sums, times, Grows}
use Rattle.tally.proofs.Growing.{Small, grows_none, grows_then}
use Rattle.sheet.specs.Sheets.{at}
use Rattle.sheet_promises.specs.Exact.{Columns, fresh, Added, nothing, then, SheetExact}
use Rattle.sheet_promises.proofs.Few.{names_few}
use Rattle.sheet_promises.proofs.Printing.{Agree, tallied_agree}

-- A column whose numbers grow has numbers below the bound.
grown_small : (bound : ℕ) (old new : List ℕ) (f : ℕ → ℕ) → 0 < bound → Grows bound old new f → Small bound new
grown_small bound old new f some g = λ v l. let here : v < length old = omega (arith, g.long) in rw (g.each v here) (mod-lt (get_or old v 0 + f v) some)

-- The columns grow by the sums over the documents.
record Grown (os : List Outcome) (c e : Columns) : Type 0 where
  all_grown : Grows sums c.all e.all (λ v. sum_over (adds all_of v) os)
  kept_grown : Grows sums c.kept e.kept (λ v. sum_over (adds kept_of v) os)
  hidden_grown : Grows sums c.hidden e.hidden (λ v. sum_over (adds hidden_of v) os)
  refusals_grown : Grows times c.refusals e.refusals (λ n. sum_over (adds_refusal n) os)

record AllSmall (c : Columns) : Type 0 where
  all_small : Small sums c.all
  kept_small : Small sums c.kept
  hidden_small : Small sums c.hidden
  refusals_small : Small times c.refusals

grown : (os : List Outcome) (c e : Columns) → AllSmall c → Added os c e → Grown os c e
grown [] c _ s nothing =
    record {
      all_grown = grows_none sums c.all _ s.all_small (λ v l. refl);
      kept_grown = grows_none sums c.kept _ s.kept_small (λ v l. refl);
      hidden_grown = grows_none sums c.hidden _ s.hidden_small (λ v l. refl);
      refusals_grown = grows_none times c.refusals _ s.refusals_small (λ v l. refl);
    }
grown (o ∷ os) c e s (then {d = d} a more) =
    let small : AllSmall d =
    record {
      all_small = grown_small sums _ _ _ (omega arith) a.all_grow;
      kept_small = grown_small sums _ _ _ (omega arith) a.kept_grow;
      hidden_small = grown_small sums _ _ _ (omega arith) a.hidden_grow;
      refusals_small = grown_small times _ _ _ (omega arith) a.refusals_grow;
    } in
    let g = grown os d e small more in
    record {
      all_grown = grows_then sums _ _ _ _ _ _ a.all_grow g.all_grown (λ v l. refl);
      kept_grown = grows_then sums _ _ _ _ _ _ a.kept_grow g.kept_grown (λ v l. refl);
      hidden_grown = grows_then sums _ _ _ _ _ _ a.hidden_grow g.hidden_grown (λ v l. refl);
      refusals_grown = grows_then times _ _ _ _ _ _ a.refusals_grow g.refusals_grown (λ v l. refl);
    }

-- From 0 on a column says the sums, as long as these fit.
zeros_small : (bound n : ℕ) → 0 < bound → Small bound (replicate n 0)
zeros_small bound n some = λ v l. rw (get_or-replicate {A = ℕ} n v 0 0 (omega (arith, length-replicate {A = ℕ} n 0))) some

says : (bound n : ℕ) (new : List ℕ) (f : ℕ → ℕ) → Grows bound (replicate n 0) new f → ((v : ℕ) → f v < bound) → Agree n (at new) f
says bound n new f g fits v l =
    let here : v < length (replicate {A = ℕ} n 0) = omega (arith, length-replicate {A = ℕ} n 0) in
    let begins : get_or (replicate n 0) v 0 + f v ≡ f v = omega (arith, get_or-replicate {A = ℕ} n v 0 0 l) in
    g.each v here ∙ ap (λ k. k % bound) begins ∙ mod-eq_of_lt (fits v)

-- A number is given by no more documents than there are.
one_or_none : (number : ℕ) (o : Outcome) → adds_refusal number o ≤ 1
one_or_none number (shown t marks) = omega arith
one_or_none number (turned_down given) = go (eqb given number)
  where
    go : (b : Bool) → cond b 1 0 ≤ 1
    go true = omega arith
    go false = omega arith

given_few : (number : ℕ) (os : List Outcome) → sum_over (adds_refusal number) os ≤ length os
given_few number [] = omega arith
given_few number (o ∷ os) = omega (arith, one_or_none number o, given_few number os)

outcomes_many : (view list : List ℕ) (left : ℕ) (files : List File) → length (outcomes view list left files) ≡ length files
outcomes_many view list left [] = refl
outcomes_many view list zero (f ∷ fs) = ap suc (outcomes_many view list zero fs)
outcomes_many view list (suc left) (f ∷ fs) = ap suc (outcomes_many view list left fs)

within : (most n : ℕ) (f g : ℕ → ℕ) → n ≤ most → Agree most f g → Agree n f g
within most n f g few a v l = a v (omega arith)

pub sheet_exact : SheetExact
unfolding sheet
sheet_exact view list files e fine many added =
    let os = outcomes view list document_limit files in
    let small : AllSmall fresh =
    record {
      all_small = zeros_small sums names_limit (omega arith);
      kept_small = zeros_small sums names_limit (omega arith);
      hidden_small = zeros_small sums names_limit (omega arith);
      refusals_small = zeros_small times (1 + number_limit) (omega arith);
    } in
    let g = grown os fresh e small added in
    let fit = sums_fit view list files in
    let few = names_few list fine in
    tallied_agree _ _ _ _ _ _ (names_of list) _ _
    (within names_limit _ _ _ few (says sums names_limit e.all _ g.all_grown (λ v. (fit v).0)))
    (within names_limit _ _ _ few (says sums names_limit e.kept _ g.kept_grown (λ v. (fit v).1)))
    (within names_limit _ _ _ few (says sums names_limit e.hidden _ g.hidden_grown (λ v. (fit v).2)))
    (says times (1 + number_limit) e.refusals _ g.refusals_grown (λ n. omega (arith, given_few n os, outcomes_many view list document_limit files, many)))
