-- A text is read as a tree exactly if the tree is derived from it, and then it is one tree.
-- From the verdict on the text: reading goes one way, over derived texts to their end, and ends nowhere else. Assumes nothing.
use Prim.Native.Nat.{ℕ, ◌+◌}
use mathlib.Core.Path.{◌≡◌, refl, sym, ◌∙◌, ap, subst}
use mathlib.Core.List.{List, [], ◌∷◌, ◌++◌}
use lib.ListN.{length}
use Rattle.paper.specs.Xml.{Nodes, State, start, ended, step, Judged, wanted}
use Rattle.paper.proofs.Tests.{none-some}
use Rattle.xml_grammar.specs.Productions.{Derives}
use Rattle.xml_verdicts.specs.Owed.{Accepted, Unique}
use Rattle.xml_grammar.proofs.Moves.{state, Runs, onto, runs_one, runs_cut}
use Rattle.xml_grammar.proofs.Reached.{reached, derived}
use Rattle.xml_grammar.proofs.Followed.{followed}
use Rattle.xml_verdicts.proofs.Unending.{unending}
use Rattle.xml_verdicts.proofs.Verdict.{Calm, calm_runs, Verdict, ends, short, left_out_lem, stuck, verdict_text}

wanted_derived : {text : List ℕ} {tree : Nodes} → Verdict 0 (state start []) text (wanted tree) → Derives text tree
wanted_derived (ends c e) = derived (calm_runs c) e

-- Where reading goes on to the end of a wanted text.
goes_on_lem : {before rest : List ℕ} {c : ℕ} {s : State} {tree : Nodes} → Calm 0 (state start []) before s (c ∷ rest) → Runs 0 (state start []) (before ++ (c ∷ rest)) (state (ended tree) [])
    → Runs (0 + length before) s (c ∷ rest) (state (ended tree) [])
goes_on_lem {before} {rest} {c} {s} {tree = tree} w r =
    let cut = runs_cut before r in
    subst (λ z. Runs (0 + length before) z (c ∷ rest) (state (ended tree) [])) (runs_one cut.1 (calm_runs w)) cut.2

derived_wanted : {text : List ℕ} {tree : Nodes} {j : Judged} → Derives text tree → Verdict 0 (state start []) text j → j ≡ wanted tree
derived_wanted {tree = tree} d (ends {u = u} {tree = found} c e) =
    let same : u ≡ state (ended tree) [] = runs_one (calm_runs c) (followed d) in
    let mode : ended found ≡ ended tree = sym e ∙ ap (λ (z : State). z.mode) same in
    cc
derived_wanted {tree = tree} d (short {u = u} c n p) = absurd (n (tree, ap (λ (z : State). z.mode) (runs_one (calm_runs c) (followed d))))
derived_wanted {tree = tree} d (left_out_lem before c rest e w l p) =
    absurd (unending (reached (calm_runs w)).1 l (goes_on_lem w (subst (λ x. Runs 0 (state start []) x (state (ended tree) [])) (sym e) (followed d))) (tree, refl))
derived_wanted {tree = tree} d (stuck {u = u} {place = place} before c rest e w l i p) =
    absurd (no (goes_on_lem w (subst (λ x. Runs 0 (state start []) x (state (ended tree) [])) (sym e) (followed d))))
  where
    no : Runs (0 + length before) u (c ∷ rest) (state (ended tree) []) → ⊥
    no (onto h r) = none-some (sym i ∙ ap (λ m. step m u c) p ∙ h)

pub accepted : Accepted
accepted text tree = (λ h. wanted_derived (subst (Verdict 0 (state start []) text) h (verdict_text text)), λ d. derived_wanted d (verdict_text text))

pub unique : Unique
unique text s t d e =
    let f : wanted s ≡ wanted t = sym ((accepted text s).1 d) ∙ (accepted text t).1 e in
    cc
