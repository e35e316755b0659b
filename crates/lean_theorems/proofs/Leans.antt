-- The lean query keeps what the composed query keeps, since it selects the same nodes; so it is exact, and keeps the inner query's secrets, by itself and in a row of views. By exactness and secrecy of the composition, and by induction over the grouping. Assumes nothing.
use Prim.Native.Nat.{ℕ, ◌<◌}
use native.Mathlib.Omega.{arith}
use mathlib.Core.Path.{◌≡◌, refl, sym, ◌∙◌, ap, subst}
use mathlib.Core.Bool.{Bool, true, false, ◌&&◌, ◌||◌, cond}
use mathlib.Core.List.{List}
use mathlib.Core.Option.{none}
use Rattle.paper.specs.Query.{Query}
use Rattle.paper.specs.Document.{Table, nodes, over, marked, table_fault, marks_fault}
use Rattle.paper.specs.Selection.{selects, keeps, kept}
use Rattle.paper.specs.Extraction.{extracted}
use Rattle.paper.specs.Composition.{composed}
use Rattle.paper.specs.Lean.{composed_lean}
use Rattle.paper.proofs.Searches.{some_same, column_same}
use Rattle.paper.proofs.Keeping.{kept_good}
use Rattle.theorems.specs.Demands.{all_marked, view}
use Rattle.theorems.proofs.Exact.{exactness}
use Rattle.theorems.proofs.Secrecy.{all-good, secrecy}
use Rattle.chain_theorems.specs.Chains.{kept_in_turn}
use Rattle.chain_theorems.proofs.Chains.{turns_join}
use Rattle.lean_theorems.specs.Leans.{SameKept, LeanExactness, LeanSecrecy, Made, alone, on_top, as_one, chain, innermost, LeanInTurn, LeanSecrets, LeanThreeInTurn, LeanThreeSecrets}
use Rattle.lean_theorems.proofs.Alike.{same_selected}

-- What is selected alike is kept alike.
keeps_alike : (t : Table) (m : List ℕ) (q r : Query) (i : ℕ) → ((k : ℕ) → selects t m q k ≡ selects t m r k) → keeps t m q i ≡ keeps t m r i
unfolding keeps
keeps_alike t m q r i same =
    ap (λ b. marked m i && b)
    (some_same (nodes t) (λ k. selects t m q k && (over t i k || over t k i)) (λ k. selects t m r k && (over t i k || over t k i))
    (λ k l. ap (λ b. b && (over t i k || over t k i)) (same k)))

-- THE LEAN QUERY KEEPS WHAT THE COMPOSED QUERY KEEPS,
pub same_kept : SameKept
unfolding kept
same_kept t m outer inner ft fm =
    column_same (nodes t) 0 (λ x. cond (keeps t m (composed_lean outer inner) x) 1 0) (λ x. cond (keeps t m (composed outer inner) x) 1 0)
    (λ x z l. ap (λ b. cond b 1 0) (keeps_alike t m (composed_lean outer inner) (composed outer inner) x (λ k. same_selected t m outer inner k ft fm)))

-- WHICH IS WHAT THE OUTER QUERY KEEPS INSIDE WHAT THE INNER QUERY KEEPS.
pub lean_exactness : LeanExactness
lean_exactness t m outer inner ft fm = same_kept t m outer inner ft fm ∙ exactness t m outer inner ft fm

-- So they show the same of a whole document.
same_view : (t : Table) (outer inner : Query) → table_fault t ≡ none → view t (composed_lean outer inner) ≡ view t (composed outer inner)
same_view t outer inner ft = ap (extracted t) (same_kept t (all_marked t) outer inner ft (all-good t ft))

-- DOCUMENTS THAT THE INNER QUERY SHOWS ALIKE, THE LEAN QUERY SHOWS ALIKE.
pub lean_secrecy : LeanSecrecy
lean_secrecy t u outer inner ft fu h = same_view t outer inner ft ∙ secrecy t u outer inner ft fu h ∙ sym (same_view u outer inner fu)

-- One composition more, lean or not.
exact_on_top : (t : Table) (m : List ℕ) (lean : Bool) (outer inner : Query) → table_fault t ≡ none → marks_fault t m ≡ none
    → kept t m (cond lean (composed_lean outer inner) (composed outer inner)) ≡ kept t (kept t m inner) outer
exact_on_top t m true outer inner ft fm = lean_exactness t m outer inner ft fm
exact_on_top t m false outer inner ft fm = exactness t m outer inner ft fm

secret_on_top : (t u : Table) (lean : Bool) (outer inner : Query) → table_fault t ≡ none → table_fault u ≡ none → view t inner ≡ view u inner
    → view t (cond lean (composed_lean outer inner) (composed outer inner)) ≡ view u (cond lean (composed_lean outer inner) (composed outer inner))
secret_on_top t u true outer inner ft fu h = lean_secrecy t u outer inner ft fu h
secret_on_top t u false outer inner ft fu h = secrecy t u outer inner ft fu h

-- A CHAIN KEEPS WHAT ITS QUERIES KEEP IN TURN, WHICHEVER OF ITS COMPOSITIONS ARE LEAN.
pub lean_in_turn : LeanInTurn
lean_in_turn t m (alone q) ft fm = refl
lean_in_turn t m (on_top lean outer inner) ft fm =
    let shown = kept t m (as_one inner) in
    exact_on_top t m lean (as_one outer) (as_one inner) ft fm ∙ lean_in_turn t shown outer ft (kept_good t m (as_one inner) ft fm)
    ∙ ap (λ n. kept_in_turn t n (chain outer)) (lean_in_turn t m inner ft fm) ∙ turns_join t m (chain outer) (chain inner)

-- IT SHOWS ALIKE WHAT THE INNERMOST VIEW SHOWS ALIKE.
pub lean_secrets : LeanSecrets
lean_secrets t u (alone q) ft fu h = h
lean_secrets t u (on_top lean outer inner) ft fu h = secret_on_top t u lean (as_one outer) (as_one inner) ft fu (lean_secrets t u inner ft fu h)

-- The two lean groupings of three views.
abbrev first_two_lem : Query → Query → Query → Made
first_two_lem a b c = on_top true (on_top true (alone a) (alone b)) (alone c)

abbrev last-two : Query → Query → Query → Made
last-two a b c = on_top true (alone a) (on_top true (alone b) (alone c))

pub lean_three_in_turn : LeanThreeInTurn
lean_three_in_turn t m a b c ft fm = (lean_in_turn t m (last-two a b c) ft fm, lean_in_turn t m (first_two_lem a b c) ft fm)

pub lean_three_secrets : LeanThreeSecrets
lean_three_secrets t u a b c ft fu h = (lean_secrets t u (last-two a b c) ft fu h, lean_secrets t u (first_two_lem a b c) ft fu h)
