-- A grouped chain keeps what its queries keep in turn, and the innermost view's secrets: by induction over the grouping, from exactness and secrecy of one composition. Assumes nothing.
use Prim.Native.Nat.{ℕ}
use mathlib.Core.Path.{◌≡◌, refl, sym, ◌∙◌, ap}
use mathlib.Core.List.{List, [], ◌∷◌, ◌++◌}
use mathlib.Core.Option.{none}
use Rattle.paper.specs.Query.{Query}
use Rattle.paper.specs.Document.{Table, table_fault, marks_fault}
use Rattle.paper.specs.Selection.{kept}
use Rattle.paper.proofs.Keeping.{kept_good}
use Rattle.theorems.proofs.Exact.{exactness}
use Rattle.theorems.proofs.Secrecy.{secrecy}
use Rattle.chain_theorems.specs.Chains.{kept_in_turn, Grouping, alone, on_top, as_one, chain, innermost, InTurn, Secrets, ThreeInTurn, ThreeSecrets}

-- One part of a chain after the other.
pub turns_join : (t : Table) (marks : List ℕ) (ps qs : List Query) → kept_in_turn t (kept_in_turn t marks qs) ps ≡ kept_in_turn t marks (ps ++ qs)
turns_join t marks [] qs = refl
turns_join t marks (p ∷ ps) qs = ap (λ m. kept t m p) (turns_join t marks ps qs)

-- A CHAIN KEEPS WHAT ITS QUERIES KEEP IN TURN.
pub in-turn : InTurn
in-turn t marks (alone q) ft fm = refl
in-turn t marks (on_top outer inner) ft fm =
    let shown = kept t marks (as_one inner) in
    exactness t marks (as_one outer) (as_one inner) ft fm ∙ in-turn t shown outer ft (kept_good t marks (as_one inner) ft fm)
    ∙ ap (λ m. kept_in_turn t m (chain outer)) (in-turn t marks inner ft fm) ∙ turns_join t marks (chain outer) (chain inner)

-- IT SHOWS ALIKE WHAT THE INNERMOST VIEW SHOWS ALIKE.
pub secrets : Secrets
secrets t u (alone q) ft fu h = h
secrets t u (on_top outer inner) ft fu h = secrecy t u (as_one outer) (as_one inner) ft fu (secrets t u inner ft fu h)

-- The two groupings of three views.
abbrev first_two_lem : Query → Query → Query → Grouping
first_two_lem a b c = on_top (on_top (alone a) (alone b)) (alone c)

abbrev last-two : Query → Query → Query → Grouping
last-two a b c = on_top (alone a) (on_top (alone b) (alone c))

pub three_in_turn : ThreeInTurn
three_in_turn t marks a b c ft fm = (in-turn t marks (last-two a b c) ft fm, in-turn t marks (first_two_lem a b c) ft fm)

pub three_secrets : ThreeSecrets
three_secrets t u a b c ft fu h = (secrets t u (last-two a b c) ft fu h, secrets t u (first_two_lem a b c) ft fu h)
