-- 02, 2026-09: three views in a row over calls of the compiled entry points that met their contracts.
use Rattle.std.specs.Prelude.{ℕ, ◌≡◌, List, take}
use Rattle.std.specs.Prelude.{Ok}
use Rattle.call_promises.specs.Calls.{ComposeCall, RunCall, View, ones}

-- An accepted call of `compose::compose`, and the items that it left.
pub record ComposedBy (outer inner both : List ℕ) : Type 0 where
  pub count : ℕ
  pub out : List ℕ
  pub call : ComposeCall outer inner (Ok count) out
  pub first : both ≡ take count out

-- The four calls of both groupings.
pub record GroupedBy (a b c last_two first_two : List ℕ) : Type 0 where
  pub bc : List ℕ
  pub ab : List ℕ
  pub b_on_c : ComposedBy b c bc
  pub a_on_bc : ComposedBy a bc last_two
  pub a_on_b : ComposedBy a b ab
  pub ab_on_c : ComposedBy ab c first_two

-- THREE VIEWS: a run of either grouping answers and writes the same as the runs of C, B and A in turn.
abbrev pub ThreeInTurn : Type 0
ThreeInTurn =
    (a b c last_two first_two parents kinds given shown sold asked marks marks' : List ℕ) (i j k l m : ℕ) → GroupedBy a b c last_two first_two
    → RunCall c parents kinds given (Ok i) shown → RunCall b parents kinds shown (Ok j) sold → RunCall a parents kinds sold (Ok k) asked
    → RunCall last_two parents kinds given (Ok l) marks → RunCall first_two parents kinds given (Ok m) marks'
    → (l ≡ k) × (marks ≡ asked) × (m ≡ k) × (marks' ≡ asked)

-- Whatever the items show of two documents, with every mark 1, is the same.
abbrev pub ShowsAlike : List ℕ → List ℕ → List ℕ → List ℕ → List ℕ → Type 0
ShowsAlike query parents kinds parents' kinds' =
    (qs ls qs' ls' : List ℕ) → View query parents kinds (ones parents) qs ls → View query parents' kinds' (ones parents') qs' ls' → (qs ≡ qs') × (ls ≡ ls')

-- THREE VIEWS' SECRETS: of two documents that C shows alike, either grouping shows the same, whatever A and B are.
abbrev pub ThreeSecrets : Type 0
ThreeSecrets =
    (a b c last_two first_two parents kinds parents' kinds' ps ks ps' ks' : List ℕ) → GroupedBy a b c last_two first_two
    → View c parents kinds (ones parents) ps ks → View c parents' kinds' (ones parents') ps' ks' → ps ≡ ps' → ks ≡ ks'
    → ShowsAlike last_two parents kinds parents' kinds' × ShowsAlike first_two parents kinds parents' kinds'
