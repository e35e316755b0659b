-- Lean compositions over calls of the compiled entry points that met their contracts: exactness, the same as the composition, secrecy, scratch, and three views in a row.
use Rattle.std.specs.Prelude.{ℕ, ◌≤◌, ◌≡◌, List, length, take}
use contract.Lifetimes.{Lfts}
use denote.Triple.Clauses.{AtExit}
use borrow.Fn.Kinds.{Dens, ended_of}
use Rattle.paper.specs.Told.{Answer}
use Rattle.std.specs.Prelude.{Ok, Err}
use Rattle.paper.specs.declared.Refusal.TheVariants.{Short}
use Rattle.compose_lean.proofs.compose_lean
use Rattle.call_promises.specs.Calls.{ComposeCall, RunCall, View, ones, HeightCall, PathsCall, ScratchCall, scratch_lent}
use Rattle.call_promises.specs.ChainCalls.{ShowsAlike}

-- A call of `compose_lean::compose_lean`.
pub record LeanCall (outer inner : List ℕ) (answer : Answer) (out : List ℕ) : Type 0 where
  pub κs : Lfts 3
  pub args : Dens κs compose_lean.Kinds.ps
  pub exit : AtExit (ended_of 3 compose_lean.Kinds.ps compose_lean.Kinds.r) κs
  pub met : compose_lean.Reads.Post κs args answer exit
  pub outer_lent : args.0.now ≡ outer
  pub inner_lent : args.1.0.now ≡ inner
  pub out_left : exit.1.1.0.now ≡ out

-- THE SAME AS COMPOSED: a run of the lean items answers and writes the same as a run of the composed items.
abbrev pub LeanAsComposed : Type 0
LeanAsComposed =
    (outer inner lean both parents kinds given marks marks' : List ℕ) (n m a b : ℕ) → LeanCall outer inner (Ok n) lean → ComposeCall outer inner (Ok m) both
    → RunCall (take n lean) parents kinds given (Ok a) marks → RunCall (take m both) parents kinds given (Ok b) marks'
    → (a ≡ b) × (marks ≡ marks')

-- NO MORE REFUSALS: where a call of `compose` is accepted, a call of `compose_lean` that is lent as much room is too, with at most as many items.
abbrev pub NoMoreRefusals : Type 0
NoMoreRefusals =
    (outer inner both lean : List ℕ) (n : ℕ) (answer : Answer) (c : ComposeCall outer inner (Ok n) both) (l : LeanCall outer inner answer lean)
    → length l.args.1.1.0.now ≡ length c.args.1.1.0.now → (m : ℕ) × (answer ≡ Ok m) × (m ≤ n)

-- EXACTNESS: a run of the lean items answers and writes the same as a run of the inner items and, inside the marks that this wrote, a run of the outer items.
abbrev pub LeanExactness : Type 0
LeanExactness =
    (outer inner both parents kinds given marks shown last : List ℕ) (n a b c : ℕ) → LeanCall outer inner (Ok n) both
    → RunCall (take n both) parents kinds given (Ok a) marks → RunCall inner parents kinds given (Ok b) shown → RunCall outer parents kinds shown (Ok c) last
    → (a ≡ c) × (marks ≡ last)

-- SECRECY: of two documents that the inner items show alike, the lean items show the same, whatever the outer items are.
abbrev pub LeanSecrecy : Type 0
LeanSecrecy =
    (outer inner both parents kinds parents' kinds' ps ks ps' ks' : List ℕ) (n : ℕ) → LeanCall outer inner (Ok n) both
    → View inner parents kinds (ones parents) ps ks → View inner parents' kinds' (ones parents') ps' ks' → ps ≡ ps' → ks ≡ ks'
    → ShowsAlike (take n both) parents kinds parents' kinds'

-- SCRATCH: lent the bytes that are told by the nodes of the table and by the heights and path counts of two queries, a run of their accepted lean composition never gets 10.
abbrev pub LeanScratchEnough : Type 0
LeanScratchEnough =
    (outer inner both parents kinds given marks : List ℕ) (n oh op ih ip bytes place : ℕ) → LeanCall outer inner (Ok n) both
    → HeightCall outer (Ok oh) → PathsCall outer (Ok op) → HeightCall inner (Ok ih) → PathsCall inner (Ok ip)
    → ScratchCall (length parents) oh op ih ip (Ok bytes)
    → (run : RunCall (take n both) parents kinds given (Err (Short place)) marks) → bytes ≤ scratch_lent run → ⊥

-- An accepted call of `compose_lean::compose_lean`, and the items that it left.
pub record LeanBy (outer inner both : List ℕ) : Type 0 where
  pub count : ℕ
  pub out : List ℕ
  pub call : LeanCall outer inner (Ok count) out
  pub first : both ≡ take count out

-- The four calls of both lean groupings.
pub record GroupedLeanBy (a b c last_two first_two : List ℕ) : Type 0 where
  pub bc : List ℕ
  pub ab : List ℕ
  pub b_on_c : LeanBy b c bc
  pub a_on_bc : LeanBy a bc last_two
  pub a_on_b : LeanBy a b ab
  pub ab_on_c : LeanBy ab c first_two

-- THREE VIEWS: a run of either lean grouping answers and writes the same as the runs of C, B and A in turn.
abbrev pub LeanThreeInTurn : Type 0
LeanThreeInTurn =
    (a b c last_two first_two parents kinds given shown sold asked marks marks' : List ℕ) (i j k l m : ℕ) → GroupedLeanBy a b c last_two first_two
    → RunCall c parents kinds given (Ok i) shown → RunCall b parents kinds shown (Ok j) sold → RunCall a parents kinds sold (Ok k) asked
    → RunCall last_two parents kinds given (Ok l) marks → RunCall first_two parents kinds given (Ok m) marks'
    → (l ≡ k) × (marks ≡ asked) × (m ≡ k) × (marks' ≡ asked)

-- THREE VIEWS' SECRETS: of two documents that C shows alike, either lean grouping shows the same, whatever A and B are.
abbrev pub LeanThreeSecrets : Type 0
LeanThreeSecrets =
    (a b c last_two first_two parents kinds parents' kinds' ps ks ps' ks' : List ℕ) → GroupedLeanBy a b c last_two first_two
    → View c parents kinds (ones parents) ps ks → View c parents' kinds' (ones parents') ps' ks' → ps ≡ ps' → ks ≡ ks'
    → ShowsAlike last_two parents kinds parents' kinds' × ShowsAlike first_two parents kinds parents' kinds'
