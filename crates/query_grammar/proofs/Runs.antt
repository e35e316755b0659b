-- Operands joined by a word, grouped to the left: what the runs of `and` and of `or` have in common, so that each law on runs is shown once for both.
-- A run is a record of its parts and of how it goes on; by induction over the most operands that may come. Assumes nothing.
use Prim.Native.Nat.{ℕ, zero, suc}
use mathlib.Core.Path.{◌≡◌, refl, sym, subst}
use mathlib.Core.Bool.{Bool, cond}
use mathlib.Core.List.{List, ◌∷◌}
use mathlib.Core.Option.{Option}
use lib.ListN.{drop}
use Rattle.paper.specs.Tools.{ascii}
use Rattle.paper.specs.Tokens.{word, Placed}
use Rattle.paper.specs.Query.{Expr, both, either}
use Rattle.paper.specs.Reading.{Got, got, then, at, says, read_operand, read_ands, read_term, read_ors}
use Rattle.query_grammar.specs.Grammar.{tok}
use Rattle.query_grammar.proofs.Seeing.{said, chosen}

-- The reader of one operand, the letters of the word, what it makes of two operands, and the reader of the rest of the run, at most n operands.
pub record Run : Type 0 where
  pub one : List Placed → Got Expr
  pub initial : ℕ
  pub others : List ℕ
  pub join : Expr → Expr → Expr
  pub more : ℕ → Expr → List Placed → Got Expr
  pub stops : (a : Expr) (ts : List Placed) → more zero a ts ≡ got a ts
  pub goes : (n : ℕ) (a : Expr) (ts : List Placed) → more (suc n) a ts ≡ cond (says (initial ∷ others) ts) (then (one (drop 1 ts)) (λ b. more n (join a b))) (got a ts)

-- The letters of its word.
abbrev pub spelling : Run → List ℕ
spelling run = run.initial ∷ run.others

-- The two runs.
module _ (newer : Bool) (look : List ℕ → Option ℕ) (within : ℕ → List Placed → Got Expr) where
  abbrev pub and_run : Run
  and_run =
      record { one = read_operand newer look within; initial = 97; others = ascii "nd"; join = both; more = read_ands newer look within; stops = λ a ts. refl; goes = λ n a ts. refl }

  abbrev pub or_run : Run
  or_run =
      record { one = read_term newer look within; initial = 111; others = ascii "r"; join = either; more = read_ors newer look within; stops = λ a ts. refl; goes = λ n a ts. refl }

-- What holds of the operands read so far and the tokens left, and is kept by each operand more, says what becomes of the run.
module _ (run : Run) (I : Expr → List Placed → Type 0) (P : Got Expr → Type 0) (stops : (a : Expr) (ts : List Placed) → I a ts → P (got a ts))
    (joins : (p : ℕ) (a : Expr) (us : List Placed) → I a (tok p (word (spelling run)) ∷ us)
    → (next : Expr → List Placed → Got Expr) → ((b : Expr) (left : List Placed) → I (run.join a b) left → P (next b left)) → P (then (run.one us) next)) where
  pub run_keeps : (n : ℕ) (a : Expr) (ts : List Placed) → I a ts → P (run.more n a ts)
  run_keeps zero a ts i = subst P (sym (run.stops a ts)) (stops a ts i)
  run_keeps (suc n) a ts i =
      chosen (says (spelling run) ts) (sym (run.goes n a ts))
      (λ c e.
      subst P e
      (joins (at ts) a (drop 1 ts) (subst (λ l. I a l) (said run.initial run.others ts c) i) (λ b. run.more n (run.join a b))
      (λ b left j. run_keeps n (run.join a b) left j)))
      (λ c e. subst P e (stops a ts i))
