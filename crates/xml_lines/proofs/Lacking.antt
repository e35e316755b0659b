-- Where the first name stands that the list lacks, when a line comes behind the others: it stays where there is one, and is the line's own where there was none. By induction over the lines.
-- Assumes nothing.
use Prim.Native.Nat.{ℕ, suc}
use mathlib.Core.Path.{◌≡◌, refl, sym, ap}
use mathlib.Core.Bool.{Bool, true, false, cond}
use mathlib.Core.List.{List, [], ◌∷◌, ◌++◌}
use mathlib.Core.Option.{Option, none, some}
use Rattle.paper.specs.Xml.{Row, lacks, unnamed}
use Rattle.paper.proofs.Tests.{none-some}

module _ (look : List ℕ → Option ℕ) where
  -- A line whose name is not lacking changes nothing.
  pub lacks_nothing : (rows : List Row) (r : Row) → lacks look r.what ≡ false → unnamed look rows ≡ unnamed look (rows ++ (r ∷ []))
  lacks_nothing [] r h = rw h
  lacks_nothing (x ∷ xs) r h = ap (λ (o : Option ℕ). cond (lacks look x.what) (some (suc x.begin)) o) (lacks_nothing xs r h)

  -- The first one stays the first.
  pub stays_first : (rows : List Row) (r : Row) (n : ℕ) → unnamed look rows ≡ some n → unnamed look (rows ++ (r ∷ [])) ≡ some n
  stays_first [] r n e = none-some e
  stays_first (x ∷ xs) r n e = go (lacks look x.what) refl e (stays_first xs r n)
    where
      go : (b : Bool) → lacks look x.what ≡ b → unnamed look (x ∷ xs) ≡ some n → (unnamed look xs ≡ some n → unnamed look (xs ++ (r ∷ [])) ≡ some n) → unnamed look ((x ∷ xs) ++ (r ∷ [])) ≡ some n
      go true p f g = rw p (rw p at f)
      go false p f g = rw p (g (rw p at f))

  -- Where none was lacking, it is the line's.
  pub comes_first : (rows : List Row) (r : Row) → unnamed look rows ≡ none → unnamed look (rows ++ (r ∷ [])) ≡ unnamed look (r ∷ [])
  comes_first [] r e = refl
  comes_first (x ∷ xs) r e = go (lacks look x.what) refl e (comes_first xs r)
    where
      go : (b : Bool) → lacks look x.what ≡ b → unnamed look (x ∷ xs) ≡ none → (unnamed look xs ≡ none → unnamed look (xs ++ (r ∷ [])) ≡ unnamed look (r ∷ [])) → unnamed look ((x ∷ xs) ++ (r ∷ [])) ≡ unnamed look (r ∷ [])
      go true p f g = let f' : some (suc x.begin) ≡ none = rw p at f in none-some (sym f')
      go false p f g = rw p (g (rw p at f))
