-- What begins no step. Assumes nothing.
use mathlib.Core.Path.{◌≡◌, refl}
use mathlib.Core.Bool.{false}
use mathlib.Core.List.{List}
use Prim.Native.Nat.{ℕ}
use Rattle.paper.specs.Reading.{starts_step}
use Rattle.token.specs.declared.Mark.{Mark}
use Rattle.token.specs.declared.Token.{Token}
use Rattle.token.specs.declared.Token.TheVariants.{Word, Finish, Stray}
use Rattle.token.specs.declared.Token.TheVariants.{Mark as Marked}
use Rattle.token.specs.Taking.{token_of}

-- What is no word and no mark.
pub none_starts : (text : List ℕ) (place : ℕ) (t : Token) → ((m : Mark) → t ≡ Marked m → ⊥) → ((count : ℕ) → t ≡ Word count → ⊥) → false ≡ starts_step (token_of text place t)
none_starts text place (Marked m) n k = absurd (n m refl)
none_starts text place (Word count) n k = absurd (k count refl)
none_starts text place Finish n k = refl
none_starts text place Stray n k = refl
