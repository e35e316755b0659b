-- What the token that was taken says of `*`, of words and of the end of the text. Assumes nothing.
use Prim.Native.Nat.{ℕ, ◌+◌}
use native.Mathlib.Omega.{arith}
use mathlib.Core.Path.{◌≡◌, ◌∙◌, ap}
use mathlib.Core.Bool.{true, false}
use mathlib.Core.List.{List, []}
use lib.ListN.{length}
use Rattle.paper.specs.Tokens as paper
use Rattle.paper.specs.Tokens.{sort}
use Rattle.paper.specs.Reading.{next, sees}
use Rattle.token.specs.declared.Mark.TheVariants.{Star}
use Rattle.token.specs.declared.Token.{Token}
use Rattle.token.specs.declared.Token.TheVariants.{Mark, Word, Finish}
use Rattle.token.specs.declared.Taken.{Taken}
use Rattle.token.specs.Taking.{width_of, finished, Takes}
use Rattle.marks.specs.Marks.{tokens_at}
use Rattle.marks.proofs.Lexed as lexed
use Rattle.marks.proofs.Lexed.{NoWord, is_mark, no_mark, not_word, is_finish, no_finish}

-- A token that is no `*`.
abbrev pub NoStar : Token → Type 0
NoStar t = t ≡ Mark Star → ⊥

module _ (text : List ℕ) (from : ℕ) (r : Taken) (t : Takes text from r) where
  pub word_sort : (len : ℕ) → r.token ≡ Word len → sort (next (tokens_at text from)) ≡ 13
  word_sort len is = lexed.word_sort text from r t len is

  pub not_word_sees : NoWord r.token → sees (paper.word []) (tokens_at text from) ≡ false
  not_word_sees n = not_word text from r t n

  pub is_star : r.token ≡ Mark Star → sees paper.star (tokens_at text from) ≡ true
  is_star is = is_mark text from r t Star is

  pub not_star : NoStar r.token → sees paper.star (tokens_at text from) ≡ false
  not_star n = no_mark text from r t Star n

  -- The end of the text.
  pub ends_here : r.token ≡ Finish → sees paper.finish (tokens_at text from) ≡ true
  ends_here is = is_finish text from r t is

  pub stops_here : r.token ≡ Finish → r.next.at ≡ length text
  stops_here is = t.past ∙ ap (λ (k : Token). r.place + width_of k) is ∙ let e : r.place + 0 ≡ length text = omega (arith, t.ends (ap finished is)) in e

  pub ends_not : (r.token ≡ Finish → ⊥) → sees paper.finish (tokens_at text from) ≡ false
  ends_not n = no_finish text from r t n
