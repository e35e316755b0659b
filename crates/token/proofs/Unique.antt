-- The promise of `take` leaves one answer: the paper's token gives back the token, and the place and the token the next cursor. Assumes nothing.
use Prim.Native.Nat.{ℕ, ◌+◌, ◌≤◌}
use native.Mathlib.Omega.{arith}
use mathlib.Core.Path.{◌≡◌, refl, sym, ◌∙◌, ap}
use mathlib.Core.List.{List, [], ◌∷◌}
use lib.ListN.{length, drop, length-drop}
use lib.Seq.{length-take-le}
use Rattle.paper.specs.Tokens as paper
use Rattle.paper.specs.Tokens.{Placed, tokens_from}
use Rattle.token.specs.declared.Token.{Token}
use Rattle.token.specs.declared.Token.TheVariants.{Mark, Word, Finish, Stray}
use Rattle.token.specs.declared.Mark.{Mark as MarkKind}
use Rattle.token.specs.declared.Mark.TheVariants.{Slash, Slashes, Dot, Dots, Colons, Bar, OpenSquare, CloseSquare, OpenRound, CloseRound, Star}
use Rattle.token.specs.declared.Taken.{Taken}
use Rattle.token.specs.Taking.{mark_of, token_of, width_of, Takes}

-- The token for one of the paper's.
abbrev back : paper.Token → Token
back paper.slash = Mark Slash
back paper.slashes = Mark Slashes
back paper.dot = Mark Dot
back paper.dots = Mark Dots
back paper.colons = Mark Colons
back paper.bar = Mark Bar
back paper.open_square = Mark OpenSquare
back paper.close_square = Mark CloseSquare
back paper.open_round = Mark OpenRound
back paper.close_round = Mark CloseRound
back paper.star = Mark Star
back paper.finish = Finish
back paper.stray = Stray
back (paper.word w) = Word (length w)

back_mark : (m : MarkKind) → back (mark_of m) ≡ Mark m
back_mark Slash = refl
back_mark Slashes = refl
back_mark Dot = refl
back_mark Dots = refl
back_mark Colons = refl
back_mark Bar = refl
back_mark OpenSquare = refl
back_mark CloseSquare = refl
back_mark OpenRound = refl
back_mark CloseRound = refl
back_mark Star = refl

back_of : (text : List ℕ) (place : ℕ) (t : Token) → place + width_of t ≤ length text → back (token_of text place t) ≡ t
back_of text place (Mark m) l = back_mark m
back_of text place (Word count) l = ap Word (length-take-le count (drop place text) (simp length-drop (omega arith)))
back_of text place Finish l = refl
back_of text place Stray l = refl

-- The first of the tokens.
abbrev head : List Placed → Placed
head [] = record { place = 0; token = paper.finish }
head (p ∷ ps) = p

-- The answer that has this place and this token.
abbrev made : ℕ → Token → Taken
made place t = record { place = place; token = t; next = record { at = place + width_of t } }

-- Each answer is made of the first of the tokens.
answer : (text : List ℕ) (at : ℕ) (r : Taken) → Takes text at r → made (head (tokens_from 0 at (drop at text))).place (back (head (tokens_from 0 at (drop at text))).token) ≡ r
answer text at r a =
    ap (λ l. made (head l).place (back (head l).token)) a.first ∙ ap (made r.place) (back_of text r.place r.token (omega (arith, a.past, a.within)))
    ∙ ap (λ n. record { place = r.place; token = r.token; next = record { at = n } }) (sym a.past)

pub take_unique : (text : List ℕ) (at : ℕ) (r s : Taken) → Takes text at r → Takes text at s → r ≡ s
take_unique text at r s a b = sym (answer text at r a) ∙ answer text at s b
