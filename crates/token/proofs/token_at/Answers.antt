-- `token::token_at` meets its contract: a name's run gives the word, and `mark_at` every other token. Assumes nothing.
use Prim.Native.Nat.{ℕ, suc, ◌+◌, ◌-◌, ◌<◌}
use native.Mathlib.Omega.{arith}
use native.Mathlib.Numerals.{add-one}
use mathlib.Core.Path.{◌≡◌, refl, sym, ◌∙◌, ap}
use mathlib.Core.Bool.{true}
use mathlib.Core.List.{List}
use lib.ListN.{length, get_or, drop, length-drop}
use lib.Seq.{drop-cons, length-take-le}
use Rattle.paper.specs.Tools.{run_of}
use Rattle.paper.specs.Names.{name_start, name_part}
use Rattle.paper.specs.Tokens.{token_at}
use Rattle.paper.proofs.Lexing.{run_within}
use Rattle.token.specs.declared.Token.TheVariants.{Word}
use Rattle.token.specs.Taking.{Longest}
use Rattle.token.proofs.token_at.Goals as goal

-- A byte that starts a name and the run after it are a word.
word_longest : (text : List ℕ) (place count : ℕ) → place < length text → name_start (get_or text place 0) ≡ true
    → count ≡ suc (run_of name_part (drop (suc place) text)) → Longest text place (Word count)
unfolding token_at
word_longest text place count inside starts e =
    let rest = drop (suc place) text in
    let room = run_within name_part rest in
    record {
      right = rw (drop-cons text place 0 inside, e, starts);
      wide = rw (drop-cons text place 0 inside, e) (ap suc (sym (length-take-le (run_of name_part rest) rest room)));
      within = omega (arith, length-drop (suc place) text);
      goes_on = refl;
    }

pub returns-then-name_start : goal.returns-then-name_start
returns-then-name_start c =
    let a = c.args in
    let e : c.run_end.result ≡ a.place + 1 + run_of name_part (drop (suc a.place) a.text.now) = c.run_end.ensures ∙ rw (add-one a.place) in
    word_longest a.text.now a.place (c.run_end.result - a.place) (omega arith)
    (sym c.name_start.ensures ∙ c.if-name_start.true) (omega arith)
