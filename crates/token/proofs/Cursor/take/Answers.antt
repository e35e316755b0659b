-- `token::Cursor::take` meets its contract: past white space stands the end, or the longest token there. Assumes nothing.
use Prim.Native.Nat.{ℕ, suc, ◌+◌, ◌≤◌, ◌<◌}
use native.Mathlib.Omega.{arith}
use native.Mathlib.Nat.{add-zero}
use mathlib.Core.Path.{◌≡◌, sym, ◌∙◌, ap}
use mathlib.Core.Bool.{false≢true}
use mathlib.Core.List.{List}
use lib.ListN.{length, get_or, drop, length-drop, drop_of_length-le}
use lib.Seq.{drop-drop, get_or-drop}
use Rattle.paper.specs.Tools.{run_of}
use Rattle.paper.specs.Tokens.{white, tokens_from, beyond}
use Rattle.paper.proofs.Lexing.{stands, blanks, run_within, run-stops}
use Rattle.token.specs.Taking.{token_of, width_of, Skips, Longest, Takes}
use Rattle.token.specs.declared.Token.{Token}
use Rattle.token.proofs.Cursor.take.Goals as goal

-- Past white space the tokens are the same.
skips : (text : List ℕ) (from place : ℕ) → from ≤ length text → place ≡ from + run_of white (drop from text) → Skips text from place
skips text from place within e =
    let room : run_of white (drop from text) ≤ length (drop from text) = run_within white (drop from text) in
    let long = length-drop from text in
    record {
      least = omega arith;
      most = omega arith;
      same =
          blanks from (drop from text) ∙ ap (tokens_from 0 (from + run_of white (drop from text))) (drop-drop (run_of white (drop from text)) from text)
          ∙ ap (λ n. tokens_from 0 n (drop n text)) (sym e);
      stops = λ inside. ap white (ap (λ n. get_or text n 0) e ∙ sym (get_or-drop from text (run_of white (drop from text)) 0)) ∙ run-stops white (drop from text) (omega arith);
    }

-- Past white space stands a token, and past the token go on the others.
goes_on_lem : (text : List ℕ) (from place width : ℕ) (t : Token) → Skips text from place → place < length text → Longest text place t → width ≡ width_of t
    → Takes text from (record { place = place; token = t; next = record { at = place + width } })
goes_on_lem text from place width t s inside g e =
    let l : place + width ≤ length text = omega (arith, g.within) in
    let wide : width ≡ suc (beyond (token_of text place t)) = e ∙ g.wide in
    record {
      first = rw g.goes_on (s.same ∙ stands text place inside (token_of text place t) width (s.stops inside) g.right wide l);
      least = s.least;
      past = ap (◌+◌ place) e;
      within = l;
      ends = λ h. absurd (false≢true (sym g.goes_on ∙ h));
      advances = λ _. omega arith;
    }

pub returns-then-text-place : goal.returns-then-text-place
returns-then-text-place c =
    let text = c.args.text.now in
    let s = c.skip-place in
    let passed = skips text c.args.self.at s.result (omega arith) s.ensures in
    record {
      first = passed.same ∙ ap (tokens_from 0 s.result) (drop_of_length-le text {i = s.result} c.if-text-place.true);
      least = passed.least;
      past = sym (add-zero s.result);
      within = passed.most;
      ends = λ _. omega arith;
      advances = λ h. absurd (false≢true (sym h));
    }

pub returns : goal.returns
returns c =
    let a = c.args in
    let s = c.skip-place in
    goes_on_lem a.text.now a.self.at s.result c.width.result c.token_at-token.result (skips a.text.now a.self.at s.result (omega arith) s.ensures) (omega arith) c.token_at-token.ensures c.width.ensures
