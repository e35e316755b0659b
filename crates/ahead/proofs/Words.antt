-- The words that call tests, and the axis that is written: a word that names one, and `::`. Assumes nothing.
use Prim.Native.Nat.{ℕ, ◌<◌}
use native.Mathlib.Omega.{arith}
use mathlib.Core.Path.{◌≡◌, refl, sym, ◌∙◌, ap}
use mathlib.Core.Bool.{Bool, true, false, cond}
use mathlib.Core.List.{List, []}
use mathlib.Core.Option.{Option, none, some}
use lib.ListN.{drop}
use lib.Seq.{drop-drop}
use Rattle.std.specs.Prelude.{Some, None}
use Rattle.paper.specs.Tools.{ascii, same}
use Rattle.paper.specs.Tokens as paper
use Rattle.paper.specs.Tokens.{letters}
use Rattle.paper.specs.Query.{Axis, any_node, text_node}
use Rattle.paper.specs.Items.{named_from, test_number}
use Rattle.paper.specs.Reading.{next, sees, axis_named, axis_ahead}
use Rattle.paper.proofs.Tests.{none-some, some_inj}
use Rattle.marks.specs.Marks.{tokens_at, end_of, Past}
use Rattle.ahead.specs.Looking.{AxisWritten, call_code}
use Rattle.axis_words.specs.AxisWords.{axis_code}

-- THE WORDS OF THE TESTS.
small_code : (a b : Bool) (test : ℕ) → cond a (Some (test_number any_node)) (cond b (Some (test_number text_node)) None) ≡ Some test → test < named_from
small_code true b test e = let same : test_number any_node ≡ test = cc in omega (arith, same)
small_code false true test e = let same : test_number text_node ≡ test = cc in omega (arith, same)
small_code false false test e = absurd (let z : ◌≡◌ {A = ℕ} 0 1 = cc in omega arith)

module _ (w : List ℕ) where
  pub node_word : same (ascii "node") w ≡ true → Some (test_number any_node) ≡ call_code w
  node_word a = rw a

  pub text_word : same (ascii "node") w ≡ false → same (ascii "text") w ≡ true → Some (test_number text_node) ≡ call_code w
  text_word a b = rw (a, b)

  pub no_call_word : same (ascii "node") w ≡ false → same (ascii "text") w ≡ false → None ≡ call_code w
  no_call_word a b = rw (a, b)

  pub call_small : (test : ℕ) → call_code w ≡ Some test → test < named_from
  call_small test e = small_code (same (ascii "node") w) (same (ascii "text") w) test e

-- THE AXIS THAT IS WRITTEN.
no_axis : (o : Option Axis) → axis_code o ≡ none → o ≡ none
no_axis none h = refl
no_axis (some a) h = none-some (sym h)

either_none : (b : Bool) → cond {A = Option Axis} b none none ≡ none
either_none true = refl
either_none false = refl

module _ (text : List ℕ) (from : ℕ) where
  pub unnamed : letters (next (tokens_at text from)) ≡ [] → axis_ahead (tokens_at text from) ≡ none
  unnamed h = rw h (either_none (sees paper.colons (drop 1 (tokens_at text from))))

  pub no_colons : (mid : ℕ) → Past text from mid → sees paper.colons (tokens_at text mid) ≡ false → axis_ahead (tokens_at text from) ≡ none
  no_colons mid p h = rw (p.rest, h)

  pub no_axis_word : (w : List ℕ) → letters (next (tokens_at text from)) ≡ w → axis_code (axis_named w) ≡ none → axis_ahead (tokens_at text from) ≡ none
  no_axis_word w l e = rw (l, no_axis (axis_named w) e) (either_none (sees paper.colons (drop 1 (tokens_at text from))))

  pub axis_there : (mid past axis : ℕ) (w : List ℕ) → Past text from mid → letters (next (tokens_at text from)) ≡ w → sees paper.colons (tokens_at text mid) ≡ true → Past text mid past
      → axis_code (axis_named w) ≡ some axis → AxisWritten text from axis past
  axis_there mid past axis w p l s q e = go (axis_named w) refl
    where
      go : (o : Option Axis) → axis_named w ≡ o → AxisWritten text from axis past
      go none h = none-some (ap axis_code (sym h) ∙ e)
      go (some a) h =
          record {
            way = a;
            number = some_inj (sym e ∙ ap axis_code h);
            ahead = rw (p.rest, s, l, h);
            rest = sym (drop-drop 1 1 (tokens_at text from)) ∙ ap (drop 1) p.rest ∙ q.rest;
            onward = omega (arith, p.onward, q.onward);
            inside = q.inside;
            fewer = omega (arith, p.fewer, q.fewer);
            ends = q.ends ∙ ap end_of (sym p.rest);
          }
