-- What the keys of lines say: equal lines have equal keys, so a word whose key no line has is said by none. Assumes nothing.
use Prim.Native.Nat.{ℕ}
use borrow.Author.Tests.{eq-eqb}
use mathlib.Core.Path.{◌≡◌, sym, ◌∙◌, ap}
use mathlib.Core.Bool.{false, false≢true}
use mathlib.Core.List.{List}
use lib.Dec.{eqb}
use lib.ListN.{get_or}
use Rattle.paper.specs.Tools.{same, some_below, some_of}
use Rattle.paper.proofs.Same.{not_same}
use Rattle.paper.proofs.Searches.{some_intro}
use Rattle.name_keys.specs.Keys.{Keyed, key_of, earlier}
use Rattle.name_lines.specs.Lines.{said}
use Rattle.name_keys.proofs.Earlier.{earlier_none}

-- Where no line has the word's key, no line says the word.
pub no_key_no_line : (list starts keys : List ℕ) (count : ℕ) (word : List ℕ) → Keyed list starts keys count
    → some_below count (λ v. eqb (get_or keys v 0) (key_of word)) ≡ false → some_of (same word) (earlier list starts count) ≡ false
no_key_no_line list starts keys count word keyed none =
    earlier_none list starts (same word) count
    (λ u l. not_same word (said list starts u)
    (λ e. false≢true (sym none ∙ some_intro count (λ v. eqb (get_or keys v 0) (key_of word)) u l (eq-eqb _ _ (keyed u l ∙ ap key_of (sym e))))))
