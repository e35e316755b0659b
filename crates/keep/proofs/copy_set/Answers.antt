-- `keep::copy_set` meets its contract: a byte is read where no copy has come, since the sets lie apart. Assumes nothing.
use Rattle.std.proofs.Common.{ℕ, ◌+◌, ◌≤◌, ◌<◌, ◌≡◌, refl, sym, ◌∙◌, ap, arith, List, length, get_or, set}
use native.Mathlib.Decide.{ℕ_discrete}
use mathlib.Core.Logic.{⊎_elim, by_cases, ◌⊎◌}
use lib.ListN.{length-set}
use lib.Seq.{get_or-set_same, get_or-set_other}
use Rattle.keep.specs.Recall.{Copied}
use Rattle.keep.proofs.copy_set.Goals as goal

-- One byte more is copied.
one_more : {from to n i : ℕ} {before after : List ℕ} → length after ≡ length before → Copied from to i before after → i < n → to + n ≤ length before → (from + n ≤ to) ⊎ (to + n ≤ from)
    → Copied from to (i + 1) before (set after (to + i) (get_or after (from + i) 0))
one_more {from} {to} {n} {i} {before} {after} size so_far l room apart =
    record {
      copied = λ k b.
          by_cases (ℕ_discrete k i)
          (λ e.
          ap (λ (j : ℕ). get_or (set after (to + i) (get_or after (from + i) 0)) (to + j) 0) e ∙ get_or-set_same after (to + i) _ 0 (omega (arith, size)) ∙ old ∙
          ap (λ (j : ℕ). get_or before (from + j) 0) (sym e))
          (λ d. get_or-set_other after (to + i) (to + k) _ 0 (λ e. d (omega (arith, e))) ∙ so_far.copied k (omega (arith, d)));
      front = λ k b. get_or-set_other after (to + i) k _ 0 (λ e. omega (arith, e)) ∙ so_far.front k b;
      back = λ k b. get_or-set_other after (to + i) k _ 0 (λ e. omega (arith, e)) ∙ so_far.back k (omega arith);
    }
  where
    old : get_or after (from + i) 0 ≡ get_or before (from + i) 0
    old =
        ⊎_elim (λ (a : from + n ≤ to). so_far.front (from + i) (omega arith))
        (λ (b : to + n ≤ from). so_far.back (from + i) (omega arith)) apart

pub loop-i-init : goal.loop-i-init
loop-i-init c = (refl, record { copied = λ k b. absurd (omega arith); front = λ k b. refl; back = λ k b. refl })

pub loop-i-preserved : goal.loop-i-preserved
loop-i-preserved c =
    let l = c.loop-i in
    (length-set l.sets (c.args.to + l.i) _ ∙ l.invariant.0, one_more l.invariant.0 l.invariant.1 (omega (arith, c.loop-i-test.true)) c.requires.1 c.requires.2)
