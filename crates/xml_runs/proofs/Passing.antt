-- How reading goes over ordinary bytes, which are looked at a block at a time. Assumes nothing.
use Prim.Native.Nat.{ℕ, zero, suc, ◌+◌, ◌-◌, ◌≤◌, ◌<◌}
use native.Mathlib.Omega.{arith}
use native.Mathlib.Nat.{add-zero}
use native.Mathlib.Decide.{dec_lt}
use mathlib.Core.Logic.{by_cases}
use borrow.Author.Tests.{ne_eqb, eq-eqb, not-true}
use mathlib.Core.Path.{◌≡◌, refl, sym, ◌∙◌, subst}
use mathlib.Core.Bool.{true, false≢true, not, ◌&&◌}
use mathlib.Core.List.{List}
use lib.Dec.{eqb}
use lib.ListN.{length, get_or}
use Rattle.paper.specs.Xml.{plain, run}
use Rattle.paper.proofs.Tests.{and_true}
use Rattle.xml_runs.specs.Runs.{Crosses, squares_after, is_ordinary, ordinary_from, OrdinaryEnds, SquaresPast}
use Rattle.std.specs.Prelude.{Ok}
use Rattle.xml_runs.proofs.Holding.{run_by}
use Rattle.xml_runs.proofs.Leading.{plain_step}
use Rattle.xml_runs.proofs.Running.{Running, run_more}
use Rattle.xml_bytes.specs.Blocks.{block, AllFit}

-- ORDINARY BYTES.
module _ (text : List ℕ) (begin : ℕ) where
  pub ends_none : begin ≤ length text → OrdinaryEnds text begin begin
  ends_none l = record { least = omega arith; most = l; all = λ at m n. absurd (omega arith) }

  pub ends_more : (at n : ℕ) → at + block ≤ length text → n ≤ block → OrdinaryEnds text begin at → AllFit (ordinary_from text at) n → OrdinaryEnds text begin (at + n)
  ends_more at n l m h more =
      record {
        least = omega (arith, h.least);
        most = omega arith;
        all = λ j b e. by_cases (dec_lt j at) (λ f. h.all j b f) (λ f. later j (omega arith) e);
      }
    where
      later : (j : ℕ) → at ≤ j → j < at + n → is_ordinary (get_or text j 0) ≡ true
      later j b e =
          let there : at + (j - at) ≡ j = omega arith in
          subst (λ k. is_ordinary (get_or text k 0) ≡ true) there (more (j - at) (omega arith))

-- What an ordinary byte is not.
record Ordinary (b : ℕ) : Type 0 where
  is_plain : plain b ≡ true
  no_tag : b ≡ 60 → ⊥
  no-reference : b ≡ 38 → ⊥
  no_mark : b ≡ 62 → ⊥
  no_square : b ≡ 93 → ⊥

other : (b n : ℕ) → not (eqb b n) ≡ true → b ≡ n → ⊥
other b n h e = false≢true (sym (not-true _ h) ∙ eq-eqb b n e)

is-ordinary : (b : ℕ) → is_ordinary b ≡ true → Ordinary b
is-ordinary b h =
    let d = and_true (plain b && not (eqb b 60) && not (eqb b 38) && not (eqb b 62)) (not (eqb b 93)) h in
    let c = and_true (plain b && not (eqb b 60) && not (eqb b 38)) (not (eqb b 62)) d.0 in
    let a = and_true (plain b && not (eqb b 60)) (not (eqb b 38)) c.0 in
    let t = and_true (plain b) (not (eqb b 60)) a.0 in
    record { is_plain = t.0; no_tag = other b 60 t.1; no-reference = other b 38 a.1; no_mark = other b 62 c.1; no_square = other b 93 d.1 }

module _ (text : List ℕ) (begin : ℕ) where
  -- Past an ordinary byte no `]` ends the run.
  ordinary_more : (at k : ℕ) → at < length text → is_ordinary (get_or text at 0) ≡ true → Running text begin at k → Running text begin (at + 1) 0
  ordinary_more at k inside h so_far =
      let b = get_or text at 0 in
      let o = is-ordinary b h in
      let none : squares_after b k ≡ 0 = rw (ne_eqb b 93 o.no_square) in
      let crossed : Crosses text at (λ s. run s k) (λ s. run s (squares_after b k)) (Ok (at + 1)) =
      run_by text at inside k (squares_after b k) (at + 1) (record { no_tag = o.no_tag; no-reference = o.no-reference }) refl
      (λ s frames. plain_step s k at b frames o.no_tag o.no-reference (rw (ne_eqb b 62 o.no_mark)) o.is_plain) in
      subst (Running text begin (at + 1)) none (run_more text begin at k (squares_after b k) (at + 1) so_far crossed)

  ordinary_all : (n at : ℕ) → at + n ≤ length text → ((j : ℕ) → at ≤ j → j < at + n → is_ordinary (get_or text j 0) ≡ true) → Running text begin at 0 → Running text begin (at + n) 0
  ordinary_all zero at l all so_far = rw (add-zero at) so_far
  ordinary_all (suc n) at l all so_far =
      let next : (at + n) + 1 ≡ at + suc n = omega arith in
      subst (λ to. Running text begin to 0) next
      (ordinary_more (at + n) 0 (omega arith) (all (at + n) (omega arith) (omega arith)) (ordinary_all n at (omega arith) (λ j b e. all j b (omega arith)) so_far))

  pub ordinary_past : (at past k r : ℕ) → OrdinaryEnds text at past → SquaresPast at past k r → Running text begin at k → Running text begin past r
  ordinary_past at past k r ends squares so_far =
      by_cases (dec_lt at past)
      (λ l.
      let to : (at + 1) + (past - (at + 1)) ≡ past = omega arith in
      subst (Running text begin past) (sym (squares.none l))
      (subst (λ m. Running text begin m 0) to
      (ordinary_all (past - (at + 1)) (at + 1) (omega (arith, ends.most)) (λ j b e. ends.all j (omega arith) (omega arith))
      (ordinary_more at k (omega (arith, ends.most)) (ends.all at (omega arith) l) so_far))))
      (λ l.
      let here : at ≡ past = omega (arith, ends.least) in
      subst (λ m. Running text begin m r) here (subst (Running text begin at) (sym (squares.same (omega arith))) so_far))
