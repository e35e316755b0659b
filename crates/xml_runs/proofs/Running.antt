-- How a run of characters begins inside an element, and how it ends before a `<`. Assumes nothing.
use Prim.Native.Nat.{ℕ, ◌≤◌, ◌<◌}
use native.Mathlib.Omega.{arith}
use borrow.Author.Tests.{ne_eqb, eq-eqb}
use mathlib.Core.Path.{◌≡◌, sym, ◌∙◌, ap}
use mathlib.Core.List.{List, ◌∷◌}
use lib.ListN.{length, get_or, drop, drop_of_length-le}
use lib.Seq.{drop-cons}
use Rattle.std.specs.Prelude.{Ok, Err}
use Rattle.paper.specs.declared.Refusal.{Refusal}
use Rattle.paper.specs.declared.Refusal.TheVariants.{NoXml}
use Rattle.paper.specs.Xml.{Frame, Mode, content, run, left_out}
use Rattle.xml_bytes.specs.Seeking.{seek_next}
use Rattle.xml_bytes.specs.Promised.{state, seek_at}
use Rattle.xml_runs.specs.Runs.{Crosses}
use Rattle.xml_runs.specs.Runs.{Runs}
use Rattle.xml_runs.proofs.Leading.{past}

module _ (text : List ℕ) (begin : ℕ) where
  -- What is read so far: reading stands in the run, which ends with k `]`.
  pub record Running (at k : ℕ) : Type 0 where
    pub goes : (f : Frame) (fs : List Frame) → seek_next begin (state content (f ∷ fs)) (drop begin text) ≡ seek_at text at (state (run begin k) (f ∷ fs))
    pub least : begin ≤ at
    pub most : at ≤ length text

  pub run_begins : begin < length text → (get_or text begin 0 ≡ 60 → ⊥) → Running begin 0
  unfolding left_out
  run_begins inside other =
      record {
        goes = λ f fs. rw (drop-cons text begin 0 inside, ne_eqb (get_or text begin 0) 60 other, ne_eqb 60 (get_or text begin 0) (λ e. other (sym e)));
        least = omega arith;
        most = omega arith;
      }

  -- The run ends where a tag begins.
  pub run_ends_lem : (at k : ℕ) → (get_or text begin 0 ≡ 60 → ⊥) → at < length text → get_or text at 0 ≡ 60 → Running at k → Runs text begin (Ok at)
  run_ends_lem at k other inside tag so_far =
      record {
        goes = λ f fs. so_far.goes f fs ∙ rw (drop-cons text at 0 inside, eq-eqb 60 (get_or text at 0) (sym tag));
        bounds = (further so_far.least, so_far.most);
      }
    where
      further : begin ≤ at → begin < at
      further l = past begin at l (λ e. other (ap (λ n. get_or text n 0) (sym e) ∙ tag))

  -- The text ends in it.
  pub run_cut : (at k : ℕ) → length text ≤ at → Running at k → Runs text begin (Err (NoXml at))
  run_cut at k l so_far =
      record {
        goes = λ f fs. so_far.goes f fs ∙ rw (drop_of_length-le text {i = at} l);
        bounds = so_far.most;
      }

  -- A character more.
  pub run_more : (at k k' to : ℕ) → Running at k → Crosses text at (λ b. run b k) (λ b. run b k') (Ok to) → Running to k'
  run_more at k k' to so_far one =
      record { goes = λ f fs. so_far.goes f fs ∙ one.goes begin (f ∷ fs); least = omega (arith, so_far.least, one.bounds.0); most = one.bounds.1 }

  -- A refusal.
  pub run_refused : (at k : ℕ) (after : ℕ → Mode) (why : Refusal) → Running at k → Crosses text at (λ b. run b k) after (Err why) → Runs text begin (Err why)
  run_refused at k after why so_far one = record { goes = λ f fs. so_far.goes f fs ∙ one.goes begin (f ∷ fs); bounds = one.bounds }
