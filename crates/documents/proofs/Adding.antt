-- What a document adds, by its outcome: one that is turned down adds one to its number and nothing else, one that is shown adds its elements. By cases of the answers of reading and running. Assumes nothing.
use Prim.Native.Nat.{ℕ}
use mathlib.Core.Path.{◌≡◌, refl, sym}
use mathlib.Core.Bool.{cond}
use mathlib.Core.List.{List, map}
use lib.Dec.{eqb}
use Rattle.paper.specs.Limits.{node_limit}
use Rattle.paper.specs.Items.{decode}
use Rattle.paper.specs.Document.{Table, nodes, table_of}
use Rattle.paper.specs.Answers.{value, parent_field, kind_field, read_xml_answer, run_answer, kept_got}
use Rattle.paper.specs.Told.{told_refusal}
use Rattle.paper.specs.Sheet.{all_of, kept_of, hidden_of, Outcome, shown, turned_down, rows, table_read, all_marked, scratch_room, table_outcome, text_outcome}
use Rattle.paper.specs.declared.Refusal.{Refusal}
use Rattle.paper.proofs.Refusing.{refusal_told}
use Rattle.code.specs.Codes.{number_told}
use Rattle.tally.specs.Tallies.{sums, times, Grows, NodesTold}
use Rattle.tally.proofs.Growing.{Small, grows_none}
use Rattle.documents.specs.Documents.{Adds}

-- A refusal to run, and a run.
module _ (view : List ℕ) (t : Table) where
  pub table_refused : (why : Refusal) → told_refusal why ≡ run_answer view t (all_marked t) (nodes t) scratch_room → table_outcome view t ≡ turned_down (number_told (told_refusal why))
  unfolding table_outcome
  table_refused why e = let (number, place, is) = refusal_told why in rw (sym e, is)

  pub table_shown : (n : ℕ) → value n ≡ run_answer view t (all_marked t) (nodes t) scratch_room → table_outcome view t ≡ shown t (kept_got t (all_marked t) (decode view))
  unfolding table_outcome
  table_shown n e = rw (sym e)

-- A refusal to read, and a text that is read.
module _ (view list text : List ℕ) where
  pub text_refused : (why : Refusal) → told_refusal why ≡ read_xml_answer text list node_limit node_limit node_limit node_limit → text_outcome view list text ≡ turned_down (number_told (told_refusal why))
  unfolding text_outcome
  text_refused why e = let (number, place, is) = refusal_told why in rw (sym e, is)

  pub text_read : (n : ℕ) → value n ≡ read_xml_answer text list node_limit node_limit node_limit node_limit → text_outcome view list text ≡ table_outcome view (table_of (map parent_field (rows text)) (map (kind_field list) (rows text)))
  unfolding text_outcome table_read
  text_read n e = rw (sym e)

module _ (outcome : Outcome) (all kept hidden refusals : List ℕ) where
  -- One that is turned down.
  pub refusal_adds : (number : ℕ) (new : List ℕ) → outcome ≡ turned_down number → Small sums all → Small sums kept → Small sums hidden
      → Grows times refusals new (λ n. cond (eqb number n) 1 0) → Adds outcome all all kept kept hidden hidden refusals new
  refusal_adds number new is a k h grown =
      rw is
      (record {
        all_grow = grows_none sums all _ a (λ v l. refl);
        kept_grow = grows_none sums kept _ k (λ v l. refl);
        hidden_grow = grows_none sums hidden _ h (λ v l. refl);
        refusals_grow = grown;
      })

  -- One that is shown.
  pub shown_adds : (t : Table) (marks all' kept' hidden' : List ℕ) → outcome ≡ shown t marks → Small times refusals
      → NodesTold (nodes t) t.kinds marks all all' kept kept' hidden hidden' → Adds outcome all all' kept kept' hidden hidden' refusals refusals
  unfolding all_of kept_of hidden_of
  shown_adds t marks all' kept' hidden' is r told =
      rw is
      (record {
        all_grow = told.all_told;
        kept_grow = told.kept_told;
        hidden_grow = told.hidden_told;
        refusals_grow = grows_none times refusals _ r (λ n l. refl);
      })
