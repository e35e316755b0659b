-- 02, 2026-14: what is printed of columns to which the documents of a run were added, one after the other from 0 on, is the sheet of their outcomes.
use Rattle.std.specs.Prelude.{ℕ, ◌+◌, ◌^◌, ◌<◌, ◌≡◌, List, [], ◌∷◌, length, replicate}
use Rattle.std.proofs.Math.Option.{none}
use Rattle.paper.specs.Limits.{names_limit}
use Rattle.paper.specs.Names.{names_fault, names_of}
use Rattle.paper.specs.Sheet.{Outcome, File, number_limit, document_limit, outcomes, tallied, sheet}
use Rattle.documents.specs.Documents.{Adds}
use Rattle.sheet.specs.Sheets.{at}

-- The columns of a run.
pub record Columns : Type 0 where
  pub all : List ℕ
  pub kept : List ℕ
  pub hidden : List ℕ
  pub refusals : List ℕ

-- Before the first document each number is 0.
abbrev pub fresh : Columns
fresh =
    record {
      all = replicate names_limit 0;
      kept = replicate names_limit 0;
      hidden = replicate names_limit 0;
      refusals = replicate (1 + number_limit) 0;
    }

-- Documents with these outcomes are added, one after the other.
pub data Added : List Outcome → Columns → Columns → Type 0 where
  nothing : {c : Columns} → Added [] c c
  then : {o : Outcome} {os : List Outcome} {c d e : Columns} →
      Adds o c.all d.all c.kept d.kept c.hidden d.hidden c.refusals d.refusals → Added os d e → Added (o ∷ os) c e

-- THE SHEET IS EXACT, whatever the view, the files and their number.
abbrev pub SheetExact : Type 0
SheetExact =
    (view list : List ℕ) (files : List File) (e : Columns) → names_fault list ≡ none → length files < 2 ^ 64
    → let os = outcomes view list document_limit files in
    Added os fresh e → tallied (at e.all) (at e.kept) (at e.hidden) (names_of list) (at e.refusals) ≡ sheet (names_of list) os
