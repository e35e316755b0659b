-- 02, 2026-02: files over calls of the compiled entry points that met their contracts.
use Rattle.std.specs.Prelude.{ℕ, ◌≤◌, ◌≡◌, List, length, take}
use contract.Lifetimes.{Lfts}
use denote.Triple.Clauses.{AtExit}
use borrow.Fn.Kinds.{Dens, ended_of}
use Rattle.paper.specs.Limits.{text_limit}
use Rattle.paper.specs.Document.{table_of}
use Rattle.paper.specs.Extraction.{extracted}
use Rattle.paper.specs.Told.{Answer}
use Rattle.std.specs.Prelude.{Ok}
use Rattle.file_theorems.specs.Files.{merged, EqualTexts}
use Rattle.read_xml.proofs.read_xml
use Rattle.write_xml.proofs.write_xml
use Rattle.call_promises.specs.Calls.{ComposeCall, RunCall, View, ones}

-- A call of `read_xml::read_xml`, lent columns of one length, so many nodes, that left these parents and kinds.
pub record ReadXmlCall (text list : List ℕ) (room : ℕ) (answer : Answer) (parents kinds : List ℕ) : Type 0 where
  pub κs : Lfts 6
  pub args : Dens κs read_xml.Kinds.ps
  pub exit : AtExit (ended_of 6 read_xml.Kinds.ps read_xml.Kinds.r) κs
  pub met : read_xml.Reads.Post κs args answer exit
  pub text_lent : args.0.now ≡ text
  pub list_lent : args.1.0.now ≡ list
  pub parents_room : length args.1.1.0.now ≡ room
  pub kinds_room : length args.1.1.1.0.now ≡ room
  pub begins_room : length args.1.1.1.1.0.now ≡ room
  pub ends_room : length args.1.1.1.1.1.0.now ≡ room
  pub parents_left : exit.1.1.0.now ≡ parents
  pub kinds_left : exit.1.1.1.0.now ≡ kinds

-- A call of `write_xml::write_xml`, which left these bytes.
pub record WriteXmlCall (text list parents kinds begins ends marks : List ℕ) (answer : Answer) (file : List ℕ) : Type 0 where
  pub κs : Lfts 8
  pub args : Dens κs write_xml.Kinds.ps
  pub exit : AtExit (ended_of 8 write_xml.Kinds.ps write_xml.Kinds.r) κs
  pub met : write_xml.Reads.Post κs args answer exit
  pub text_lent : args.0.now ≡ text
  pub list_lent : args.1.0.now ≡ list
  pub parents_lent : args.1.1.0.now ≡ parents
  pub kinds_lent : args.1.1.1.0.now ≡ kinds
  pub begins_lent : args.1.1.1.1.0.now ≡ begins
  pub ends_lent : args.1.1.1.1.1.0.now ≡ ends
  pub marks_lent : args.1.1.1.1.1.1.0.now ≡ marks
  pub file_left : exit.1.1.1.1.1.1.1.0.now ≡ file

-- READ BACK: what was written, at most 32,768 bytes, is read again with the same list and room for as many nodes,
-- as the extracted table of the marks with each row of texts side by side made one.
abbrev pub ReadBack : Type 0
ReadBack =
    (text list parents kinds begins ends marks file new_parents new_kinds : List ℕ) (n room : ℕ) (answer : Answer)
    → WriteXmlCall text list parents kinds begins ends marks (Ok n) file → n ≤ text_limit → length parents ≤ room
    → ReadXmlCall (take n file) list room answer new_parents new_kinds
    → (m : ℕ) × (answer ≡ Ok m) × (table_of (take m new_parents) (take m new_kinds) ≡ merged (extracted (table_of parents kinds) marks))

-- SECRECY OF FILES: of two documents that the inner items show alike, with equal bytes of text, what a run of the composed items keeps gives the same file.
abbrev pub FileSecrecy : Type 0
FileSecrecy =
    (outer inner both list text parents kinds begins ends marks file ps ks text' parents' kinds' begins' ends' marks' file' ps' ks' : List ℕ) (n a w a' w' : ℕ)
    → ComposeCall outer inner (Ok n) both
    → (v : View inner parents kinds (ones parents) ps ks) (v' : View inner parents' kinds' (ones parents') ps' ks') → ps ≡ ps' → ks ≡ ks'
    → EqualTexts text (table_of parents kinds) begins ends v.marks text' (table_of parents' kinds') begins' ends' v'.marks
    → RunCall (take n both) parents kinds (ones parents) (Ok a) marks → RunCall (take n both) parents' kinds' (ones parents') (Ok a') marks'
    → WriteXmlCall text list parents kinds begins ends marks (Ok w) file → WriteXmlCall text' list parents' kinds' begins' ends' marks' (Ok w') file'
    → (w ≡ w') × (take w file ≡ take w' file')
