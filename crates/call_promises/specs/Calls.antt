-- The demands of docs/SCOPE.md over calls. Each record `..Call` is a call of an entry point that met its contract, by what it was lent, what it answered and what it left.
use Rattle.std.specs.Prelude.{ℕ, ◌≤◌, ◌≡◌, Bool, true, false, List, length, take, replicate}
use contract.Lifetimes.{Lfts}
use denote.Triple.Clauses.{AtExit}
use borrow.Fn.Kinds.{Dens, ended_of}
use Rattle.paper.specs.Limits.{text_limit}
use Rattle.paper.specs.Document.{table_of}
use Rattle.paper.specs.Cut.{marks_of, numbers_of}
use Rattle.paper.specs.Answers.{no_version}
use Rattle.paper.specs.Told.{Answer}
use Rattle.std.specs.Prelude.{Ok, Err}
use Rattle.paper.specs.declared.Refusal.TheVariants.{Short, BadMarks}
use Rattle.read.proofs.read
use Rattle.print.proofs.print
use Rattle.print.proofs.print_long
use Rattle.compose.proofs.compose
use Rattle.run.proofs.run
use Rattle.extract.proofs.extract
use Rattle.room.proofs.height
use Rattle.room.proofs.paths
use Rattle.room.proofs.scratch
use Rattle.cut.proofs.is_cut

-- A call of `read::read`, which held `old` in the slice for items.
pub record ReadCall (text : List ℕ) (version : ℕ) (list old : List ℕ) (answer : Answer) (out : List ℕ) : Type 0 where
  pub κs : Lfts 3
  pub args : Dens κs read.Kinds.ps
  pub exit : AtExit (ended_of 3 read.Kinds.ps read.Kinds.r) κs
  pub met : read.Reads.Post κs args answer exit
  pub text_lent : args.0.now ≡ text
  pub version_given : args.1.0 ≡ version
  pub list_lent : args.1.1.0.now ≡ list
  pub out_lent : args.1.1.1.0.now ≡ old
  pub out_left : exit.1.1.1.0.now ≡ out

-- A call of `print::print`.
pub record PrintCall (query list : List ℕ) (answer : Answer) (out : List ℕ) : Type 0 where
  pub κs : Lfts 3
  pub args : Dens κs print.Kinds.ps
  pub exit : AtExit (ended_of 3 print.Kinds.ps print.Kinds.r) κs
  pub met : print.Reads.Post κs args answer exit
  pub query_lent : args.0.now ≡ query
  pub list_lent : args.1.0.now ≡ list
  pub out_left : exit.1.1.0.now ≡ out

-- A call of `print::print_long`.
pub record PrintLongCall (query list : List ℕ) (answer : Answer) (out : List ℕ) : Type 0 where
  pub κs : Lfts 3
  pub args : Dens κs print_long.Kinds.ps
  pub exit : AtExit (ended_of 3 print_long.Kinds.ps print_long.Kinds.r) κs
  pub met : print_long.Reads.Post κs args answer exit
  pub query_lent : args.0.now ≡ query
  pub list_lent : args.1.0.now ≡ list
  pub out_left : exit.1.1.0.now ≡ out

-- The call that prints in a form, the short one or the long one.
abbrev pub FormCall : Bool → List ℕ → List ℕ → Answer → List ℕ → Type 0
FormCall true query list answer out = PrintCall query list answer out
FormCall false query list answer out = PrintLongCall query list answer out

-- A call of `compose::compose`.
pub record ComposeCall (outer inner : List ℕ) (answer : Answer) (out : List ℕ) : Type 0 where
  pub κs : Lfts 3
  pub args : Dens κs compose.Kinds.ps
  pub exit : AtExit (ended_of 3 compose.Kinds.ps compose.Kinds.r) κs
  pub met : compose.Reads.Post κs args answer exit
  pub outer_lent : args.0.now ≡ outer
  pub inner_lent : args.1.0.now ≡ inner
  pub out_left : exit.1.1.0.now ≡ out

-- A call of `run::run`, which left these marks.
pub record RunCall (query parents kinds given : List ℕ) (answer : Answer) (marks : List ℕ) : Type 0 where
  pub κs : Lfts 6
  pub args : Dens κs run.Kinds.ps
  pub exit : AtExit (ended_of 6 run.Kinds.ps run.Kinds.r) κs
  pub met : run.Reads.Post κs args answer exit
  pub query_lent : args.0.now ≡ query
  pub parents_lent : args.1.0.now ≡ parents
  pub kinds_lent : args.1.1.0.now ≡ kinds
  pub given_lent : args.1.1.1.0.now ≡ given
  pub marks_left : exit.1.1.1.1.0.now ≡ marks

-- A call of `extract::extract`, which left these columns.
pub record ExtractCall (parents kinds marks : List ℕ) (answer : Answer) (new_parents new_kinds : List ℕ) : Type 0 where
  pub κs : Lfts 5
  pub args : Dens κs extract.Kinds.ps
  pub exit : AtExit (ended_of 5 extract.Kinds.ps extract.Kinds.r) κs
  pub met : extract.Reads.Post κs args answer exit
  pub parents_lent : args.0.now ≡ parents
  pub kinds_lent : args.1.0.now ≡ kinds
  pub marks_lent : args.1.1.0.now ≡ marks
  pub parents_left : exit.1.1.1.0.now ≡ new_parents
  pub kinds_left : exit.1.1.1.1.0.now ≡ new_kinds

-- EXACTNESS: a run of the composed items answers and writes the same as a run of the inner items and, inside the marks that this wrote, a run of the outer items.
abbrev pub Exactness : Type 0
Exactness =
    (outer inner both parents kinds given marks shown last : List ℕ) (n a b c : ℕ) → ComposeCall outer inner (Ok n) both
    → RunCall (take n both) parents kinds given (Ok a) marks → RunCall inner parents kinds given (Ok b) shown → RunCall outer parents kinds shown (Ok c) last
    → (a ≡ c) × (marks ≡ last)

-- A run of the items inside marks and an extract of the marks that it wrote, both accepted: the columns of the sub-document.
pub record View (query parents kinds given : List ℕ) (new_parents new_kinds : List ℕ) : Type 0 where
  pub kept : ℕ
  pub count : ℕ
  pub marks : List ℕ
  pub out_parents : List ℕ
  pub out_kinds : List ℕ
  pub ran : RunCall query parents kinds given (Ok kept) marks
  pub took : ExtractCall parents kinds marks (Ok count) out_parents out_kinds
  pub parents_first : new_parents ≡ take count out_parents
  pub kinds_first : new_kinds ≡ take count out_kinds

-- Every mark 1.
abbrev pub ones : List ℕ → List ℕ
ones parents = replicate (length parents) 1

-- SECRECY: of two documents that the inner items show alike, the composed items show the same, whatever the outer items are.
abbrev pub Secrecy : Type 0
Secrecy =
    (outer inner both parents kinds parents' kinds' ps ks ps' ks' : List ℕ) (n : ℕ) → ComposeCall outer inner (Ok n) both
    → View inner parents kinds (ones parents) ps ks → View inner parents' kinds' (ones parents') ps' ks' → ps ≡ ps' → ks ≡ ks'
    → (qs ls qs' ls' : List ℕ) → View (take n both) parents kinds (ones parents) qs ls → View (take n both) parents' kinds' (ones parents') qs' ls'
    → (qs ≡ qs') × (ls ≡ ls')

-- EXTRACTION: items run inside marks show the same as run on the table that an extract of those marks left, with every mark 1.
abbrev pub Extraction : Type 0
Extraction =
    (query parents kinds given out_parents out_kinds ps ks qs ls : List ℕ) (n : ℕ) → ExtractCall parents kinds given (Ok n) out_parents out_kinds
    → View query parents kinds given ps ks → View query (take n out_parents) (take n out_kinds) (ones (take n out_parents)) qs ls
    → (ps ≡ qs) × (ks ≡ ls)

-- ROUND TRIP: reading what was printed in either form, at most 32,768 bytes, by either version, with the same list and room enough, is accepted and leaves the items that were printed.
abbrev pub RoundTrip : Type 0
RoundTrip =
    (brief : Bool) (query list text old out : List ℕ) (n version : ℕ) (answer : Answer) → no_version version ≡ false → FormCall brief query list (Ok n) text → n ≤ text_limit → length query ≤ length old
    → ReadCall (take n text) version list old answer out
    → (answer ≡ Ok (length query)) × (take (length query) out ≡ query)

-- SHORTER: where the long form was printed, the short form is printed in as much room, with no more bytes.
abbrev pub Shorter : Type 0
Shorter =
    (query list long short : List ℕ) (n : ℕ) (answer : Answer) (l : PrintLongCall query list (Ok n) long) (s : PrintCall query list answer short)
    → length s.args.1.1.0.now ≡ length l.args.1.1.0.now → (m : ℕ) × (answer ≡ Ok m) × (m ≤ n)

-- A call of `room::height` and one of `room::paths`.
pub record HeightCall (query : List ℕ) (answer : Answer) : Type 0 where
  pub κs : Lfts 1
  pub args : Dens κs height.Kinds.ps
  pub exit : AtExit (ended_of 1 height.Kinds.ps height.Kinds.r) κs
  pub met : height.Reads.Post κs args answer exit
  pub query_lent : args.0.now ≡ query

pub record PathsCall (query : List ℕ) (answer : Answer) : Type 0 where
  pub κs : Lfts 1
  pub args : Dens κs paths.Kinds.ps
  pub exit : AtExit (ended_of 1 paths.Kinds.ps paths.Kinds.r) κs
  pub met : paths.Reads.Post κs args answer exit
  pub query_lent : args.0.now ≡ query

-- A call of `room::scratch`, with these five numbers.
pub record ScratchCall (count oh op ih ip : ℕ) (answer : Answer) : Type 0 where
  pub κs : Lfts 0
  pub args : Dens κs scratch.Kinds.ps
  pub exit : AtExit (ended_of 0 scratch.Kinds.ps scratch.Kinds.r) κs
  pub met : scratch.Reads.Post κs args answer exit
  pub count_given : args.0 ≡ count
  pub outer_height_given : args.1.0 ≡ oh
  pub outer_paths_given : args.1.1.0 ≡ op
  pub inner_height_given : args.1.1.1.0 ≡ ih
  pub inner_paths_given : args.1.1.1.1.0 ≡ ip

-- The bytes of scratch lent to a run.
abbrev pub scratch_lent : {query parents kinds given : List ℕ} {answer : Answer} {marks : List ℕ} → RunCall query parents kinds given answer marks → ℕ
scratch_lent c = length c.args.1.1.1.1.1.0.now

-- SCRATCH (02, 2026-10): lent the bytes that are told by the nodes of the table and by the heights and path counts of two queries, a run of their accepted composition never gets 10.
abbrev pub ScratchEnough : Type 0
ScratchEnough =
    (outer inner both parents kinds given marks : List ℕ) (n oh op ih ip bytes place : ℕ) → ComposeCall outer inner (Ok n) both
    → HeightCall outer (Ok oh) → PathsCall outer (Ok op) → HeightCall inner (Ok ih) → PathsCall inner (Ok ip)
    → ScratchCall (length parents) oh op ih ip (Ok bytes)
    → (run : RunCall (take n both) parents kinds given (Err (Short place)) marks) → bytes ≤ scratch_lent run → ⊥

-- A call of `cut::is_cut`.
pub record CutCall (parents kinds cut_parents cut_kinds numbers : List ℕ) (answer : Answer) : Type 0 where
  pub κs : Lfts 5
  pub args : Dens κs is_cut.Kinds.ps
  pub exit : AtExit (ended_of 5 is_cut.Kinds.ps is_cut.Kinds.r) κs
  pub met : is_cut.Reads.Post κs args answer exit
  pub parents_lent : args.0.now ≡ parents
  pub kinds_lent : args.1.0.now ≡ kinds
  pub cut_parents_lent : args.1.1.0.now ≡ cut_parents
  pub cut_kinds_lent : args.1.1.1.0.now ≡ cut_kinds
  pub numbers_lent : args.1.1.1.1.0.now ≡ numbers

-- A YES: no extract calls the marks that the partner's numbers stand for bad,
abbrev pub YesMarks : Type 0
YesMarks =
    (parents kinds cut_parents cut_kinds numbers out_parents out_kinds : List ℕ) (place : ℕ) → CutCall parents kinds cut_parents cut_kinds numbers (Ok 1)
    → ExtractCall parents kinds (marks_of (table_of parents kinds) numbers) (Err (BadMarks place)) out_parents out_kinds → ⊥

-- and one that is accepted leaves the partner's columns.
abbrev pub YesExtracts : Type 0
YesExtracts =
    (parents kinds cut_parents cut_kinds numbers out_parents out_kinds : List ℕ) (n : ℕ) → CutCall parents kinds cut_parents cut_kinds numbers (Ok 1)
    → ExtractCall parents kinds (marks_of (table_of parents kinds) numbers) (Ok n) out_parents out_kinds
    → (n ≡ length cut_parents) × (take n out_parents ≡ cut_parents) × (take n out_kinds ≡ cut_kinds)

-- A VIEW IS A CUT: what a run that started with every mark 1 shows gets a yes, with the numbers of the nodes that it marked.
abbrev pub ViewIsCut : Type 0
ViewIsCut =
    (query parents kinds ps ks : List ℕ) (answer : Answer) (v : View query parents kinds (ones parents) ps ks)
    → CutCall parents kinds ps ks (numbers_of (table_of parents kinds) v.marks) answer → answer ≡ Ok 1
