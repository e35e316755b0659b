-- The demands of docs/SCOPE.md over the entry points: what lent items, marks and columns hold after calls that were accepted, as the contracts of the entry points say it.
use Rattle.std.specs.Prelude.{ℕ, ◌≤◌, ◌<◌, ◌≡◌, Bool, true, false, List, length, get_or, take}
use Rattle.std.proofs.Math.Option.{some}
use Rattle.paper.specs.Limits.{text_limit, item_limit, node_limit}
use Rattle.paper.specs.Query.{Query}
use Rattle.paper.specs.Items.{decode}
use Rattle.paper.specs.Document.{Table, nodes, marked, table_of}
use Rattle.paper.specs.Extraction.{rank}
use Rattle.paper.specs.Composition.{composed}
use Rattle.paper.specs.Answers.{value, refusal, scratch_of, no_version, read_answer, read_out, print_answer, print_out, compose_answer, compose_out, run_answer, run_marks, extract_answer, extract_parents, extract_kinds, is_cut_answer}
use Rattle.paper.specs.Room.{height_answer, paths_answer, scratch_answer}
use Rattle.paper.specs.Cut.{marks_of, numbers_of}
use Rattle.theorems.specs.Demands.{all_marked}
use Rattle.cut_theorems.specs.Cuts.{LeavesStay}

-- ACCEPTANCE. The items are those of the composition of two queries in memory, and can stand in memory themselves.
pub record IsComposition (outer inner both : List ℕ) : Type 0 where
  pub outer_is : Query
  pub inner_is : Query
  pub outer_few : length outer ≤ item_limit
  pub inner_few : length inner ≤ item_limit
  pub outer_decodes : decode outer ≡ some outer_is
  pub inner_decodes : decode inner ≡ some inner_is
  pub decodes : decode both ≡ some (composed outer_is inner_is)
  pub few : length both ≤ item_limit

-- An accepted composition leaves the items of the composition, as many as it answers.
abbrev pub Acceptance : Type 0
Acceptance =
    (outer inner out : List ℕ) (n : ℕ) → compose_answer outer inner (length out) ≡ value n →
    let both = take n (compose_out outer inner out) in
    IsComposition outer inner both × (length both ≡ n)

-- No run calls them malformed.
abbrev pub NeverMalformed : Type 0
NeverMalformed =
    (outer inner out : List ℕ) (n : ℕ) (t : Table) (given : List ℕ) (marks_room scratch_room place : ℕ) → compose_answer outer inner (length out) ≡ value n
    → run_answer (take n (compose_out outer inner out)) t given marks_room scratch_room ≡ refusal 6 place → ⊥

-- EXACTNESS: a run of the composed items answers and writes the same as a run of the inner items and, inside the marks that this wrote, a run of the outer items.
abbrev pub Exactness : Type 0
Exactness =
    (outer inner out : List ℕ) (t : Table) (given marks first second : List ℕ) (n a b c room room₁ room₂ : ℕ) → compose_answer outer inner (length out) ≡ value n →
    let both = take n (compose_out outer inner out) in
    let shown = run_marks inner t given first room₁ in
    run_answer both t given (length marks) room ≡ value a → run_answer inner t given (length first) room₁ ≡ value b → run_answer outer t shown (length second) room₂ ≡ value c
    → (a ≡ c) × (run_marks both t given marks room ≡ run_marks outer t shown second room₂)

-- The premises can be met: where the composition and the run of the inner items are accepted, the other two runs are too, with marks as long as the table and scratch enough.
abbrev pub Together : Type 0
Together =
    (outer inner out : List ℕ) (t : Table) (given first : List ℕ) (o q : Query) (n b room room₁ room₂ : ℕ) → compose_answer outer inner (length out) ≡ value n →
    let both = take n (compose_out outer inner out) in
    run_answer inner t given (length first) room₁ ≡ value b → decode both ≡ some q → decode outer ≡ some o → scratch_of t q ≤ room → scratch_of t o ≤ room₂
    → (a : ℕ) × (run_answer both t given (nodes t) room ≡ value a) × (run_answer outer t (run_marks inner t given first room₁) (nodes t) room₂ ≡ value a)

-- A run of the items inside marks was accepted with `kept`, and an extract of the marks that it wrote with `count`, which left these columns.
pub record Shows (query : List ℕ) (t : Table) (given : List ℕ) (kept count : ℕ) (parents kinds : List ℕ) : Type 0 where
  pub old_marks : List ℕ
  pub scratch_room : ℕ
  pub old_parents : List ℕ
  pub old_kinds : List ℕ
  pub marks : List ℕ
  pub ran : run_answer query t given (length old_marks) scratch_room ≡ value kept
  pub wrote : marks ≡ run_marks query t given old_marks scratch_room
  pub extracted : extract_answer t marks (length old_parents) (length old_kinds) ≡ value count
  pub parents_left : parents ≡ take count (extract_parents t marks old_parents (length old_kinds))
  pub kinds_left : kinds ≡ take count (extract_kinds t marks (length old_parents) old_kinds)

-- Whatever two runs of the items with their extracts answer and leave, one inside marks of t and one inside marks of u, is the same.
abbrev pub AlikeAfter : List ℕ → Table → List ℕ → Table → List ℕ → Type 0
AlikeAfter query t given u given' =
    (a b l m : ℕ) (parentsₜ kindsₜ parentsᵤ kindsᵤ : List ℕ) → Shows query t given a l parentsₜ kindsₜ → Shows query u given' b m parentsᵤ kindsᵤ
    → (a ≡ b) × (l ≡ m) × (parentsₜ ≡ parentsᵤ) × (kindsₜ ≡ kindsᵤ)

-- SECRECY: where the inner items show the same columns of two documents, with every mark 1, the composed items show the same of both, whatever the outer items are.
abbrev pub Secrecy : Type 0
Secrecy =
    (outer inner out : List ℕ) (t u : Table) (n a b l m : ℕ) (parentsₜ kindsₜ parentsᵤ kindsᵤ : List ℕ) → compose_answer outer inner (length out) ≡ value n
    → Shows inner t (all_marked t) a l parentsₜ kindsₜ → Shows inner u (all_marked u) b m parentsᵤ kindsᵤ
    → parentsₜ ≡ parentsᵤ → kindsₜ ≡ kindsᵤ
    → AlikeAfter (take n (compose_out outer inner out)) t (all_marked t) u (all_marked u)

-- The table that an extract left.
abbrev pub table_left : Table → List ℕ → ℕ → List ℕ → List ℕ → Table
table_left t marks n parents kinds = table_of (take n (extract_parents t marks parents (length kinds))) (take n (extract_kinds t marks (length parents) kinds))

-- EXTRACTION: items run inside marks show the same as run on the table that an extract of those marks left, with every mark 1.
abbrev pub Extraction : Type 0
Extraction =
    (query : List ℕ) (t : Table) (given parents kinds : List ℕ) (n : ℕ) → extract_answer t given (length parents) (length kinds) ≡ value n →
    let u = table_left t given n parents kinds in
    AlikeAfter query t given u (all_marked u)

-- SAME NODES: a given node has the same mark in both runs, under its new number in the second.
abbrev pub SameNodes : Type 0
SameNodes =
    (query : List ℕ) (t : Table) (given parents kinds marks again : List ℕ) (n a b room room₁ i : ℕ) → extract_answer t given (length parents) (length kinds) ≡ value n →
    let u = table_left t given n parents kinds in
    run_answer query t given (length marks) room ≡ value a → run_answer query u (all_marked u) (length again) room₁ ≡ value b → i < nodes t → marked given i ≡ true
    → get_or (run_marks query u (all_marked u) again room₁) (rank given i) 0 ≡ get_or (run_marks query t given marks room) i 0

-- ROUND TRIP: where a print in either form is accepted with at most 32,768 bytes, reading those bytes by either version, with the same list and room enough, is accepted and leaves the items that were printed.
abbrev pub RoundTrip : Type 0
RoundTrip =
    (brief : Bool) (query list out again : List ℕ) (n version : ℕ) → no_version version ≡ false → print_answer brief query list (length out) ≡ value n → n ≤ text_limit → length query ≤ length again →
    let text = take n (print_out brief query list out) in
    (read_answer text version list (length again) ≡ value (length query)) × (take (length query) (read_out text version list again) ≡ query)

-- SCRATCH (02, 2026-10): lent the bytes that are told by the nodes of the table and by the heights and path counts of two queries, a run of their accepted composition never gets 10.
abbrev pub ScratchEnough : Type 0
ScratchEnough =
    (outer inner out : List ℕ) (t : Table) (given : List ℕ) (n oh op ih ip bytes marks_room scratch_room place : ℕ) → compose_answer outer inner (length out) ≡ value n
    → height_answer outer ≡ value oh → paths_answer outer ≡ value op → height_answer inner ≡ value ih → paths_answer inner ≡ value ip
    → scratch_answer (nodes t) oh op ih ip ≡ value bytes → bytes ≤ scratch_room
    → run_answer (take n (compose_out outer inner out)) t given marks_room scratch_room ≡ refusal 10 place → ⊥

-- The premises can be met: of the queries of an accepted composition heights and path counts are told, and by them the bytes for every number of nodes from 1 to 4,096.
abbrev pub ScratchTold : Type 0
ScratchTold =
    (outer inner out : List ℕ) (n count : ℕ) → compose_answer outer inner (length out) ≡ value n → 1 ≤ count → count ≤ node_limit
    → (oh op ih ip bytes : ℕ) × (height_answer outer ≡ value oh) × (paths_answer outer ≡ value op) × (height_answer inner ≡ value ih) × (paths_answer inner ≡ value ip)
    × (scratch_answer count oh op ih ip ≡ value bytes)

-- A YES (02, 2026-11): an extract of the marks that the partner's numbers stand for is accepted, with room enough, and leaves the partner's table.
abbrev pub YesExtracts : Type 0
YesExtracts =
    (t cut : Table) (numbers parents kinds : List ℕ) → is_cut_answer t cut numbers ≡ value 1 → length parents ≡ length kinds → nodes cut ≤ length parents
    → (extract_answer t (marks_of t numbers) (length parents) (length kinds) ≡ value (nodes cut)) × (table_left t (marks_of t numbers) (nodes cut) parents kinds ≡ cut)

-- THE CONVERSE: the table that an extract left of marks whose kept leaves are leaves gets a yes, with the numbers of the marked nodes.
abbrev pub ExtractIsCut : Type 0
ExtractIsCut =
    (t : Table) (marks parents kinds : List ℕ) (n : ℕ) → extract_answer t marks (length parents) (length kinds) ≡ value n → LeavesStay t marks
    → is_cut_answer t (table_left t marks n parents kinds) (numbers_of t marks) ≡ value 1

-- So does what is shown of a run that started with every mark 1.
abbrev pub ShownIsCut : Type 0
ShownIsCut =
    (query : List ℕ) (t : Table) (kept count : ℕ) (parents kinds : List ℕ) (shows : Shows query t (all_marked t) kept count parents kinds)
    → is_cut_answer t (table_of parents kinds) (numbers_of t shows.marks) ≡ value 1
