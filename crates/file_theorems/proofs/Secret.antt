-- Of two documents that the inner query shows alike, with equal bytes of text, the composed query gives the same file.
-- A node that the composed query keeps has, in what the inner query keeps, a number that depends on that sub-document alone; so its bytes are equal too. Assumes nothing.
use Prim.Native.Nat.{ℕ, ◌<◌}
use native.Mathlib.Omega.{arith}
use mathlib.Core.Path.{◌≡◌, sym, ◌∙◌, ap, ap₂, subst}
use mathlib.Core.Bool.{true}
use mathlib.Core.List.{List}
use mathlib.Core.Option.{none}
use lib.ListN.{length, get_or, length-map, get_or-map}
use borrow.Author.Tests.{eqb-true, eq-eqb}
use Rattle.paper.specs.Query.{Query}
use Rattle.paper.specs.Names.{names_of, number_of}
use Rattle.paper.specs.Document.{Table, nodes, kind_of, marked, table_fault, marks_fault}
use Rattle.paper.specs.Selection.{kept}
use Rattle.paper.specs.Extraction.{rank}
use Rattle.paper.specs.Composition.{composed}
use Rattle.paper.specs.Xml.{Nodes, wanted, read_xml, What, Row, row, table, kind_by, unnamed}
use Rattle.paper.specs.WriteXml.{bytes_at, kept_xml}
use Rattle.paper.specs.Answers.{parent_field, kind_field, begin_field, end_field}
use Rattle.paper.proofs.Keeping.{marked_kept, kept_good}
use Rattle.theorems.specs.Demands.{all_marked, view}
use Rattle.theorems.proofs.Renumber.{rank_same, extracted_inside, rank_twice}
use Rattle.theorems.proofs.Guard.{kept_marked}
use Rattle.theorems.proofs.Exact.{exactness}
use Rattle.theorems.proofs.Extract.{same_nodes}
use Rattle.theorems.proofs.Secrecy.{all-good, secrecy}
use Rattle.xml_theorems.specs.Tables.{line_at}
use Rattle.xml_theorems.proofs.Tabled.{good_table}
use Rattle.file_theorems.specs.Files.{columns_of, Cut, EqualBytes, shown, SecretFile, EqualTexts, SecretAnswers}
use Rattle.file_theorems.proofs.Answered.{Reads, granted, file_is}
use Rattle.file_theorems.proofs.Twins.{same_file}

-- What the outer query keeps of a sub-document.
abbrev again : Table → Query → List ℕ
again u outer = kept u (all_marked u) outer

-- A node that the composed query keeps: the inner one keeps it, the outer one keeps its number there, and has it as its number.
record Through (t : Table) (outer inner : Query) (i : ℕ) : Type 0 where
  first : marked (shown t inner) i ≡ true
  second : marked (again (view t inner) outer) (rank (shown t inner) i) ≡ true
  number : rank (again (view t inner) outer) (rank (shown t inner) i) ≡ rank (shown t (composed outer inner)) i

through : (t : Table) (outer inner : Query) → table_fault t ≡ none → (i : ℕ) → i < nodes t → marked (shown t (composed outer inner)) i ≡ true → Through t outer inner i
through t outer inner ft i l h =
    let fm = all-good t ft in
    let m = shown t inner in
    let fi : marks_fault t m ≡ none = kept_good t (all_marked t) inner ft fm in
    let exact : shown t (composed outer inner) ≡ kept t m outer = exactness t (all_marked t) outer inner ft fm in
    let u = view t inner in
    let n : marked (kept t m outer) i ≡ true = ap (λ (k : List ℕ). marked k i) (sym exact) ∙ h in
    let agree : (j : ℕ) → j < nodes t → marked m j ≡ true → marked (again u outer) (rank m j) ≡ marked (kept t m outer) j =
    λ j lj mj. marked_kept u (all_marked u) outer (rank m j) (extracted_inside t m j lj mj) ∙ same_nodes t m outer j ft fi lj mj ∙ sym (marked_kept t m outer j lj) in
    let inside = kept_marked t m outer i l n in
    record {
      first = inside;
      second = agree i l inside ∙ n;
      number =
          rank_twice (nodes t) m (kept t m outer) (again u outer) (kept_marked t m outer) agree i (omega arith)
          ∙ ap (λ (k : List ℕ). rank k i) (sym exact);
    }

-- Two that have one number in the end had one number before.
met : (t u : Table) (outer inner : Query) (i j : ℕ) → view t inner ≡ view u inner → Through t outer inner i → Through u outer inner j
    → rank (shown t (composed outer inner)) i ≡ rank (shown u (composed outer inner)) j → rank (shown t inner) i ≡ rank (shown u inner) j
met t u outer inner i j views p q e =
    let f = again (view t inner) outer in
    let g = again (view u inner) outer in
    let same : g ≡ f = ap (λ v. again v outer) (sym views) in
    let a = rank (shown t inner) i in
    let b = rank (shown u inner) j in
    let there : marked f b ≡ true = ap (λ (k : List ℕ). marked k b) (sym same) ∙ q.second in
    let equal : rank f a ≡ rank f b = p.number ∙ e ∙ sym q.number ∙ ap (λ (k : List ℕ). rank k b) same in
    eqb-true a b (sym (rank_same f a b p.second there) ∙ eq-eqb (rank f a) (rank f b) equal)

pub secret_file : SecretFile
secret_file list text text' tree tree' outer inner fine c c' views bytes =
    let t = columns_of list (length text) tree in
    let t' = columns_of list (length text') tree' in
    let ft = (good_table list (length text) tree fine).table_fine in
    let ft' = (good_table list (length text') tree' fine).table_fine in
    let both = composed outer inner in
    let cut : Cut list text tree (shown t both) = record { read = c.read; named = c.named; fine = kept_good t (all_marked t) both ft (all-good t ft) } in
    let cut' : Cut list text' tree' (shown t' both) = record { read = c'.read; named = c'.named; fine = kept_good t' (all_marked t') both ft' (all-good t' ft') } in
    same_file list text text' (shown t both) (shown t' both) tree tree' fine cut cut' (secrecy t t' outer inner ft ft' views)
    (λ i j li lj mi mj e w.
    let p = through t outer inner ft i (omega (arith, length-map (table (length text) tree) parent_field)) mi in
    let q = through t' outer inner ft' j (omega (arith, length-map (table (length text') tree') parent_field)) mj in
    bytes i j li lj p.first q.first (met t t' outer inner i j views p q e) w)

-- OVER ANSWERS. What the lent columns say of a node of the text that was read.
module _ {list text begins ends : List ℕ} {t : Table} (r : Reads text list t begins ends) (i : ℕ) where
  abbrev lines : List Row
  lines = table (length text) r.tree

  bytes_says : bytes_at text (get_or begins i 0) (get_or ends i 0) ≡ bytes_at text (line_at lines i).begin (line_at lines i).end
  bytes_says =
      ap₂ (bytes_at text) (ap (λ (l : List ℕ). get_or l i 0) r.begins_at ∙ get_or-map begin_field lines i (row 0 What.root 0 0))
      (ap (λ (l : List ℕ). get_or l i 0) r.ends_at ∙ get_or-map end_field lines i (row 0 What.root 0 0))

  kind_says : kind_of t i ≡ kind_field list (line_at lines i)
  kind_says = ap (λ u. kind_of u i) r.columns ∙ get_or-map (kind_field list) lines i (row 0 What.root 0 0)

  inside_says : i < length lines → i < nodes t
  inside_says l = omega (arith, ap nodes r.columns, length-map lines parent_field)

-- Texts alike by columns are alike by lines.
by_lines : (list text begins ends marks text' begins' ends' marks' : List ℕ) (t t' : Table) (r : Reads text list t begins ends) (r' : Reads text' list t' begins' ends')
    → EqualTexts text t begins ends marks text' t' begins' ends' marks' → EqualBytes text r.tree marks text' r'.tree marks'
by_lines list text begins ends marks text' begins' ends' marks' t t' r r' h i j li lj mi mj e w =
    sym (bytes_says r i) ∙ h i j (inside_says r i li) (inside_says r' j lj) mi mj e (kind_says r i ∙ ap (kind_by (number_of (names_of list))) w) ∙ bytes_says r' j

-- Files of two texts that were read.
files_same : (list text begins ends text' begins' ends' : List ℕ) (t t' : Table) (outer inner : Query) (r : Reads text list t begins ends) (r' : Reads text' list t' begins' ends')
    → view t inner ≡ view t' inner → EqualBytes text r.tree (shown t inner) text' r'.tree (shown t' inner)
    → kept_xml text (shown t (composed outer inner)) ≡ kept_xml text' (shown t' (composed outer inner))
files_same list text begins ends text' begins' ends' t t' outer inner r r' =
    subst (λ u. view u inner ≡ view t' inner → EqualBytes text r.tree (shown u inner) text' r'.tree (shown t' inner) → same u t') (sym r.columns)
    (subst (λ u. view whole inner ≡ view u inner → EqualBytes text r.tree (shown whole inner) text' r'.tree (shown u inner) → same whole u) (sym r'.columns)
    (λ views bytes.
    secret_file list text text' r.tree r'.tree outer inner r.names_fine (cut text r.tree r.read r.named) (cut text' r'.tree r'.read r'.named) views bytes))
  where
    whole : Table
    whole = columns_of list (length text) r.tree

    same : Table → Table → Type 0
    same u v = kept_xml text (shown u (composed outer inner)) ≡ kept_xml text' (shown v (composed outer inner))

    cut : (bytes : List ℕ) (tree : Nodes) → read_xml bytes ≡ wanted tree → unnamed (number_of (names_of list)) (table (length bytes) tree) ≡ none
        → Cut list bytes tree (shown (columns_of list (length bytes) tree) inner)
    cut bytes tree read named =
        let u = columns_of list (length bytes) tree in
        let ft = (good_table list (length bytes) tree r.names_fine).table_fine in
        record { read = read; named = named; fine = kept_good u (all_marked u) inner ft (all-good u ft) }

pub secret_answers : SecretAnswers
secret_answers list text begins ends out text' begins' ends' out' t t' outer inner n n' h h' views texts =
    let both = shown t (composed outer inner) in
    let both' = shown t' (composed outer inner) in
    let g = granted text list t begins ends both (length out) n h in
    let g' = granted text' list t' begins' ends' both' (length out') n' h' in
    let file = files_same list text begins ends text' begins' ends' t t' outer inner g.reading g'.reading views
    (by_lines list text begins ends (shown t inner) text' begins' ends' (shown t' inner) t t' g.reading g'.reading texts) in (
      sym g.many ∙ ap length file ∙ g'.many,
      file_is text list t begins ends both out n h ∙ file ∙ sym (file_is text' list t' begins' ends' both' out' n' h'),
    )
