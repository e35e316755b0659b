-- What an accepted call was lent and what it left: the lines before its value do not hold, and what it wrote stands first in the slice. Assumes nothing.
use Prim.Native.Nat.{ℕ, ◌≤◌, ◌<◌}
use native.Mathlib.Omega.{arith}
use mathlib.Core.Path.{◌≡◌, refl, sym, ◌∙◌, ap, ap₂}
use mathlib.Core.Bool.{◌||◌}
use mathlib.Core.List.{List, [], append-nil}
use mathlib.Core.Option.{Option, none, some}
use mathlib.Core.Logic.{by_cases}
use native.Mathlib.Decide.{dec_lt}
use lib.Dec.{ltb}
use lib.ListN.{length, take, drop, drop_of_length-le}
use lib.Seq.{take-append_seam}
use borrow.Author.Tests.{ltb-false}
use Rattle.paper.specs.Tools.{when, written}
use Rattle.paper.specs.Limits.{item_limit, node_limit, bracket_limit}
use Rattle.paper.specs.Query.{Query}
use Rattle.paper.specs.Items.{encode, decode}
use Rattle.paper.specs.Measures.{size, nesting, height}
use Rattle.paper.specs.Document.{Table, nodes, parent_of, kind_of, table_fault, marks_fault, table_of}
use Rattle.paper.specs.Selection.{kept}
use Rattle.paper.specs.Extraction.{rank, extracted}
use Rattle.paper.specs.Composition.{composed}
use Rattle.paper.specs.Answers.{value, refusal, line, line_query, too_long, short, short_of_items, scratch_of, marked_count, compose_answer, compose_out, run_answer, run_marks, extract_answer}
use Rattle.paper.specs.Answers.{Answer as Told}
use Rattle.paper.specs.Room.{measure_answer, scratch_bytes, scratch_answer}
use Rattle.paper.proofs.Tests.{some_inj}
use Rattle.paper.proofs.Refusing.{line_value, when_none, or_none}
use Rattle.paper.proofs.Sizes.{size_items}
use Rattle.paper.proofs.Encoding.{encode_decode}
use Rattle.paper.proofs.Keeping.{length_kept}
use Rattle.paper.proofs.Extracting.{length_pick}
use Rattle.paper.proofs.Lending.{Wrong}
use Rattle.judge.specs.Judging.{judged}
use Rattle.judge.proofs.Answering as run
use Rattle.extract.proofs.Lines as extract
use Rattle.theorems.proofs.Forms.{read_back}
use Rattle.entry_promises.specs.Entries.{IsComposition, Shows, table_left}

value_same : {a b : ℕ} → value a ≡ value b → a ≡ b
value_same h = cc

-- A value is no refusal.
no-refusal {ℓ} : {C : Type ℓ} {n number place : ℕ} → value n ≡ refusal number place → C
no-refusal h = absurd (let z : ◌≡◌ {A = ℕ} 0 1 = cc in omega arith)

-- Where a value is answered, there is a query.
pub query_value {ℓ} : {C : Type ℓ} (n number place : ℕ) (o : Option Query) (later : Query → Told) → line_query number place o later ≡ value n
    → ((q : Query) → o ≡ some q → later q ≡ value n → C) → C
query_value n number place none later h next = no-refusal (sym h)
query_value n number place (some q) later h next = next q refl h

-- What was written first can be taken again.
pub first_written : (new old : List ℕ) (n : ℕ) → n ≡ length new → take n (written new old) ≡ new
first_written new old n e = rw e (take-append_seam new (drop (length new) old))

-- COMPOSE. The lines after the two queries.
abbrev pub rest : ℕ → Query → Told
rest room q = line 9 (when (ltb bracket_limit (nesting q)) (nesting q)) (line 10 (short_of_items room (size q)) (value (size q)))

-- What the lines after the two queries say of an accepted composition.
pub fits : (room n : ℕ) (q : Query) → rest room q ≡ value n → (size q ≡ n) × (size q ≤ item_limit) × (nesting q ≤ bracket_limit)
fits room n q h =
    let nine = line_value 9 n (when (ltb bracket_limit (nesting q)) (nesting q)) (line 10 (short_of_items room (size q)) (value (size q))) h in
    let ten = line_value 10 n (short_of_items room (size q)) (value (size q)) nine.1 in
    let short-of = ltb room (size q) || ltb item_limit (size q) in (
      value_same ten.1,
      ltb-false item_limit (size q) (or_none (ltb room (size q)) (ltb item_limit (size q)) (when_none short-of (size q) ten.0)).1,
      ltb-false bracket_limit (nesting q) (when_none (ltb bracket_limit (nesting q)) (nesting q) nine.0),
    )

module _ (outer inner out : List ℕ) (n : ℕ) (h : compose_answer outer inner (length out) ≡ value n) where
  -- The items that an accepted composition leaves.
  items_left : (o i : Query) → decode outer ≡ some o → decode inner ≡ some i → size (composed o i) ≡ n → take n (compose_out outer inner out) ≡ encode (composed o i)
  unfolding compose_out
  items_left o i d e l = rw (h, d, e) (first_written (encode (composed o i)) out n (sym (size_items (composed o i) ∙ l)))

  is_composition : length outer ≤ item_limit → length inner ≤ item_limit → (o i : Query) → decode outer ≡ some o → decode inner ≡ some i → rest (length out) (composed o i) ≡ value n
      → IsComposition outer inner (take n (compose_out outer inner out)) × (length (take n (compose_out outer inner out)) ≡ n)
  is_composition few few₁ o i d e k =
      let f = fits (length out) n (composed o i) k in
      let left = items_left o i d e f.0 in
      let long : length (take n (compose_out outer inner out)) ≡ n = ap length left ∙ size_items (composed o i) ∙ f.0 in (
        record {
          outer_is = o;
          inner_is = i;
          outer_few = few;
          inner_few = few₁;
          outer_decodes = d;
          inner_decodes = e;
          decodes = ap decode left ∙ read_back o i (encode_decode outer o d).fine (encode_decode inner i e).fine f.1 f.2;
          few = omega (arith, long, f.0, f.1);
        },
        long,
      )

  pub composition : IsComposition outer inner (take n (compose_out outer inner out)) × (length (take n (compose_out outer inner out)) ≡ n)
  unfolding compose_answer
  composition =
      let later : Query → Query → Told = λ o i. rest (length out) (composed o i) in
      let one = line_value 1 n (when (too_long outer item_limit || too_long inner item_limit) 0) (line_query 6 0 (decode outer) (λ o. line_query 6 1 (decode inner) (later o))) h in
      let few = or_none (too_long outer item_limit) (too_long inner item_limit) (when_none (too_long outer item_limit || too_long inner item_limit) 0 one.0) in
      query_value n 6 0 (decode outer) (λ o. line_query 6 1 (decode inner) (later o)) one.1
      (λ o d g. query_value n 6 1 (decode inner) (later o) g (λ i e k. is_composition (ltb-false item_limit (length outer) few.0) (ltb-false item_limit (length inner) few.1) o i d e k))

-- RUN. What an accepted run has, and what it leaves.
pub record Ran (query : List ℕ) (t : Table) (given marks : List ℕ) (room a : ℕ) : Type 0 where
  pub is : Query
  pub decodes : decode query ≡ some is
  pub table_good : table_fault t ≡ none
  pub marks_good : marks_fault t given ≡ none
  pub lengths : run.Agree query t given (length marks)
  pub left : run_marks query t given marks room ≡ kept t given is
  pub counted : a ≡ marked_count t (run_marks query t given marks room)

module _ (query : List ℕ) (t : Table) (given marks : List ℕ) (room a : ℕ) (h : run_answer query t given (length marks) room ≡ value a) where
  marks_left : (tall : ℕ) (w : run.Accepted query t given (length marks) tall) → scratch_of t w.query_is ≤ room → run_marks query t given marks room ≡ kept t given w.query_is
  unfolding run_marks
  marks_left tall w enough =
      let k = kept t given w.query_is in
      let few : length marks ≤ length k = omega (arith, length_kept t given w.query_is, w.agree.marks_all) in
      let all : drop (length k) marks ≡ [] = drop_of_length-le marks few in
      rw (run.runs query t given (length marks) room tall w enough, w.decodes, all) (append-nil k)

  -- The scratch was enough.
  enough_room : (tall : ℕ) (w : run.Accepted query t given (length marks) tall) → scratch_of t w.query_is ≤ room
  enough_room tall w =
      by_cases (dec_lt room (scratch_of t w.query_is))
      (λ l. no-refusal (sym h ∙ run.short_of query t given (length marks) room tall w l))
      (λ n. omega arith)

  pub ran : Ran query t given marks room a
  ran = go (judged query t given (length marks)) refl
    where
      go : (r : Told) → judged query t given (length marks) ≡ r → Ran query t given marks room a
      go (refusal number place) e = no-refusal (sym h ∙ run.refuses query t given (length marks) room number place e)
      go (value tall) e =
          let w = run.accepted query t given (length marks) tall (sym e) in
          let enough = enough_room tall w in
          let left = marks_left tall w enough in
          record {
            is = w.query_is;
            decodes = w.decodes;
            table_good = w.table_good;
            marks_good = w.marks_good;
            lengths = w.agree;
            left = left;
            counted = value_same (sym h ∙ run.runs query t given (length marks) room tall w enough) ∙ ap (marked_count t) (sym left);
          }

-- The marks left, where the items are known to be those of a query.
pub left_by : {query : List ℕ} {t : Table} {given marks : List ℕ} {room a : ℕ} (q : Query) → decode query ≡ some q → Ran query t given marks room a
    → run_marks query t given marks room ≡ kept t given q
left_by {query} {t} {given} {marks} {room} {a} q d r = r.left ∙ ap (kept t given) (some_inj (sym r.decodes ∙ d))

-- A run that no line refuses is accepted.
pub runs : (query : List ℕ) (t : Table) (given : List ℕ) (room : ℕ) (q : Query) → length query ≤ item_limit → nodes t ≤ node_limit → length t.kinds ≡ nodes t
    → length given ≡ nodes t → decode query ≡ some q → table_fault t ≡ none → marks_fault t given ≡ none → scratch_of t q ≤ room
    → run_answer query t given (nodes t) room ≡ value (marked_count t (kept t given q))
runs query t given room q few nodes_few kinds_all given_all d ft fm enough =
    run.runs query t given (nodes t) room (height q)
    (record {
      agree = record { items_few = few; nodes_few = nodes_few; kinds_all = kinds_all; given_all = given_all; marks_all = refl };
      query_is = q;
      decodes = d;
      tall_is = refl;
      table_good = ft;
      marks_good = fm;
    })
    enough

-- EXTRACT. What an accepted extract has, and the table that it leaves.
pub record Took (t : Table) (marks : List ℕ) (n : ℕ) (parents kinds : List ℕ) : Type 0 where
  pub table_good : table_fault t ≡ none
  pub marks_good : marks_fault t marks ≡ none
  pub counted : n ≡ marked_count t marks
  pub left : table_left t marks n parents kinds ≡ extracted t marks

pub length_parents : (t : Table) (marks : List ℕ) → length (extracted t marks).parents ≡ marked_count t marks
unfolding extracted
length_parents t marks = length_pick marks (λ i. rank marks (parent_of t i)) (nodes t)

pub length_kinds : (t : Table) (marks : List ℕ) → length (extracted t marks).kinds ≡ marked_count t marks
unfolding extracted
length_kinds t marks = length_pick marks (λ i. kind_of t i) (nodes t)

module _ (t : Table) (marks : List ℕ) (n : ℕ) (parents kinds : List ℕ) (h : extract_answer t marks (length parents) (length kinds) ≡ value n) where
  pub took : Took t marks n parents kinds
  took =
      let w = extract.accepted t marks (length parents) (length kinds) n h in
      let count = marked_count t marks in
      let last = line 10 (short (length parents) count) (value count) in
      let judged = sym (extract.right_lengths t marks (length parents) (length kinds) w.agree) ∙ h in
      let seven = line_value 7 n (table_fault t) (line 8 (marks_fault t marks) last) judged in
      let eight = line_value 8 n (marks_fault t marks) last seven.1 in
      let counted = sym (value_same (line_value 10 n (short (length parents) count) (value count) eight.1).1) in
      let wrote = extract.wrote t marks parents kinds n h in
      record {
        table_good = w.table;
        marks_good = w.closed;
        counted = counted;
        left = ap₂ table_of
            (ap (take n) (sym wrote.0) ∙ first_written (extracted t marks).parents parents n (counted ∙ sym (length_parents t marks)))
            (ap (take n) (sym wrote.1) ∙ first_written (extracted t marks).kinds kinds n (counted ∙ sym (length_kinds t marks)));
      }

-- RUN AND EXTRACT. What they show is the table of what the query keeps, and both answers are its number of nodes.
pub record Shown (t : Table) (given : List ℕ) (q : Query) (a count : ℕ) (parents kinds : List ℕ) : Type 0 where
  pub table_good : table_fault t ≡ none
  pub marks_good : marks_fault t given ≡ none
  pub view : table_of parents kinds ≡ extracted t (kept t given q)
  pub ran_all : a ≡ length parents
  pub took_all : count ≡ length parents

pub shown : (query : List ℕ) (t : Table) (given : List ℕ) (a count : ℕ) (parents kinds : List ℕ) (q : Query) → decode query ≡ some q
    → Shows query t given a count parents kinds → Shown t given q a count parents kinds
shown query t given a count parents kinds q d s =
    let r = ran query t given s.old_marks s.scratch_room a s.ran in
    let x = took t s.marks count s.old_parents s.old_kinds s.extracted in
    let all : length parents ≡ marked_count t s.marks = ap length (s.parents_left ∙ ap (λ v. v.parents) x.left) ∙ length_parents t s.marks in
    record {
      table_good = r.table_good;
      marks_good = r.marks_good;
      view = ap₂ table_of s.parents_left s.kinds_left ∙ x.left ∙ ap (extracted t) (s.wrote ∙ left_by q d r);
      ran_all = r.counted ∙ ap (marked_count t) (sym s.wrote) ∙ sym all;
      took_all = x.counted ∙ sym all;
    }

-- Runs and extracts that show the same table answer the same and leave the same columns.
pub shown_alike : {t u : Table} {given given' : List ℕ} {q q' : Query} {a b m n : ℕ} {parents kinds parents' kinds' : List ℕ} → Shown t given q a m parents kinds
    → Shown u given' q' b n parents' kinds' → extracted t (kept t given q) ≡ extracted u (kept u given' q')
    → (a ≡ b) × (m ≡ n) × (parents ≡ parents') × (kinds ≡ kinds')
shown_alike s s' same =
    let all = s.view ∙ same ∙ sym s'.view in
    let columns = ap (λ v. v.parents) all in
    (s.ran_all ∙ ap length columns ∙ sym s'.ran_all, s.took_all ∙ ap length columns ∙ sym s'.took_all, columns, ap (λ v. v.kinds) all)

-- MEASURES AND SCRATCH. What is told of a query, and by what is told of two.
pub measure_is : (measure : Query → ℕ) (query : List ℕ) (q : Query) (n : ℕ) → decode query ≡ some q → measure_answer measure query ≡ value n → n ≡ measure q
unfolding measure_answer
measure_is measure query q n d h =
    let long = when (too_long query item_limit) 0 in
    sym (value_same (line_value 1 n long (value (measure q)) (rw d at h)).1)

pub scratch_is : (count oh op ih ip bytes : ℕ) → scratch_answer count oh op ih ip ≡ value bytes → bytes ≡ scratch_bytes count oh ih ip
unfolding scratch_answer
scratch_is count oh op ih ip bytes h = sym (value_same (line_value 1 bytes (when (Wrong count oh op ih ip) 0) (value (scratch_bytes count oh ih ip)) h).1)
