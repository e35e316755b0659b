-- The demands over the entry points: what accepted calls left is what the definitions give (`Accepting`), and of the definitions the demands are theorems. Assumes nothing.
use Prim.Native.Nat.{ℕ, ◌≤◌}
use native.Mathlib.Omega.{arith}
use mathlib.Core.Path.{◌≡◌, refl, sym, ◌∙◌, ap, ap₂}
use mathlib.Core.Bool.{Bool, true, false, cond}
use mathlib.Core.List.{List}
use mathlib.Core.Option.{Option, none, some}
use lib.ListN.{length, get_or, take}
use borrow.Author.Tests.{le-ltb}
use Rattle.paper.specs.Tools.{when}
use Rattle.paper.specs.Limits.{item_limit, node_limit}
use Rattle.paper.specs.Query.{Query}
use Rattle.paper.specs.Items.{decode}
use Rattle.paper.specs.Measures.{size, height}
use Rattle.paper.specs.Document.{Table, nodes, table_fault, marks_fault, table_of}
use Rattle.paper.specs.Selection.{kept}
use Rattle.paper.specs.Extraction.{rank, extracted}
use Rattle.paper.specs.Composition.{composed}
use Rattle.paper.specs.Cut.{is_cut, marks_of, numbers_of}
use Rattle.paper.specs.Answers.{value, refusal, line, short, scratch_of, marked_count, compose_out, run_answer, read_out, extract_answer, is_cut_answer}
use Rattle.paper.specs.Answers.{Answer as Told}
use Rattle.paper.specs.Room.{height_answer, path_count, paths_answer, scratch_bytes, scratch_answer}
use Rattle.paper.proofs.Tests.{some_inj}
use Rattle.paper.proofs.Keeping.{length_kept, kept_at, kept_good}
use Rattle.paper.proofs.Extracting.{rank_le}
use Rattle.paper.proofs.Sizes.{size_decoded}
use Rattle.paper.proofs.Lending.{lends, let_all_pass}
use Rattle.judge.proofs.Answering.{Long}
use Rattle.room.proofs.Answering.{measured}
use Rattle.theorems.specs.Demands.{all_marked}
use Rattle.theorems.proofs.Renumber.{extracted_inside}
use Rattle.theorems.proofs.Exact as exact
use Rattle.theorems.proofs.Extract as extract
use Rattle.theorems.proofs.Secrecy as secret
use Rattle.round_trip.proofs.RoundTrip as trip
use Rattle.composed_measures.proofs.Height as demands
use Rattle.cut_theorems.specs.Cuts.{Yes, LeavesStay}
use Rattle.cut_theorems.proofs.Yes.{marks_are_good, extracts, length_marks}
use Rattle.cut_theorems.proofs.Converse.{length_numbers, extracted_yes}
use Rattle.cut_theorems.proofs.Kept.{kept_leaves}
use Rattle.extract.proofs.Lines as extracting
use Rattle.cut.proofs.Lines as asking
use Rattle.entry_promises.specs.Entries.{Acceptance, NeverMalformed, Exactness, Together, Secrecy, Extraction, SameNodes, RoundTrip, ScratchEnough, ScratchTold}
use Rattle.entry_promises.specs.Entries.{YesExtracts, ExtractIsCut, ShownIsCut}
use Rattle.entry_promises.proofs.Accepting.{first_written, composition, ran, left_by, runs, length_parents, length_kinds, took, shown, shown_alike, measure_is, scratch_is}

-- AN ACCEPTED COMPOSITION LEAVES A QUERY,
pub acceptance : Acceptance
acceptance outer inner out n h = composition outer inner out n h

-- A line of another number does not give a refusal,
not_given : (wanted number place : ℕ) (o : Option ℕ) (later : Told) → (number ≡ wanted → ⊥) → (later ≡ refusal wanted place → ⊥) → line number o later ≡ refusal wanted place → ⊥
not_given wanted number place none later other more h = more h
not_given wanted number place (some p) later other more h = other (cc)

-- nor does a value,
not_value : (n wanted place : ℕ) → value n ≡ refusal wanted place → ⊥
not_value n wanted place e = let z : ◌≡◌ {A = ℕ} 0 1 = cc in omega arith

-- so a run of items that are a query gives no refusal 6,
pub well_formed : (query : List ℕ) (q : Query) (t : Table) (given : List ℕ) (marks_room scratch_room place : ℕ) → decode query ≡ some q
    → run_answer query t given marks_room scratch_room ≡ refusal 6 place → ⊥
unfolding run_answer
well_formed query q t given marks_room scratch_room place d r =
    let ten = not_given 6 10 place (short scratch_room (scratch_of t q)) _ (λ e. omega arith) (not_value (marked_count t (kept t given q)) 6 place) in
    let eight = not_given 6 8 place (marks_fault t given) _ (λ e. omega arith) ten in
    let seven = not_given 6 7 place (table_fault t) _ (λ e. omega arith) eight in
    not_given 6 1 place (when (Long query t given marks_room) 0) _ (λ e. omega arith) seven (rw d at r)

-- and a composition is a query.
pub never_malformed : NeverMalformed
never_malformed outer inner out n t given marks_room scratch_room place h =
    let w = (composition outer inner out n h).0 in
    well_formed (take n (compose_out outer inner out)) (composed w.outer_is w.inner_is) t given marks_room scratch_room place w.decodes

-- EXACTNESS.
pub exactness : Exactness
exactness outer inner out t given marks first second n a b c room room₁ room₂ h run-both run_first run-second =
    let w = (composition _ _ out n h).0 in
    let o = w.outer_is in
    let i = w.inner_is in
    let both = ran _ t given marks room a run-both in
    let before = ran _ t given first room₁ b run_first in
    let after = ran _ t _ second room₂ c run-second in
    let alike =
    left_by (composed o i) w.decodes both ∙ exact.exactness t given o i both.table_good both.marks_good
    ∙ ap (λ m. kept t m o) (sym (left_by i w.inner_decodes before)) ∙ sym (left_by o w.outer_decodes after) in
    (both.counted ∙ ap (marked_count t) alike ∙ sym after.counted, alike)

-- ITS PREMISES CAN BE MET.
pub together : Together
together outer inner out t given first o q n b room room₁ room₂ h run_first d e enough enough₂ =
    let w = (composition outer inner out n h).0 in
    let i = w.inner_is in
    let r = ran inner t given first room₁ b run_first in
    let g = r.lengths in
    let left = left_by i w.inner_decodes r in
    let is-both : composed o i ≡ q = ap (λ o. composed o i) (some_inj (sym e ∙ w.outer_decodes)) ∙ some_inj (sym w.decodes ∙ d) in
    let alike = ap (kept t given) (sym is-both) ∙ exact.exactness t given o i r.table_good r.marks_good ∙ ap (λ m. kept t m o) (sym left) in (
      marked_count t (kept t given q),
      runs _ t given room q w.few g.nodes_few g.kinds_all g.given_all d r.table_good r.marks_good enough,
      runs outer t _ room₂ o w.outer_few g.nodes_few g.kinds_all (ap length left ∙ length_kept t given i) e r.table_good
          (ap (marks_fault t) left ∙ kept_good t given i r.table_good r.marks_good) enough₂ ∙
          ap (λ m. value (marked_count t m)) (sym alike),
    )

-- SECRECY.
pub secrecy : Secrecy
secrecy outer inner out t u n a b l m parentsₜ kindsₜ parentsᵤ kindsᵤ h in-t in-u e₁ e₂ a' b' l' m' newₜ newKindsₜ newᵤ newKindsᵤ both-t both-u =
    let w = (composition outer inner out n h).0 in
    let o = w.outer_is in
    let i = w.inner_is in
    let same-parents : parentsₜ ≡ parentsᵤ = cc in
    let same-kinds : kindsₜ ≡ kindsᵤ = cc in
    let inₜ = shown inner t (all_marked t) a l parentsₜ kindsₜ i w.inner_decodes in-t in
    let inᵤ = shown inner u (all_marked u) b m parentsᵤ kindsᵤ i w.inner_decodes in-u in
    let bothₜ = shown _ t (all_marked t) a' l' newₜ newKindsₜ (composed o i) w.decodes both-t in
    let bothᵤ = shown _ u (all_marked u) b' m' newᵤ newKindsᵤ (composed o i) w.decodes both-u in
    shown_alike bothₜ bothᵤ
    (secret.secrecy t u o i inₜ.table_good inᵤ.table_good (sym inₜ.view ∙ ap₂ table_of same-parents same-kinds ∙ inᵤ.view))

-- EXTRACTION.
pub extraction : Extraction
extraction query t given parents kinds n h a b l m parentsₜ kindsₜ parentsᵤ kindsᵤ in-t in-u =
    let x = took t given n parents kinds h in
    let r = ran query t given in-t.old_marks in-t.scratch_room a in-t.ran in
    let q = r.is in
    shown_alike (shown query t given a l parentsₜ kindsₜ q r.decodes in-t) (shown query _ _ b m parentsᵤ kindsᵤ q r.decodes in-u)
    (extract.extraction t given q x.table_good x.marks_good ∙ ap (λ v. extracted v (kept v (all_marked v) q)) (sym x.left))

-- SAME NODES.
pub same_nodes : SameNodes
same_nodes query t given parents kinds marks again n a b room room₁ i h run-t run-u l m =
    let x = took t given n parents kinds h in
    let r = ran query t given marks room a run-t in
    let q = r.is in
    let v = extracted t given in
    let s = ran query _ _ again room₁ b run-u in
    let new = left_by q r.decodes s ∙ ap (λ v. kept v (all_marked v) q) x.left in
    ap (λ k. get_or k (rank given i) 0) new ∙ kept_at v (all_marked v) q (rank given i) (extracted_inside t given i l m)
    ∙ ap (λ k. cond k 1 0) (extract.same_nodes t given q i x.table_good x.marks_good l m) ∙ sym (ap (λ k. get_or k i 0) r.left ∙ kept_at t given q i l)

-- ROUND TRIP.
pub round_trip : RoundTrip
unfolding read_out
round_trip brief query list out again n version fine h most room =
    let back = trip.round_trip brief query list out n (length again) version fine h most room in
    (back.0, rw (back.0, back.1) (first_written query again (length query) refl))

-- SCRATCH. A run with scratch enough gives no 10,
pub room_enough : (query : List ℕ) (q : Query) (t : Table) (given : List ℕ) (marks_room scratch_room place : ℕ) → decode query ≡ some q → scratch_of t q ≤ scratch_room
    → run_answer query t given marks_room scratch_room ≡ refusal 10 place → ⊥
unfolding run_answer
room_enough query q t given marks_room scratch_room place d enough r =
    let ten : line 10 (short scratch_room (scratch_of t q)) (value (marked_count t (kept t given q))) ≡ refusal 10 place → ⊥ =
    λ e. not_value (marked_count t (kept t given q)) 10 place (rw (le-ltb scratch_room (scratch_of t q) enough) at e) in
    let eight = not_given 10 8 place (marks_fault t given) _ (λ e. omega arith) ten in
    let seven = not_given 10 7 place (table_fault t) _ (λ e. omega arith) eight in
    not_given 10 1 place (when (Long query t given marks_room) 0) _ (λ e. omega arith) seven (rw d at r)

-- and what is told before composing is enough,
pub scratch_enough : ScratchEnough
scratch_enough outer inner out t given n oh op ih ip bytes marks_room scratch_room place h oh-told op-told ih-told ip-told bytes-told enough =
    let w = (composition outer inner out n h).0 in
    let o = w.outer_is in
    let i = w.inner_is in
    let outer-high = measure_is height outer o oh w.outer_decodes oh-told in
    let inner-high = measure_is height inner i ih w.inner_decodes ih-told in
    let inner-paths = measure_is path_count inner i ip w.inner_decodes ip-told in
    let most : bytes ≡ scratch_bytes (nodes t) (height o) (height i) (path_count i) =
    scratch_is (nodes t) oh op ih ip bytes bytes-told ∙ rw (outer-high, inner-high, inner-paths) in
    room_enough _ (composed o i) t given marks_room scratch_room place w.decodes (omega (arith, demands.scratch_enough t o i, most))

-- and can be told.
pub scratch-told : ScratchTold
scratch-told outer inner out n count h some-node few =
    let w = (composition outer inner out n h).0 in
    let o = w.outer_is in
    let i = w.inner_is in
    let outer_few : size o ≤ item_limit = omega (arith, size_decoded outer o w.outer_decodes, w.outer_few) in
    let inner_few : size i ≤ item_limit = omega (arith, size_decoded inner i w.inner_decodes, w.inner_few) in (
      height o,
      path_count o,
      height i,
      path_count i,
      scratch_bytes count (height o) (height i) (path_count i),
      sym (measured height outer w.outer_few o w.outer_decodes),
      sym (measured path_count outer w.outer_few o w.outer_decodes),
      sym (measured height inner w.inner_few i w.inner_decodes),
      sym (measured path_count inner w.inner_few i w.inner_decodes),
      sym (lends count (height o) (path_count o) (height i) (path_count i) (let_all_pass count o i some-node few outer_few inner_few)),
    )

-- AN EXTRACT OF MARKS WITHOUT FAULT IS NOT REFUSED FOR THEM.
pub never_bad_marks : (t : Table) (marks : List ℕ) (parent_room kind_room place : ℕ) → marks_fault t marks ≡ none → extract_answer t marks parent_room kind_room ≡ refusal 8 place → ⊥
unfolding extract_answer
never_bad_marks t marks parent_room kind_room place fm h =
    let count = marked_count t marks in
    let ten = not_given 8 10 place (short parent_room count) (value count) (λ e. omega arith) (not_value count 8 place) in
    let seven = not_given 8 7 place (table_fault t) (line 10 (short parent_room count) (value count)) (λ e. omega arith) ten in
    not_given 8 1 place (when (extracting.wrong t marks parent_room kind_room) 0) (line 7 (table_fault t) (line 10 (short parent_room count) (value count))) (λ e. omega arith) seven (rw fm at h)

-- A YES. The partner's table is a cut of ours, which is without fault.
one_is_yes : (b : Bool) → value (cond b 1 0) ≡ value 1 → b ≡ true
one_is_yes true h = refl
one_is_yes false h = absurd (let z : ◌≡◌ {A = ℕ} 0 1 = cc in omega arith)

pub says_yes : (t cut : Table) (numbers : List ℕ) → is_cut_answer t cut numbers ≡ value 1 → Yes t cut numbers
says_yes t cut numbers h =
    let a = asking.answered t cut numbers 1 h in
    record { ours = a.ours; kinds_long = a.agree.cut_kinds_long; numbers_long = a.agree.numbers_long; says = one_is_yes (is_cut t cut numbers) a.says }

pub yes_extracts : YesExtracts
yes_extracts t cut numbers parents kinds h rooms room =
    let a = (asking.answered t cut numbers 1 h).agree in
    let y = says_yes t cut numbers h in
    let marks = marks_of t numbers in
    let table = (extracts t cut numbers y).0 in
    let count = marked_count t marks in
    let counted : count ≡ nodes cut = sym (length_parents t marks) ∙ ap nodes table in
    let last = line 10 (short (length parents) count) (value count) in
    let accepted : extract_answer t marks (length parents) (length kinds) ≡ value (nodes cut) =
    extracting.right_lengths t marks (length parents) (length kinds) (record { few = a.few; kinds_long = a.kinds_long; marks_long = length_marks t numbers; rooms = rooms })
    ∙ ap (λ o. line 7 o (line 8 (marks_fault t marks) last)) y.ours ∙ ap (λ o. line 8 o last) (marks_are_good t cut numbers y)
    ∙ ap (λ b. line 10 (when b count) (value count)) (le-ltb (length parents) count (omega arith)) ∙ ap value counted in
    (accepted, (took t marks (nodes cut) parents kinds accepted).left ∙ table)

-- THE CONVERSE.
extract_yes : (t : Table) (marks : List ℕ) → nodes t ≤ node_limit → length t.kinds ≡ nodes t → table_fault t ≡ none → marks_fault t marks ≡ none → LeavesStay t marks
    → is_cut_answer t (extracted t marks) (numbers_of t marks) ≡ value 1
extract_yes t marks few kinds_long ft fm leaves =
    let cut = extracted t marks in
    let count = length_parents t marks in
    asking.right_lengths t cut (numbers_of t marks)
    (record {
      few = few;
      kinds_long = kinds_long;
      cut_few = omega (arith, count, rank_le marks (nodes t));
      cut_kinds_long = length_kinds t marks ∙ sym count;
      numbers_long = length_numbers t marks ∙ sym count;
    })
    ∙ ap (λ o. line 7 o (value (cond (is_cut t cut (numbers_of t marks)) 1 0))) ft ∙ ap (λ b. value (cond b 1 0)) (extracted_yes t marks ft fm leaves)

pub extract_is_cut : ExtractIsCut
extract_is_cut t marks parents kinds n h leaves =
    let x = took t marks n parents kinds h in
    let a = (extracting.accepted t marks (length parents) (length kinds) n h).agree in
    ap (λ u. is_cut_answer t u (numbers_of t marks)) x.left ∙ extract_yes t marks a.few a.kinds_long x.table_good x.marks_good leaves

pub shown_is_cut : ShownIsCut
shown_is_cut query t a count parents kinds s =
    let r = ran query t (all_marked t) s.old_marks s.scratch_room a s.ran in
    let q = r.is in
    let v = shown query t (all_marked t) a count parents kinds q r.decodes s in
    ap₂ (λ u m. is_cut_answer t u (numbers_of t m)) v.view (s.wrote ∙ r.left)
    ∙ extract_yes t (kept t (all_marked t) q) r.lengths.nodes_few r.lengths.kinds_all r.table_good (kept_good t (all_marked t) q r.table_good r.marks_good)
    (kept_leaves t q r.table_good)
