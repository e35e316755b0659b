-- The demands over calls, from the demands over the entry points' definitions: a call's contract says what it answered and left by those. Assumes nothing.
use Prim.Native.Nat.{ℕ}
use mathlib.Core.Path.{◌≡◌, refl, sym, ◌∙◌, ap, subst₂}
use mathlib.Core.Bool.{Bool, true, false}
use mathlib.Core.List.{List}
use lib.ListN.{length, take}
use Rattle.paper.specs.Document.{table_of, nodes}
use Rattle.paper.specs.Room.{height_answer, paths_answer, scratch_answer}
use Rattle.paper.specs.Printing.{long_form, short_form}
use Rattle.paper.specs.Answers.{value, refusal, read_answer, read_out, print_answer, print_out, compose_answer, compose_out, run_answer, run_marks, extract_answer, extract_parents, extract_kinds, is_cut_answer}
use Rattle.paper.specs.Cut.{marks_of}
use Rattle.paper.specs.Told.{told}
use Rattle.paper.specs.Told.{Answer}
use Rattle.std.specs.Prelude.{Ok}
use Rattle.call_promises.specs.Calls.{FormCall, Shorter, ComposeCall, RunCall, ExtractCall, Exactness, View, Secrecy, Extraction, RoundTrip, HeightCall, PathsCall, ScratchCall, scratch_lent, ScratchEnough}
use Rattle.round_trip.proofs.Shortening.{shorter_answer}
use Rattle.cut_theorems.proofs.Yes.{marks_are_good, extracts}
use Rattle.call_promises.specs.Calls.{ones, CutCall, YesMarks, YesExtracts, ViewIsCut}
use Rattle.entry_promises.specs.Entries.{Shows}
use Rattle.call_promises.proofs.Telling.{told_same}
use Rattle.entry_promises.proofs.Accepting.{length_parents, took}
use Rattle.entry_promises.proofs.Entries as entries

-- COMPOSE. What the contract says of an accepted call, of the slices by the names they have in the statements.
module _ {outer inner both : List ℕ} {n : ℕ} (c : ComposeCall outer inner (Ok n) both) where
  abbrev pub old_items : List ℕ
  old_items = c.args.1.1.0.now

  pub composed_value : compose_answer outer inner (length old_items) ≡ value n
  composed_value = rw (c.outer_lent, c.inner_lent) at (sym c.met.0)

  pub composed_left : both ≡ compose_out outer inner old_items
  composed_left = sym c.out_left ∙ (rw (c.outer_lent, c.inner_lent) at c.met.1)

-- RUN.
module _ {query parents kinds given marks : List ℕ} {a : ℕ} (c : RunCall query parents kinds given (Ok a) marks) where
  abbrev pub old-marks : List ℕ
  old-marks = c.args.1.1.1.1.0.now

  abbrev pub scratch-room : ℕ
  scratch-room = length c.args.1.1.1.1.1.0.now

  pub run_value : run_answer query (table_of parents kinds) given (length old-marks) scratch-room ≡ value a
  run_value = rw (c.query_lent, c.parents_lent, c.kinds_lent, c.given_lent) at (sym c.met.0)

  pub run_left : marks ≡ run_marks query (table_of parents kinds) given old-marks scratch-room
  run_left = sym c.marks_left ∙ (rw (c.query_lent, c.parents_lent, c.kinds_lent, c.given_lent) at c.met.1.0)

-- The same of a run of equal items inside equal marks.
pub run_as : {query parents kinds given marks q m : List ℕ} {a : ℕ} (c : RunCall query parents kinds given (Ok a) marks) → query ≡ q → given ≡ m
    → run_answer q (table_of parents kinds) m (length (old-marks c)) (scratch-room c) ≡ value a
run_as {parents = parents} {kinds = kinds} {a = a} c e f =
    subst₂ (λ (u v : List ℕ). run_answer u (table_of parents kinds) v (length (old-marks c)) (scratch-room c) ≡ value a) e f (run_value c)

-- EXTRACT.
module _ {parents kinds marks new_parents new_kinds : List ℕ} {n : ℕ} (c : ExtractCall parents kinds marks (Ok n) new_parents new_kinds) where
  abbrev old-parents : List ℕ
  old-parents = c.args.1.1.1.0.now

  abbrev old-kinds : List ℕ
  old-kinds = c.args.1.1.1.1.0.now

  extract_value : extract_answer (table_of parents kinds) marks (length old-parents) (length old-kinds) ≡ value n
  extract_value = rw (c.parents_lent, c.kinds_lent, c.marks_lent) at (sym c.met.0)

  parents_left : new_parents ≡ extract_parents (table_of parents kinds) marks old-parents (length old-kinds)
  parents_left = sym c.parents_left ∙ (rw (c.parents_lent, c.kinds_lent, c.marks_lent) at c.met.1.0)

  kinds_left : new_kinds ≡ extract_kinds (table_of parents kinds) marks (length old-parents) old-kinds
  kinds_left = sym c.kinds_left ∙ (rw (c.parents_lent, c.kinds_lent, c.marks_lent) at c.met.1.1)

-- A view is what such a run and extract show.
pub shows : {query parents kinds given ps ks : List ℕ} (v : View query parents kinds given ps ks) → Shows query (table_of parents kinds) given v.kept v.count ps ks
shows v =
    record {
      old_marks = old-marks v.ran;
      scratch_room = scratch-room v.ran;
      old_parents = old-parents v.took;
      old_kinds = old-kinds v.took;
      marks = v.marks;
      ran = run_value v.ran;
      wrote = run_left v.ran;
      extracted = extract_value v.took;
      parents_left = v.parents_first ∙ ap (take v.count) (parents_left v.took);
      kinds_left = v.kinds_first ∙ ap (take v.count) (kinds_left v.took);
    }

-- EXACTNESS.
pub exactness : Exactness
exactness outer inner both parents kinds given marks shown last n a b c composing run-both run_first run-second =
    let t = table_of parents kinds in
    let said = run_as run-both (ap (take n) (composed_left composing)) refl in
    let second = run_as run-second refl (run_left run_first) in
    let alike = entries.exactness outer inner (old_items composing) t given (old-marks run-both) (old-marks run_first) (old-marks run-second) n a b c
    (scratch-room run-both) (scratch-room run_first) (scratch-room run-second) (composed_value composing) said (run_value run_first) second in (
      alike.0,
      run_left run-both ∙ ap (λ ws. run_marks (take n ws) t given (old-marks run-both) (scratch-room run-both)) (composed_left composing)
          ∙ alike.1
          ∙ ap (λ m. run_marks outer t m (old-marks run-second) (scratch-room run-second)) (sym (run_left run_first)) ∙ sym (run_left run-second),
    )

-- SECRECY.
pub secrecy : Secrecy
secrecy outer inner both parents kinds parents' kinds' ps ks ps' ks' n composing v v' same-parents same-kinds qs ls qs' ls' w w' =
    let x = rw (composed_left composing) at (shows w) in
    let x' = rw (composed_left composing) at (shows w') in
    let alike = entries.secrecy outer inner (old_items composing) (table_of parents kinds) (table_of parents' kinds') n v.kept v'.kept v.count v'.count ps ks ps' ks'
    (composed_value composing) (shows v) (shows v') same-parents same-kinds w.kept w'.kept w.count w'.count qs ls qs' ls' x x' in
    (alike.2, alike.3)

-- EXTRACTION.
pub extraction : Extraction
extraction query parents kinds given out_parents out_kinds ps ks qs ls n c v w =
    let x = subst₂ (λ (us vs : List ℕ). Shows query (table_of (take n us) (take n vs)) (ones (take n us)) w.kept w.count qs ls) (parents_left c) (kinds_left c) (shows w) in
    let alike = entries.extraction query (table_of parents kinds) given (old-parents c) (old-kinds c) n (extract_value c) v.kept w.kept v.count w.count ps ks qs ls (shows v) x in
    (alike.2, alike.3)

-- PRINT. What the contract says of an accepted call in either form, with the slice that it was lent.
record Printed (brief : Bool) (query list text : List ℕ) (n : ℕ) : Type 0 where
  old : List ℕ
  print_value : print_answer brief query list (length old) ≡ value n
  print_left : text ≡ print_out brief query list old

printed_so : (brief : Bool) (query list text : List ℕ) (n : ℕ) → FormCall brief query list (Ok n) text → Printed brief query list text n
printed_so true query list text n p =
    record {
      old = p.args.1.1.0.now;
      print_value = rw (p.query_lent, p.list_lent) at (sym p.met.0);
      print_left = sym p.out_left ∙ (rw (p.query_lent, p.list_lent) at p.met.1);
    }
printed_so false query list text n p =
    record {
      old = p.args.1.1.0.now;
      print_value = rw (p.query_lent, p.list_lent) at (sym p.met.0);
      print_left = sym p.out_left ∙ (rw (p.query_lent, p.list_lent) at p.met.1);
    }

-- ROUND TRIP.
pub round_trip : RoundTrip
round_trip brief query list text old out n version answer fine p most room r =
    let print = printed_so brief query list text n p in
    let read-said : told answer ≡ read_answer (take n text) version list (length old) = rw (r.text_lent, r.version_given, r.list_lent, r.out_lent) at r.met.0 in
    let read_left : out ≡ read_out (take n text) version list old = sym r.out_left ∙ (rw (r.text_lent, r.version_given, r.list_lent, r.out_lent) at r.met.1) in
    let back = entries.round_trip brief query list print.old old n version fine print.print_value most room in (
      told_same answer (Ok (length query)) (read-said ∙ ap (λ ws. read_answer (take n ws) version list (length old)) print.print_left ∙ back.0),
      ap (take (length query)) (read_left ∙ ap (λ ws. read_out (take n ws) version list old) print.print_left) ∙ back.1,
    )

-- SHORTER.
pub shorter : Shorter
shorter query list long short n answer l s same-room =
    let told-long : print_answer long_form query list (length l.args.1.1.0.now) ≡ value n = rw (l.query_lent, l.list_lent) at (sym l.met.0) in
    let less = shorter_answer query list (length l.args.1.1.0.now) n told-long in
    let told-short : told answer ≡ print_answer short_form query list (length s.args.1.1.0.now) = rw (s.query_lent, s.list_lent) at s.met.0 in
    (less.0, told_same answer (Ok less.0) (told-short ∙ ap (print_answer short_form query list) same-room ∙ less.1), less.2)

-- SCRATCH.
pub height_value : {query : List ℕ} {n : ℕ} → HeightCall query (Ok n) → height_answer query ≡ value n
height_value c = rw c.query_lent at (sym c.met)

pub paths_value : {query : List ℕ} {n : ℕ} → PathsCall query (Ok n) → paths_answer query ≡ value n
paths_value c = rw c.query_lent at (sym c.met)

pub scratch_value : {count oh op ih ip n : ℕ} → ScratchCall count oh op ih ip (Ok n) → scratch_answer count oh op ih ip ≡ value n
scratch_value c = rw (c.count_given, c.outer_height_given, c.outer_paths_given, c.inner_height_given, c.inner_paths_given) at (sym c.met)

pub scratch_enough : ScratchEnough
scratch_enough outer inner both parents kinds given marks n oh op ih ip bytes place composing outer-high outer-many inner-high inner-many told-bytes run enough =
    let t = table_of parents kinds in
    let lent = length run.args.1.1.1.1.0.now in
    let said : run_answer (take n both) t given lent (scratch_lent run) ≡ refusal 10 place = rw (run.query_lent, run.parents_lent, run.kinds_lent, run.given_lent) at (sym run.met.0) in
    entries.scratch_enough outer inner (old_items composing) t given n oh op ih ip bytes lent (scratch_lent run) place (composed_value composing)
    (height_value outer-high) (paths_value outer-many) (height_value inner-high) (paths_value inner-many) (scratch_value told-bytes) enough
    (rw (composed_left composing) at said)

-- IS CUT.
module _ {parents kinds cut_parents cut_kinds numbers : List ℕ} {answer : Answer} (c : CutCall parents kinds cut_parents cut_kinds numbers answer) where
  cut_said : told answer ≡ is_cut_answer (table_of parents kinds) (table_of cut_parents cut_kinds) numbers
  cut_said = rw (c.parents_lent, c.kinds_lent, c.cut_parents_lent, c.cut_kinds_lent, c.numbers_lent) at c.met

-- A YES.
pub yes_marks : YesMarks
yes_marks parents kinds cut_parents cut_kinds numbers out_parents out_kinds place c x =
    let t = table_of parents kinds in
    let refused : extract_answer t (marks_of t numbers) (length x.args.1.1.1.0.now) (length x.args.1.1.1.1.0.now) ≡ refusal 8 place =
    rw (x.parents_lent, x.kinds_lent, x.marks_lent) at (sym x.met.0) in
    entries.never_bad_marks t (marks_of t numbers) _ _ place (marks_are_good t (table_of cut_parents cut_kinds) numbers (entries.says_yes t (table_of cut_parents cut_kinds) numbers (sym (cut_said c)))) refused

pub yes_extracts : YesExtracts
yes_extracts parents kinds cut_parents cut_kinds numbers out_parents out_kinds n c x =
    let t = table_of parents kinds in
    let cut = table_of cut_parents cut_kinds in
    let marks = marks_of t numbers in
    let got = took t marks n (old-parents x) (old-kinds x) (extract_value x) in
    let table = (extracts t cut numbers (entries.says_yes t cut numbers (sym (cut_said c)))).0 in
    let left = got.left ∙ table in (
      got.counted ∙ sym (length_parents t marks) ∙ ap nodes table,
      ap (take n) (parents_left x) ∙ ap (λ v. v.parents) left,
      ap (take n) (kinds_left x) ∙ ap (λ v. v.kinds) left,
    )

-- A VIEW IS A CUT.
pub view_is_cut : ViewIsCut
unfolding shows
view_is_cut query parents kinds ps ks answer v c =
    told_same answer (Ok 1) (cut_said c ∙ entries.shown_is_cut query (table_of parents kinds) v.kept v.count ps ks (shows v))
