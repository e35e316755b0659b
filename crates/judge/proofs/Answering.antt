-- The lines of a run, in their order: what refuses it, and what is known where nothing does. Assumes nothing.
use Prim.Native.Nat.{ℕ, ◌+◌, ◌*◌, ◌≤◌, ◌<◌}
use native.Mathlib.Omega.{arith}
use native.Mathlib.Nat.{mul-le-mul, le_trans}
use mathlib.Core.Path.{◌≡◌, refl, sym, ◌∙◌, ap}
use mathlib.Core.Bool.{Bool, true, false, not, ◌||◌}
use mathlib.Core.List.{List, [], append-nil}
use mathlib.Core.Option.{Option, none, some}
use lib.Dec.{eqb, ltb}
use lib.ListN.{length, drop, drop_of_length-le}
use borrow.Author.Tests.{lt-ltb, le-ltb, ltb-false, eq-eqb, ne_eqb, eqb-true, not-false}
use Rattle.std.specs.Prelude.{Some, None, Ok, Err}
use Rattle.std.specs.Prelude.{Option as Code}
use Rattle.std.specs.Option.{ok_or}
use Rattle.paper.specs.Tools.{when}
use Rattle.paper.specs.Limits.{item_limit, node_limit}
use Rattle.paper.specs.Query.{Query}
use Rattle.paper.specs.Items.{decode}
use Rattle.paper.specs.Measures.{height}
use Rattle.paper.specs.Document.{Table, nodes, table_fault, marks_fault}
use Rattle.paper.specs.Selection.{kept}
use Rattle.paper.specs.Answers.{value, refusal, line, line_query, too_long, scratch_of, marked_count, run_answer, run_marks, kept_got}
use Rattle.paper.specs.Told.{told_refusal}
use Rattle.paper.specs.declared.Refusal.{Refusal}
use Rattle.paper.proofs.Tests.{or_left, or_right}
use Rattle.paper.proofs.Sizes.{size_decoded, height_size}
use Rattle.paper.proofs.Refusing.{line_value, when_none, or_none, refusal_told, refused_keeps}
use Rattle.paper.proofs.Keeping.{length_kept}
use Rattle.shape.specs.Walks.{shape_of}
use Rattle.shape.specs.declared.Shape.{Shape}
use Rattle.judge.specs.Judging.{judged}

-- What the shape of items says of the query that they are, and what handing on a refusal in place of none says of the shape.
pub shaped_none : (o : Option Query) → None ≡ shape_of o → o ≡ none
shaped_none none h = refl
shaped_none (some q) h = absurd (let z : ◌≡◌ {A = ℕ} 0 1 = cc in omega arith)

pub shaped_some : (o : Option Query) (shape : Shape) → Some shape ≡ shape_of o → (q : Query) × (o ≡ some q) × (shape.height ≡ height q)
shaped_some none shape e = absurd (let z : ◌≡◌ {A = ℕ} 0 1 = cc in omega arith)
shaped_some (some q) shape e = (q, refl, cc)

pub measured_none : (o : Option Query) (m : Code Shape) (why other : Refusal) → m ≡ shape_of o → Err why ≡ ok_or m other → (o ≡ none) × (why ≡ other)
measured_none o None why other h e = (shaped_none o h, cc)
measured_none o (Some shape) why other h e = absurd (let z : ◌≡◌ {A = ℕ} 0 1 = cc in omega arith)

pub measured_some : (o : Option Query) (m : Code Shape) (shape : Shape) (other : Refusal) → m ≡ shape_of o → Ok shape ≡ ok_or m other → (q : Query) × (o ≡ some q) × (shape.height ≡ height q)
measured_some o None shape other h e = absurd (let z : ◌≡◌ {A = ℕ} 0 1 = cc in omega arith)
measured_some o (Some there) shape other h e = shaped_some o shape (let same : there ≡ shape = cc in rw same at h)

module _ (query : List ℕ) (t : Table) (given : List ℕ) (marks_room : ℕ) where
  -- Does line 1 hold?
  abbrev pub Long : Bool
  Long = too_long query item_limit || ltb node_limit (nodes t) || not (eqb (length t.kinds) (nodes t)) || not (eqb (length given) (nodes t)) || not (eqb marks_room (nodes t))

  -- All lengths are right.
  pub record Agree : Type 0 where
    pub items_few : length query ≤ item_limit
    pub nodes_few : nodes t ≤ node_limit
    pub kinds_all : length t.kinds ≡ nodes t
    pub given_all : length given ≡ nodes t
    pub marks_all : marks_room ≡ nodes t

  -- Line 1, part by part.
  pub judged_long : Long ≡ true → refusal 1 0 ≡ judged query t given marks_room
  unfolding judged
  judged_long h = rw h

  pub items_many : item_limit < length query → refusal 1 0 ≡ judged query t given marks_room
  items_many h =
      judged_long (or_left (not (eqb marks_room (nodes t))) (or_left (not (eqb (length given) (nodes t))) (or_left (not (eqb (length t.kinds) (nodes t))) (or_left (ltb node_limit (nodes t)) (lt-ltb item_limit (length query) h)))))

  pub nodes_many : node_limit < nodes t → refusal 1 0 ≡ judged query t given marks_room
  nodes_many h =
      judged_long (or_left (not (eqb marks_room (nodes t))) (or_left (not (eqb (length given) (nodes t))) (or_left (not (eqb (length t.kinds) (nodes t))) (or_right (too_long query item_limit) (lt-ltb node_limit (nodes t) h)))))

  pub kinds_other : (length t.kinds ≡ nodes t → ⊥) → refusal 1 0 ≡ judged query t given marks_room
  kinds_other h =
      judged_long (or_left (not (eqb marks_room (nodes t))) (or_left (not (eqb (length given) (nodes t))) (or_right (too_long query item_limit || ltb node_limit (nodes t)) (ap not (ne_eqb (length t.kinds) (nodes t) h)))))

  pub given_other : (length given ≡ nodes t → ⊥) → refusal 1 0 ≡ judged query t given marks_room
  given_other h =
      judged_long (or_left (not (eqb marks_room (nodes t))) (or_right (too_long query item_limit || ltb node_limit (nodes t) || not (eqb (length t.kinds) (nodes t))) (ap not (ne_eqb (length given) (nodes t) h))))

  pub marks_other : (marks_room ≡ nodes t → ⊥) → refusal 1 0 ≡ judged query t given marks_room
  marks_other h =
      judged_long (or_right (too_long query item_limit || ltb node_limit (nodes t) || not (eqb (length t.kinds) (nodes t)) || not (eqb (length given) (nodes t))) (ap not (ne_eqb marks_room (nodes t) h)))

  -- Where the lengths are right, the later lines decide.
  pub judged_agrees : Agree → judged query t given marks_room ≡ line_query 6 0 (decode query) (λ q. line 7 (table_fault t) (line 8 (marks_fault t given) (value (height q))))
  unfolding judged
  judged_agrees a =
      rw (le-ltb item_limit (length query) a.items_few, le-ltb node_limit (nodes t) a.nodes_few, eq-eqb (length t.kinds) (nodes t) a.kinds_all, eq-eqb (length given) (nodes t) a.given_all, eq-eqb marks_room (nodes t) a.marks_all)

  -- Each later line, where those before it do not hold.
  pub judged_six : Agree → decode query ≡ none → refusal 6 0 ≡ judged query t given marks_room
  judged_six a d = sym (judged_agrees a ∙ rw d)

  pub judged_seven : (q : Query) (i : ℕ) → Agree → decode query ≡ some q → table_fault t ≡ some i → refusal 7 i ≡ judged query t given marks_room
  judged_seven q i a d e = sym (judged_agrees a ∙ rw (d, e))

  pub judged_eight : (q : Query) (i : ℕ) → Agree → decode query ≡ some q → table_fault t ≡ none → marks_fault t given ≡ some i → refusal 8 i ≡ judged query t given marks_room
  judged_eight q i a d e f = sym (judged_agrees a ∙ rw (d, e, f))

  pub judged_value : (q : Query) → Agree → decode query ≡ some q → table_fault t ≡ none → marks_fault t given ≡ none → value (height q) ≡ judged query t given marks_room
  judged_value q a d e f = sym (judged_agrees a ∙ rw (d, e, f))

  -- Where a value is answered, nothing refuses.
  pub record Accepted (tall : ℕ) : Type 0 where
    pub agree : Agree
    pub query_is : Query
    pub decodes : decode query ≡ some query_is
    pub tall_is : tall ≡ height query_is
    pub table_good : table_fault t ≡ none
    pub marks_good : marks_fault t given ≡ none

  agrees : Long ≡ false → Agree
  agrees h =
      let a = or_none (too_long query item_limit || ltb node_limit (nodes t) || not (eqb (length t.kinds) (nodes t)) || not (eqb (length given) (nodes t))) (not (eqb marks_room (nodes t))) h in
      let b = or_none (too_long query item_limit || ltb node_limit (nodes t) || not (eqb (length t.kinds) (nodes t))) (not (eqb (length given) (nodes t))) a.0 in
      let c = or_none (too_long query item_limit || ltb node_limit (nodes t)) (not (eqb (length t.kinds) (nodes t))) b.0 in
      let d = or_none (too_long query item_limit) (ltb node_limit (nodes t)) c.0 in
      record {
        items_few = ltb-false item_limit (length query) d.0;
        nodes_few = ltb-false node_limit (nodes t) d.1;
        kinds_all = eqb-true _ _ (not-false _ c.1);
        given_all = eqb-true _ _ (not-false _ b.1);
        marks_all = eqb-true _ _ (not-false _ a.1);
      }

  pub accepted : (tall : ℕ) → value tall ≡ judged query t given marks_room → Accepted tall
  unfolding judged
  accepted tall h =
      let first = line_value 1 tall (when Long 0) _ (sym h) in
      go (decode query) refl first.1 (agrees (when_none Long 0 first.0))
    where
      go : (o : Option Query) → decode query ≡ o → line_query 6 0 o (λ q. line 7 (table_fault t) (line 8 (marks_fault t given) (value (height q)))) ≡ value tall → Agree → Accepted tall
      go none e k a = absurd (let z : ◌≡◌ {A = ℕ} 0 1 = cc in omega arith)
      go (some q) e k a =
          let seven = line_value 7 tall (table_fault t) _ k in
          let eight = line_value 8 tall (marks_fault t given) _ seven.1 in
          let same : tall ≡ height q = let r : height q ≡ tall = cc in sym r in
          record { agree = a; query_is = q; decodes = e; tall_is = same; table_good = seven.0; marks_good = eight.0 }

  module _ (room : ℕ) where
    -- A run that nothing refuses answers the number of nodes kept,
    pub runs : (tall : ℕ) (a : Accepted tall) → scratch_of t a.query_is ≤ room → run_answer query t given marks_room room ≡ value (marked_count t (kept t given a.query_is))
    unfolding run_answer
    runs tall a l =
        rw (le-ltb item_limit (length query) a.agree.items_few, le-ltb node_limit (nodes t) a.agree.nodes_few, eq-eqb (length t.kinds) (nodes t) a.agree.kinds_all, eq-eqb (length given) (nodes t) a.agree.given_all, eq-eqb marks_room (nodes t) a.agree.marks_all, a.decodes, a.table_good, a.marks_good, le-ltb room (scratch_of t a.query_is) l)

    -- one with too little scratch how much it needs,
    pub short_of : (tall : ℕ) (a : Accepted tall) → room < scratch_of t a.query_is → run_answer query t given marks_room room ≡ refusal 10 (scratch_of t a.query_is)
    unfolding run_answer
    short_of tall a l =
        rw (le-ltb item_limit (length query) a.agree.items_few, le-ltb node_limit (nodes t) a.agree.nodes_few, eq-eqb (length t.kinds) (nodes t) a.agree.kinds_all, eq-eqb (length given) (nodes t) a.agree.given_all, eq-eqb marks_room (nodes t) a.agree.marks_all, a.decodes, a.table_good, a.marks_good, lt-ltb room (scratch_of t a.query_is) l)

    -- and one that something else refuses answers that.
    pub refuses : (number place : ℕ) → judged query t given marks_room ≡ refusal number place → run_answer query t given marks_room room ≡ refusal number place
    unfolding judged run_answer
    refuses number place h = go (when Long 0) refl (decode query) refl (table_fault t) refl (marks_fault t given) refl
      where
        go : (l : Option ℕ) → when Long 0 ≡ l → (o : Option Query) → decode query ≡ o → (u : Option ℕ) → table_fault t ≡ u → (v : Option ℕ) → marks_fault t given ≡ v
            → run_answer query t given marks_room room ≡ refusal number place
        go (some p) e o f u g v k = rw e (rw e at h)
        go none e none f u g v k = rw (e, f) (rw (e, f) at h)
        go none e (some q) f (some p) g v k = rw (e, f, g) (rw (e, f, g) at h)
        go none e (some q) f none g (some p) k = rw (e, f, g, k) (rw (e, f, g, k) at h)
        go none e (some q) f none g none k = absurd (let y : value (height q) ≡ refusal number place = rw (e, f, g, k) at h in let z : ◌≡◌ {A = ℕ} 0 1 = cc in omega arith)

-- The scratch of a run fits a machine word.
pub scratch_small : (query : List ℕ) (t : Table) (q : Query) → length query ≤ item_limit → nodes t ≤ node_limit → decode query ≡ some q → nodes t * 2 * (height q + 1) ≤ 33562624
scratch_small query t q li ln d =
    let h : height q + 1 ≤ 4097 = omega (arith, height_size q, size_decoded query q d) in
    let n : nodes t * 2 ≤ node_limit * 2 = omega arith in
    le_trans (mul-le-mul n h) (omega arith)

-- A run answers what refused it, and writes nothing,
module _ (query : List ℕ) (t : Table) (given marks : List ℕ) (room : ℕ) where
  pub refused_answer : (why : Refusal) → told_refusal why ≡ judged query t given (length marks) → told_refusal why ≡ run_answer query t given (length marks) room
  refused_answer why h =
      let says = refusal_told why in
      says.2 ∙ sym (refuses query t given (length marks) room says.0 says.1 (sym h ∙ says.2))

  pub marks_stay : (why : Refusal) → told_refusal why ≡ run_answer query t given (length marks) room → marks ≡ run_marks query t given marks room
  unfolding run_marks
  marks_stay why h = rw (← h) (sym (refused_keeps why (kept_got t given (decode query)) marks))

  -- and one that nothing refuses writes the marks of what is kept.
  pub run-marks : (tall : ℕ) (a : Accepted query t given (length marks) tall) → scratch_of t a.query_is ≤ room → kept t given a.query_is ≡ run_marks query t given marks room
  unfolding run_marks
  run-marks tall a l =
      let k = kept t given a.query_is in
      let few : length marks ≤ length k = omega (arith, length_kept t given a.query_is, a.agree.marks_all) in
      let all : drop (length k) marks ≡ [] = drop_of_length-le marks few in
      rw (runs query t given (length marks) room tall a l, a.decodes, all) (sym (append-nil k))
