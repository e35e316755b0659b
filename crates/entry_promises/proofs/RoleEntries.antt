-- Roles over the entry points' definitions: an accepted answer is that of a composition (`role_acceptance`), of which the demands hold; the union is one of queries, and what it keeps is known view by view. Assumes nothing.
use Prim.Native.Nat.{ℕ, ◌≤◌, ◌<◌}
use native.Mathlib.Omega.{arith}
use mathlib.Core.Path.{◌≡◌, refl, sym, ◌∙◌, ap, ap₂}
use mathlib.Core.Bool.{Bool, true, false, not, ◌||◌}
use mathlib.Core.List.{List}
use mathlib.Core.Option.{none, some}
use lib.Dec.{eqb, leb, ltb}
use lib.ListN.{length, take}
use borrow.Author.Tests.{ltb-false}
use Rattle.paper.specs.Tools.{when}
use Rattle.paper.specs.Limits.{text_limit, list_limit, item_limit}
use Rattle.paper.specs.Names.{names_fault}
use Rattle.paper.specs.Tokens.{tokens, token_at}
use Rattle.paper.specs.Reading.{read_text, read_tail, read_tested, read_step, read_operand, read_term, read_expr, read_path}
use Rattle.paper.specs.Items.{path_at, encode, decode}
use Rattle.paper.specs.Document.{Table, nodes, marked}
use Rattle.paper.specs.Selection.{keeps, kept}
use Rattle.paper.specs.Composition.{composed}
use Rattle.paper.specs.Answers.{value, refusal, line, too_long, at_exit, read_answer, read_items, compose_answer, composed_got, compose_out, run_answer, run_marks}
use Rattle.paper.specs.Answers.{Answer as Told}
use Rattle.paper.specs.Roles.{view_limit, role_limit, views_of, unended, beyond, first_unread, role_views, role_union, line_answer, union_answer, mask_answer, role_items, mask_out, role_answer, role_out}
use Rattle.paper.proofs.Tests.{some_inj}
use Rattle.paper.proofs.Refusing.{line_value, when_none, or_none}
use Rattle.paper.proofs.Keeping.{marked_kept}
use Rattle.paper.proofs.Encoding.{encode_decode}
use Rattle.theorems.proofs.Exact as exact
use Rattle.role_theorems.specs.Gateway.{keeps_got, IsUnion, root}
use Rattle.role_theorems.proofs.Unions.{role-union, monotony, root_grows}
use Rattle.role_theorems.proofs.Apart.{independence}
use Rattle.entry_promises.specs.RoleEntries.{mask_for, union_for, asked_by, RoleAcceptance, RoleNeverMalformed, RoleIndependence, RoleExactness, RoleTogether, UnionMarks, ViewMarks, RoleSecrecy, slash, RoleMonotony}
use Rattle.entry_promises.proofs.Accepting.{composition, ran, left_by}
use Rattle.entry_promises.proofs.Entries as entries

-- ACCEPTANCE. Where later lines answer a value, the call before them did.
answered : (n : ℕ) (a later : Told) → line_answer a later ≡ value n → (k : ℕ) × (a ≡ value k) × (later ≡ value n)
answered n (value k) later h = (k, refl, h)
answered n (refusal number place) later h = absurd (let z : ◌≡◌ {A = ℕ} 0 1 = cc in omega arith)

not-false : (b : Bool) → not b ≡ false → b ≡ true
not-false true h = refl
not-false false h = sym h

-- What the lines of the union say of an accepted call,
record Past (views list : List ℕ) (mask : ℕ) (text : List ℕ) (room n : ℕ) : Type 0 where
  views_read : first_unread list 0 (views_of views) ≡ none
  query_read : (k : ℕ) × (read_answer text 1 list item_limit ≡ value k)
  union_few : length (role_union views list mask) ≤ item_limit
  composes : compose_answer (asked_by list text) (role_union views list mask) room ≡ value n

past_lines : (views list : List ℕ) (mask : ℕ) (text : List ℕ) (room n : ℕ) → union_answer views list mask text room ≡ value n → Past views list mask text room n
unfolding union_answer
past_lines views list mask text room n h =
    let many = length (role_union views list mask) in
    let last = compose_answer (asked_by list text) (role_union views list mask) room in
    let ten = line 10 (when (ltb item_limit many) many) last in
    let seventeen = line_value 17 n (first_unread list 0 (views_of views)) (line_answer (read_answer text 1 list item_limit) ten) h in
    let read = answered n (read_answer text 1 list item_limit) ten seventeen.1 in
    let few = line_value 10 n (when (ltb item_limit many) many) last read.2 in
    record {
      views_read = seventeen.0;
      query_read = (read.0, read.1);
      union_few = ltb-false item_limit many (when_none (ltb item_limit many) many few.0);
      composes = few.1;
    }

-- and those before them: the mask names a view, and none that is not given.
record Named (views list : List ℕ) (mask : ℕ) (text : List ℕ) (room n : ℕ) : Type 0 where
  some_view : eqb mask 0 ≡ false
  all_given : eqb (beyond mask (length (views_of views))) 0 ≡ true
  past : Past views list mask text room n

named_lines : (views list : List ℕ) (roles role mask : ℕ) (text : List ℕ) (room n : ℕ) → mask_answer views list roles role mask text room ≡ value n → Named views list mask text room n
unfolding mask_answer
named_lines views list roles role mask text room n h =
    let limits = too_long views text_limit || too_long list list_limit || too_long text text_limit || ltb role_limit roles || ltb view_limit (length (views_of views)) || unended views in
    let unnamed = eqb mask 0 || not (eqb (beyond mask (length (views_of views))) 0) in
    let last = union_answer views list mask text room in
    let sixteen = line 16 (when unnamed role) last in
    let fifteen = line 15 (when (leb roles role) role) sixteen in
    let one = line_value 1 n (when limits 0) (line 2 (names_fault list) fifteen) h in
    let two = line_value 2 n (names_fault list) fifteen one.1 in
    let there = line_value 15 n (when (leb roles role) role) sixteen two.1 in
    let named = line_value 16 n (when unnamed role) last there.1 in
    let both = or_none (eqb mask 0) (not (eqb (beyond mask (length (views_of views))) 0)) (when_none unnamed role named.0) in
    record {
      some_view = both.0;
      all_given = not-false (eqb (beyond mask (length (views_of views))) 0) both.1;
      past = past_lines views list mask text room n named.1;
    }

-- What is left is what the composition leaves.
left_alike : (views list : List ℕ) (roles role mask : ℕ) (text out : List ℕ) (n : ℕ) → mask_answer views list roles role mask text (length out) ≡ value n
    → compose_answer (asked_by list text) (role_union views list mask) (length out) ≡ value n
    → mask_out views list roles role mask text out ≡ compose_out (asked_by list text) (role_union views list mask) out
unfolding mask_out role_items compose_out
left_alike views list roles role mask text out n h k =
    ap (λ a. at_exit a (composed_got (decode (asked_by list text)) (decode (role_union views list mask))) out) (h ∙ sym k)

-- The union of the views of a role that is answered for.
union_of : (views list : List ℕ) (roles role mask : ℕ) (text : List ℕ) (room n : ℕ) → mask_answer views list roles role mask text room ≡ value n → IsUnion list (role_views views mask)
union_of views list roles role mask text room n h =
    let named = named_lines views list roles role mask text room n h in
    role-union views list mask named.past.views_read named.some_view named.all_given

pub role_acceptance : RoleAcceptance
role_acceptance views list masks role text out n h =
    let mask = mask_for masks role in
    let past = (named_lines views list (length masks) role mask text (length out) n h).past in
    record {
      views_read = past.views_read;
      query_read = past.query_read;
      is_union = union_of views list (length masks) role mask text (length out) n h;
      union_few = past.union_few;
      composes = past.composes;
      leaves = left_alike views list (length masks) role mask text out n h past.composes;
    }

-- NEVER MALFORMED.
pub role_never_malformed : RoleNeverMalformed
role_never_malformed views list masks role text out n t given marks_room scratch_room place h r =
    let w = role_acceptance views list masks role text out n h in
    entries.never_malformed (asked_by list text) (union_for views list masks role) out n t given marks_room scratch_room place w.composes (rw w.leaves at r)

-- INDEPENDENCE. The items that are left do not depend on what the slice held.
items_alike : (outer inner out out' : List ℕ) (n : ℕ) → compose_answer outer inner (length out) ≡ value n → compose_answer outer inner (length out') ≡ value n
    → take n (compose_out outer inner out) ≡ take n (compose_out outer inner out')
items_alike outer inner out out' n h h' =
    let c = (composition outer inner out n h).0 in
    let c' = (composition outer inner out' n h').0 in
    let asks : c.outer_is ≡ c'.outer_is = some_inj (sym c.outer_decodes ∙ c'.outer_decodes) in
    let sees : c.inner_is ≡ c'.inner_is = some_inj (sym c.inner_decodes ∙ c'.inner_decodes) in
    (encode_decode (take n (compose_out outer inner out)) (composed c.outer_is c.inner_is) c.decodes).items
    ∙ ap₂ (λ o i. encode (composed o i)) asks sees
    ∙ sym (encode_decode (take n (compose_out outer inner out')) (composed c'.outer_is c'.inner_is) c'.decodes).items

pub role_independence : RoleIndependence
role_independence views views' list masks masks' role text out out' w w' f f' s e =
    let both = independence views views' list masks masks' role text w w' f f' s in
    let alike = both.0 (length out) ∙ ap (role_answer views' list masks' role text) e in (
      alike,
      λ n h.
          let one = role_acceptance views' list masks' role text out n (sym (both.0 (length out)) ∙ h) in
          let other = role_acceptance views' list masks' role text out' n (sym alike ∙ h) in
          ap (take n) (both.1 out ∙ one.leaves) ∙ items_alike (asked_by list text) (union_for views' list masks' role) out out' n one.composes other.composes ∙ ap (take n) (sym other.leaves),
    )

-- EXACTNESS.
pub role_exactness : RoleExactness
role_exactness views list masks role text out t given marks first second n a b c room room₁ room₂ h run-items run-union run-asked =
    let w = role_acceptance views list masks role text out n h in
    let alike = entries.exactness (asked_by list text) (union_for views list masks role) out t given marks first second n a b c room room₁ room₂ w.composes
    (rw w.leaves at run-items) run-union run-asked in
    (alike.0, ap (λ ws. run_marks (take n ws) t given marks room) w.leaves ∙ alike.1)

pub role_together : RoleTogether
role_together views list masks role text out t given first o q n b room room₁ room₂ h run-union d e enough enough₂ =
    let w = role_acceptance views list masks role text out n h in
    let (a, runs-items, runs-asked) = entries.together (asked_by list text) (union_for views list masks role) out t given first o q n b room room₁ room₂ w.composes run-union (rw w.leaves at d) e enough enough₂ in
    (a, ap (λ ws. run_answer (take n ws) t given (nodes t) room) w.leaves ∙ runs-items, runs-asked)

-- THE UNION.
pub union_marks : UnionMarks
unfolding role_union
union_marks views list masks role text t given marks n a space room i h r l =
    let mask = mask_for masks role in
    let u = union_of views list (length masks) role mask text space n h in
    let run = ran (union_for views list masks role) t given marks room a r in
    ap (λ m. marked m i) (left_by u.is u.decodes run) ∙ marked_kept t given u.is i l ∙ u.keeps_each t given i

pub view_marks : ViewMarks
view_marks view list t given marks a room i r l =
    let run = ran (read_items view 1 list) t given marks room a r in
    ap (λ m. marked m i) run.left ∙ marked_kept t given run.is i l ∙ ap (keeps_got t given i) (sym run.decodes)

-- SECRECY.
pub role_secrecy : RoleSecrecy
role_secrecy views list masks role text out t u n a b l m parentsₜ kindsₜ parentsᵤ kindsᵤ h in-t in-u e₁ e₂ a' b' l' m' newₜ newKindsₜ newᵤ newKindsᵤ both-t both-u =
    let w = role_acceptance views list masks role text out n h in
    entries.secrecy (asked_by list text) (union_for views list masks role) out t u n a b l m parentsₜ kindsₜ parentsᵤ kindsᵤ w.composes in-t in-u e₁ e₂ a' b' l' m' newₜ newKindsₜ newᵤ newKindsᵤ
    (rw w.leaves at both-t) (rw w.leaves at both-u)

-- MONOTONY. The text `/` is read as the query that selects the root,
slash_read : (list : List ℕ) → decode (read_items slash 1 list) ≡ some root
unfolding read_items tokens token_at read_text read_tail read_tested read_step read_operand read_term read_expr read_path decode encode path_at
slash_read list = refl

-- so a role's items keep what the root keeps inside what the union keeps.
module _ (views list masks : List ℕ) (role : ℕ) (out : List ℕ) (t : Table) (given marks : List ℕ) (n a room : ℕ) (h : role_answer views list masks role slash (length out) ≡ value n)
    (r : run_answer (take n (role_out views list masks role slash out)) t given (length marks) room ≡ value a) where
  abbrev seen_by : IsUnion list (role_views views (mask_for masks role))
  seen_by = union_of views list (length masks) role (mask_for masks role) slash (length out) n h

  root_left : run_marks (take n (role_out views list masks role slash out)) t given marks room ≡ kept t (kept t given seen_by.is) root
  unfolding role_union
  root_left =
      let w = role_acceptance views list masks role slash out n h in
      let c = (composition (asked_by list slash) (union_for views list masks role) out n w.composes).0 in
      let run = ran (take n (role_out views list masks role slash out)) t given marks room a r in
      let asks : c.outer_is ≡ root = some_inj (sym c.outer_decodes ∙ slash_read list) in
      let sees : c.inner_is ≡ seen_by.is = some_inj (sym c.inner_decodes ∙ seen_by.decodes) in
      left_by (composed c.outer_is c.inner_is) (ap (λ ws. decode (take n ws)) w.leaves ∙ c.decodes) run
      ∙ exact.exactness t given c.outer_is c.inner_is run.table_good run.marks_good
      ∙ ap₂ (λ o i. kept t (kept t given i) o) asks sees

pub role_monotony : RoleMonotony
role_monotony views list masks other role out out' t given marks marks' n n' a a' room room' all h h' r r' i l m =
    let u = seen_by views list masks other out t given marks n a room h r in
    let v = seen_by views list masks role out' t given marks' n' a' room' h' r' in
    let less = root_left views list masks other out t given marks n a room h r in
    let more = root_left views list masks role out' t given marks' n' a' room' h' r' in
    let inside : (k : ℕ) → k < nodes t → marked (kept t given u.is) k ≡ true → marked (kept t given v.is) k ≡ true =
    λ k b e. marked_kept t given v.is k b ∙ monotony list (views_of views) (mask_for masks other) (mask_for masks role) all u v t given k (sym (marked_kept t given u.is k b) ∙ e) in
    let kept_less : keeps t (kept t given u.is) root i ≡ true = sym (marked_kept t (kept t given u.is) root i l) ∙ sym (ap (λ ws. marked ws i) less) ∙ m in
    ap (λ ws. marked ws i) more ∙ marked_kept t (kept t given v.is) root i l ∙ root_grows t (kept t given u.is) (kept t given v.is) inside i l kept_less
