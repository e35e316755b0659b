-- Roles over calls, from the same over the entry points' definitions: a call's contract says what it answered and left by those. Assumes nothing.
use Prim.Native.Nat.{ℕ}
use mathlib.Core.Path.{◌≡◌, refl, sym, ◌∙◌, ap, ap₂}
use mathlib.Core.List.{List}
use lib.ListN.{length, take}
use Rattle.paper.specs.Document.{marked, table_of}
use Rattle.paper.specs.Answers.{value, read_answer, read_items, read_out, run_marks}
use Rattle.paper.specs.Roles.{role_answer, role_out}
use Rattle.paper.specs.Told.{told}
use Rattle.paper.specs.Told.{Answer}
use Rattle.std.specs.Prelude.{Ok}
use Rattle.paper.proofs.Giving.{read_gives}
use Rattle.call_promises.specs.Calls.{ReadCall}
use Rattle.call_promises.specs.RoleCalls.{RoleCall, RoleIndependence, RoleExactness, UnionMarks, ViewMarks, RoleSecrecy, RoleMonotony}
use Rattle.call_promises.proofs.Telling.{told_same}
use Rattle.call_promises.proofs.Calls.{old-marks, scratch-room, run_value, run_left, run_as, shows}
use Rattle.entry_promises.proofs.RoleEntries as entries

-- FOR ROLE. What the contract says of a call, of what is lent by the names it has in the statements.
module _ {views list masks : List ℕ} {role : ℕ} {text old out : List ℕ} {answer : Answer} (c : RoleCall views list masks role text old answer out) where
  role_said : told answer ≡ role_answer views list masks role text (length old)
  role_said = rw (c.views_lent, c.list_lent, c.masks_lent, c.role_given, c.text_lent, c.out_lent) at c.met.0

  role_left : out ≡ role_out views list masks role text old
  role_left = sym c.out_left ∙ (rw (c.views_lent, c.list_lent, c.masks_lent, c.role_given, c.text_lent, c.out_lent) at c.met.1)

role_value : {views list masks : List ℕ} {role : ℕ} {text old out : List ℕ} {n : ℕ} (c : RoleCall views list masks role text old (Ok n) out)
    → role_answer views list masks role text (length old) ≡ value n
role_value c = sym (role_said c)

-- READ. The items that an accepted call left are those of its text.
items_read : (text list old out : List ℕ) (n : ℕ) → ReadCall text 1 list old (Ok n) out → take n out ≡ read_items text 1 list
items_read text list old out n c =
    let said : value n ≡ read_answer text 1 list (length old) = rw (c.text_lent, c.version_given, c.list_lent, c.out_lent) at c.met.0 in
    let left : out ≡ read_out text 1 list old = sym c.out_left ∙ (rw (c.text_lent, c.version_given, c.list_lent, c.out_lent) at c.met.1) in
    (read_gives n old out text list said left).starts

-- INDEPENDENCE.
pub role_independence : RoleIndependence
role_independence views views' list masks masks' role text old old' answer answer' out out' c c' w w' f f' s e =
    let both = entries.role_independence views views' list masks masks' role text old old' w w' f f' s e in (
      told_same answer answer' (role_said c ∙ both.0 ∙ sym (role_said c')),
      λ n h. ap (take n) (role_left c) ∙ both.1 n (sym (role_said c) ∙ ap told h) ∙ ap (take n) (sym (role_left c')),
    )

-- EXACTNESS.
pub role_exactness : RoleExactness
role_exactness views list masks role text old out space asked parents kinds given marks shown last n k a b c call read run-items run-union run-asked =
    let t = table_of parents kinds in
    let one = run_as run-items (ap (take n) (role_left call)) refl in
    let two = run_as run-asked (items_read text list space asked k read) (run_left run-union) in
    let alike = entries.role_exactness views list masks role text old t given (old-marks run-items) (old-marks run-union) (old-marks run-asked) n a b c
    (scratch-room run-items) (scratch-room run-union) (scratch-room run-asked) (role_value call) one (run_value run-union) two in (
      alike.0,
      run_left run-items ∙ ap (λ ws. run_marks (take n ws) t given (old-marks run-items) (scratch-room run-items)) (role_left call)
          ∙ alike.1
          ∙ sym (run_left run-asked ∙ ap₂ (λ q m. run_marks q t m (old-marks run-asked) (scratch-room run-asked)) (items_read text list space asked k read) (run_left run-union)),
    )

-- THE UNION.
pub union_marks : UnionMarks
union_marks views list masks role text old out parents kinds given marks n a i call run l =
    ap (λ m. marked m i) (run_left run)
    ∙ entries.union_marks views list masks role text (table_of parents kinds) given (old-marks run) n a (length old) (scratch-room run) i (role_value call) (run_value run) l

pub view_marks : ViewMarks
view_marks view list old items parents kinds given marks k a i read run l =
    let t = table_of parents kinds in
    let same = items_read view list old items k read in
    let ran = run_as run same refl in
    ap (λ m. marked m i) (run_left run ∙ ap (λ q. run_marks q t given (old-marks run) (scratch-room run)) same)
    ∙ entries.view_marks view list t given (old-marks run) a (scratch-room run) i ran l

-- SECRECY.
pub role_secrecy : RoleSecrecy
role_secrecy views list masks role text old out parents kinds parents' kinds' ps ks ps' ks' n call v v' same-parents same-kinds qs ls qs' ls' w w' =
    let x = rw (role_left call) at (shows w) in
    let x' = rw (role_left call) at (shows w') in
    let alike = entries.role_secrecy views list masks role text old (table_of parents kinds) (table_of parents' kinds') n v.kept v'.kept v.count v'.count ps ks ps' ks'
    (role_value call) (shows v) (shows v') same-parents same-kinds w.kept w'.kept w.count w'.count qs ls qs' ls' x x' in
    (alike.2, alike.3)

-- MONOTONY.
pub role_monotony : RoleMonotony
role_monotony views list masks other role old out old' out' parents kinds given marks marks' n n' a a' all call call' run run' i l m =
    let t = table_of parents kinds in
    let one = run_as run (ap (take n) (role_left call)) refl in
    let two = run_as run' (ap (take n') (role_left call')) refl in
    let less = run_left run ∙ ap (λ ws. run_marks (take n ws) t given (old-marks run) (scratch-room run)) (role_left call) in
    let more = run_left run' ∙ ap (λ ws. run_marks (take n' ws) t given (old-marks run') (scratch-room run')) (role_left call') in
    ap (λ ws. marked ws i) more
    ∙ entries.role_monotony views list masks other role old old' t given (old-marks run) (old-marks run') n n' a a' (scratch-room run) (scratch-room run') all
    (role_value call) (role_value call') one two i l (sym (ap (λ ws. marked ws i) less) ∙ m)
