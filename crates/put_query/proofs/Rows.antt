-- Printing steps and predicates in a row: what is printed so far, with the text of what is left, is the text of the whole; and that the test of a step is known. Assumes nothing.
use Prim.Native.Nat.{ℕ, zero, suc, ◌+◌, ◌-◌, ◌*◌, ◌≤◌, ◌<◌}
use native.Mathlib.Omega.{arith}
use mathlib.Core.Path.{◌≡◌, refl, sym, ◌∙◌, ap, subst}
use mathlib.Core.Bool.{Bool, true, false, cond}
use mathlib.Core.List.{List, [], ◌∷◌, ◌++◌, append_assoc, append-nil}
use mathlib.Core.Option.{some}
use lib.Dec.{ltb}
use lib.ListN.{length, get_or, drop}
use borrow.Author.Tests.{ltb-true, leb-false}
use Rattle.paper.specs.Limits.{names_limit}
use Rattle.paper.specs.Tools.{ascii}
use Rattle.paper.specs.Query.{Axis, Test, any_node, text_node, named, any_element, Expr, Steps, step, Preds, pred}
use Rattle.paper.specs.Items.{Head, step_at, Taken, take_preds, take_steps, take_expr, take_within, pred_count, test_number, good_test}
use Rattle.paper.specs.Printing.{Piece, head_pieces, expr_pieces, relative_pieces, later_pieces, preds_pieces, text_of, close_pred}
use Rattle.paper.specs.Answers.{unknown_test}
use Rattle.paper.proofs.Tests.{found_some, some_inj, none-some}
use Rattle.paper.proofs.Encoding.{from_preds, from_within}
use Rattle.pen.specs.Putting.{Puts, between}
use Rattle.put_steps.specs.Heads.{head_room, Known}
use Rattle.pen.proofs.Putting.{puts_none, puts_both, puts_as}
use Rattle.put_query.specs.declared.Reached.{Reached}
use Rattle.shape.specs.Walks.{operators}
use Rattle.put_query.specs.Writing.{Some, Prints, item_room, sign_room}
use Rattle.slashes.specs.Deep.{passed}
use Rattle.put_query.proofs.Chains.{text_append}
use Rattle.put_query.proofs.Skipping.{step_there, cons_there, Skips, skips}

-- A row: `rows n` reads n of them.
module _ {A : Type 0} (rows : ℕ → List ℕ → Taken A) (pieces_of : A → List Piece) (names : List (List ℕ)) (items : List ℕ) (at pen : ℕ) (taken : Taken A) (old : List ℕ) where
  -- What is left to print, with so many owed.
  pub record Rest (out : List ℕ) (place byte owed : ℕ) : Type 0 where
    pub all : A
    pub rest : A
    pub left : List ℕ
    pub done : List ℕ
    pub taken_all : taken ≡ some (all, left)
    pub takes : rows owed (drop place items) ≡ some (rest, left)
    pub text : done ++ text_of names (pieces_of rest) ≡ text_of names (pieces_of all)
    pub puts : Puts done pen old out byte
    pub onward : at ≤ place
    pub inside : place ≤ length items
    pub low : byte + item_room * at ≤ pen + item_room * place

  -- Nothing printed yet.
  pub rest_start : (owed : ℕ) → at ≤ length items → rows owed (drop at items) ≡ taken → Some taken → Rest old at pen owed
  rest_start owed l e s =
      record {
        all = s.tree.0;
        rest = s.tree.0;
        left = s.tree.1;
        done = [];
        taken_all = s.taken_whole;
        takes = e ∙ s.taken_whole;
        text = refl;
        puts = puts_none pen old;
        onward = omega arith;
        inside = l;
        low = omega arith;
      }

  -- One more.
  rest_more : (out new bytes : List ℕ) (place byte owed next byte' owed' : ℕ) (rest' : A) (l : Rest out place byte owed) → rows owed' (drop next items) ≡ some (rest', l.left)
      → bytes ++ text_of names (pieces_of rest') ≡ text_of names (pieces_of l.rest) → Puts bytes byte out new byte' → place ≤ next → next ≤ length items
      → byte' + item_room * place ≤ byte + item_room * next → Rest new next byte' owed'
  rest_more out new bytes place byte owed next byte' owed' rest' l t e p o i low' =
      record {
        all = l.all;
        rest = rest';
        left = l.left;
        done = l.done ++ bytes;
        taken_all = l.taken_all;
        takes = t;
        text = append_assoc l.done bytes (text_of names (pieces_of rest')) ∙ ap (λ (x : List ℕ). l.done ++ x) e ∙ l.text;
        puts = puts_both l.puts p;
        onward = omega (arith, l.onward);
        inside = i;
        low = omega (arith, l.low);
      }

  -- None owed.
  pub rest_done : (out : List ℕ) (place byte owed : ℕ) (empty : A) → ((ws : List ℕ) → rows 0 ws ≡ some (empty, ws)) → text_of names (pieces_of empty) ≡ [] → owed ≤ 0
      → Rest out place byte owed → Prints names items at pen 0 taken pieces_of old out (record { item = place; byte = byte })
  rest_done out place byte (suc owed) empty stops blank z l = absurd (omega arith)
  rest_done out place byte zero empty stops blank z l =
      let e : ◌≡◌ {A = A × List ℕ} (empty, drop place items) (l.rest, l.left) = some_inj (sym (stops (drop place items)) ∙ l.takes) in
      record {
        what = l.all;
        reads = l.taken_all ∙ ap (λ (x : List ℕ). some (l.all, x)) (sym (ap (λ x. x.1) e));
        puts =
            puts_as
            (sym (append-nil l.done) ∙ ap (λ (x : List ℕ). l.done ++ x) (sym blank ∙ ap (λ x. text_of names (pieces_of x.0)) e) ∙ l.text)
            l.puts;
        onward = l.onward;
        inside = l.inside;
        low = omega (arith, l.low);
      }

-- What stands where a predicate is owed: a bracket may be opened, and an expression stands in it.
module _ (depth : ℕ) (items : List ℕ) (place : ℕ) where
  pub pred_opens : (owed : ℕ) (t : Preds × List ℕ) → 0 < owed → take_preds (take_within depth) owed (drop place items) ≡ some t → (1 ≤ depth) × Some (take_expr (take_within (depth - 1)) (drop place items))
  pred_opens zero t z h = absurd (omega arith)
  pred_opens (suc n) t z h =
      found_some (take_within depth (drop place items)) _ t h (λ r p q. within_opens depth r p)
    where
      within_opens : (d : ℕ) (r : Expr × List ℕ) → take_within d (drop place items) ≡ some r → (1 ≤ d) × Some (take_expr (take_within (d - 1)) (drop place items))
      within_opens zero r p = none-some p
      within_opens (suc d) r p =
          let e : suc d - 1 ≡ d = omega arith in
          (omega arith, record { tree = r; taken_whole = rw e p })

  pred_more : (owed : ℕ) (t : Preds × List ℕ) (e : Expr) (next : ℕ) → 0 < owed → take_preds (take_within depth) owed (drop place items) ≡ some t
      → take_expr (take_within (depth - 1)) (drop place items) ≡ some (e, drop next items)
      → (ps : Preds) × (take_preds (take_within depth) (owed - 1) (drop next items) ≡ some (ps, t.1)) × (t.0 ≡ pred e ps)
  pred_more zero t e next z h w = absurd (omega arith)
  pred_more (suc n) t e next z h w =
      found_some (take_within depth (drop place items)) _ t h
      (λ r p q.
      let same : ◌≡◌ {A = Expr × List ℕ} r (e, drop next items) = some_inj (sym p ∙ reads depth r p) in
      found_some (take_preds (take_within depth) n r.1) (λ s. some (pred r.0 s.0, s.1)) t q
      (λ s u v.
      let k : suc n - 1 ≡ n = omega arith in
      let f : ◌≡◌ {A = Preds × List ℕ} (pred r.0 s.0, s.1) t = some_inj v in (
        s.0,
        rw k (ap (λ x. take_preds (take_within depth) n x.1) (sym same) ∙ u ∙ ap (λ x. some (s.0, x.1)) f),
        ap (λ x. x.0) (sym f) ∙ ap (λ x. pred x.0 s.0) same,
      )))
    where
      reads : (d : ℕ) (r : Expr × List ℕ) → take_within depth (drop place items) ≡ some r → take_within depth (drop place items) ≡ some (e, drop next items)
      reads d r p = go depth w r p
        where
          go : (d : ℕ) → take_expr (take_within (d - 1)) (drop place items) ≡ some (e, drop next items) → (r : Expr × List ℕ) → take_within d (drop place items) ≡ some r
              → take_within d (drop place items) ≡ some (e, drop next items)
          go zero w r p = none-some p
          go (suc d) w r p = let k : suc d - 1 ≡ d = omega arith in rw k at w

-- What stands where a step is owed.
module _ (depth : ℕ) (items : List ℕ) (place : ℕ) where
  pub step-head : (owed : ℕ) (t : Steps × List ℕ) → 0 < owed → take_steps (take_within depth) owed (drop place items) ≡ some t
      → (h : Head) × (step_at (get_or items place 0) ≡ some h) × Some (take_preds (take_within depth) h.count (drop (place + 1) items))
  step-head zero t z h = absurd (omega arith)
  step-head (suc n) t z h =
      let g = rw (cons_there depth items place (step_there depth items place (suc n) t z h)) at h in
      found_some (step_at (get_or items place 0)) _ t g
      (λ a p q. found_some (take_preds (take_within depth) a.count (drop (place + 1) items)) _ t q (λ r u v. (a, p, record { tree = r; taken_whole = u })))

  step_more : (owed : ℕ) (t : Steps × List ℕ) (a : Head) (ps : Preds) (next : ℕ) → 0 < owed → take_steps (take_within depth) owed (drop place items) ≡ some t
      → step_at (get_or items place 0) ≡ some a → take_preds (take_within depth) a.count (drop (place + 1) items) ≡ some (ps, drop next items)
      → (s : Steps) × (take_steps (take_within depth) (owed - 1) (drop next items) ≡ some (s, t.1)) × (t.0 ≡ step a.axis a.test ps s)
  step_more zero t a ps next z h e w = absurd (omega arith)
  step_more (suc n) t a ps next z h e w =
      let g = rw (cons_there depth items place (step_there depth items place (suc n) t z h), e, w) at h in
      found_some (take_steps (take_within depth) n (drop next items)) (λ s. some (step a.axis a.test ps s.0, s.1)) t g
      (λ s u v.
      let k : suc n - 1 ≡ n = omega arith in
      let f : ◌≡◌ {A = Steps × List ℕ} (step a.axis a.test ps s.0, s.1) t = some_inj v in
      (s.0, rw k (u ∙ ap (λ x. some (s.0, x.1)) f), ap (λ x. x.0) (sym f)))

-- What may stand between is no longer than its sign.
pub between_brief : (sign : List ℕ) (n : ℕ) → length (between sign n) ≤ length sign
between_brief sign n = go (ltb 0 n)
  where
    go : (b : Bool) → length (cond b sign []) ≤ length sign
    go true = omega arith
    go false = omega arith

-- The text of a step, its predicates and what follows, with what stands before that.
step_text : (brief : Bool) (names : List (List ℕ)) (a : Axis) (t : Test) (ps : Preds) (s : Steps) (one two tail : List ℕ) → one ++ two ++ tail ≡ text_of names (later_pieces brief s)
    → text_of names (head_pieces brief a t (pred_count ps)) ++ text_of names (preds_pieces brief ps) ++ one ++ two ++ tail ≡ text_of names (relative_pieces brief (step a t ps s))
step_text brief names a t ps s one two tail e =
    let head = text_of names (head_pieces brief a t (pred_count ps)) in
    let preds = text_of names (preds_pieces brief ps) in
    append_assoc (head ++ preds ++ one) two tail ∙
    append_assoc (head ++ preds) one (two ++ tail) ∙
    ap (λ (x : List ℕ). head ++ preds ++ x) (sym (append_assoc one two tail) ∙ e) ∙
    append_assoc head preds (text_of names (later_pieces brief s)) ∙
    ap (λ (x : List ℕ). head ++ x) (sym (text_append names (preds_pieces brief ps) (later_pieces brief s))) ∙
    sym (text_append names (head_pieces brief a t (pred_count ps)) (preds_pieces brief ps ++ later_pieces brief s))

-- The text of a predicate and of those after it.
pred_text : (brief : Bool) (names : List (List ℕ)) (e : Expr) (ps : Preds)
    → (91 ∷ []) ++ text_of names (expr_pieces brief e) ++ (93 ∷ []) ++ text_of names (preds_pieces brief ps) ≡ text_of names (preds_pieces brief (pred e ps))
pred_text brief names e ps =
    ap (λ (x : List ℕ). 91 ∷ x)
    (append_assoc (text_of names (expr_pieces brief e)) (93 ∷ []) (text_of names (preds_pieces brief ps)) ∙ sym (text_append names (expr_pieces brief e) (close_pred ∷ preds_pieces brief ps)))

-- A predicate more, in its bracket.
pub pred_turn : (brief : Bool) (names : List (List ℕ)) (depth : ℕ) (items old : List ℕ) (at pen : ℕ) (taken : Taken Preds) (out mid new last : List ℕ) (place byte owed opened byte' : ℕ) (r : Reached)
    → 0 < owed → Rest (take_preds (take_within depth)) (preds_pieces brief) names items at pen taken old out place byte owed → Puts (91 ∷ []) byte out mid opened
    → Prints names items (place + operators (drop place items)) opened sign_room (take_expr (take_within (depth - 1)) (drop place items)) (expr_pieces brief) mid new r → Puts (93 ∷ []) r.byte new last byte'
    → Rest (take_preds (take_within depth)) (preds_pieces brief) names items at pen taken old last r.item byte' (owed - 1)
pred_turn brief names depth items old at pen taken out mid new last place byte owed opened byte' r z i p w q =
    let m = pred_more depth items place owed (i.rest, i.left) w.what r.item z i.takes w.reads in
    rest_more (take_preds (take_within depth)) (preds_pieces brief) names items at pen taken old out last ((91 ∷ []) ++ text_of names (expr_pieces brief w.what) ++ (93 ∷ [])) place byte owed r.item byte' (owed - 1)
    m.0 i m.1 (pred_text brief names w.what m.0 ∙ ap (λ x. text_of names (preds_pieces brief x)) (sym m.2)) (puts_both (puts_both p w.puts) q) (omega (arith, w.onward)) w.inside
    (omega (arith, w.low, p.moved, q.moved))

-- A step more, and before the next one its `/`, or `//` for it.
pub step-turn : (brief : Bool) (names : List (List ℕ)) (depth : ℕ) (items old : List ℕ) (at pen : ℕ) (taken : Taken Steps) (out mid new parts last : List ℕ) (place byte owed headed parted skip byte' : ℕ) (h : Head) (r : Reached)
    → 0 < owed → Rest (take_steps (take_within depth)) (relative_pieces brief) names items at pen taken old out place byte owed → step_at (get_or items place 0) ≡ some h
    → Puts (text_of names (head_pieces brief h.axis h.test h.count)) byte out mid headed → headed ≤ byte + head_room
    → Prints names items (place + 1) headed 0 (take_preds (take_within depth) h.count (drop (place + 1) items)) (preds_pieces brief) mid new r
    → Puts (between (ascii "/") (owed - 1)) r.byte new parts parted → skip ≡ passed brief items r.item (owed - 1) → Puts (between (ascii "/") skip) parted parts last byte'
    → Rest (take_steps (take_within depth)) (relative_pieces brief) names items at pen taken old last (r.item + skip) byte' (owed - 1 - skip)
step-turn brief names depth items old at pen taken out mid new parts last place byte owed headed parted skip byte' h r z i e p b v q k q' =
    let m = step_more depth items place owed (i.rest, i.left) h v.what r.item z i.takes e v.reads in
    let one = between (ascii "/") (owed - 1) in
    let two = between (ascii "/") skip in
    let s = subst (Skips depth items r.item brief names (owed - 1) m.0 i.left) (sym k) (skips depth items r.item brief names (owed - 1) m.0 i.left v.inside m.1) in
    let few = (from_preds depth (take_within depth) (from_within depth) h.count (drop (place + 1) items) (v.what, drop r.item items) v.reads).count in
    let head : Puts (text_of names (head_pieces brief h.axis h.test (pred_count v.what))) byte out mid headed = rw few p in
    rest_more (take_steps (take_within depth)) (relative_pieces brief) names items at pen taken old out last
    (text_of names (head_pieces brief h.axis h.test (pred_count v.what)) ++ text_of names (preds_pieces brief v.what) ++ one ++ two) place byte owed (r.item + skip) byte' (owed - 1 - skip)
    s.rest i s.takes
    (step_text brief names h.axis h.test v.what m.0 one two (text_of names (relative_pieces brief s.rest)) s.text ∙ ap (λ x. text_of names (relative_pieces brief x)) (sym m.2))
    (puts_both (puts_both (puts_both head v.puts) q) q') (omega (arith, v.onward)) s.inside
    (omega (arith, v.low, q.moved, q'.moved, between_brief (ascii "/") (owed - 1), between_brief (ascii "/") skip))

-- Of the steps that are left after one, no more are skipped than there are.
pub skip_few : (brief : Bool) (depth : ℕ) (items : List ℕ) (place owed next skip : ℕ) (rest : Steps) (left : List ℕ) (h : Head) (ps : Preds)
    → 0 < owed → take_steps (take_within depth) owed (drop place items) ≡ some (rest, left) → step_at (get_or items place 0) ≡ some h
    → take_preds (take_within depth) h.count (drop (place + 1) items) ≡ some (ps, drop next items) → next ≤ length items → skip ≡ passed brief items next (owed - 1)
    → (skip ≤ owed - 1) × (next + skip ≤ length items) × (skip ≤ 1)
skip_few brief depth items place owed next skip rest left h ps z t e v l k =
    let m = step_more depth items place owed (rest, left) h ps next z t e v in
    let s = skips depth items next brief [] (owed - 1) m.0 left l m.1 in
    (omega (arith, k, s.few), omega (arith, k, s.inside), omega (arith, k, s.alone))

-- The same number of predicates, told in another way.
pub preds_counted : {names : List (List ℕ)} {items : List ℕ} {at pen spare : ℕ} {pieces_of : Preds → List Piece} {old new : List ℕ} {r : Reached} {m : ℕ} (depth : ℕ) (ws : List ℕ) (n : ℕ) → m ≡ n
    → Prints names items at pen spare (take_preds (take_within depth) m ws) pieces_of old new r → Prints names items at pen spare (take_preds (take_within depth) n ws) pieces_of old new r
preds_counted {names} {items} {at} {pen} {spare} {pieces_of} {old} {new} {r} depth ws n e v = subst (λ (k : ℕ). Prints names items at pen spare (take_preds (take_within depth) k ws) pieces_of old new r) e v

pub head_counted : {pen : ℕ} {old new : List ℕ} {next m : ℕ} (names : List (List ℕ)) (brief : Bool) (a : Axis) (t : Test) (n : ℕ) → m ≡ n
    → Puts (text_of names (head_pieces brief a t m)) pen old new next → Puts (text_of names (head_pieces brief a t n)) pen old new next
head_counted {pen} {old} {new} {next} names brief a t n e p = subst (λ (k : ℕ). Puts (text_of names (head_pieces brief a t k)) pen old new next) e p

-- A test that the list has a name for.
pub known_test : (count : ℕ) (t : Test) → good_test t ≡ true → unknown_test count t ≡ false → Known count (test_number t)
known_test count any_node g u = (omega arith, λ l m. absurd (omega arith))
known_test count text_node g u = (omega arith, λ l m. absurd (omega arith))
known_test count (named v) g u =
    let few : v < names_limit = ltb-true v names_limit g in
    let less : v < count = leb-false count v u in
    (omega arith, λ l m. omega arith)
known_test count any_element g u = (omega arith, λ l m. absurd (omega arith))
