-- What stands before the steps that are left: `/`, or `//` for the first of them, and then those behind it are left.
-- The step is taken apart once into its head, its predicates and the rest; what the item says decides, and it is what the definition asks of the step. Assumes nothing.
use Prim.Native.Nat.{ℕ, zero, suc, ◌+◌, ◌-◌, ◌≤◌, ◌<◌}
use native.Mathlib.Omega.{arith}
use native.Mathlib.Numerals.{add-one}
use mathlib.Core.Path.{◌≡◌, refl, sym, ◌∙◌, ap}
use mathlib.Core.Bool.{Bool, true, false, cond, false≢true}
use mathlib.Core.Logic.{⊎_elim}
use mathlib.Core.List.{List, ◌∷◌, ◌++◌}
use mathlib.Core.Option.{Option, none, some}
use lib.ListN.{length, get_or, drop, drop_of_length-le}
use lib.Seq.{drop-cons}
use borrow.Author.Tests.{lt-ltb}
use Rattle.paper.specs.Tools.{ascii}
use Rattle.paper.specs.Query.{Axis, Test, Steps, stop, step, Preds, bare}
use Rattle.paper.specs.Items.{Head, step_at, take_preds, take_steps, take_within, step_count, pred_count}
use Rattle.paper.specs.Printing.{deepened, relative_pieces, later_pieces, path_pieces, text_of}
use Rattle.paper.proofs.Tests.{found_some, some_inj, none-some}
use Rattle.paper.proofs.Encoding.{from_steps, from_preds, from_within}
use Rattle.pen.specs.Putting.{between}
use Rattle.slashes.specs.Deep.{deep_head, passed}
use Rattle.slashes.proofs.Deepening.{within, deep_asked}

module _ (depth : ℕ) (items : List ℕ) (place : ℕ) where
  pub step_there : (owed : ℕ) (t : Steps × List ℕ) → 0 < owed → take_steps (take_within depth) owed (drop place items) ≡ some t → place < length items
  step_there zero t z h = absurd (omega arith)
  step_there (suc n) t z h = ⊎_elim (λ l. l) (λ l. none-some (sym (ap (take_steps (take_within depth) (suc n)) (drop_of_length-le items l)) ∙ h)) (within place (length items))

  pub cons_there : place < length items → drop place items ≡ get_or items place 0 ∷ drop (place + 1) items
  cons_there l = drop-cons items place 0 l ∙ ap (λ (k : ℕ). get_or items place 0 ∷ drop k items) (sym (add-one place))

  -- The first of the steps that are left.
  record First (m : ℕ) (s : Steps) (left : List ℕ) : Type 0 where
    head : Head
    preds : Preds
    rest : Steps
    behind : List ℕ
    stands : step_at (get_or items place 0) ≡ some head
    pred-count : pred_count preds ≡ head.count
    step-count : step_count rest ≡ m
    is : s ≡ step head.axis head.test preds rest
    takes_preds : take_preds (take_within depth) head.count (drop (place + 1) items) ≡ some (preds, behind)
    takes_rest : take_steps (take_within depth) m behind ≡ some (rest, left)
    inside : place < length items

  first : (m : ℕ) (s : Steps) (left : List ℕ) → take_steps (take_within depth) (suc m) (drop place items) ≡ some (s, left) → First m s left
  first m s left h =
      let there = step_there (suc m) (s, left) (omega arith) h in
      found_some (step_at (get_or items place 0)) _ (s, left) (rw (cons_there there) at h)
      (λ a p q.
      found_some (take_preds (take_within depth) a.count (drop (place + 1) items)) _ (s, left) q
      (λ b u v.
      found_some (take_steps (take_within depth) m b.1) (λ r. some (step a.axis a.test b.0 r.0, r.1)) (s, left) v
      (λ r x y.
      let e : ◌≡◌ {A = Steps × List ℕ} (step a.axis a.test b.0 r.0, r.1) (s, left) = some_inj y in
      record {
        head = a;
        preds = b.0;
        rest = r.0;
        behind = b.1;
        stands = p;
        pred-count = (from_preds depth (take_within depth) (from_within depth) a.count (drop (place + 1) items) b u).count;
        step-count = (from_steps depth (take_within depth) (from_within depth) m b.1 r x).count;
        is = sym (ap (λ z. z.0) e);
        takes_preds = u;
        takes_rest = x ∙ ap (λ z. some (r.0, z.1)) e;
        inside = there;
      })))

  module _ (brief : Bool) (names : List (List ℕ)) where
    -- With `/` or `//` put before them, so many steps are left: those behind the one that `//` stands for.
    pub record Skips (n : ℕ) (s : Steps) (left : List ℕ) (k : ℕ) : Type 0 where
      pub rest : Steps
      pub takes : take_steps (take_within depth) (n - k) (drop (place + k) items) ≡ some (rest, left)
      pub text : between (ascii "/") n ++ between (ascii "/") k ++ text_of names (relative_pieces brief rest) ≡ text_of names (later_pieces brief s)
      pub few : k ≤ n
      pub inside : place + k ≤ length items
      pub alone : k ≤ 1

    -- What the item says is what the definition asks of the step.
    agrees : (m : ℕ) (s : Steps) (left : List ℕ) (f : First m s left)
        → deepened brief f.head.axis f.head.test (pred_count f.preds) (step_count f.rest) ≡ deep_head brief (suc m) (step_at (get_or items place 0))
    agrees m s left f = let k : suc m - 1 ≡ m = omega arith in rw (f.stands, f.pred-count, f.step-count, k)

    -- A step with its `/`.
    told : (n : ℕ) (s : Steps) (left : List ℕ) → take_steps (take_within depth) n (drop place items) ≡ some (s, left) → deep_head brief n (step_at (get_or items place 0)) ≡ false
        → between (ascii "/") n ++ between (ascii "/") 0 ++ text_of names (relative_pieces brief s) ≡ text_of names (later_pieces brief s)
    told zero s left h e =
        let f : ◌≡◌ {A = Steps × List ℕ} (stop, drop place items) (s, left) = some_inj h in
        ap (λ z. between (ascii "/") 0 ++ between (ascii "/") 0 ++ text_of names (relative_pieces brief z.0)) (sym f) ∙ ap (λ z. text_of names (later_pieces brief z.0)) f
    told (suc m) s left h e =
        let f = first m s left h in
        rw (f.is, agrees m s left f ∙ e, lt-ltb 0 (suc m) (omega arith))

    -- A step that `//` stands for.
    deep_text : (a : Axis) (t : Test) (ps : Preds) (rest : Steps) (m : ℕ) → deepened brief a t (pred_count ps) (step_count rest) ≡ true
        → between (ascii "/") (suc m) ++ between (ascii "/") 1 ++ text_of names (relative_pieces brief rest) ≡ text_of names (later_pieces brief (step a t ps rest))
    deep_text a t ps rest m h = rw (h, lt-ltb 0 (suc m) (omega arith))

    skipped : (m : ℕ) (s : Steps) (left : List ℕ) → take_steps (take_within depth) (suc m) (drop place items) ≡ some (s, left) → deep_head brief (suc m) (step_at (get_or items place 0)) ≡ true
        → Skips (suc m) s left 1
    skipped m s left h e =
        let f = first m s left h in
        let deep = agrees m s left f ∙ e in
        let asked = deep_asked brief (suc m) f.head (rw f.stands at e) in
        let same : ◌≡◌ {A = Preds × List ℕ} (bare, drop (place + 1) items) (f.preds, f.behind) = some_inj (rw asked.no_preds at f.takes_preds) in
        let k : suc m - 1 ≡ m = omega arith in
        record {
          rest = f.rest;
          takes = rw k (ap (λ z. take_steps (take_within depth) m z.1) same ∙ f.takes_rest);
          text = deep_text f.head.axis f.head.test f.preds f.rest m deep ∙ ap (λ x. text_of names (later_pieces brief x)) (sym f.is);
          few = omega arith;
          inside = omega (arith, f.inside);
          alone = omega arith;
        }

    -- NOTHING OR ONE STEP IS SKIPPED.
    pub skips : (n : ℕ) (s : Steps) (left : List ℕ) → place ≤ length items → take_steps (take_within depth) n (drop place items) ≡ some (s, left) → Skips n s left (passed brief items place n)
    skips n s left l h = go n h (deep_head brief n (step_at (get_or items place 0))) refl
      where
        none_of : (b : Bool) → deep_head brief 0 (step_at (get_or items place 0)) ≡ true → ⊥
        none_of b e = no_head (step_at (get_or items place 0)) e
          where
            no_head : (o : Option Head) → deep_head brief 0 o ≡ true → ⊥
            no_head none x = false≢true x
            no_head (some a) x = absurd (omega (arith, (deep_asked brief 0 a x).two))

        go : (i : ℕ) → take_steps (take_within depth) i (drop place items) ≡ some (s, left) → (b : Bool) → deep_head brief i (step_at (get_or items place 0)) ≡ b → Skips i s left (cond b 1 0)
        go zero g true e = absurd (none_of true e)
        go (suc m) g true e = skipped m s left g e
        go i g false e =
            let a : i - 0 ≡ i = omega arith in
            let b : place + 0 ≡ place = omega arith in
            record {
              rest = s;
              takes = rw (a, b) g;
              text = told i s left g e;
              few = omega arith;
              inside = omega arith;
              alone = omega arith;
            }

    -- A top-level path begins with its `/`, whether it has steps or not.
    pub path_text : (n k : ℕ) (s : Steps) (left : List ℕ) → take_steps (take_within depth) n (drop place items) ≡ some (s, left) → (i : Skips n s left k)
        → 47 ∷ (between (ascii "/") k ++ text_of names (relative_pieces brief i.rest)) ≡ text_of names (path_pieces brief s)
    path_text n k s left h i = go s n (from_steps depth (take_within depth) (from_within depth) n (drop place items) (s, left) h).count i.text
      where
        tail : List ℕ
        tail = text_of names (relative_pieces brief i.rest)

        go : (u : Steps) (m : ℕ) → step_count u ≡ m → between (ascii "/") m ++ between (ascii "/") k ++ tail ≡ text_of names (later_pieces brief u)
            → 47 ∷ (between (ascii "/") k ++ tail) ≡ text_of names (path_pieces brief u)
        go stop zero e t = ap (λ (x : List ℕ). 47 ∷ x) t
        go stop (suc m) e t = absurd (omega arith)
        go (step a v ps u) zero e t = absurd (omega arith)
        go (step a v ps u) (suc m) e t = rw (lt-ltb 0 (suc m) (omega arith)) at t
