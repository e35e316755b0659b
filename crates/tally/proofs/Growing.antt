-- How the numbers of a column grow: by nothing, by one at a place, by one thing after another, and by the elements of one node more.
-- Each number is looked at by itself, and a remainder may be taken early or late. Assumes nothing.
use Rattle.std.proofs.Common.{◌≡◌, ℕ, suc, ◌+◌, ◌-◌, ◌%◌, ◌<◌, ◌≤◌, Bool, true, false, cond, not, ◌&&◌, eqb, List, length, get_or, set, sym, refl, ap, ◌∙◌, mod-eq_of_lt, add-one, arith, length-set, get_or-set_other, get_or-set_same, eq-eqb, ne_eqb}
use native.Mathlib.Nat.{mod-add-mod}
use native.Mathlib.Decide.{ℕ_discrete}
use mathlib.Core.Logic.{by_cases}
use Rattle.paper.specs.Document.{element_kind, marked}
use Rattle.paper.specs.Sheet.{count_below}
use Rattle.tally.specs.Tallies.{sums, Grows, named, named_kept, named_hidden, NodesTold}

-- The numbers of a column are below a bound.
abbrev pub Small : ℕ → List ℕ → Type 0
Small bound old = (v : ℕ) → v < length old → get_or old v 0 < bound

module _ (bound : ℕ) where
  -- By f that is 0 everywhere nothing grows.
  pub grows_none : (old : List ℕ) (f : ℕ → ℕ) → Small bound old → ((v : ℕ) → v < length old → f v ≡ 0) → Grows bound old old f
  grows_none old f small zeros =
      record {
        long = refl;
        each = λ v l.
            let same : get_or old v 0 + f v ≡ get_or old v 0 = omega (arith, zeros v l) in
            sym (ap (λ n. n % bound) same ∙ mod-eq_of_lt (small v l));
      }

  -- One more at a place of the column.
  pub grows_at : (old : List ℕ) (at new : ℕ) → Small bound old → at < length old → new ≡ (get_or old at 0 + 1) % bound →
      Grows bound old (set old at new) (λ u. cond (eqb at u) 1 0)
  grows_at old at new small inside told =
      record {
        long = length-set old at new;
        each = λ v l.
            by_cases (ℕ_discrete v at)
            (λ e. rw (e, eq-eqb at at refl) (get_or-set_same old at new 0 inside ∙ told))
            (λ d.
            let none : eqb at v ≡ false = ne_eqb at v (λ e. d (sym e)) in
            let same : get_or old v 0 + 0 ≡ get_or old v 0 = omega arith in
            get_or-set_other old at v new 0 d ∙ rw (none, same) (sym (mod-eq_of_lt (small v l))));
      }

  -- A place past the column is not counted.
  pub grows_past : (old : List ℕ) (at : ℕ) → Small bound old → length old ≤ at → Grows bound old old (λ u. cond (eqb at u) 1 0)
  grows_past old at small past =
      grows_none old (λ u. cond (eqb at u) 1 0) small (λ v l. ap (λ b. cond b 1 0) (ne_eqb at v (λ e. omega arith)))

  -- One thing after another.
  pub grows_then : (old mid new : List ℕ) (f g h : ℕ → ℕ) → Grows bound old mid f → Grows bound mid new g →
      ((v : ℕ) → v < length old → f v + g v ≡ h v) → Grows bound old new h
  grows_then old mid new f g h a b both =
      record {
        long = b.long ∙ a.long;
        each = λ v l.
            let l' : v < length mid = omega (arith, a.long) in
            let sum : get_or old v 0 + f v + g v ≡ get_or old v 0 + h v = omega (arith, both v l) in
            b.each v l' ∙ ap (λ n. (n + g v) % bound) (a.each v l) ∙ mod-add-mod (get_or old v 0 + f v) bound (g v) ∙ ap (λ n. n % bound) sum;
      }

  -- By what is the same.
  pub grows_as : (old new : List ℕ) (f g : ℕ → ℕ) → Grows bound old new f → ((v : ℕ) → v < length old → f v ≡ g v) → Grows bound old new g
  grows_as old new f g a same =
      record { long = a.long; each = λ v l. a.each v l ∙ ap (λ n. (get_or old v 0 + n) % bound) (same v l) }

-- One number more is counted or not.
pub count_more : (n : ℕ) (test : ℕ → Bool) → count_below n test + cond (test n) 1 0 ≡ count_below (n + 1) test
count_more n test = rw (add-one n) (go (test n))
  where
    go : (b : Bool) → count_below n test + cond b 1 0 ≡ cond b (suc (count_below n test)) (count_below n test)
    go true = omega arith
    go false = omega arith

-- The name of an element by its kind.
pub name_of : (kind v : ℕ) → element_kind ≤ kind → eqb (kind - element_kind) v ≡ eqb kind (element_kind + v)
name_of kind v l =
    by_cases (ℕ_discrete kind (element_kind + v))
    (λ e. eq-eqb (kind - element_kind) v (omega arith) ∙ sym (eq-eqb kind (element_kind + v) e))
    (λ d. ne_eqb (kind - element_kind) v (λ e. d (omega arith)) ∙ sym (ne_eqb kind (element_kind + v) d))

-- One more for an element that is counted.
pub counted_one : (kind v : ℕ) (counts : Bool) → element_kind ≤ kind → counts ≡ true →
    ◌≡◌ {A = ℕ} (cond (eqb (kind - element_kind) v) 1 0) (cond (eqb kind (element_kind + v) && counts) 1 0)
counted_one kind v counts l e = rw (e, name_of kind v l) (go (eqb kind (element_kind + v)))
  where
    go : (b : Bool) → ◌≡◌ {A = ℕ} (cond b 1 0) (cond (b && true) 1 0)
    go true = refl
    go false = refl

-- None for a node that is no element, or is not counted.
pub no_element : (kind v : ℕ) (counts : Bool) → kind < element_kind → ◌≡◌ {A = ℕ} (cond (eqb kind (element_kind + v) && counts) 1 0) 0
no_element kind v counts l = rw (ne_eqb kind (element_kind + v) (λ e. omega arith))

pub not_counted : (kind v : ℕ) (counts : Bool) → counts ≡ false → ◌≡◌ {A = ℕ} (cond (eqb kind (element_kind + v) && counts) 1 0) 0
not_counted kind v counts e = rw e (go (eqb kind (element_kind + v)))
  where
    go : (b : Bool) → ◌≡◌ {A = ℕ} (cond (b && false) 1 0) 0
    go true = refl
    go false = refl

and_true : (b : Bool) → (b && true) ≡ b
and_true true = refl
and_true false = refl

-- Before the first node nothing has grown.
pub none_told : (kinds marks all kept hidden : List ℕ) → Small sums all → Small sums kept → Small sums hidden →
    NodesTold 0 kinds marks all all kept kept hidden hidden
none_told kinds marks all kept hidden a k h =
    record {
      all_told = grows_none sums all (named kinds 0) a (λ v l. refl);
      kept_told = grows_none sums kept (named_kept kinds marks 0) k (λ v l. refl);
      hidden_told = grows_none sums hidden (named_hidden kinds marks 0) h (λ v l. refl);
    }

module _ (kinds marks all all' kept kept' hidden hidden' : List ℕ) where
  -- One node more.
  pub one_told : (n : ℕ) (all'' kept'' hidden'' : List ℕ) → NodesTold n kinds marks all all' kept kept' hidden hidden' →
      Grows sums all' all'' (λ v. cond (eqb (get_or kinds n 0) (element_kind + v) && true) 1 0) →
      Grows sums kept' kept'' (λ v. cond (eqb (get_or kinds n 0) (element_kind + v) && marked marks n) 1 0) →
      Grows sums hidden' hidden'' (λ v. cond (eqb (get_or kinds n 0) (element_kind + v) && not (marked marks n)) 1 0) →
      NodesTold (n + 1) kinds marks all all'' kept kept'' hidden hidden''
  one_told n all'' kept'' hidden'' told a k h =
      record {
        all_told =
            grows_then sums all all' all'' (named kinds n) _ (named kinds (n + 1)) told.all_told a
            (λ v l.
            ap (λ b. named kinds n v + cond b 1 0) (and_true (eqb (get_or kinds n 0) (element_kind + v)))
            ∙ count_more n (λ i. eqb (get_or kinds i 0) (element_kind + v)));
        kept_told =
            grows_then sums kept kept' kept'' (named_kept kinds marks n) _ (named_kept kinds marks (n + 1)) told.kept_told k
            (λ v l. count_more n (λ i. eqb (get_or kinds i 0) (element_kind + v) && marked marks i));
        hidden_told =
            grows_then sums hidden hidden' hidden'' (named_hidden kinds marks n) _ (named_hidden kinds marks (n + 1)) told.hidden_told h
            (λ v l. count_more n (λ i. eqb (get_or kinds i 0) (element_kind + v) && not (marked marks i)));
      }
