-- The steps of a path, found one by one from its start: what is behind the first k, and where more of them end. Assumes nothing.
use Prim.Native.Nat.{ℕ, zero, suc, ◌+◌, ◌-◌, ◌≤◌}
use native.Mathlib.Omega.{arith}
use native.Mathlib.Nat.{sub-zero}
use mathlib.Core.Path.{◌≡◌, refl, sym, ◌∙◌, ap, ap₂}
use mathlib.Core.List.{List, [], ◌∷◌}
use mathlib.Core.Option.{some}
use lib.ListN.{drop}
use Rattle.paper.specs.Query.{Axis, Test, Expr, Steps, stop, step, Preds}
use Rattle.paper.specs.Items.{step_at, step_count, Taken, take_preds, take_steps, take_within}
use Rattle.paper.proofs.Tests.{found_some, none-some, some_inj}
use Rattle.shape.specs.Ending.{Readable, Ends}

-- The steps after the first k.
abbrev pub later : ℕ → Steps → Steps
later zero s = s
later (suc k) stop = stop
later (suc k) (step a x ps rest) = later k rest

pub later_all : (s : Steps) → later (step_count s) s ≡ stop
later_all stop = refl
later_all (step a x ps rest) = later_all rest

pub later_next : (k : ℕ) (s : Steps) (a : Axis) (x : Test) (ps : Preds) (rest : Steps) → later k s ≡ step a x ps rest → later (suc k) s ≡ rest
later_next zero stop a x ps rest e = absurd (omega (arith, ap step_count e))
later_next zero (step b y qs more) a x ps rest e = cc
later_next (suc k) stop a x ps rest e = absurd (omega (arith, ap step_count e))
later_next (suc k) (step b y qs more) a x ps rest e = later_next k more a x ps rest e

-- What is read of so many steps is read of the first k, and then of the others.
pub split {ℓ} : {C : Type ℓ} (within : List ℕ → Taken Expr) (k count : ℕ) (ws : List ℕ) (s : Steps) (rest : List ℕ) → k ≤ count → take_steps within count ws ≡ some (s, rest)
    → ((p : Steps) (mid : List ℕ) → take_steps within k ws ≡ some (p, mid) → take_steps within (count - k) mid ≡ some (later k s, rest) → C) → C
split within zero count ws s rest l h next = next stop ws refl (ap (λ (n : ℕ). take_steps within n ws) (sub-zero count) ∙ h)
split within (suc k) zero ws s rest l h next = absurd (omega arith)
split within (suc k) (suc count) [] s rest l h next = none-some h
split within (suc k) (suc count) (w ∷ ws) s rest l h next =
    found_some (step_at w) _ (s, rest) h
    (λ t p q.
    found_some (take_preds within t.count ws) _ (s, rest) q
    (λ a u v.
    found_some (take_steps within count a.1) _ (s, rest) v
    (λ b x y.
    split within k count a.1 b.0 b.1 (omega arith) x
    (λ first mid f g.
    next (step t.axis t.test a.0 first) mid (rw (p, u, f))
    (ap (λ (n : ℕ). take_steps within n mid) (let e : suc count - suc k ≡ count - k = omega arith in e) ∙ g ∙
    ap₂ (λ (z : Steps) (r : List ℕ). some (z, r)) (ap (λ (z : Steps × List ℕ). later (suc k) z.0) (some_inj y)) (ap (λ (z : Steps × List ℕ). z.1) (some_inj y)))))))

-- Where so many steps can be read, so can fewer.
pub fewer_readable : (items : List ℕ) (at depth k to : ℕ) → k ≤ to → Readable (take_steps (take_within depth) to (drop at items)) → Readable (take_steps (take_within depth) k (drop at items))
fewer_readable items at depth k to l r = split (take_within depth) k to (drop at items) r.0.0 r.0.1 l r.1 (λ p mid u v. ((p, mid), u))

-- From where k steps end, so many more can be read, and where those end, all of them end.
module _ (items : List ℕ) (at depth k more to place : ℕ) (e : Ends items at (take_steps (take_within depth) k (drop at items)) place) (r : Readable (take_steps (take_within depth) to (drop at items))) (l : k + more ≡ to) where
  rest_read : take_steps (take_within depth) more (drop place items) ≡ some (later k r.0.0, r.0.1)
  rest_read =
      split (take_within depth) k to (drop at items) r.0.0 r.0.1 (omega arith) r.1
      (λ p mid u v.
      let there : drop place items ≡ mid = ap (λ (z : Steps × List ℕ). z.1) (some_inj (sym e.reads ∙ u)) in
      let left : more ≡ to - k = omega arith in
      ap₂ (take_steps (take_within depth)) left there ∙ v)

  pub further_readable : Readable (take_steps (take_within depth) more (drop place items))
  further_readable = ((later k r.0.0, r.0.1), rest_read)

  pub further : (next : ℕ) → Ends items place (take_steps (take_within depth) more (drop place items)) next → Ends items at (take_steps (take_within depth) to (drop at items)) next
  further next f =
      record {
        what = r.0.0;
        reads = r.1 ∙ ap (λ (z : Steps × List ℕ). some (r.0.0, z.1)) (some_inj (sym rest_read ∙ f.reads));
        onward = omega (arith, e.onward, f.onward);
        inside = f.inside;
      }
