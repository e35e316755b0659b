-- What reading one item more comes to: laws that the loops and the matches over unpacked items cite. Assumes nothing.
use Prim.Native.Nat.{ℕ}
use native.Mathlib.Omega.{arith}
use mathlib.Core.Path.{◌≡◌, refl, sym, ◌∙◌, ap}
use mathlib.Core.List.{[], ◌∷◌}
use Rattle.paper.specs.Query.{self, any_node}
use Rattle.paper.specs.Items.{Head}
use Rattle.paper.proofs.Tests.{some_inj, none-some}
use Rattle.paper.proofs.Fields.{step_found}
use Rattle.item.specs.Unpacked.{unpacked}
use Rattle.item.specs.declared.Step.{Step}
use Rattle.item.specs.declared.Item.{Item}
use Rattle.item.specs.declared.Item.TheVariants.{Step as StepItem}
use Rattle.item.proofs.Saying.{said, pack-step, not_step}
use Rattle.item.specs.contracts.Item.{the_type}
use denote.Enum.Declared.{tag_of}
use types.Run.{OneOf}
use Rattle.reverse.specs.Reverses.{StepSaid}

-- What a step item says.
pub said_step : (w : ℕ) (i : Item) (s : Step) → i ≡ unpacked w → i ≡ StepItem s → StepSaid w s
said_step w i s e f =
    let h = said w (StepItem s) (sym f ∙ e) in
    let fields = step_found w h.0 h.1 in
    record {
      axis = h.0.axis;
      test = h.0.test;
      axis_is = ap (λ (x : Step). x.axis) h.2;
      test_is = ap (λ (x : Step). x.test) h.2;
      fine = fields.1;
      small = (pack-step w s h).1;
      told =
          λ g k.
          let same : h.0 ≡ g = some_inj (sym h.1 ∙ k) in
          (ap (λ (x : Head). x.axis) same, ap (λ (x : Head). x.test) same, ap (λ (x : Step). x.count) h.2 ∙ ap (λ (x : Head). x.count) same);
    }

pub said_none : (w : ℕ) (i : Item) → i ≡ unpacked w → OneOf (0 ∷ 2 ∷ 3 ∷ 4 ∷ 5 ∷ []) (tag_of the_type i) → StepSaid w (record { axis = 0; test = 0; count = 0 })
said_none w i e k =
    record {
      axis = self;
      test = any_node;
      axis_is = refl;
      test_is = refl;
      fine = refl;
      small = omega arith;
      told = λ g h. none-some (sym (not_step w i (said w i e) k) ∙ h);
    }
