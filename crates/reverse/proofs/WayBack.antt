-- Writing the way back over the steps of a path, from its end to its start.
-- What stands written from `back` on are the predicates of the step passed last and the way back from it; so many steps are left to pass. Assumes nothing.
use Prim.Native.Nat.{ℕ, suc, ◌+◌, ◌-◌, ◌≤◌, ◌<◌}
use native.Mathlib.Omega.{arith}
use mathlib.Core.Path.{◌≡◌, refl, sym, ◌∙◌, ap, ap₂, subst}
use mathlib.Core.Bool.{true}
use mathlib.Core.List.{List, [], ◌∷◌, ◌++◌, append_assoc}
use lib.ListN.{length, get_or, take, drop, set, length-append, length-drop, length-set}
use lib.Seq.{length-take-le, take-append_seam, drop-append_seam, drop-drop, take-take, take-append-le}
use Rattle.paper.specs.Query.{Axis, self, Test, any_node, Steps, stop, step, Preds, bare, pred}
use Rattle.paper.specs.Items.{axis_number, test_number, pack_path, pack_step, step_at, step_count, pred_count, encode_expr, encode_steps, encode_preds, good_steps, count_bound}
use Rattle.paper.specs.Composition.{turned, at_root, way_back, reversed}
use Rattle.paper.proofs.Fields.{test_small, step-at}
use Rattle.item.specs.Unpacked.{packed}
use Rattle.item.specs.declared.Step.{Step}
use Rattle.item.specs.Placed.{placed}
use Rattle.owed.specs.Owing.{eaten}
use Rattle.reverse.specs.Reverses.{StepSaid}
use Rattle.item.proofs.Placing.{placed_one, placed_before, placed_after, drop_placed, same_size}
use Rattle.owed.proofs.Owing.{good_step, preds_eaten, none_eaten}
use Rattle.owed.proofs.Passing.{at_place}

-- The way back has the items of the way, and those of where it ends; and as many steps.
way_length : (x : Test) (ps : Preds) (back s : Steps)
    → length (encode_steps (way_back x ps back s)) ≡ 1 + (length (encode_preds ps) + length (encode_steps back)) + length (encode_steps s)
way_length x ps back stop = omega (arith, length-append (encode_preds ps) (encode_steps back))
way_length x ps back (step a y qs rest) =
    omega (
      arith,
      way_length y qs (step (turned a) x ps back) rest,
      length-append (encode_preds ps) (encode_steps back),
      length-append (encode_preds qs) (encode_steps rest),
    )

way_count : (x : Test) (ps : Preds) (back s : Steps) → step_count (way_back x ps back s) ≡ suc (step_count back) + step_count s
way_count x ps back stop = omega arith
way_count x ps back (step a y qs rest) = omega (arith, way_count y qs (step (turned a) x ps back) rest)

abbrev pub whole_way : Steps → Steps
whole_way s = way_back any_node (pred at_root bare) stop s

pub whole_length : (s : Steps) → length (encode_steps (whole_way s)) ≡ length (encode_steps s) + 4
whole_length s = omega (arith, way_length any_node (pred at_root bare) stop s)

pub reversed_length : (s : Steps) → length (encode_expr (reversed s)) ≡ length (encode_steps s) + 5
unfolding reversed
reversed_length s = omega (arith, whole_length s)

-- What has been written, where the steps are those of a path.
pub record Turned (s : Steps) (steps old out : List ℕ) (end back place test count : ℕ) : Type 0 where
  pub known : Test
  pub preds : Preds
  pub after : Steps
  pub rest : Steps
  pub left : drop place steps ≡ encode_steps rest
  pub fine : good_steps rest ≡ true
  pub same : way_back known preds after rest ≡ whole_way s
  pub test_is : test ≡ test_number known
  pub count_is : count ≡ pred_count preds
  pub wrote : out ≡ take back old ++ ((encode_preds preds ++ encode_steps after) ++ drop end old)

pub record TurnedTo (steps old out : List ℕ) (at back place test count : ℕ) : Type 0 where
  pub inside : place ≤ length steps
  pub room : back + place ≡ at + 1 + length steps
  pub fits : at + length steps + 4 ≤ length old
  pub size : length out ≡ length old
  pub test_small : test < 512
  pub count_small : count < count_bound
  pub turns : (s : Steps) → steps ≡ encode_steps s → good_steps s ≡ true → Turned s steps old out (at + length steps + 4) back place test count

-- What is placed, seen from the list that it makes.
seen : (new e o : List ℕ) (at end : ℕ) → o ≡ placed new at e → at ≤ length e → end ≡ at + length new → o ≡ take at o ++ (new ++ drop end o)
seen new e o at end w l n =
    let front : take at o ≡ take at e =
    ap (take at) w ∙ take-append-le at (take at e) (new ++ drop (at + length new) e) (omega (arith, length-take-le at e l)) ∙ take-take at at e (omega arith) in
    let rear : drop end o ≡ drop end e = ap (drop end) w ∙ drop_placed new e at end l (omega arith) in
    w ∙ ap (λ (k : ℕ). take at e ++ (new ++ drop k e)) (sym n) ∙ ap₂ (λ (x y : List ℕ). x ++ (new ++ y)) (sym front) (sym rear)

pub turned_start : (steps e old : List ℕ) (at back : ℕ) → back ≡ at + 1 + length steps → at + length steps + 4 ≤ length e → old ≡ placed (encode_expr at_root) back e
    → TurnedTo steps old old at back 0 0 1
turned_start steps e old at back eb l w =
    let size : length old ≡ length e = same_size (encode_expr at_root) e old back w (omega arith) in
    record {
      inside = omega arith;
      room = omega arith;
      fits = omega arith;
      size = refl;
      test_small = omega arith;
      count_small = omega arith;
      turns =
          λ s es g.
          record {
            known = any_node;
            preds = pred at_root bare;
            after = stop;
            rest = s;
            left = es;
            fine = g;
            same = refl;
            test_is = refl;
            count_is = refl;
            wrote = seen (encode_expr at_root) e old back (at + length steps + 4) w (omega arith) (omega arith);
          };
    }

pub part_size : (items : List ℕ) (from to : ℕ) → from ≤ to → to ≤ length items → length (take (to - from) (drop from items)) ≡ to - from
part_size items from to h l = length-take-le (to - from) (drop from items) (omega (arith, length-drop from items))

-- One step more: its predicates come before the step item that leads on from it.
module _ (steps old out out' : List ℕ) (at back back' place next test count head turn : ℕ) (st : Step)
    (l : place < length steps)
    (t : TurnedTo steps old out at back place test count)
    (says : StepSaid (get_or steps place 0) st)
    (en : next ≡ place + 1 + eaten (drop (place + 1) steps) st.count)
    (ln : next ≤ length steps)
    (et : (a : Axis) → st.axis ≡ axis_number a → turn ≡ axis_number (turned a))
    (eh : head ≡ packed (record { axis = turn; test = test; count = count }))
    (eb : back' ≡ back - (next - place))
    (eo : out' ≡ placed (take (next - (place + 1)) (drop (place + 1) steps)) back' (set out (back - 1) head)) where
  step_turned : (s : Steps) (r : Turned s steps old out (at + length steps + 4) back place test count) (a : Axis) (x : Test) (ps : Preds) (rest : Steps) → r.rest ≡ step a x ps rest
      → Turned s steps old out' (at + length steps + 4) back' next st.test st.count
  step_turned s r a x ps rest er =
      let g = good_step a x ps rest (subst (λ (z : Steps). good_steps z ≡ true) er r.fine) in
      let here : get_or steps place 0 ∷ drop (place + 1) steps ≡ pack_step a x (pred_count ps) ∷ (encode_preds ps ++ encode_steps rest) =
      sym (at_place steps place l) ∙ r.left ∙ ap encode_steps er in
      let first : get_or steps place 0 ≡ pack_step a x (pred_count ps) = cc in
      let tail : drop (place + 1) steps ≡ encode_preds ps ++ encode_steps rest = cc in
      let told = says.told (record { axis = a; test = x; count = pred_count ps }) (ap step_at first ∙ step-at a x (pred_count ps) g.test g.few) in
      let counts : st.count ≡ pred_count ps = told.2 in
      let size : eaten (drop (place + 1) steps) st.count ≡ length (encode_preds ps) =
      ap₂ eaten tail counts ∙ preds_eaten ps g.preds (encode_steps rest) (pred_count ps) 0 (omega arith) ∙ omega (arith, none_eaten (encode_steps rest)) in
      let ends : next ≡ place + 1 + length (encode_preds ps) = omega arith in
      let part : take (next - (place + 1)) (drop (place + 1) steps) ≡ encode_preds ps =
      ap₂ take (let f : next - (place + 1) ≡ length (encode_preds ps) = omega arith in f) tail ∙ take-append_seam (encode_preds ps) (encode_steps rest) in
      let turned-is : turn ≡ axis_number (turned a) = et a (says.axis_is ∙ ap axis_number told.0) in
      let head-is : head ≡ pack_step (turned a) r.known (pred_count r.preds) =
      eh ∙ ap (λ (n : ℕ). packed (record { axis = n; test = test; count = count })) turned-is ∙
      ap₂ (λ (m n : ℕ). packed (record { axis = axis_number (turned a); test = m; count = n })) r.test_is r.count_is in
      let tail-items = (encode_preds r.preds ++ encode_steps r.after) ++ drop (at + length steps + 4) old in
      let room = t.room in
      let fits = t.fits in
      let one : set out (back - 1) head ≡ take (back - 1) old ++ (head ∷ tail-items) =
      placed_one out (back - 1) head (omega (arith, t.size)) ∙ ap (placed (head ∷ []) (back - 1)) r.wrote ∙
      placed_before (head ∷ []) tail-items old (back - 1) back (omega arith) (omega arith) in
      let wrote' : out' ≡ take back' old ++ (encode_preds ps ++ (head ∷ tail-items)) =
      eo ∙ ap₂ (λ (u v : List ℕ). placed u back' v) part one ∙ placed_before (encode_preds ps) (head ∷ tail-items) old back' (back - 1) (omega arith) (omega arith) in
      record {
        known = x;
        preds = ps;
        after = step (turned a) r.known r.preds r.after;
        rest = rest;
        left = ap (λ (k : ℕ). drop k steps) ends ∙ sym (drop-drop (length (encode_preds ps)) (place + 1) steps) ∙ ap (drop (length (encode_preds ps))) tail ∙ drop-append_seam (encode_preds ps) (encode_steps rest);
        fine = g.later;
        same = ap (way_back r.known r.preds r.after) (sym er) ∙ r.same;
        test_is = says.test_is ∙ ap test_number told.1;
        count_is = counts;
        wrote =
            wrote' ∙ ap (λ (h : ℕ). take back' old ++ (encode_preds ps ++ (h ∷ tail-items))) head-is ∙
            ap (λ (z : List ℕ). take back' old ++ z)
            (sym (append_assoc (encode_preds ps) (pack_step (turned a) r.known (pred_count r.preds) ∷ (encode_preds r.preds ++ encode_steps r.after)) (drop (at + length steps + 4) old)));
      }

  not_stop : (s : Steps) (r : Turned s steps old out (at + length steps + 4) back place test count) (rest : Steps) → r.rest ≡ rest
      → Turned s steps old out' (at + length steps + 4) back' next st.test st.count
  not_stop s r stop e = absurd (omega (arith, ap length (r.left ∙ ap encode_steps e), length-drop place steps))
  not_stop s r (step a x ps rest) e = step_turned s r a x ps rest e

  pub turned_more : TurnedTo steps old out' at back' next st.test st.count
  turned_more =
      let room = t.room in
      let fits = t.fits in
      record {
        inside = ln;
        room = omega arith;
        fits = t.fits;
        size =
            same_size (take (next - (place + 1)) (drop (place + 1) steps)) (set out (back - 1) head) out' back' eo
            (omega (arith, part_size steps (place + 1) next (omega arith) ln, length-set out (back - 1) head, t.size)) ∙
            length-set out (back - 1) head ∙ t.size;
        test_small = omega (arith, says.test_is, test_small says.test says.fine);
        count_small = says.small;
        turns = λ s es g. let r = t.turns s es g in not_stop s r r.rest refl;
      }

-- The step item that begins the way back, before all that.
pub turned_done : (steps e old out : List ℕ) (at back₀ back place test count head : ℕ) → length steps ≤ place → TurnedTo steps old out at back place test count
    → back₀ ≡ at + 1 + length steps → old ≡ placed (encode_expr at_root) back₀ e → at + length steps + 4 ≤ length e → head ≡ packed (record { axis = 0; test = test; count = count })
    → (s : Steps) → steps ≡ encode_steps s → good_steps s ≡ true → set out at head ≡ placed (encode_steps (whole_way s)) at e
turned_done steps e old out at back₀ back place test count head l t e₀ w fits eh s es g = go (t.turns s es g) (t.turns s es g).rest refl
  where
    go : (r : Turned s steps old out (at + length steps + 4) back place test count) (rest : Steps) → r.rest ≡ rest → set out at head ≡ placed (encode_steps (whole_way s)) at e
    go r (step a x ps rest) er = absurd (omega (arith, ap length (r.left ∙ ap encode_steps er), length-drop place steps))
    go r stop er =
        let room = t.room in
        let inside = t.inside in
        let end = at + length steps + 4 in
        let tail = encode_preds r.preds ++ encode_steps r.after in
        let size : length old ≡ length e = same_size (encode_expr at_root) e old back₀ w (omega arith) in
        let head-is : head ≡ pack_step self r.known (pred_count r.preds) =
        eh ∙ ap₂ (λ (m n : ℕ). packed (record { axis = 0; test = m; count = n })) r.test_is r.count_is in
        let whole : pack_step self r.known (pred_count r.preds) ∷ tail ≡ encode_steps (whole_way s) =
        ap encode_steps (ap (way_back r.known r.preds r.after) (sym er) ∙ r.same) in
        let front : take at old ≡ take at e =
        ap (take at) w ∙ take-append-le at (take back₀ e) (encode_expr at_root ++ drop (back₀ + 3) e) (omega (arith, length-take-le back₀ e (omega arith))) ∙ take-take at back₀ e (omega arith) in
        let rear : drop end old ≡ drop end e = ap (drop end) w ∙ drop_placed (encode_expr at_root) e back₀ end (omega arith) (omega arith) in
        let long : end ≡ at + length (encode_steps (whole_way s)) = omega (arith, whole_length s, ap length es) in
        placed_one out at head (omega (arith, t.size)) ∙ ap (placed (head ∷ []) at) r.wrote ∙
        placed_before (head ∷ []) (tail ++ drop end old) old at back (omega arith) (omega arith) ∙
        ap (λ (h : ℕ). take at old ++ ((h ∷ tail) ++ drop end old)) head-is ∙
        ap (λ (x : List ℕ). take at old ++ (x ++ drop end old)) whole ∙
        ap₂ (λ (x y : List ℕ). x ++ (encode_steps (whole_way s) ++ y)) front (rear ∙ ap (λ (k : ℕ). drop k e) long)

-- The reverse: its item, then the way back.
pub reverse_put : (steps old out : List ℕ) (at count head : ℕ) (s : Steps) → at < length old → count ≡ step_count s → head ≡ pack_path (count + 1)
    → out ≡ placed (encode_steps (whole_way s)) (at + 1) (set old at head) → out ≡ placed (encode_expr (reversed s)) at old
unfolding reversed
reverse_put steps old out at count head s l ec eh w =
    let n : count + 1 ≡ step_count (whole_way s) = omega (arith, way_count any_node (pred at_root bare) stop s) in
    w ∙ ap (placed (encode_steps (whole_way s)) (at + 1)) (ap (set old at) eh ∙ placed_one old at (pack_path (count + 1)) l) ∙
    placed_after (pack_path (count + 1) ∷ []) (encode_steps (whole_way s)) old at (at + 1) (omega arith) refl ∙
    ap (λ (k : ℕ). placed (pack_path k ∷ encode_steps (whole_way s)) at old) n
