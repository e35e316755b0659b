-- Below a marked node the root is marked, so there is a marked node before it, and the parent is over that one. A new number is no greater than the old one, so it fits.
use Rattle.std.proofs.Common.{◌+◌, ◌<◌, ◌≡◌, true, List, ℕ, ◌∙◌, get_or, length, arith, sym, ap}
use Rattle.paper.specs.Document.{over, marked}
use Rattle.paper.specs.Extraction.{rank}
use Rattle.paper.proofs.Trees.{over_root, over_marked}
use Rattle.paper.proofs.Extracting.{rank_le, rank_mono, rank_less, over_last}
use Rattle.extract.specs.Numbering.{shape_of, Ordered}
use Rattle.extract.proofs.Ordering.{shape_tree}
use Rattle.extract.proofs.new_parent.Goals as goal

-- A marked node that is not the root comes after the root, which is marked.
after_root : (parents marks : List ℕ) (i n : ℕ) → Ordered parents marks → i < length parents → marked marks i ≡ true → n ≡ rank marks i → 0 < i → 0 < n
after_root parents marks i n o l on e z =
    let tree = shape_tree parents marks o (omega arith) in
    let root = over_marked (shape_of parents) tree marks o.closed 0 i l on (over_root (shape_of parents) tree i l) in
    omega (arith, rank_less marks 0 i (omega arith) root)

pub returns-then-i-eq0 : goal.returns-then-i-eq0
returns-then-i-eq0 c =
    let parents = c.args.parent.now in
    sym (ap (rank c.args.marks.now) (ap (λ k. get_or parents k 0) c.if-i-eq0.true ∙ c.requires.ordered.tree.root (omega arith)))

pub overflow_sub-n : goal.overflow_sub-n
overflow_sub-n c = omega (arith, after_root c.args.parent.now c.args.marks.now c.args.i c.args.n c.requires.ordered c.requires.i_in_bounds.0 c.requires.i_in_bounds.1 c.requires.n_value.0 (omega arith))

pub new_number-requires : goal.new_number-requires
new_number-requires c =
    let parents = c.args.parent.now in
    let marks = c.args.marks.now in
    let i = c.args.i in
    let q = c.args.last in
    let ordered = c.requires.ordered in
    let on = c.requires.i_in_bounds in
    let last = c.requires.n_value.1 (after_root parents marks i c.args.n ordered on.0 on.1 c.requires.n_value.0 (omega arith)) in
    record {
      ordered = ordered;
      numbered = record {
        room = omega (arith, c.requires.numbered.room, rank_mono marks (q + 1) i (omega (arith, last.before)));
        at = λ k l m. c.requires.numbered.at k (omega (arith, last.before)) m;
      };
      from_in_bounds = (omega (arith, last.before), last.on, omega (arith, last.next));
      wanted_value = ap (over (shape_of parents) q) c.from-above.ensures ∙ over_last (shape_of parents) (shape_tree parents marks ordered (omega arith)) ordered.order marks ordered.closed i q (omega arith) on.0 on.1 last.before last.on last.next;
    }

pub overflow_cast-result : goal.overflow_cast-result
overflow_cast-result c = omega (arith, c.new_number.ensures, rank_le c.args.marks.now c.from-above.result)
