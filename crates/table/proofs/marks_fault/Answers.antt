-- Where all are marked each mark is good; else the first bad one is found, if there is one.
use Rattle.std.proofs.Common.{◌≡◌, true, List, ℕ, ◌<◌, ◌∙◌, length, get_or, arith, sym}
use lib.Dec.{eqb}
use Rattle.paper.specs.Document.{good_mark, marks_fault, table_of}
use Rattle.paper.proofs.Tests.{true_and, or_right}
use Rattle.table.specs.Passing.{AllMarked, Inside}
use Rattle.table.proofs.Firsts.{no_fault, fault_at}
use Rattle.table.proofs.marks_fault.Goals as goal

all_fine : (parents kinds marks : List ℕ) → length marks ≡ length parents → Inside parents → AllMarked marks → (k : ℕ) → k < length parents → good_mark (table_of parents kinds) marks k ≡ true
unfolding good_mark
all_fine parents kinds marks e inside all k l =
    or_right (eqb (get_or marks k 0) 0) (true_and (all k (omega arith)) (all (get_or parents k 0) (omega (arith, inside k l))))

pub returns-then-all_marked : goal.returns-then-all_marked
unfolding marks_fault
returns-then-all_marked c =
    let parents = c.args.parent.now in
    let marks = c.args.marks.now in
    λ kinds. sym (no_fault (length parents) (good_mark (table_of parents kinds) marks) (all_fine parents kinds marks c.requires.0 c.requires.1 (c.all_marked.ensures c.if-all_marked.true)))

pub returns-then-not-good_mark : goal.returns-then-not-good_mark
unfolding marks_fault
returns-then-not-good_mark c =
    let parents = c.args.parent.now in
    let marks = c.args.marks.now in
    let l = c.loop-i in
    λ kinds. sym (fault_at (length parents) l.i (good_mark (table_of parents kinds) marks) (omega arith) (λ k b. l.invariant k b kinds) (sym (c.good_mark.ensures kinds) ∙ c.if-not-good_mark.true))

pub returns : goal.returns
unfolding marks_fault
returns c =
    let parents = c.args.parent.now in
    λ kinds. sym (no_fault (length parents) (good_mark (table_of parents kinds) c.args.marks.now) (λ k b. c.loop-i.invariant k (omega arith) kinds))
