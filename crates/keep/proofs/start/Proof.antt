-- `keep::start` meets its contract: all bytes are cleared, and the root has its own mark. Assumes nothing.
use Prim.Native.Nat.{ℕ}
use mathlib.Core.Path.{◌∙◌, ap}
use mathlib.Core.List.{List}
use lib.ListN.{length, get_or, set}
use Rattle.paper.specs.Document.{marked}
use Rattle.keep.proofs.Selecting.{root_alone, first_mark}
use borrow.Author.Rules.{rules}
use Rattle.keep.proofs.start.Statement.{statement}
use Rattle.keep.proofs.start.Tie as tie

fill-requires : tie.Need-fill-requires
fill-requires c κs = search rules

shared-slice-read-set : tie.Need-bounds-given-0
shared-slice-read-set c = search rules

slice-write-set : tie.Need-bounds-set-0
slice-write-set c = search rules

same_length : tie.Need-shape_of-set
same_length c = search rules

returns : tie.Need-returns
returns c =
    let a = c.args in
    let pre = c.requires in
    let n = length a.set.now in
    ap (λ (z : List ℕ). set z 0 (get_or a.given.now 0 0)) c.fill.ensures ∙
    root_alone n (marked a.given.now 0) (get_or a.given.now 0 0) pre.0 (first_mark n a.given.now pre.0 pre.2)

pub start_spec : {M : Type 1} → statement M
start_spec =
    tie.close (tie.spec fill-requires shared-slice-read-set slice-write-set same_length returns)
