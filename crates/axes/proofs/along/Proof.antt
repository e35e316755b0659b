-- `axes::along` meets its contract: an axis is known by its number, and what each pass ensures of its axis is what is asked. Assumes nothing.
use native.Mathlib.Omega.{arith}
use mathlib.Core.Path.{sym, ◌∙◌}
use lib.ListN.{length}
use borrow.Author.Rules.{rules}
use Rattle.paper.specs.Document.{table_of}
use Rattle.paper.specs.Query.{Axis, self, child, descendant_or_self, ancestor_or_self, descendant, ancestor, following_sibling, preceding_sibling}
use Rattle.paper.proofs.Axes.{no_axis}
use Rattle.sets.specs.Sets.{image}
use Rattle.sets.proofs.Bits.{bits_same}
use Rattle.vertical.proofs.Axes.{same_image, self_image}
use Rattle.axes.proofs.along.Statement.{statement}
use Rattle.axes.proofs.along.Tie as tie

children-requires : tie.Need-children-requires
children-requires c κs = search rules

parents-requires : tie.Need-parents-requires
parents-requires c κs = search rules

below-requires : tie.Need-below-requires
below-requires c κs = search rules

above-requires : tie.Need-above-requires
above-requires c κs = search rules

descendants-requires : tie.Need-descendants-requires
descendants-requires c κs = search rules

ancestors-requires : tie.Need-ancestors-requires
ancestors-requires c κs = search rules

following-siblings-requires : tie.Need-following_siblings-requires
following-siblings-requires c κs = search rules

preceding-siblings-requires : tie.Need-preceding_siblings-requires
preceding-siblings-requires c κs = search rules

following-requires : tie.Need-following-requires
following-requires c κs = search rules

preceding-requires : tie.Need-preceding-requires
preceding-requires c κs = search rules

fill-requires : tie.Need-fill-requires
fill-requires c κs = search rules

returns : tie.Need-returns-in-0
returns c = λ kinds a f e s.
    let d = c.args in
    let t = table_of d.parent.now kinds in
    let n = length d.set.now in
    same_image t f n d.axis self a (omega arith) e (s ∙ bits_same n f (image t self f) (λ k l. sym (self_image t f k (omega arith))))

same_length : tie.Need-shape_of-set-in-1
same_length c = search rules

returns-2 : tie.Need-returns-in-1
returns-2 c = λ kinds a f e s.
    let d = c.args in
    same_image (table_of d.parent.now kinds) f (length d.set.now) d.axis child a (omega arith) e (c.children.ensures kinds f s)

same-length-2 : tie.Need-shape_of-set-in-2
same-length-2 c = search rules

returns-3 : tie.Need-returns-in-2
returns-3 c = λ kinds a f e s.
    let d = c.args in
    same_image (table_of d.parent.now kinds) f (length d.set.now) d.axis Axis.parent a (omega arith) e (c.parents.ensures kinds f s)

same-length-3 : tie.Need-shape_of-set-in-3
same-length-3 c = search rules

returns-4 : tie.Need-returns-in-3
returns-4 c = λ kinds a f e s.
    let d = c.args in
    same_image (table_of d.parent.now kinds) f (length d.set.now) d.axis descendant_or_self a (omega arith) e (c.below.ensures kinds f s)

same-length-4 : tie.Need-shape_of-set-in-4
same-length-4 c = search rules

returns-5 : tie.Need-returns-in-4
returns-5 c = λ kinds a f e s.
    let d = c.args in
    same_image (table_of d.parent.now kinds) f (length d.set.now) d.axis ancestor_or_self a (omega arith) e (c.above.ensures kinds f s)

same-length-5 : tie.Need-shape_of-set-in-5
same-length-5 c = search rules

returns-6 : tie.Need-returns-in-5
returns-6 c = λ kinds a f e s.
    let d = c.args in
    same_image (table_of d.parent.now kinds) f (length d.set.now) d.axis descendant a (omega arith) e (c.descendants.ensures kinds f s)

same-length-6 : tie.Need-shape_of-set-in-6
same-length-6 c = search rules

returns-7 : tie.Need-returns-in-6
returns-7 c = λ kinds a f e s.
    let d = c.args in
    same_image (table_of d.parent.now kinds) f (length d.set.now) d.axis ancestor a (omega arith) e (c.ancestors.ensures kinds f s)

same-length-7 : tie.Need-shape_of-set-in-7
same-length-7 c = search rules

returns-8 : tie.Need-returns-in-7
returns-8 c = λ kinds a f e s.
    let d = c.args in
    same_image (table_of d.parent.now kinds) f (length d.set.now) d.axis following_sibling a (omega arith) e (c.following_siblings.ensures kinds f s)

same-length-8 : tie.Need-shape_of-set-in-8
same-length-8 c = search rules

returns-9 : tie.Need-returns-in-8
returns-9 c = λ kinds a f e s.
    let d = c.args in
    same_image (table_of d.parent.now kinds) f (length d.set.now) d.axis preceding_sibling a (omega arith) e (c.preceding_siblings.ensures kinds f s)

same-length-9 : tie.Need-shape_of-set-in-9
same-length-9 c = search rules

returns-10 : tie.Need-returns-in-9
returns-10 c = λ kinds a f e s.
    let d = c.args in
    same_image (table_of d.parent.now kinds) f (length d.set.now) d.axis Axis.following a (omega arith) e (c.following.ensures kinds f s)

same-length-10 : tie.Need-shape_of-set-in-10
same-length-10 c = search rules

returns-11 : tie.Need-returns-in-10
returns-11 c = λ kinds a f e s.
    let d = c.args in
    same_image (table_of d.parent.now kinds) f (length d.set.now) d.axis Axis.preceding a (omega arith) e (c.preceding.ensures kinds f s)

same-length-11 : tie.Need-shape_of-set-in_default
same-length-11 c = search rules

returns-12 : tie.Need-returns-in_default
returns-12 c = λ kinds a f e s. absurd (no_axis a c.args.axis e c.in_default.in_default-own.rest)

pub along_spec : {M : Type 1} → statement M
along_spec =
    tie.close
    (tie.spec
    children-requires
    parents-requires
    below-requires
    above-requires
    descendants-requires
    ancestors-requires
    following-siblings-requires
    preceding-siblings-requires
    following-requires
    preceding-requires
    fill-requires
    returns
    same_length
    returns-2
    same-length-2
    returns-3
    same-length-3
    returns-4
    same-length-4
    returns-5
    same-length-5
    returns-6
    same-length-6
    returns-7
    same-length-7
    returns-8
    same-length-8
    returns-9
    same-length-9
    returns-10
    same-length-10
    returns-11
    same-length-11
    returns-12)
