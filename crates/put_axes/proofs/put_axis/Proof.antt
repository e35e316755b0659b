-- `put_axes::put_axis` meets its contract: each arm names an axis and puts its word. Assumes nothing.
use native.Mathlib.Omega.{arith}
use Prim.Native.Nat.{ℕ}
use mathlib.Core.Path.{◌≡◌}
use mathlib.Core.List.{List}
use borrow.Author.Rules.{rules}
use Rattle.paper.specs.Query.{Axis, self, child, descendant_or_self, ancestor_or_self, descendant, ancestor, following_sibling, preceding_sibling, following, preceding}
use Rattle.paper.specs.Items.{axis_number}
use Rattle.paper.specs.Printing.{axis_text}
use Rattle.paper.proofs.Axes.{of_number, no_axis}
use Rattle.pen.specs.Putting.{Puts}
use Rattle.put_axes.proofs.put_axis.Statement.{statement}
use Rattle.put_axes.proofs.put_axis.Tie as tie

-- The word of an axis is that of every axis of its number.
word_put : (b a : Axis) {n pen r : ℕ} {old new : List ℕ} → n ≡ axis_number b → n ≡ axis_number a → Puts (axis_text b) pen old new r → Puts (axis_text a) pen old new r
word_put b a {n} {pen} {r} {old} {new} p q = of_number (λ x. Puts (axis_text x) pen old new r) b a p q

put-requires : tie.Need-put-requires
put-requires c κs = search rules

put-requires-2 : tie.Need-put-requires-in-1
put-requires-2 c κs = search rules

put-requires-3 : tie.Need-put-requires-in-2
put-requires-3 c κs = search rules

put-requires-4 : tie.Need-put-requires-in-3
put-requires-4 c κs = search rules

put-requires-5 : tie.Need-put-requires-in-4
put-requires-5 c κs = search rules

put-requires-6 : tie.Need-put-requires-in-5
put-requires-6 c κs = search rules

put-requires-7 : tie.Need-put-requires-in-6
put-requires-7 c κs = search rules

put-requires-8 : tie.Need-put-requires-in-7
put-requires-8 c κs = search rules

put-requires-9 : tie.Need-put-requires-in-8
put-requires-9 c κs = search rules

put-requires-10 : tie.Need-put-requires-in-9
put-requires-10 c κs = search rules

put-requires-11 : tie.Need-put-requires-in-10
put-requires-11 c κs = search rules

same_length : tie.Need-shape_of-out-in-0
same_length c = search rules

returns : tie.Need-returns-in-0
returns c = (λ a e. word_put self a c.in-0.is e c.put.ensures, omega (arith, c.put.ensures.moved))

same-length-2 : tie.Need-shape_of-out-in-1
same-length-2 c = search rules

returns-2 : tie.Need-returns-in-1
returns-2 c = (λ a e. word_put child a c.in-1.is e c.put-in-1.ensures, omega (arith, c.put-in-1.ensures.moved))

same-length-3 : tie.Need-shape_of-out-in-2
same-length-3 c = search rules

returns-3 : tie.Need-returns-in-2
returns-3 c = (λ a e. word_put Axis.parent a c.in-2.is e c.put-in-2.ensures, omega (arith, c.put-in-2.ensures.moved))

same-length-4 : tie.Need-shape_of-out-in-3
same-length-4 c = search rules

returns-4 : tie.Need-returns-in-3
returns-4 c = (λ a e. word_put descendant_or_self a c.in-3.is e c.put-in-3.ensures, omega (arith, c.put-in-3.ensures.moved))

same-length-5 : tie.Need-shape_of-out-in-4
same-length-5 c = search rules

returns-5 : tie.Need-returns-in-4
returns-5 c = (λ a e. word_put ancestor_or_self a c.in-4.is e c.put-in-4.ensures, omega (arith, c.put-in-4.ensures.moved))

same-length-6 : tie.Need-shape_of-out-in-5
same-length-6 c = search rules

returns-6 : tie.Need-returns-in-5
returns-6 c = (λ a e. word_put descendant a c.in-5.is e c.put-in-5.ensures, omega (arith, c.put-in-5.ensures.moved))

same-length-7 : tie.Need-shape_of-out-in-6
same-length-7 c = search rules

returns-7 : tie.Need-returns-in-6
returns-7 c = (λ a e. word_put ancestor a c.in-6.is e c.put-in-6.ensures, omega (arith, c.put-in-6.ensures.moved))

same-length-8 : tie.Need-shape_of-out-in-7
same-length-8 c = search rules

returns-8 : tie.Need-returns-in-7
returns-8 c = (λ a e. word_put following_sibling a c.in-7.is e c.put-in-7.ensures, omega (arith, c.put-in-7.ensures.moved))

same-length-9 : tie.Need-shape_of-out-in-8
same-length-9 c = search rules

returns-9 : tie.Need-returns-in-8
returns-9 c = (λ a e. word_put preceding_sibling a c.in-8.is e c.put-in-8.ensures, omega (arith, c.put-in-8.ensures.moved))

same-length-10 : tie.Need-shape_of-out-in-9
same-length-10 c = search rules

returns-10 : tie.Need-returns-in-9
returns-10 c = (λ a e. word_put following a c.in-9.is e c.put-in-9.ensures, omega (arith, c.put-in-9.ensures.moved))

same-length-11 : tie.Need-shape_of-out-in-10
same-length-11 c = search rules

returns-11 : tie.Need-returns-in-10
returns-11 c = (λ a e. word_put preceding a c.in-10.is e c.put-in-10.ensures, omega (arith, c.put-in-10.ensures.moved))

returns-12 : tie.Need-returns-in_default
returns-12 c = (λ a e. absurd (no_axis a c.args.axis e c.in_default.in_default-own.rest), omega arith)

pub put_axis_spec : {M : Type 1} → statement M
put_axis_spec =
    tie.close
    (tie.spec
    put-requires
    put-requires-2
    put-requires-3
    put-requires-4
    put-requires-5
    put-requires-6
    put-requires-7
    put-requires-8
    put-requires-9
    put-requires-10
    put-requires-11
    same_length
    returns
    same-length-2
    returns-2
    same-length-3
    returns-3
    same-length-4
    returns-4
    same-length-5
    returns-5
    same-length-6
    returns-6
    same-length-7
    returns-7
    same-length-8
    returns-8
    same-length-9
    returns-9
    same-length-10
    returns-10
    same-length-11
    returns-11
    returns-12)
