-- The name that stands behind the `<` is put in a tag.
use Rattle.std.proofs.Common.{ℕ, List, [], ◌∷◌, ◌++◌, ◌+◌, ◌-◌, ap, arith}
use Rattle.pen.proofs.Putting.{puts_as}
use Rattle.put_tags.proofs.Naming.{name_within, name_is, name_short}
use Rattle.put_tags.proofs.tag_at.Goals as goal

pub slice_bounds-put_tag-end : goal.slice_bounds-put_tag-end
slice_bounds-put_tag-end c = name_within c.args.text.now c.args.begin c.run_end-to.result c.requires.0 c.run_end-to.ensures

pub put_tag-requires : goal.put_tag-requires
put_tag-requires c =
    let from = c.args.begin + 1 in
    (omega (arith, name_short c.args.text.now (c.run_end-to.result - from) from), omega arith)

pub returns : goal.returns
returns c =
    puts_as
    (ap (λ (name : List ℕ). c.args.opener.now ++ name ++ (62 ∷ [])) (name_is c.args.text.now c.args.begin c.run_end-to.result c.run_end-to.ensures))
    c.put_tag.ensures
