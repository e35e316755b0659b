-- `reverse::put_reverse` meets its contract: the path item, then the way back. Assumes nothing.
use native.Mathlib.Omega.{arith}
use mathlib.Core.Path.{◌∙◌}
use lib.ListN.{length-set}
use Rattle.reverse.proofs.WayBack.{reverse_put}
use borrow.Author.Rules.{rules}
use Rattle.reverse.proofs.put_reverse.Statement.{statement}
use Rattle.reverse.proofs.put_reverse.Tie as tie

add-pack-path : tie.Need-overflow_add-count
add-pack-path c = search rules

pack-path-requires : tie.Need-pack_path-requires
pack-path-requires c κs = search rules

mul-out : tie.Need-offset_bounds-out-at
mul-out c = search rules

slice-write-out : tie.Need-bounds-out-at
slice-write-out c = search rules

add-put-way-back : tie.Need-overflow_add-at
add-put-way-back c = search rules

put-way-back-requires : tie.Need-put_way_back-requires
put-way-back-requires c κs = (omega arith, simp length-set (omega arith))

same_length : tie.Need-shape_of-out
same_length c = c.put_way_back.ensures.0 ∙ simp length-set

returns : tie.Need-returns
returns c = (
  c.put_way_back.ensures.0 ∙ simp length-set,
  λ s es g n.
      reverse_put c.args.steps.now c.args.out.now c.put_way_back.new.out c.args.at c.args.count c.pack_path.result s (omega arith) n c.pack_path.ensures
      (c.put_way_back.ensures.1 s es g),
)

pub put_reverse_spec : {M : Type 1} → statement M
put_reverse_spec =
    tie.close
    (tie.spec
    add-pack-path
    pack-path-requires
    mul-out
    slice-write-out
    add-put-way-back
    put-way-back-requires
    same_length
    returns)
