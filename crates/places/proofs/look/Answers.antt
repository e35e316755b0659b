-- `places::look` meets its contract: from the last multiple of 16 the steps left are walked over. Assumes nothing.
use Prim.Native.Nat.{◌-◌, ◌%◌}
use native.Mathlib.Omega.{arith}
use Rattle.places.proofs.Stepping.{further_readable, further}
use Rattle.places.proofs.look.Goals as goal

pub past_steps-place-requires : goal.past_steps-place-requires
past_steps-place-requires c =
    let a = c.args in
    let near = c.near_end-near in
    (near.ensures.inside, c.requires.at_in_bounds.1, further_readable a.items.now a.at a.depth (a.to - a.to % 16) (a.to % 16) a.to near.result near.ensures c.requires.readable (omega arith))

pub returns : goal.returns
returns c =
    let a = c.args in
    let near = c.near_end-near in (
      (c.far_end-far.ensures, near.ensures),
      further a.items.now a.at a.depth (a.to - a.to % 16) (a.to % 16) a.to near.result near.ensures c.requires.readable (omega arith) c.past_steps-place.result c.past_steps-place.ensures,
    )
