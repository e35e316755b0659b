-- `places::far_end` meets its contract: the multiple of 256 is the one known, or found anew. Assumes nothing.
use Prim.Native.Nat.{◌-◌, ◌%◌}
use native.Mathlib.Omega.{arith}
use Rattle.places.proofs.Stepping.{fewer_readable, known_far}
use Rattle.places.proofs.far_end.Goals as goal

pub past_steps-requires : goal.past_steps-requires
past_steps-requires c =
    let a = c.args in
    let pre = c.requires in
    (pre.at_in_bounds.0, pre.at_in_bounds.1, fewer_readable a.items.now a.at a.depth (a.to - a.to % 256) a.to (omega arith) pre.readable)

pub returns-in-Some : goal.returns-in-Some
returns-in-Some c =
    let a = c.args in
    known_far a.items.now a.at a.depth a.to c.in-Some.places.now (c.requires.at_in_bounds.2 c.in-Some.places c.in-Some.is) c.if-to-ne255.true
