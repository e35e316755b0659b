-- `places::near_end` meets its contract: the multiple of 16 is the one known, or found from that of 256. Assumes nothing.
use Prim.Native.Nat.{◌-◌, ◌%◌}
use native.Mathlib.Omega.{arith}
use Rattle.places.proofs.Stepping.{fewer_readable, further_readable, further, known_near}
use Rattle.places.proofs.near_end.Goals as goal

pub past_steps-requires : goal.past_steps-requires
past_steps-requires c =
    let a = c.args in
    let pre = c.requires in
    let fewer = fewer_readable a.items.now a.at a.depth (a.to - a.to % 16) a.to (omega arith) pre.readable in
    (pre.far.inside, pre.at_in_bounds.1, further_readable a.items.now a.at a.depth (a.to - a.to % 256) (a.to % 256 - a.to % 16) (a.to - a.to % 16) a.far pre.far fewer (omega arith))

pub returns-in-Some : goal.returns-in-Some
returns-in-Some c =
    let a = c.args in
    known_near a.items.now a.at a.depth a.to c.in-Some.places.now (c.requires.at_in_bounds.2 c.in-Some.places c.in-Some.is) c.if-to-ne15.true

pub returns-in_default : goal.returns-in_default
returns-in_default c =
    let a = c.args in
    let pre = c.requires in
    let fewer = fewer_readable a.items.now a.at a.depth (a.to - a.to % 16) a.to (omega arith) pre.readable in
    further a.items.now a.at a.depth (a.to - a.to % 256) (a.to % 256 - a.to % 16) (a.to - a.to % 16) a.far pre.far fewer (omega arith) c.past_steps.result c.past_steps.ensures
