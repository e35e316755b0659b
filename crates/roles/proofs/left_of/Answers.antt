-- `roles::left_of` meets its contract: with each view taken the mask that is left is halved. Assumes nothing.
use Prim.Native.Nat.{suc}
use native.Mathlib.Omega.{arith}
use mathlib.Core.Path.{◌≡◌, sym, ap}
use Rattle.paper.specs.Roles.{beyond}
use Rattle.roles.proofs.left_of.Goals as goal

pub loop-taken-init : goal.loop-taken-init
loop-taken-init c = λ rest e. ap (beyond _) (let all : c.args.views ≡ rest = omega (arith, e) in all)

pub loop-taken-preserved : goal.loop-taken-preserved
loop-taken-preserved c = λ rest e. c.loop-taken.invariant (suc rest) (omega (arith, e))

pub returns : goal.returns
returns c = sym (c.loop-taken.invariant 0 (omega (arith, c.loop-taken.auto, c.loop-taken-test.false)))
