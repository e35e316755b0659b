-- `halyardfig_for_role` meets its contract: the code of what `roles::for_role` answers, which is small, and what that writes. Assumes nothing.
use Rattle.std.proofs.Common.{arith}
use Rattle.code.proofs.Coding.{coded}
use Rattle.role_theorems.proofs.Small.{role_small}
use Rattle.halyardfig.proofs.halyardfig_for_role.Goals as goal

pub returns : goal.returns
returns c =
    let said = c.for_role.ensures in
    (coded said.0 (role_small _ _ _ _ _ _ (omega arith)) c.code.ensures.0, said.1)
