-- The loop of `key_kept`: `found` says whether the key is one of the first v.
use Rattle.std.proofs.Common.{◌≡◌, eqb, get_or}
use Rattle.paper.specs.Tools.{some_below}
use Rattle.name_keys.proofs.key_kept.Given as goal

abbrev pub invariant-loop-v : goal.invariant-loop-v
invariant-loop-v l = l.found ≡ some_below l.v (λ u. eqb (get_or l.keys u 0) l.key)
