-- The invariant: what was counted and what is left make up the whole.
use Rattle.std.proofs.Common.{◌≡◌, ◌≤◌, ◌+◌, drop}
use Rattle.guards.specs.Guarded.{guard_items}
use Rattle.guards.proofs.count_guards.Given as goal

abbrev pub invariant-loop-item : goal.invariant-loop-item
invariant-loop-item l = (l.guards ≤ l.item-index) × (guard_items l.items ≡ l.guards + guard_items (drop l.item-index l.items))
