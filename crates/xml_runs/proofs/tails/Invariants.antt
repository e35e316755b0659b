-- `xml_runs::tails` meets its contract: the bytes that are left come to what all of them do. Assumes nothing.
use Rattle.std.specs.Prelude.{◌-◌, ◌≤◌, length}
use Rattle.xml_bytes.specs.Promised.{tailing}
use Rattle.xml_bytes.proofs.Rows.{Passed}
use Rattle.xml_runs.proofs.tails.Given as goal

abbrev pub invariant-loop : goal.invariant-loop
invariant-loop l = record {
  inside : l.next ≤ length l.text;
  passed : Passed l.text l.at (tailing l.count) l.next (tailing (l.count - l.counter));
}
