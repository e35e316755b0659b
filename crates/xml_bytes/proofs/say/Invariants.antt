-- `xml_bytes::say` meets its contract: what is left of the word comes to what the whole does. Assumes nothing.
use Rattle.std.specs.Prelude.{◌≤◌, length, drop}
use Rattle.xml_bytes.specs.Promised.{spelling}
use Rattle.xml_bytes.proofs.Rows.{Passed}
use Rattle.xml_bytes.proofs.say.Given as goal

abbrev pub invariant-loop-wanted : goal.invariant-loop-wanted
invariant-loop-wanted l = record {
  inside : l.next ≤ length l.text;
  passed : Passed l.text l.at (spelling l.word) l.next (spelling (drop l.wanted-index l.word));
}
