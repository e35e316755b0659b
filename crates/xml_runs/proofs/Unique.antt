-- The promise of `run` leaves one answer: reading stops where the run ends. Assumes nothing.
use Prim.Native.Nat.{ℕ}
use mathlib.Core.Path.{◌≡◌, refl, sym, ◌∙◌, ap}
use mathlib.Core.List.{List, []}
use Rattle.paper.specs.Xml.{nothing, Frame}
use Rattle.xml_bytes.specs.Seeking.{Sought, stops, refused}
use Rattle.std.specs.Prelude.{Ok, Err}
use Rattle.xml_bytes.specs.Promised.{Reach}
use Rattle.xml_bytes.proofs.Telling.{refusal_back, told_back}
use Rattle.xml_runs.specs.Runs.{ran, Runs}

-- An element with nothing inside.
abbrev bare : Frame
bare = record { name = []; begin = 0; inside = nothing }

abbrev run_back : Sought → Reach
run_back (stops to s) = Ok to
run_back (refused number place) = Err (refusal_back number place)

run-answer : (begin : ℕ) (r : Reach) → run_back (ran begin bare [] r) ≡ r
run-answer begin (Ok to) = refl
run-answer begin (Err why) = ap Err (told_back why)

pub run_unique : (text : List ℕ) (begin : ℕ) (r s : Reach) → Runs text begin r → Runs text begin s → r ≡ s
run_unique text begin r s p q = sym (run-answer begin r) ∙ ap run_back (sym (p.goes bare []) ∙ q.goes bare []) ∙ run-answer begin s
