-- `show::show_query` meets its contract: the line of a refusal, or what the query shows of the text. Assumes nothing.
use Prim.Native.Nat.{◌+◌}
use native.Mathlib.Omega.{arith}
use mathlib.Core.Path.{sym, ◌∙◌, ap}
use lib.ListN.{replicate}
use Rattle.paper.specs.Limits.{item_limit}
use Rattle.paper.specs.Told.{told}
use Rattle.paper.specs.Show.{file_room, query_shows}
use Rattle.paper.proofs.Giving.{read_gives}
use Rattle.lines.proofs.Reported.{refused_answer, given_part}
use Rattle.show.proofs.show_query.Goals as goal

pub returns-in_default : goal.returns-in_default
unfolding query_shows
returns-in_default c =
    refused_answer "query" _ _ (file_room + 1) _ _ _ (omega arith) c.read-said.result _ c.in_default.is c.read-said.ensures.result_value c.put_refusal.ensures

pub slice_bounds-room-end : goal.slice_bounds-room-end
slice_bounds-room-end c =
    (read_gives c.in-Ok.size (replicate item_limit 0) _ _ _ (ap told (sym c.in-Ok.is) ∙ c.read-said.ensures.result_value) c.read-said.ensures.out_after).inside

pub returns : goal.returns
unfolding query_shows
returns c =
    let accepted = ap told (sym c.in-Ok.is) ∙ c.read-said.ensures.result_value in
    given_part "query" _ _ _ _ _ _ _ accepted (rw (read_gives c.in-Ok.size (replicate item_limit 0) _ _ _ accepted c.read-said.ensures.out_after).starts at c.show_text.ensures)

pub slice_bounds-show_text-end : goal.slice_bounds-show_text-end
slice_bounds-show_text-end c =
    (read_gives c.in-Ok.size (replicate item_limit 0) _ _ _ (ap told (sym c.in-Ok.is) ∙ c.read-said.ensures.result_value) c.read-said.ensures.out_after).counts
