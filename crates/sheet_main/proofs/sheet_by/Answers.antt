-- A view that was read had a list without fault, and its query stands at the start of its room.
use Rattle.std.proofs.Common.{sym}
use Rattle.paper.proofs.Giving.{Gives, read_gives}
use Rattle.sheet_main.proofs.Listing.{list_fine}
use Rattle.sheet_main.proofs.sheet_by.Goals as goal

pub slice_bounds-room-end : goal.slice_bounds-room-end
slice_bounds-room-end c = (read_gives _ _ _ _ _ c.in-Ok.ensures.result_value c.in-Ok.ensures.out_after).inside

pub slice_bounds-sheet_of-end : goal.slice_bounds-sheet_of-end
slice_bounds-sheet_of-end c = (read_gives _ _ _ _ _ c.in-Ok.ensures.result_value c.in-Ok.ensures.out_after).counts

pub sheet_of-requires : goal.sheet_of-requires
sheet_of-requires c =
    let fine = list_fine _ _ _ _ (sym c.in-Ok.ensures.result_value) in
    (fine.0, fine.1, c.requires)
