-- The root's line, the start tag, then all pieces inside.
use Rattle.std.proofs.Common.{refl, rules}
use Rattle.line_tests.proofs.Tests.{tells_both}
use Rattle.match_lines.proofs.Matching.{root_faces, root_stops}
use Rattle.match_lines.proofs.Pieces.{root_line}
use Rattle.match_lines.proofs.match_element.Goals as goal

pub returns-in_err-root : goal.returns-in_err-root
returns-in_err-root c = let refused = root_stops _ c.args.names.now c.args.lent.now _ _ c.requires.leads c.in_err-root.ensures in search rules

pub match_piece-first-requires-clause-facing : goal.match_piece-first-requires-clause-facing
match_piece-first-requires-clause-facing c =
    root_faces _ _ _ _ _ _ _ refl (root_line _ _ _ _ (tells_both _ _ (tells_both _ _ c.begins.ensures c.has_kind.ensures) c.ends_at-ended.ensures)) c.requires.leads c.in_ok-root.ensures
