-- The root's line, the start tag, then all pieces inside.
use Rattle.std.proofs.Common.{◌∙◌, ap, refl, length, arith, rules}
use Rattle.xml_lines.specs.Kept.{line_set}
use Rattle.read_listed.proofs.Judged.{root_faces, root_stops}
use Rattle.read_listed.proofs.read_element.Goals as goal

pub returns-in_err-root : goal.returns-in_err-root
returns-in_err-root c = let refused = root_stops _ c.args.names.now _ _ c.requires.leads c.in_err-root.ensures in search rules

pub keep_piece-first-requires-clause-facing : goal.keep_piece-first-requires-clause-facing
keep_piece-first-requires-clause-facing c =
    root_faces _ _ _ _ _ _ refl (c.keep.ensures (omega arith) ∙ ap (line_set 0 0 0 0 (length c.args.text.now)) c.requires.nothing_kept) c.requires.leads c.in_ok-root.ensures
