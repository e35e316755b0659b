-- `end_tags::end_tag` meets its contract: the name again, white space, and `>`. Assumes nothing.
use mathlib.Core.Path.{subst}
use Rattle.end_tags.specs.Renaming.{Renames}
use Rattle.end_tags.proofs.Ending.{place_within, end_ends}
use Rattle.end_tags.proofs.end_tag.Goals as goal

pub byte-requires : goal.byte-requires
byte-requires c = place_within _ _ _ _ _ (subst (Renames c.args.text.now c.args.at c.args.inner) c.in_ok-name_end.was c.same_name.ensures) c.skip-place.ensures

pub returns : goal.returns
returns c = end_ends _ _ _ _ _ (subst (Renames c.args.text.now c.args.at c.args.inner) c.in_ok-name_end.was c.same_name.ensures) c.skip-place.ensures _ c.byte.ensures
