-- The contract of each entry point, of its form for C, and of what the program prints, leaves one answer and one content of each slice, whatever the arguments are.
use Rattle.std.specs.Prelude.{[], ◌∷◌}
use Rattle.read.proofs.read
use Rattle.print.proofs.print
use Rattle.print.proofs.print_long
use Rattle.compose.proofs.compose
use Rattle.compose_lean.proofs.compose_lean
use Rattle.run.proofs.run
use Rattle.follow.proofs.follow
use Rattle.extract.proofs.extract
use Rattle.read_xml.proofs.read_xml
use Rattle.write_xml.proofs.write_xml
use Rattle.room.proofs.height
use Rattle.room.proofs.paths
use Rattle.room.proofs.scratch
use Rattle.cut.proofs.is_cut
use Rattle.report.proofs.report
use Rattle.report.proofs.report_lean
use Rattle.show.proofs.show
use Rattle.halyardfig.proofs.halyardfig_read
use Rattle.halyardfig.proofs.halyardfig_print
use Rattle.halyardfig.proofs.halyardfig_print_long
use Rattle.halyardfig.proofs.halyardfig_compose
use Rattle.halyardfig.proofs.halyardfig_compose_lean
use Rattle.halyardfig.proofs.halyardfig_run
use Rattle.halyardfig.proofs.halyardfig_follow
use Rattle.halyardfig.proofs.halyardfig_extract
use Rattle.halyardfig.proofs.halyardfig_read_xml
use Rattle.halyardfig.proofs.halyardfig_write_xml
use Rattle.halyardfig.proofs.halyardfig_height
use Rattle.halyardfig.proofs.halyardfig_paths
use Rattle.halyardfig.proofs.halyardfig_scratch
use Rattle.halyardfig.proofs.halyardfig_is_cut
use Rattle.roles.proofs.for_mask
use Rattle.roles.specs.contracts.for_role
use Rattle.halyardfig.specs.contracts.halyardfig_for_role
use Rattle.uniqueness.specs.Uniqueness.{Unique, UniqueAnswer, UniqueSigned}
use Rattle.call_promises.specs.RoleReads.{RolePost}
use Rattle.uniqueness.specs.RoleForCReads.{RoleForCPost}

abbrev pub ReadUnique : Type 0
ReadUnique = Unique read.Kinds.ps read.Kinds.r read.Reads.Pre read.Reads.Post (λ κs x. x.1.1.1.0.now ∷ [])

abbrev pub PrintUnique : Type 0
PrintUnique = Unique print.Kinds.ps print.Kinds.r print.Reads.Pre print.Reads.Post (λ κs x. x.1.1.0.now ∷ [])

abbrev pub PrintLongUnique : Type 0
PrintLongUnique = Unique print_long.Kinds.ps print_long.Kinds.r print_long.Reads.Pre print_long.Reads.Post (λ κs x. x.1.1.0.now ∷ [])

abbrev pub ComposeUnique : Type 0
ComposeUnique = Unique compose.Kinds.ps compose.Kinds.r compose.Reads.Pre compose.Reads.Post (λ κs x. x.1.1.0.now ∷ [])

abbrev pub ComposeLeanUnique : Type 0
ComposeLeanUnique = Unique compose_lean.Kinds.ps compose_lean.Kinds.r compose_lean.Reads.Pre compose_lean.Reads.Post (λ κs x. x.1.1.0.now ∷ [])

abbrev pub RunUnique : Type 0
RunUnique = Unique run.Kinds.ps run.Kinds.r run.Reads.Pre run.Reads.Post (λ κs x. x.1.1.1.1.0.now ∷ x.1.1.1.1.1.0.now ∷ [])

abbrev pub ExtractUnique : Type 0
ExtractUnique = Unique extract.Kinds.ps extract.Kinds.r extract.Reads.Pre extract.Reads.Post (λ κs x. x.1.1.1.0.now ∷ x.1.1.1.1.0.now ∷ [])

abbrev pub ReadXmlUnique : Type 0
ReadXmlUnique =
    Unique read_xml.Kinds.ps read_xml.Kinds.r read_xml.Reads.Pre read_xml.Reads.Post
    (λ κs x. x.1.1.0.now ∷ x.1.1.1.0.now ∷ x.1.1.1.1.0.now ∷ x.1.1.1.1.1.0.now ∷ [])

abbrev pub WriteXmlUnique : Type 0
WriteXmlUnique = Unique write_xml.Kinds.ps write_xml.Kinds.r write_xml.Reads.Pre write_xml.Reads.Post (λ κs x. x.1.1.1.1.1.1.1.0.now ∷ [])

abbrev pub ReadForCUnique : Type 0
ReadForCUnique = Unique halyardfig_read.Kinds.ps halyardfig_read.Kinds.r halyardfig_read.Reads.Pre halyardfig_read.Reads.Post (λ κs x. x.1.1.1.0.now ∷ [])

abbrev pub PrintForCUnique : Type 0
PrintForCUnique = Unique halyardfig_print.Kinds.ps halyardfig_print.Kinds.r halyardfig_print.Reads.Pre halyardfig_print.Reads.Post (λ κs x. x.1.1.0.now ∷ [])

abbrev pub PrintLongForCUnique : Type 0
PrintLongForCUnique =
    Unique halyardfig_print_long.Kinds.ps halyardfig_print_long.Kinds.r halyardfig_print_long.Reads.Pre halyardfig_print_long.Reads.Post (λ κs x. x.1.1.0.now ∷ [])

abbrev pub ComposeForCUnique : Type 0
ComposeForCUnique =
    Unique halyardfig_compose.Kinds.ps halyardfig_compose.Kinds.r halyardfig_compose.Reads.Pre halyardfig_compose.Reads.Post (λ κs x. x.1.1.0.now ∷ [])

abbrev pub ComposeLeanForCUnique : Type 0
ComposeLeanForCUnique =
    Unique halyardfig_compose_lean.Kinds.ps halyardfig_compose_lean.Kinds.r halyardfig_compose_lean.Reads.Pre halyardfig_compose_lean.Reads.Post (λ κs x. x.1.1.0.now ∷ [])

abbrev pub RunForCUnique : Type 0
RunForCUnique =
    Unique halyardfig_run.Kinds.ps halyardfig_run.Kinds.r halyardfig_run.Reads.Pre halyardfig_run.Reads.Post
    (λ κs x. x.1.1.1.1.0.now ∷ x.1.1.1.1.1.0.now ∷ [])

abbrev pub ExtractForCUnique : Type 0
ExtractForCUnique =
    Unique halyardfig_extract.Kinds.ps halyardfig_extract.Kinds.r halyardfig_extract.Reads.Pre halyardfig_extract.Reads.Post
    (λ κs x. x.1.1.1.0.now ∷ x.1.1.1.1.0.now ∷ [])

abbrev pub ReadXmlForCUnique : Type 0
ReadXmlForCUnique =
    Unique halyardfig_read_xml.Kinds.ps halyardfig_read_xml.Kinds.r halyardfig_read_xml.Reads.Pre halyardfig_read_xml.Reads.Post
    (λ κs x. x.1.1.0.now ∷ x.1.1.1.0.now ∷ x.1.1.1.1.0.now ∷ x.1.1.1.1.1.0.now ∷ [])

abbrev pub WriteXmlForCUnique : Type 0
WriteXmlForCUnique =
    Unique halyardfig_write_xml.Kinds.ps halyardfig_write_xml.Kinds.r halyardfig_write_xml.Reads.Pre halyardfig_write_xml.Reads.Post
    (λ κs x. x.1.1.1.1.1.1.1.0.now ∷ [])

abbrev pub ReportUnique : Type 0
ReportUnique = Unique report.Kinds.ps report.Kinds.r report.Reads.Pre report.Reads.Post (λ κs x. x.1.0.now ∷ [])

abbrev pub ReportLeanUnique : Type 0
ReportLeanUnique = Unique report_lean.Kinds.ps report_lean.Kinds.r report_lean.Reads.Pre report_lean.Reads.Post (λ κs x. x.1.0.now ∷ [])

abbrev pub ShowUnique : Type 0
ShowUnique = Unique show.Kinds.ps show.Kinds.r show.Reads.Pre show.Reads.Post (λ κs x. x.1.0.now ∷ [])

abbrev pub HeightUnique : Type 0
HeightUnique = UniqueAnswer height.Kinds.ps height.Kinds.r height.Reads.Pre height.Reads.Post

abbrev pub PathsUnique : Type 0
PathsUnique = UniqueAnswer paths.Kinds.ps paths.Kinds.r paths.Reads.Pre paths.Reads.Post

abbrev pub ScratchUnique : Type 0
ScratchUnique = UniqueAnswer scratch.Kinds.ps scratch.Kinds.r scratch.Reads.Pre scratch.Reads.Post

abbrev pub HeightForCUnique : Type 0
HeightForCUnique = UniqueAnswer halyardfig_height.Kinds.ps halyardfig_height.Kinds.r halyardfig_height.Reads.Pre halyardfig_height.Reads.Post

abbrev pub PathsForCUnique : Type 0
PathsForCUnique = UniqueAnswer halyardfig_paths.Kinds.ps halyardfig_paths.Kinds.r halyardfig_paths.Reads.Pre halyardfig_paths.Reads.Post

abbrev pub ScratchForCUnique : Type 0
ScratchForCUnique = UniqueAnswer halyardfig_scratch.Kinds.ps halyardfig_scratch.Kinds.r halyardfig_scratch.Reads.Pre halyardfig_scratch.Reads.Post

abbrev pub IsCutUnique : Type 0
IsCutUnique = UniqueAnswer is_cut.Kinds.ps is_cut.Kinds.r is_cut.Reads.Pre is_cut.Reads.Post

abbrev pub IsCutForCUnique : Type 0
IsCutForCUnique = UniqueAnswer halyardfig_is_cut.Kinds.ps halyardfig_is_cut.Kinds.r halyardfig_is_cut.Reads.Pre halyardfig_is_cut.Reads.Post

abbrev pub FollowUnique : Type 0
FollowUnique = Unique follow.Kinds.ps follow.Kinds.r follow.Reads.Pre follow.Reads.Post (λ κs x. x.1.1.1.1.0.now ∷ [])

abbrev pub FollowForCUnique : Type 0
FollowForCUnique =
    Unique halyardfig_follow.Kinds.ps halyardfig_follow.Kinds.r halyardfig_follow.Reads.Pre halyardfig_follow.Reads.Post (λ κs x. x.1.1.1.1.0.now ∷ [])

abbrev pub ForMaskUnique : Type 0
ForMaskUnique = Unique for_mask.Kinds.ps for_mask.Kinds.r for_mask.Reads.Pre for_mask.Reads.Post (λ κs x. x.1.1.1.1.1.1.0.now ∷ [])

abbrev pub ForRoleUnique : Type 0
ForRoleUnique = UniqueSigned for_role.ended RolePost (λ κs x. x.1.1.1.1.1.0.now ∷ [])

abbrev pub ForRoleForCUnique : Type 0
ForRoleForCUnique = UniqueSigned halyardfig_for_role.ended RoleForCPost (λ κs x. x.1.1.1.1.1.0.now ∷ [])
