-- The contracts of the entry points leave one answer and one content of each slice: each says what the answer tells and what each slice holds, by one definition. Assumes nothing.
use mathlib.Core.Path.{subst}
use Rattle.read_xml.proofs.read_xml
use Rattle.uniqueness.specs.UniqueEntries.{ReadUnique, PrintUnique, PrintLongUnique, ComposeUnique, RunUnique, ExtractUnique, ReadXmlUnique, WriteXmlUnique}
use Rattle.uniqueness.specs.UniqueEntries.{ReadForCUnique, PrintForCUnique, PrintLongForCUnique, ComposeForCUnique, RunForCUnique, ExtractForCUnique, ReadXmlForCUnique, WriteXmlForCUnique, ReportUnique, ShowUnique}
use Rattle.uniqueness.specs.UniqueEntries.{HeightUnique, PathsUnique, ScratchUnique, HeightForCUnique, PathsForCUnique, ScratchForCUnique}
use Rattle.uniqueness.specs.UniqueEntries.{IsCutUnique, IsCutForCUnique}
use Rattle.uniqueness.specs.UniqueEntries.{FollowUnique, FollowForCUnique}
use Rattle.uniqueness.specs.UniqueEntries.{ComposeLeanUnique, ComposeLeanForCUnique, ReportLeanUnique}
use Rattle.uniqueness.specs.UniqueEntries.{ForMaskUnique, ForRoleUnique, ForRoleForCUnique}
use Rattle.call_promises.proofs.Telling.{same, same_told, same_slice, same_slices, same_more}

pub read_unique : ReadUnique
read_unique κs a u v x y g p q = (same_told p.0 q.0, same_slice p.1 q.1)

pub print_unique : PrintUnique
print_unique κs a u v x y g p q = (same_told p.0 q.0, same_slice p.1 q.1)

pub print_long_unique : PrintLongUnique
print_long_unique κs a u v x y g p q = (same_told p.0 q.0, same_slice p.1 q.1)

pub compose_unique : ComposeUnique
compose_unique κs a u v x y g p q = (same_told p.0 q.0, same_slice p.1 q.1)

pub compose_lean_unique : ComposeLeanUnique
compose_lean_unique κs a u v x y g p q = (same_told p.0 q.0, same_slice p.1 q.1)

pub run_unique : RunUnique
run_unique κs a u v x y g p q = (same_told p.0 q.0, same_slices p.1.0 p.1.1 q.1.0 q.1.1)

pub extract_unique : ExtractUnique
extract_unique κs a u v x y g p q = (same_told p.0 q.0, same_slices p.1.0 p.1.1 q.1.0 q.1.1)

pub read_xml_unique : ReadXmlUnique
read_xml_unique κs a u v x y g p q =
    let e = same_told p.0 q.0 in
    let p' = subst (λ w. read_xml.Reads.Post κs a w x) e p in
    (e, same_more p'.1.0 q.1.0 (same_more p'.1.1.0 q.1.1.0 (same_slices p'.1.1.1.0 p'.1.1.1.1 q.1.1.1.0 q.1.1.1.1)))

pub write_xml_unique : WriteXmlUnique
write_xml_unique κs a u v x y g p q = (same_told p.0 q.0, same_slice p.1 q.1)

pub read_for_c_unique : ReadForCUnique
read_for_c_unique κs a u v x y g p q = (same p.0 q.0, same_slice p.1 q.1)

pub print_for_c_unique : PrintForCUnique
print_for_c_unique κs a u v x y g p q = (same p.0 q.0, same_slice p.1 q.1)

pub print_long_for_c_unique : PrintLongForCUnique
print_long_for_c_unique κs a u v x y g p q = (same p.0 q.0, same_slice p.1 q.1)

pub compose_for_c_unique : ComposeForCUnique
compose_for_c_unique κs a u v x y g p q = (same p.0 q.0, same_slice p.1 q.1)

pub compose_lean_for_c_unique : ComposeLeanForCUnique
compose_lean_for_c_unique κs a u v x y g p q = (same p.0 q.0, same_slice p.1 q.1)

pub run_for_c_unique : RunForCUnique
run_for_c_unique κs a u v x y g p q = (same p.0 q.0, same_slices p.1.0 p.1.1 q.1.0 q.1.1)

pub extract_for_c_unique : ExtractForCUnique
extract_for_c_unique κs a u v x y g p q = (same p.0 q.0, same_slices p.1.0 p.1.1 q.1.0 q.1.1)

pub read_xml_for_c_unique : ReadXmlForCUnique
read_xml_for_c_unique κs a u v x y g p q =
    (same p.0 q.0, same_more p.1.0 q.1.0 (same_more p.1.1.0 q.1.1.0 (same_slices p.1.1.1.0 p.1.1.1.1 q.1.1.1.0 q.1.1.1.1)))

pub write_xml_for_c_unique : WriteXmlForCUnique
write_xml_for_c_unique κs a u v x y g p q = (same p.0 q.0, same_slice p.1 q.1)

pub report_unique : ReportUnique
report_unique κs a u v x y g p q = (same p.puts.moved q.puts.moved, same_slice p.puts.wrote q.puts.wrote)

pub report_lean_unique : ReportLeanUnique
report_lean_unique κs a u v x y g p q = (same p.puts.moved q.puts.moved, same_slice p.puts.wrote q.puts.wrote)

pub show_unique : ShowUnique
show_unique κs a u v x y g p q = (same p.puts.moved q.puts.moved, same_slice p.puts.wrote q.puts.wrote)

pub height_unique : HeightUnique
height_unique κs a u v x y g p q = same_told p q

pub paths_unique : PathsUnique
paths_unique κs a u v x y g p q = same_told p q

pub scratch_unique : ScratchUnique
scratch_unique κs a u v x y g p q = same_told p q

pub height_for_c_unique : HeightForCUnique
height_for_c_unique κs a u v x y g p q = same p q

pub paths_for_c_unique : PathsForCUnique
paths_for_c_unique κs a u v x y g p q = same p q

pub scratch_for_c_unique : ScratchForCUnique
scratch_for_c_unique κs a u v x y g p q = same p q

pub is_cut_unique : IsCutUnique
is_cut_unique κs a u v x y g p q = same_told p q

pub is_cut_for_c_unique : IsCutForCUnique
is_cut_for_c_unique κs a u v x y g p q = same p q

pub follow_unique : FollowUnique
follow_unique κs a u v x y g p q = (same_told p.0 q.0, same_slice p.1 q.1)

pub follow_for_c_unique : FollowForCUnique
follow_for_c_unique κs a u v x y g p q = (same p.0 q.0, same_slice p.1 q.1)

pub for_mask_unique : ForMaskUnique
for_mask_unique κs a u v x y g p q = (same_told p.0 q.0, same_slice p.1 q.1)

pub for_role_unique : ForRoleUnique
for_role_unique κs a u v x y p q = (same_told p.0 q.0, same_slice p.1 q.1)

pub for_role_for_c_unique : ForRoleForCUnique
for_role_for_c_unique κs a u v x y p q = (same p.0 q.0, same_slice p.1 q.1)
