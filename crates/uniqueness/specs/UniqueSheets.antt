-- The contract of each public function of a sheet leaves one answer and one content of each slice.
use Rattle.std.specs.Prelude.{[], ◌∷◌}
use Rattle.lines.proofs.list_end
use Rattle.lines.proofs.put_decimal
use Rattle.put_steps.proofs.put_listed_name
use Rattle.put_steps.proofs.put_name
use Rattle.tally.proofs.is_counted
use Rattle.tally.proofs.add_nodes
use Rattle.tally.proofs.add_refusal
use Rattle.documents.proofs.add_text
use Rattle.sheet.proofs.put_sheet
use Rattle.uniqueness.specs.Uniqueness.{Unique, UniqueAnswer}

abbrev pub ListEndUnique : Type 0
ListEndUnique = UniqueAnswer list_end.Kinds.ps list_end.Kinds.r list_end.Reads.Pre list_end.Reads.Post

abbrev pub PutDecimalUnique : Type 0
PutDecimalUnique = Unique put_decimal.Kinds.ps put_decimal.Kinds.r put_decimal.Reads.Pre put_decimal.Reads.Post (λ κs x. x.0.now ∷ [])

abbrev pub PutListedNameUnique : Type 0
PutListedNameUnique = Unique put_listed_name.Kinds.ps put_listed_name.Kinds.r put_listed_name.Reads.Pre put_listed_name.Reads.Post (λ κs x. x.1.0.now ∷ [])

abbrev pub PutNameUnique : Type 0
PutNameUnique = Unique put_name.Kinds.ps put_name.Kinds.r put_name.Reads.Pre put_name.Reads.Post (λ κs x. x.1.0.now ∷ [])

abbrev pub IsCountedUnique : Type 0
IsCountedUnique = UniqueAnswer is_counted.Kinds.ps is_counted.Kinds.r is_counted.Reads.Pre is_counted.Reads.Post

abbrev pub AddNodesUnique : Type 0
AddNodesUnique =
    Unique add_nodes.Kinds.ps add_nodes.Kinds.r add_nodes.Reads.Pre add_nodes.Reads.Post (λ κs x. x.1.1.0.now ∷ x.1.1.1.0.now ∷ x.1.1.1.1.0.now ∷ [])

abbrev pub AddRefusalUnique : Type 0
AddRefusalUnique = Unique add_refusal.Kinds.ps add_refusal.Kinds.r add_refusal.Reads.Pre add_refusal.Reads.Post (λ κs x. x.1.0.now ∷ [])

abbrev pub AddTextUnique : Type 0
AddTextUnique =
    Unique add_text.Kinds.ps add_text.Kinds.r add_text.Reads.Pre add_text.Reads.Post
    (λ κs x. x.1.1.1.0.now ∷ x.1.1.1.1.0.now ∷ x.1.1.1.1.1.0.now ∷ x.1.1.1.1.1.1.0.now ∷ [])

abbrev pub PutSheetUnique : Type 0
PutSheetUnique = Unique put_sheet.Kinds.ps put_sheet.Kinds.r put_sheet.Reads.Pre put_sheet.Reads.Post (λ κs x. x.1.1.1.1.1.0.now ∷ [])
