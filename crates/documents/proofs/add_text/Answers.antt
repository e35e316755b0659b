-- `documents::add_text`: a text that is refused adds one to its number, and one that is read adds what its table adds.
use Rattle.std.proofs.Common.{◌≡◌, ℕ, List, arith, sym, ◌∙◌}
use mathlib.Core.Path.{ap₂}
use mathlib.Core.List.{map}
use lib.ListN.{replicate}
use Rattle.paper.specs.Document.{table_of}
use Rattle.paper.specs.Sheet.{rows, table_outcome}
use Rattle.paper.specs.Limits.{node_limit}
use Rattle.paper.specs.Answers.{value, parent_field, kind_field, read_xml_answer}
use Rattle.paper.proofs.Giving.{Gives}
use Rattle.xml_theorems.proofs.Written.{Taken, taken, column_left}
use Rattle.documents.proofs.Adding.{text_refused, text_read, refusal_adds}
use Rattle.documents.proofs.add_text.Goals as goal

pub slice_bounds-parent-end : goal.slice_bounds-parent-end
slice_bounds-parent-end c =
    let a = c.args in
    let n = c.in-Ok.n in
    let e = c.in-Ok.ensures in
    let text = a.text.now in
    let list = a.list.now in
    let accepted : value n ≡ read_xml_answer text list node_limit node_limit node_limit node_limit = e.result_value in
    let found : Taken text list n = taken text list node_limit node_limit node_limit node_limit n (sym accepted) in
    let old : List ℕ = replicate node_limit 0 in
    let parents : Gives (map parent_field (rows text)) n node_limit c.read_xml.new.parent = column_left text list n found parent_field node_limit old _ found.few e.parent_after in
    parents.inside

pub slice_bounds-add_table-end : goal.slice_bounds-add_table-end
slice_bounds-add_table-end c =
    let a = c.args in
    let n = c.in-Ok.n in
    let e = c.in-Ok.ensures in
    let text = a.text.now in
    let list = a.list.now in
    let accepted : value n ≡ read_xml_answer text list node_limit node_limit node_limit node_limit = e.result_value in
    let found : Taken text list n = taken text list node_limit node_limit node_limit node_limit n (sym accepted) in
    let old : List ℕ = replicate node_limit 0 in
    let parents : Gives (map parent_field (rows text)) n node_limit c.read_xml.new.parent = column_left text list n found parent_field node_limit old _ found.few e.parent_after in
    parents.counts

pub slice_bounds-kind-end : goal.slice_bounds-kind-end
slice_bounds-kind-end c =
    let a = c.args in
    let n = c.in-Ok.n in
    let e = c.in-Ok.ensures in
    let text = a.text.now in
    let list = a.list.now in
    let accepted : value n ≡ read_xml_answer text list node_limit node_limit node_limit node_limit = e.result_value in
    let found : Taken text list n = taken text list node_limit node_limit node_limit node_limit n (sym accepted) in
    let old : List ℕ = replicate node_limit 0 in
    let kinds : Gives (map (kind_field list) (rows text)) n node_limit c.read_xml.new.kind = column_left text list n found (kind_field list) node_limit old _ found.few e.kind_after in
    kinds.inside

pub slice_bounds-add_table-end-in-Ok : goal.slice_bounds-add_table-end-in-Ok
slice_bounds-add_table-end-in-Ok c =
    let a = c.args in
    let n = c.in-Ok.n in
    let e = c.in-Ok.ensures in
    let text = a.text.now in
    let list = a.list.now in
    let accepted : value n ≡ read_xml_answer text list node_limit node_limit node_limit node_limit = e.result_value in
    let found : Taken text list n = taken text list node_limit node_limit node_limit node_limit n (sym accepted) in
    let old : List ℕ = replicate node_limit 0 in
    let kinds : Gives (map (kind_field list) (rows text)) n node_limit c.read_xml.new.kind = column_left text list n found (kind_field list) node_limit old _ found.few e.kind_after in
    kinds.counts

pub returns-in-Ok : goal.returns-in-Ok
returns-in-Ok c =
    let a = c.args in
    let n = c.in-Ok.n in
    let e = c.in-Ok.ensures in
    let text = a.text.now in
    let list = a.list.now in
    let accepted : value n ≡ read_xml_answer text list node_limit node_limit node_limit node_limit = e.result_value in
    let found : Taken text list n = taken text list node_limit node_limit node_limit node_limit n (sym accepted) in
    let old : List ℕ = replicate node_limit 0 in
    let parents : Gives (map parent_field (rows text)) n node_limit c.read_xml.new.parent = column_left text list n found parent_field node_limit old _ found.few e.parent_after in
    let kinds : Gives (map (kind_field list) (rows text)) n node_limit c.read_xml.new.kind = column_left text list n found (kind_field list) node_limit old _ found.few e.kind_after in
    let same =
    text_read a.view.now list text n accepted
    ∙ sym (ap₂ (λ p k. table_outcome a.view.now (table_of p k)) parents.starts kinds.starts) in
    rw same c.add_table.ensures

pub returns-in-Err : goal.returns-in-Err
returns-in-Err c =
    let a = c.args in
    let e = c.in-Err in
    refusal_adds _ _ _ _ _ _ _ (text_refused a.view.now a.list.now a.text.now e.why e.ensures.result_value)
    (λ v l. omega (arith, c.type_inv.all v)) (λ v l. omega (arith, c.type_inv.kept v)) (λ v l. omega (arith, c.type_inv.hidden v))
    (rw c.number_of.ensures at c.add_refusal.ensures)
