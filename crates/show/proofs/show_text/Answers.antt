-- `show::show_text` meets its contract: the line of a refusal, or what the query shows of the table that was read. Assumes nothing.
use Prim.Native.Nat.{ℕ, ◌+◌}
use native.Mathlib.Omega.{arith}
use mathlib.Core.Path.{◌≡◌, sym, ◌∙◌, ap}
use mathlib.Core.List.{List, map}
use lib.ListN.{replicate}
use Rattle.std.specs.Prelude.{Ok}
use Rattle.paper.specs.Limits.{node_limit}
use Rattle.paper.specs.Xml.{Row}
use Rattle.paper.specs.Answers.{parent_field, kind_field, begin_field, end_field, read_xml_answer, read_xml_column}
use Rattle.paper.specs.Told.{Answer, told}
use Rattle.paper.specs.Sheet.{rows, table_read}
use Rattle.paper.specs.Show.{file_room, text_shows}
use Rattle.paper.proofs.Giving.{Gives}
use Rattle.xml_theorems.proofs.Written.{taken, column_left}
use Rattle.lines.proofs.Reported.{refused_answer, given_part}
use Rattle.show.proofs.show_text.Goals as goal

-- Where the text was read, a column begins with what it has of each node.
column : (text list : List ℕ) (n : ℕ) (said : Answer) (field : Row → ℕ) (out : List ℕ) → said ≡ Ok n
    → told said ≡ read_xml_answer text list node_limit node_limit node_limit node_limit → out ≡ read_xml_column field text (told said) (replicate node_limit 0)
    → Gives (map field (rows text)) n node_limit out
column text list n said field out is e left =
    let found = taken text list node_limit node_limit node_limit node_limit n (sym (ap told (sym is) ∙ e)) in
    let old : List ℕ = replicate node_limit 0 in
    column_left text list n found field node_limit old out found.few (left ∙ ap (λ a. read_xml_column field text (told a) old) is)

pub returns-in_default : goal.returns-in_default
unfolding text_shows
returns-in_default c =
    refused_answer "text" _ _ (file_room + 1) _ _ _ (omega arith) c.read_xml-said.result _ c.in_default.is c.read_xml-said.ensures.result_value c.put_refusal.ensures

pub slice_bounds-parent-end : goal.slice_bounds-parent-end
slice_bounds-parent-end c =
    (column _ c.args.list.now c.in-Ok.n c.read_xml-said.result parent_field _ c.in-Ok.is c.read_xml-said.ensures.result_value c.read_xml-said.ensures.parent_after).inside

pub slice_bounds-kind-end : goal.slice_bounds-kind-end
slice_bounds-kind-end c =
    (column _ c.args.list.now c.in-Ok.n c.read_xml-said.result (kind_field c.args.list.now) _ c.in-Ok.is c.read_xml-said.ensures.result_value c.read_xml-said.ensures.kind_after).inside

pub slice_bounds-begin-end : goal.slice_bounds-begin-end
slice_bounds-begin-end c =
    (column _ c.args.list.now c.in-Ok.n c.read_xml-said.result begin_field _ c.in-Ok.is c.read_xml-said.ensures.result_value c.read_xml-said.ensures.begin_after).inside

pub slice_bounds-end-end : goal.slice_bounds-end-end
slice_bounds-end-end c =
    (column _ c.args.list.now c.in-Ok.n c.read_xml-said.result end_field _ c.in-Ok.is c.read_xml-said.ensures.result_value c.read_xml-said.ensures.end_after).inside

pub show_rows-requires : goal.show_rows-requires
show_rows-requires c =
    let parents = column _ c.args.list.now c.in-Ok.n c.read_xml-said.result parent_field _ c.in-Ok.is c.read_xml-said.ensures.result_value c.read_xml-said.ensures.parent_after in
    omega (arith, parents.counts, parents.fits)

pub returns : goal.returns
unfolding text_shows table_read
returns c =
    let list = c.args.list.now in
    let said = c.read_xml-said in
    given_part "text" _ _ _ _ _ _ _ (ap told (sym c.in-Ok.is) ∙ said.ensures.result_value)
    (rw (
      (column _ list c.in-Ok.n said.result parent_field _ c.in-Ok.is said.ensures.result_value said.ensures.parent_after).starts,
      (column _ list c.in-Ok.n said.result (kind_field list) _ c.in-Ok.is said.ensures.result_value said.ensures.kind_after).starts,
      (column _ list c.in-Ok.n said.result begin_field _ c.in-Ok.is said.ensures.result_value said.ensures.begin_after).starts,
      (column _ list c.in-Ok.n said.result end_field _ c.in-Ok.is said.ensures.result_value said.ensures.end_after).starts,
    ) at c.show_rows.ensures)

pub slice_bounds-show_rows-end : goal.slice_bounds-show_rows-end
slice_bounds-show_rows-end c =
    (column _ c.args.list.now c.in-Ok.n c.read_xml-said.result parent_field _ c.in-Ok.is c.read_xml-said.ensures.result_value c.read_xml-said.ensures.parent_after).counts

pub slice_bounds-show_rows-end-2 : goal.slice_bounds-show_rows-end-2
slice_bounds-show_rows-end-2 c =
    (column _ c.args.list.now c.in-Ok.n c.read_xml-said.result (kind_field c.args.list.now) _ c.in-Ok.is c.read_xml-said.ensures.result_value c.read_xml-said.ensures.kind_after).counts

pub slice_bounds-show_rows-end-3 : goal.slice_bounds-show_rows-end-3
slice_bounds-show_rows-end-3 c =
    (column _ c.args.list.now c.in-Ok.n c.read_xml-said.result begin_field _ c.in-Ok.is c.read_xml-said.ensures.result_value c.read_xml-said.ensures.begin_after).counts

pub slice_bounds-show_rows-end-4 : goal.slice_bounds-show_rows-end-4
slice_bounds-show_rows-end-4 c =
    (column _ c.args.list.now c.in-Ok.n c.read_xml-said.result end_field _ c.in-Ok.is c.read_xml-said.ensures.result_value c.read_xml-said.ensures.end_after).counts
