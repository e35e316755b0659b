-- `halyardfig_read_xml` meets its contract: the code of what `read_xml::read_xml` answers, which is small, and what that writes. Assumes nothing.
use Rattle.code.proofs.Coding.{coded}
use Rattle.halyardfig.proofs.halyardfig_read_xml.Statement.{statement}
use Rattle.halyardfig.proofs.halyardfig_read_xml.Tie as tie
use Rattle.paper.specs.Answers.{read_xml_column, parent_field, kind_field, begin_field, end_field}
use Rattle.xml_theorems.proofs.Bounds.{read_xml_small}
use borrow.Author.Rules.{rules}
use mathlib.Core.Path.{◌∙◌, ap}

-- Where the function began, and what the call promised.
abbrev begun : tie.After-read_xml → tie.Start
begun c = c.before.before.before.before.before.before.before.before.before.before.before

read-xml-requires : tie.Need-read_xml-requires
read-xml-requires c κs = search rules

code-requires : tie.Need-code-requires
code-requires c κs = search rules

same_length : tie.Need-shape_of-parent
same_length c = search rules

same-length-2 : tie.Need-shape_of-kind
same-length-2 c = search rules

same-length-3 : tie.Need-shape_of-begin
same-length-3 c = search rules

same-length-4 : tie.Need-shape_of-end
same-length-4 c = search rules

returns : tie.Need-returns
returns c =
    let call = c in
    let said = call.read_xml.ensures in
    let a = (begun call.before.before.before.before.before.before.before.before.before).args in (
      coded said.0 (read_xml_small _ _ _ _ _ _) c.code.ensures.0,
      (
        said.1.0 ∙ ap (λ answer. read_xml_column parent_field a.text.now answer a.parent.now) said.0,
        (
          said.1.1.0 ∙ ap (λ answer. read_xml_column (kind_field a.names.now) a.text.now answer a.kind.now) said.0,
          (
            said.1.1.1.0 ∙ ap (λ answer. read_xml_column begin_field a.text.now answer a.begin.now) said.0,
            said.1.1.1.1 ∙ ap (λ answer. read_xml_column end_field a.text.now answer a.end.now) said.0,
          ),
        ),
      ),
    )

pub halyardfig_read_xml_spec : {M : Type 1} → statement M
halyardfig_read_xml_spec =
    tie.close
    (tie.spec
    read-xml-requires
    code-requires
    same_length
    same-length-2
    same-length-3
    same-length-4
    returns)
