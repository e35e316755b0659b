-- `halyardfig_write_xml` meets its contract: the code of what `write_xml::write_xml` answers, which is small, and what that writes. Assumes nothing.
use borrow.Author.Rules.{rules}
use Rattle.file_theorems.proofs.Bounds.{write_xml_small}
use Rattle.code.proofs.Coding.{coded}
use Rattle.halyardfig.proofs.halyardfig_write_xml.Statement.{statement}
use Rattle.halyardfig.proofs.halyardfig_write_xml.Tie as tie

write-xml-requires : tie.Need-write_xml-requires
write-xml-requires c κs = search rules

code-requires : tie.Need-code-requires
code-requires c κs = search rules

same_length : tie.Need-shape_of-out
same_length c = search rules

returns : tie.Need-returns
returns c =
    let said = c.write_xml.ensures in
    (coded said.0 (write_xml_small _ _ _ _ _ _ _) c.code.ensures.0, said.1)

pub halyardfig_write_xml_spec : {M : Type 1} → statement M
halyardfig_write_xml_spec = tie.close (tie.spec write-xml-requires code-requires same_length returns)
