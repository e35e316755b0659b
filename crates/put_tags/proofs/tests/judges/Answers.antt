-- The text is an element alone, and its columns and marks are those of its two nodes.
use Rattle.std.proofs.Common.{[], ◌∷◌, refl, sym, subst, arith}
use Rattle.paper.specs.Document.{marks_fault, good_mark, over}
use Rattle.paper.specs.Names.{names_of}
use Rattle.paper.specs.Xml.{read_xml, left_out, element, nothing}
use Rattle.put_tags.specs.Lending.{IsLent, Lent}
use Rattle.put_tags.proofs.tests.judges.Goals as goal

lent : Lent (60 ∷ 97 ∷ 47 ∷ 62 ∷ []) (0 ∷ 0 ∷ []) (0 ∷ 2 ∷ []) (0 ∷ 0 ∷ []) (4 ∷ 4 ∷ []) (1 ∷ 1 ∷ [])
unfolding read_xml left_out names_of marks_fault good_mark over
lent =
    record {
      list = [];
      tree = element (97 ∷ []) 0 4 nothing nothing;
      read = refl;
      columns = refl;
      begins_at = refl;
      ends_at = refl;
      marks_long = refl;
      marks_fine = refl;
      text_short = omega arith;
      few = omega arith;
    }

pub judged-marked-requires : goal.judged-marked-requires
judged-marked-requires g c = subst IsLent (sym c.new-given.ensures) lent
