-- The promise of `end_tag` leaves one answer: reading stops where the tag ends. Assumes nothing.
use Prim.Native.Nat.{ℕ, suc}
use mathlib.Core.Path.{◌≡◌, refl, sym, ◌∙◌, ap}
use mathlib.Core.List.{List, []}
use Rattle.paper.specs.Xml.{nothing, Frame}
use Rattle.xml_bytes.specs.Seeking.{Sought, stops, refused}
use Rattle.xml_bytes.specs.Promised.{Reach}
use Rattle.xml_bytes.proofs.Telling.{refusal_back, told_back}
use Rattle.std.specs.Prelude.{Ok, Err}
use Rattle.end_tags.specs.Renaming.{name_at, end_took, Ends}

abbrev end_back : Sought → Reach
end_back (stops to s) = Ok to
end_back (refused number place) = Err (refusal_back number place)

end_answer : (f : Frame) (r : Reach) → end_back (end_took f [] r) ≡ r
end_answer f (Ok to) = refl
end_answer f (Err why) = ap Err (told_back why)

pub end_unique : (text : List ℕ) (at inner : ℕ) (r s : Reach) → Ends text at inner r → Ends text at inner s → r ≡ s
end_unique text at inner r s p q =
    let f : Frame = record { name = name_at text (suc inner); begin = 0; inside = nothing } in
    sym (end_answer f r) ∙ ap end_back (sym (p.goes f [] refl) ∙ q.goes f [] refl) ∙ end_answer f s
