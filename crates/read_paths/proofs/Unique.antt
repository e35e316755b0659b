-- Reading the paths of a text leaves one answer, and where the text is read and there is room for its items one content of the output. Assumes nothing.
use Prim.Native.Nat.{ℕ, ◌≤◌}
use native.Mathlib.Omega.{arith}
use mathlib.Core.Path.{◌≡◌, refl, sym, ◌∙◌, ap, ap₂}
use mathlib.Core.Bool.{cond}
use mathlib.Core.List.{List, [], ◌++◌}
use lib.Dec.{eqb}
use lib.ListN.{length, take, drop, take-append-drop}
use lib.Seq.{length-take-le}
use Rattle.paper.specs.Limits.{item_limit}
use Rattle.paper.specs.Tokens.{Placed}
use Rattle.paper.specs.Query.{Query}
use Rattle.paper.specs.Items.{encode}
use Rattle.paper.specs.Reading.{Got, got, refused}
use Rattle.read_paths.specs.declared.Part.{Part}
use Rattle.std.specs.Prelude.{Result, Ok, Err}
use Rattle.paper.specs.declared.Refusal.{Refusal}
use Rattle.paper.specs.Answers.{value, refusal, line_got}
use Rattle.paper.specs.Answers.{Answer as Told}
use Rattle.paper.specs.declared.Refusal.TheVariants.{TooLong, BadName, NoQuery, TooDeep, UnknownName, BadQuery, BadTable, BadMarks, TooNested, Short, NoXml, LeftOut, NoElement, OtherText, NoRole, NoView, UnreadView, Unreadable}
use Rattle.paper.specs.Told.{told_refusal}
use Rattle.heads.specs.Heads.{Refused}
use Rattle.read_paths.specs.Parts.{Stops, ReadsAll}

-- The refusal of this number and place.
abbrev of_told : Told → Refusal
of_told (value n) = Unreadable
of_told (refusal number place) =
    cond (eqb number 1) TooLong
    (cond (eqb number 2) (BadName place)
    (cond (eqb number 3) (NoQuery place)
    (cond (eqb number 4) (TooDeep place)
    (cond (eqb number 5) (UnknownName place)
    (cond (eqb number 6) (BadQuery place)
    (cond (eqb number 7) (BadTable place)
    (cond (eqb number 8) (BadMarks place)
    (cond (eqb number 9) (TooNested place)
    (cond (eqb number 10) (Short place)
    (cond (eqb number 11) (NoXml place)
    (cond (eqb number 12) (LeftOut place)
    (cond (eqb number 13) NoElement
    (cond (eqb number 14) OtherText
    (cond (eqb number 15) (NoRole place) (cond (eqb number 16) (NoView place) (cond (eqb number 17) (UnreadView place) Unreadable))))))))))))))))

of_told_told : (why : Refusal) → of_told (told_refusal why) ≡ why
of_told_told TooLong = refl
of_told_told (BadName place) = refl
of_told_told (NoQuery place) = refl
of_told_told (TooDeep place) = refl
of_told_told (UnknownName place) = refl
of_told_told (BadQuery place) = refl
of_told_told (BadTable place) = refl
of_told_told (BadMarks place) = refl
of_told_told (TooNested place) = refl
of_told_told (Short place) = refl
of_told_told (NoXml place) = refl
of_told_told (LeftOut place) = refl
of_told_told NoElement = refl
of_told_told OtherText = refl
of_told_told (NoRole place) = refl
of_told_told (NoView place) = refl
of_told_told (UnreadView place) = refl
of_told_told Unreadable = refl

-- One outcome is refused in one way.
told_once : (o : Got Query) (why : Refusal) → Refused o why → told_refusal why ≡ line_got o (λ q. value 0)
told_once o why r = r.told ∙ rw r.is

same_refusal : (o : Got Query) (a b : Refusal) → Refused o a → Refused o b → a ≡ b
same_refusal o a b p q = sym (of_told_told a) ∙ ap of_told (told_once o a p ∙ sym (told_once o b q)) ∙ of_told_told b

-- What outcomes that are equal tell.
never {ℓ} : {X : Type ℓ} (q : Query) (left : List Placed) (n place : ℕ) → got q left ≡ refused n place → X
never q left n place e = absurd (let z : ◌≡◌ {A = ℕ} 0 1 = cc in omega arith)

same_query : (q r : Query) (left left' : List Placed) → got q left ≡ got r left' → q ≡ r
same_query q r left left' e = cc

module _ (text old new old' new' : List ℕ) (o : Got Query) where
  pub reads_unique : (r s : Result Part Refusal) → ReadsAll old new o r → ReadsAll old' new' o s → Stops text r → Stops text s → r ≡ s
  reads_unique (Ok part) (Ok part') h k a b =
      let q : h.what ≡ k.what = same_query h.what k.what h.left k.left (sym h.reads ∙ k.reads) in
      ap₂ (λ (n end : ℕ). Ok (record { next = record { at = n }; end = end })) (a ∙ sym b) (h.ends ∙ ap (λ (x : Query). length (encode x)) q ∙ sym k.ends)
  reads_unique (Ok part) (Err why) h k a b = never h.what h.left k.number k.place (sym h.reads ∙ k.is)
  reads_unique (Err why) (Ok part) h k a b = never k.what k.left h.number h.place (sym k.reads ∙ h.is)
  reads_unique (Err why) (Err why') h k a b = ap Err (same_refusal o why why' h k)

-- The items stand at the start, and all behind them is as it was.
module _ (old new : List ℕ) (o : Got Query) (q : Query) (left : List Placed) (reads : o ≡ got q left) (small : length (encode q) ≤ item_limit) (fits : length (encode q) ≤ length old) where
  pub reads_left : (r : Result Part Refusal) → ReadsAll old new o r → new ≡ encode q ++ drop (length (encode q)) old
  reads_left (Ok part) h =
      let items : encode h.what ≡ encode q = ap encode (same_query h.what q h.left left (sym h.reads ∙ reads)) in
      let n = length (encode q) in
      h.wrote.puts [] (take n old) (drop n old) (sym (take-append-drop n old)) refl (length-take-le n old fits ∙ ap length (sym items)) (omega (arith, ap length items, small)) ∙
      ap (λ (x : List ℕ). x ++ drop n old) items
  reads_left (Err why) h = never q left h.number h.place (sym reads ∙ h.is)
