-- The promises of `take`, `root` and `finish` leave one answer: where reading stands past a piece gives back the piece, inside an empty element or as the one element.
-- Assumes nothing.
use Prim.Native.Nat.{ℕ, suc, ◌+◌}
use mathlib.Core.Path.{◌≡◌, refl, sym, ◌∙◌, ap}
use mathlib.Core.List.{List, [], ◌∷◌}
use Rattle.std.specs.Prelude.{Ok, Err}
use lib.ListN.{length, drop}
use Rattle.paper.specs.Tools.{run_of}
use Rattle.paper.specs.Names.{name_part}
use Rattle.paper.specs.Xml.{Nodes, nothing, element, chars, Frame, Mode, start, first, heading, ahead, opening, in_name, in_tag, emptied, content, run, partly, closing, ended, Judged, wanted, unwanted}
use Rattle.xml_bytes.specs.Seeking.{Sought, stops, refused}
use Rattle.end_tags.specs.Renaming.{name_at}
use Rattle.xml.specs.Pieces.{Taken, opened, took, TookBounds, Takes, tag_took, TagBounds, Roots, finished, FinishBounds, Finishes}
use Rattle.xml.specs.declared.Cursor.{Cursor}
use Rattle.xml_bytes.specs.Promised.{Reach}
use Rattle.xml_bytes.proofs.Telling.{refusal_back, told_back}
use Rattle.xml.specs.declared.Piece.{Piece}
use Rattle.xml.specs.declared.Piece.TheVariants.{Start, Empty, End, Text}

-- The place past a piece as a cursor.
abbrev cursor : ℕ → Cursor
cursor at = record { at = at }

-- What was read inside the one element says which piece it was.
abbrev inner_piece : ℕ → ℕ → Nodes → Piece
inner_piece name_end to nothing = Text (cursor to)
inner_piece name_end to (element name begin end inside rest) = Empty name_end (cursor to)
inner_piece name_end to (chars begin end rest) = Text (cursor to)

abbrev open_piece : ℕ → ℕ → List Frame → Piece
open_piece name_end to [] = Text (cursor to)
open_piece name_end to (f ∷ []) = inner_piece name_end to f.inside
open_piece name_end to (f ∷ g ∷ fs) = Start name_end (cursor to)

abbrev piece_by : ℕ → ℕ → List Frame → Mode → Piece
piece_by name_end to frames start = Text (cursor to)
piece_by name_end to frames first = Text (cursor to)
piece_by name_end to frames (heading p) = Text (cursor to)
piece_by name_end to frames ahead = Text (cursor to)
piece_by name_end to frames (opening begin) = Text (cursor to)
piece_by name_end to frames (in_name begin name) = Text (cursor to)
piece_by name_end to frames (in_tag begin name) = Text (cursor to)
piece_by name_end to frames (emptied begin name) = Text (cursor to)
piece_by name_end to frames content = open_piece name_end to frames
piece_by name_end to frames (run begin k) = Text (cursor to)
piece_by name_end to frames (partly begin p) = Text (cursor to)
piece_by name_end to frames (closing name) = Text (cursor to)
piece_by name_end to frames (ended tree) = End (cursor to)

-- The piece that was taken, by where reading stands.
abbrev back : ℕ → Sought → Taken
back name_end (stops to s) = Ok (piece_by name_end to s.frames s.mode)
back name_end (refused number place) = Err (refusal_back number place)

-- An element with nothing inside.
abbrev bare : List ℕ → ℕ → Frame
bare text inner = opened (name_at text (suc inner)) 0

answer : (text : List ℕ) (at inner : ℕ) (r : Taken) → TookBounds text at r → back (suc at + run_of name_part (drop (suc at) text)) (took text at (bare text inner) [] r) ≡ r
answer text at inner (Ok (Start end next)) b = ap (λ n. Ok (Start n next)) (sym b.0)
answer text at inner (Ok (Empty end next)) b = ap (λ n. Ok (Empty n next)) (sym b.0)
answer text at inner (Ok (End next)) b = refl
answer text at inner (Ok (Text next)) b = refl
answer text at inner (Err why) b = ap Err (told_back why)

pub take_unique : (text : List ℕ) (at inner : ℕ) (r s : Taken) → Takes text at inner r → Takes text at inner s → r ≡ s
take_unique text at inner r s p q =
    sym (answer text at inner r p.bounds)
    ∙ ap (back (suc at + run_of name_part (drop (suc at) text))) (sym (p.goes (bare text inner) [] refl) ∙ q.goes (bare text inner) [] refl)
    ∙ answer text at inner s q.bounds

-- THE ONE ELEMENT. It is open past its start tag, or read.
abbrev root_by : ℕ → ℕ → Mode → Piece
root_by name_end to start = Text (cursor to)
root_by name_end to first = Text (cursor to)
root_by name_end to (heading p) = Text (cursor to)
root_by name_end to ahead = Text (cursor to)
root_by name_end to (opening begin) = Text (cursor to)
root_by name_end to (in_name begin name) = Text (cursor to)
root_by name_end to (in_tag begin name) = Text (cursor to)
root_by name_end to (emptied begin name) = Text (cursor to)
root_by name_end to content = Start name_end (cursor to)
root_by name_end to (run begin k) = Text (cursor to)
root_by name_end to (partly begin p) = Text (cursor to)
root_by name_end to (closing name) = Text (cursor to)
root_by name_end to (ended tree) = Empty name_end (cursor to)

abbrev root_back : ℕ → Sought → Taken
root_back name_end (stops to s) = Ok (root_by name_end to s.mode)
root_back name_end (refused number place) = Err (refusal_back number place)

root_answer : (name_end most begin : ℕ) (name : List ℕ) (r : Taken) → TagBounds name_end most r → root_back name_end (tag_took begin name [] r) ≡ r
root_answer name_end most begin name (Ok (Start end next)) b = ap (λ n. Ok (Start n next)) (sym b.0)
root_answer name_end most begin name (Ok (Empty end next)) b = ap (λ n. Ok (Empty n next)) (sym b.0)
root_answer name_end most begin name (Ok (End next)) b = absurd b
root_answer name_end most begin name (Ok (Text next)) b = absurd b
root_answer name_end most begin name (Err why) b = ap Err (told_back why)

pub root_unique : (text : List ℕ) (at : ℕ) (r s : Taken) → Roots text at r → Roots text at s → r ≡ s
root_unique text at r s p q =
    let name_end = suc at + run_of name_part (drop (suc at) text) in
    sym (root_answer name_end (length text) at (name_at text (suc at)) r p.bounds) ∙ ap (root_back name_end) (sym p.goes ∙ q.goes)
    ∙ root_answer name_end (length text) at (name_at text (suc at)) s q.bounds

-- THE END. The judgement says how it was left.
abbrev finish_back : ℕ → Judged → Reach
finish_back most (wanted tree) = Ok most
finish_back most (unwanted number place) = Err (refusal_back number place)

finish_answer : (most : ℕ) (r : Reach) → FinishBounds most r → finish_back most (finished nothing r) ≡ r
finish_answer most (Ok end) b = ap Ok (sym b)
finish_answer most (Err why) b = ap Err (told_back why)

pub finish_unique : (text : List ℕ) (at : ℕ) (r s : Reach) → Finishes text at r → Finishes text at s → r ≡ s
finish_unique text at r s p q =
    sym (finish_answer (length text) r p.bounds) ∙ ap (finish_back (length text)) (sym (p.goes nothing) ∙ q.goes nothing) ∙ finish_answer (length text) s q.bounds
