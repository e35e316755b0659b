-- 02, 2026-02: the kept part back to XML. What is written is a function of the tree that the text is: its marked nodes, with the bytes of their texts.
use Rattle.std.specs.Prelude.{ℕ, suc, ◌+◌, ◌-◌, ◌&&◌, cond, List, [], ◌∷◌, ◌++◌, eqb, take, drop}
use Rattle.paper.specs.Tools.{ascii}
use Rattle.paper.specs.Document.{marked}
use Rattle.paper.specs.Xml.{Nodes, nothing, element, chars, count, squares, Judged, wanted, unwanted, read_xml}

-- The nodes that are marked, where the first has number n; with an element all inside it goes.
abbrev pub pruned : List ℕ → ℕ → Nodes → Nodes
pruned marks n nothing = nothing
pruned marks n (element name begin end inside rest) =
    let later = pruned marks (suc n + count inside) rest in
    cond (marked marks n) (element name begin end (pruned marks (suc n) inside) later) later
pruned marks n (chars begin end rest) =
    let later = pruned marks (suc n) rest in cond (marked marks n) (chars begin end later) later

-- The bytes of a text, from its first place to the place past its last.
abbrev pub bytes_at : List ℕ → ℕ → ℕ → List ℕ
bytes_at text begin end = take (end - begin) (drop begin text)

-- How many `]` end what is written, 2 at most, after a byte more and after several.
abbrev pub squares_by : ℕ → ℕ → ℕ
squares_by k b = cond (eqb b 93) (squares k) 0

abbrev pub squares_past : ℕ → List ℕ → ℕ
squares_past k [] = k
squares_past k (b ∷ bs) = squares_past (squares_by k b) bs

-- Bytes of text behind k `]`: unchanged, but a `>` that would end `]]>` is written `&gt;`.
abbrev pub escaped : ℕ → List ℕ → List ℕ
escaped k [] = []
escaped k (b ∷ bs) = cond (eqb b 62 && eqb k 2) (ascii "&gt;" ++ escaped 0 bs) (b ∷ escaped (squares_by k b) bs)

-- Nodes as text, behind k `]`: an element is its start tag, what is inside it and its end tag.
abbrev pub as_xml : List ℕ → ℕ → Nodes → List ℕ
as_xml text k nothing = []
as_xml text k (element name begin end inside rest) =
    60 ∷ name ++ (62 ∷ as_xml text 0 inside ++ (60 ∷ 47 ∷ name ++ (62 ∷ as_xml text 0 rest)))
as_xml text k (chars begin end rest) =
    let bytes = bytes_at text begin end in escaped k bytes ++ as_xml text (squares_past k bytes) rest

-- The kept part of a text: the root, whose number is 0, has no tag.
abbrev pub kept_of : List ℕ → List ℕ → Judged → List ℕ
kept_of text marks (unwanted number place) = []
kept_of text marks (wanted tree) = as_xml text 0 (pruned marks 1 tree)

unfoldable pub kept_xml : List ℕ → List ℕ → List ℕ
kept_xml text marks = kept_of text marks (read_xml text)
