-- What is counted and what is compared stays right past each piece: what is counted as in reading, and a test tells whether the columns have the piece's line. Assumes nothing.
use Prim.Native.Nat.{ℕ, suc, ◌+◌, ◌-◌, ◌≤◌, ◌<◌}
use native.Mathlib.Omega.{arith}
use mathlib.Core.Path.{◌≡◌, refl, sym, ◌∙◌, ap, subst}
use mathlib.Core.Bool.{Bool, ◌&&◌}
use mathlib.Core.List.{List, [], ◌∷◌, ◌++◌}
use mathlib.Core.Option.{Option, none, some}
use Rattle.std.specs.Prelude.{Option as Given, None, Some}
use lib.ListN.{length, get_or, set}
use Rattle.paper.specs.Told.{found}
use Rattle.paper.specs.Limits.{text_limit}
use Rattle.paper.specs.Names.{names_of, number_of}
use Rattle.paper.specs.Xml.{Nodes, nothing, element, chars, Frame, with, named, Row, row, unnamed}
use Rattle.paper.specs.Xml as xml
use Rattle.xml.specs.Pieces.{name_at, opened}
use Rattle.xml.specs.declared.Cursor.{Cursor}
use Rattle.xml.specs.declared.Piece.{Piece}
use Rattle.xml.specs.declared.Piece.TheVariants.{Start, Empty, End, Text}
use Rattle.xml_lines.specs.Open.{begun, innermost, lines, within, open_in, joined, Moves}
use Rattle.xml_lines.specs.Kept.{Columns}
use Rattle.xml_lines.specs.Judges.{open_limit, Counts}
use Rattle.xml_lines.proofs.Opened.{length_lines}
use Rattle.xml_lines.proofs.Lacking.{lacks_nothing}
use Rattle.read_listed.proofs.Counted.{progress, start_counts, joined_counts, closed_counts}
use Rattle.match_lines.specs.Lines.{LineIs, told, told_at}
use Rattle.line_tests.specs.Telling.{Tells, Has, NamedAt}
use Rattle.match_lines.specs.Compared.{Compares, Standing, Facing}
use Rattle.match_lines.specs.declared.Progress.{Progress}
use Rattle.match_lines.proofs.Agreeing.{told_length, told_joined, told_closed, more_compares, end_compares}

abbrev pub place : ℕ → ℕ → ℕ → ℕ → Bool → Progress
place at depth inner nodes same = record { at = at; depth = depth; inner = inner; nodes = nodes; same = same }

joined_inner : (node : Nodes) (frames : List Frame) → innermost (open_in (joined node frames)) ≡ innermost frames
joined_inner node [] = refl
joined_inner node (f ∷ fs) = refl

-- An option of the definitions as one of the code.
abbrev given : Option ℕ → Given ℕ
given none = None
given (some n) = Some n

found_given : (o : Option ℕ) → found (given o) ≡ o
found_given none = refl
found_given (some n) = refl

-- LINES. A test of one fact is one of another that says the same.
tells_as : {P Q : Type 0} {b : Bool} → Tells b P → (P → Q) → (Q → P) → Tells b Q
tells_as t f g = (λ e. f (t.0 e), λ e q. t.1 e (g q))

module _ (list : List ℕ) (cols : Columns) (n up number first : ℕ) (known : up ≡ number) where
  abbrev look : List ℕ → Option ℕ
  look = number_of (names_of list)

  -- An element that is open, one that ends at once, and a text.
  open_line : (name : List ℕ) (told : ℕ) (check : Bool) → length cols.ends ≡ length cols.parents → told ≡ get_or cols.ends n 0
      → Tells check ((Has cols.parents n up × Has cols.begins n first) × NamedAt look name cols.kinds n) → Tells check (LineIs list cols n (row number (named name) first told))
  open_line name told check long e t =
      tells_as t
      (λ h. record { parent = (h.0.0.0, h.0.0.1 ∙ known); named = h.1.0; kind = h.1.1; begin = h.0.1; end = (omega (arith, h.0.0.0, long), sym e) })
      (λ l. (((l.parent.0, l.parent.1 ∙ sym known), l.begin), (l.named, l.kind)))

  whole_line : (name : List ℕ) (last : ℕ) (check : Bool) → Tells check (((Has cols.parents n up × Has cols.begins n first) × NamedAt look name cols.kinds n) × Has cols.ends n last)
      → Tells check (LineIs list cols n (row number (named name) first last))
  whole_line name last check t =
      tells_as t
      (λ h. record { parent = (h.0.0.0.0, h.0.0.0.1 ∙ known); named = h.0.1.0; kind = h.0.1.1; begin = h.0.0.1; end = h.1 })
      (λ l. ((((l.parent.0, l.parent.1 ∙ sym known), l.begin), (l.named, l.kind)), l.end))

  text_line : (last : ℕ) (check : Bool) → Tells check (((Has cols.parents n up × Has cols.begins n first) × Has cols.kinds n 1) × Has cols.ends n last)
      → Tells check (LineIs list cols n (row number xml.text first last))
  text_line last check t =
      tells_as t
      (λ h. record { parent = (h.0.0.0.0, h.0.0.0.1 ∙ known); named = refl; kind = h.0.1; begin = h.0.0.1; end = h.1 })
      (λ l. ((((l.parent.0, l.parent.1 ∙ sym known), l.begin), l.kind), l.end))

-- The root's line.
pub root_line : (list : List ℕ) (cols : Columns) (long : ℕ) (check : Bool) → Tells check (((Has cols.parents 0 0 × Has cols.begins 0 0) × Has cols.kinds 0 0) × Has cols.ends 0 long)
    → Tells check (LineIs list cols 0 (row 0 xml.root 0 long))
root_line list cols long check t =
    tells_as t
    (λ h. record { parent = h.0.0.0; named = refl; kind = h.0.1; begin = h.0.0.1; end = h.1 })
    (λ l. (((l.parent, l.begin), l.kind), l.end))

-- PIECES. One that a value is, stands next.
pub faced : {text list begins : List ℕ} {cols : Columns} {piece : Piece} {p : Progress} → Facing text list begins cols piece p → {r : Piece} → piece ≡ r → Facing text list begins cols r p
faced {text} {list} {begins} {cols} {piece} {p} h e = subst (λ q. Facing text list begins cols q p) e h

module _ (text list begins : List ℕ) (cols : Columns) (p : Progress) (long : length cols.ends ≡ length cols.parents) where
  abbrev name : List ℕ
  name = name_at text (suc p.at)

  abbrev words : List ℕ → Option ℕ
  words = number_of (names_of list)

  -- There is room for the place of an element more.
  pub start_room : (name_end : ℕ) (next : Cursor) → Facing text list begins cols (Start name_end next) p → length text ≤ text_limit → p.depth < open_limit
  start_room name_end next h short =
      let t = h.moves.1 in omega (arith, t.1, t.2, h.moves.0.inside, h.counts.room, h.counts.depth)

  -- The lines so far are those counted.
  counted : (frames : List Frame) (u : Given ℕ) → Counts words begins frames (lines (length text) frames) (progress p.at p.depth 0 p.nodes u) → p.nodes ≡ begun frames
  counted frames u h = h.nodes ∙ length_lines (length text) frames

  pub start_comes : (name_end : ℕ) (next : Cursor) → Facing text list begins cols (Start name_end next) p → length text ≤ text_limit → (v n : ℕ) → v ≡ p.at → n ≡ p.nodes → (check : Bool)
      → Tells check ((Has cols.parents p.nodes p.inner × Has cols.begins p.nodes p.at) × NamedAt words name cols.kinds p.nodes)
      → Standing text list (set begins p.depth v) cols (place next.at (p.depth + 1) n (p.nodes + 1) (p.same && check)) × (p.at < next.at)
  start_comes name_end next h short v n e number check tells =
      let t = h.moves.1 in
      let frames = h.frames in
      let many = counted frames h.unnamed h.counts in
      let r = row (innermost frames) (named name) p.at (get_or cols.ends (begun frames) 0) in
      let lacking = unnamed words (lines (length text) frames ++ (row (innermost frames) (named name) p.at 0 ∷ [])) in (
        record {
          stand = within (opened name p.at) frames;
          stands = h.moves.0;
          unnamed = given lacking;
          counts =
              start_counts (length text) words begins (progress p.at p.depth 0 p.nodes h.unnamed) frames h.counts name next.at 0 v (given lacking) (omega (arith, t.1, t.2)) (omega (arith, h.moves.0.inside)) e (found_given lacking);
          compares =
              more_compares list cols (told (length text) cols.ends frames) (innermost frames) p.inner p.same h.compares (told (length text) cols.ends (opened name p.at ∷ frames)) r refl check p.nodes
              (many ∙ sym (told_length (length text) cols.ends frames))
              (λ known. open_line list cols p.nodes p.inner (innermost frames) p.at known name (get_or cols.ends (begun frames) 0) check long (ap (λ k. get_or cols.ends k 0) (sym many)) tells) (begun frames) n
              (λ known. number ∙ many);
        },
        omega (arith, t.1, t.2),
      )

  pub empty_comes : (name_end : ℕ) (next : Cursor) → Facing text list begins cols (Empty name_end next) p → (check : Bool)
      → Tells check (((Has cols.parents p.nodes p.inner × Has cols.begins p.nodes p.at) × NamedAt words name cols.kinds p.nodes) × Has cols.ends p.nodes next.at)
      → Standing text list begins cols (place next.at p.depth p.inner (p.nodes + 1) (p.same && check)) × (p.at < next.at)
  empty_comes name_end next h check tells =
      let t = h.moves.1 in
      let frames = h.frames in
      let node = element name p.at next.at nothing nothing in
      let r = row (innermost frames) (named name) p.at next.at in
      let far : p.at < next.at = omega (arith, t.1, t.2) in
      let lacking = unnamed words (lines (length text) frames ++ (r ∷ [])) in (
        record {
          stand = joined node frames;
          stands = h.moves.0;
          unnamed = given lacking;
          counts = joined_counts (length text) words begins (progress p.at p.depth 0 p.nodes h.unnamed) frames h.counts node r refl next.at 0 (given lacking) far (found_given lacking);
          compares =
              more_compares list cols (told (length text) cols.ends frames) (innermost frames) p.inner p.same h.compares (told_at (length text) cols.ends (joined node frames)) r
              (told_joined (length text) cols.ends node frames) check p.nodes (counted frames h.unnamed h.counts ∙ sym (told_length (length text) cols.ends frames))
              (λ known. whole_line list cols p.nodes p.inner (innermost frames) p.at known name next.at check tells) (innermost (open_in (joined node frames))) p.inner (λ known. known ∙ sym (joined_inner node frames));
        },
        far,
      )

  -- An end tag and a run of characters stand inside an element alone.
  end_inside : (next : Cursor) → Facing text list begins cols (End next) p → (0 < p.depth) × (p.at < next.at)
  end_inside next h = go h.frames h.moves h.counts
    where
      go : (frames : List Frame) → Moves text p.at frames (End next) → Counts words begins frames (lines (length text) frames) (progress p.at p.depth 0 p.nodes h.unnamed) → (0 < p.depth) × (p.at < next.at)
      go [] m c = absurd m
      go (f ∷ fs) m c = (omega (arith, c.depth), m.1)

  pub end_open : (next : Cursor) → Facing text list begins cols (End next) p → 0 < p.depth
  end_open next h = (end_inside next h).0

  pub end_far : (next : Cursor) → Facing text list begins cols (End next) p → p.at < next.at
  end_far next h = (end_inside next h).1

  pub end_comes : (next : Cursor) → Facing text list begins cols (End next) p → (up : ℕ) (check : Bool) → Tells check (Has cols.ends p.inner next.at)
      → (p.inner < length cols.parents → up ≡ get_or cols.parents p.inner 0)
      → Standing text list begins cols (place next.at (p.depth - 1) up p.nodes (p.same && check)) × (p.at < next.at)
  end_comes next h up check tells parent = go h.frames h.moves h.counts h.compares
    where
      go : (frames : List Frame) → Moves text p.at frames (End next) → Counts words begins frames (lines (length text) frames) (progress p.at p.depth 0 p.nodes h.unnamed)
          → Compares list cols (told (length text) cols.ends frames) (innermost frames) p.same p.inner
          → Standing text list begins cols (place next.at (p.depth - 1) up p.nodes (p.same && check)) × (p.at < next.at)
      go [] m c l = absurd m
      go (f ∷ fs) m c l =
          let node = element f.name f.begin next.at f.inside nothing in (
            record {
              stand = joined node fs;
              stands = m.0;
              unnamed = h.unnamed;
              counts = closed_counts (length text) words begins (progress p.at p.depth 0 p.nodes h.unnamed) f fs c next.at 0 m.1;
              compares =
                  end_compares list cols (length text) f fs next.at p.inner p.same l (told_at (length text) cols.ends (joined node fs)) (told_closed (length text) cols.ends next.at f fs) check tells
                  (innermost (open_in (joined node fs))) up (λ known there line. parent (omega (arith, known, there)) ∙ ap (λ k. get_or cols.parents k 0) known ∙ line ∙ sym (joined_inner node fs)) long;
            },
            m.1,
          )

  pub text_comes : (next : Cursor) → Facing text list begins cols (Text next) p → (check : Bool)
      → Tells check (((Has cols.parents p.nodes p.inner × Has cols.begins p.nodes p.at) × Has cols.kinds p.nodes 1) × Has cols.ends p.nodes next.at)
      → Standing text list begins cols (place next.at p.depth p.inner (p.nodes + 1) (p.same && check)) × (p.at < next.at)
  text_comes next h check tells = go h.frames h.moves h.counts h.compares
    where
      go : (frames : List Frame) → Moves text p.at frames (Text next) → Counts words begins frames (lines (length text) frames) (progress p.at p.depth 0 p.nodes h.unnamed)
          → Compares list cols (told (length text) cols.ends frames) (innermost frames) p.same p.inner
          → Standing text list begins cols (place next.at p.depth p.inner (p.nodes + 1) (p.same && check)) × (p.at < next.at)
      go [] m c l = absurd m
      go (f ∷ fs) m c l =
          let node = chars p.at next.at nothing in
          let r = row (begun fs) xml.text p.at next.at in (
            record {
              stand = within (with f node) fs;
              stands = m.0;
              unnamed = h.unnamed;
              counts =
                  joined_counts (length text) words begins (progress p.at p.depth 0 p.nodes h.unnamed) (f ∷ fs) c node r refl next.at 0 h.unnamed m.1
                  (c.lacking ∙ lacks_nothing words (lines (length text) (f ∷ fs)) r refl);
              compares =
                  more_compares list cols (told (length text) cols.ends (f ∷ fs)) (begun fs) p.inner p.same l (told_at (length text) cols.ends (joined node (f ∷ fs))) r
                  (told_joined (length text) cols.ends node (f ∷ fs)) check p.nodes (counted (f ∷ fs) h.unnamed c ∙ sym (told_length (length text) cols.ends (f ∷ fs)))
                  (λ known. text_line list cols p.nodes p.inner (begun fs) p.at known next.at check tells) (begun fs) p.inner (λ known. known);
            },
            m.1,
          )
