-- What is counted and what is kept stays right past each piece: the lines grow by one, or an element's end is told. Assumes nothing.
use Prim.Native.Nat.{ℕ, suc, ◌+◌, ◌-◌, ◌≤◌, ◌<◌}
use native.Mathlib.Omega.{arith}
use mathlib.Core.Path.{◌≡◌, refl, sym, ◌∙◌, ap, subst}
use mathlib.Core.List.{List, [], ◌∷◌, ◌++◌}
use mathlib.Core.Bool.{cond}
use mathlib.Core.Option.{Option, some}
use Rattle.std.specs.Prelude.{Option as Given}
use lib.ListN.{length, get_or, set, length-append, length-set}
use lib.Seq.{get_or-set_same, get_or-set_other}
use Rattle.paper.specs.Told.{found}
use Rattle.paper.specs.Limits.{text_limit, node_limit}
use Rattle.paper.specs.Names.{names_of, number_of}
use Rattle.paper.specs.Xml.{Nodes, nothing, element, chars, Frame, with, named, What, Row, row, rows, name_kind, lacks, unnamed}
use Rattle.paper.specs.Xml as xml
use Rattle.paper.specs.Answers.{parent_field, kind_field, begin_field, end_field}
use Rattle.xml.specs.Pieces.{name_at, opened}
use Rattle.xml.specs.declared.Cursor.{Cursor}
use Rattle.xml.specs.declared.Piece.{Piece}
use Rattle.xml.specs.declared.Piece.TheVariants.{Start, Empty, End, Text}
use Rattle.xml_lines.specs.Open.{begun, innermost, lines, within, open_in, so_far, joined, Moves}
use Rattle.xml_lines.specs.Kept.{Columns, columns, line_set, Filled}
use Rattle.xml_lines.specs.Judges.{open_limit, Kept, Counts, Lined, Standing, Facing}
use Rattle.xml_lines.specs.declared.Progress.{Progress}
use Rattle.xml_lines.proofs.Lacking.{lacks_nothing}
use Rattle.xml_lines.proofs.Opened.{length_lines, joined_lines, closed_lines, length_ending}
use Rattle.xml_lines.proofs.Filling.{filled_more, filled_end, parent_there}

-- A place kept behind those of the open elements.
kept_set : (begins : List ℕ) (i v : ℕ) (fs : List Frame) → length fs ≤ i → Kept begins fs → Kept (set begins i v) fs
kept_set begins i v [] l h = tt
kept_set begins i v (f ∷ fs) l h = (get_or-set_other begins i (length fs) v 0 (λ e. omega arith) ∙ h.0, kept_set begins i v fs (omega arith) h.1)

joined_kept : (begins : List ℕ) (node : Nodes) (frames : List Frame) → Kept begins frames → Kept begins (open_in (joined node frames))
joined_kept begins node [] h = h
joined_kept begins node (f ∷ fs) h = h

joined_open : (node : Nodes) (frames : List Frame) → length (open_in (joined node frames)) ≡ length frames
joined_open node [] = refl
joined_open node (f ∷ fs) = refl

-- Where an element ends says nothing of its name.
same_lacking : (look : List ℕ → Option ℕ) (xs rs : List Row) (up begin a b : ℕ) (what : What)
    → unnamed look (xs ++ (row up what begin a ∷ rs)) ≡ unnamed look (xs ++ (row up what begin b ∷ rs))
same_lacking look [] rs up begin a b what = refl
same_lacking look (x ∷ xs) rs up begin a b what = ap (cond (lacks look x.what) (some (suc x.begin))) (same_lacking look xs rs up begin a b what)

abbrev pub progress : ℕ → ℕ → ℕ → ℕ → Given ℕ → Progress
progress at depth inner nodes unnamed = record { at = at; depth = depth; inner = inner; nodes = nodes; unnamed = unnamed }

module _ (long : ℕ) (look : List ℕ → Option ℕ) (begins : List ℕ) (p : Progress) where
  -- A start tag.
  pub start_counts : (frames : List Frame) → Counts look begins frames (lines long frames) p → (name : List ℕ) (next inner v : ℕ) (u : Given ℕ) → p.at + 3 ≤ next → next ≤ text_limit → v ≡ p.at
      → found u ≡ unnamed look (lines long frames ++ (row (innermost frames) (named name) p.at 0 ∷ []))
      → Counts look (set begins p.depth v) (opened name p.at ∷ frames) (lines long (opened name p.at ∷ frames)) (progress next (p.depth + 1) inner (p.nodes + 1) u)
  start_counts frames h name next inner v u far most e lacks =
      let n = length-append (lines long frames) (row (innermost frames) (named name) p.at 0 ∷ []) in
      let d = h.depth in
      let room : p.depth < length begins = omega (arith, h.room, h.long, d) in
      record {
        long = length-set begins p.depth v ∙ h.long;
        depth = omega (arith, d);
        kept = (ap (λ k. get_or (set begins p.depth v) k 0) (sym d) ∙ get_or-set_same begins p.depth v 0 room ∙ e, kept_set begins p.depth v frames (omega (arith, d)) h.kept);
        nodes = omega (arith, h.nodes, n);
        lacking = lacks;
        room = omega (arith, h.room);
        few = omega (arith, h.few, n);
      }

  -- One line more.
  pub joined_counts : (frames : List Frame) → Counts look begins frames (lines long frames) p → (node : Nodes) (r : Row) → rows (innermost frames) (begun frames) node ≡ r ∷ [] → (next inner : ℕ) (u : Given ℕ) → p.at < next
      → found u ≡ unnamed look (lines long frames ++ (r ∷ [])) → Counts look begins (open_in (joined node frames)) (so_far long (joined node frames)) (progress next p.depth inner (p.nodes + 1) u)
  joined_counts frames h node r one next inner u far lacks =
      let same : so_far long (joined node frames) ≡ lines long frames ++ (r ∷ []) = joined_lines long node frames ∙ ap (λ l. lines long frames ++ l) one in
      let n : length (so_far long (joined node frames)) ≡ suc (length (lines long frames)) = ap length same ∙ omega (arith, length-append (lines long frames) (r ∷ [])) in
      let o = joined_open node frames in
      record {
        long = h.long;
        depth = h.depth ∙ sym o;
        kept = joined_kept begins node frames h.kept;
        nodes = omega (arith, h.nodes, n);
        lacking = lacks ∙ ap (unnamed look) (sym same);
        room = omega (arith, h.room, o);
        few = omega (arith, h.few, n);
      }

  -- An end tag.
  pub closed_counts : (f : Frame) (fs : List Frame) → Counts look begins (f ∷ fs) (lines long (f ∷ fs)) p → (next inner : ℕ) → p.at < next
      → Counts look begins (open_in (joined (element f.name f.begin next f.inside nothing) fs)) (so_far long (joined (element f.name f.begin next f.inside nothing) fs))
      (progress next (p.depth - 1) inner p.nodes p.unnamed)
  closed_counts f fs h next inner far =
      let node = element f.name f.begin next f.inside nothing in
      let inside = rows (begun fs) (suc (begun fs)) f.inside in
      let same = closed_lines long next f fs in
      let n : length (so_far long (joined node fs)) ≡ length (lines long (f ∷ fs)) = ap length same ∙ length_ending long next f fs ∙ sym (length_ending long 0 f fs) in
      let o = joined_open node fs in
      record {
        long = h.long;
        depth = omega (arith, h.depth, o);
        kept = joined_kept begins node fs h.kept.1;
        nodes = omega (arith, h.nodes, n);
        lacking =
            h.lacking ∙ same_lacking look (lines long fs) inside (innermost fs) f.begin 0 next (named f.name) ∙ ap (unnamed look) (sym same);
        room = omega (arith, h.room, o);
        few = omega (arith, h.few, n);
      }

-- LINES. What is kept past each piece.
joined_inner : (node : Nodes) (frames : List Frame) → innermost (open_in (joined node frames)) ≡ innermost frames
joined_inner node [] = refl
joined_inner node (f ∷ fs) = refl

module _ (long : ℕ) (list : List ℕ) (cols new : Columns) (p : Progress) where
  -- A line more.
  more_lined : (frames : List Frame) → Lined list (lines long frames) (innermost frames) cols p.inner → p.nodes ≡ length (lines long frames) → (rows : List Row) (number inner : ℕ) (r : Row) → rows ≡ lines long frames ++ (r ∷ [])
      → (k b e : ℕ) → innermost frames ≡ parent_field r → k ≡ kind_field list r → b ≡ begin_field r → e ≡ end_field r → (p.nodes < node_limit → new ≡ line_set p.nodes p.inner k b e cols)
      → (p.inner ≡ innermost frames → inner ≡ number) → Lined list rows number new inner
  more_lined frames h n rows number inner r same k b e hp hk hb he wrote leads few =
      let many = length-append (lines long frames) (r ∷ []) in
      let room : p.nodes < node_limit = omega (arith, ap length same, few) in
      let before = h (omega (arith, room)) in (
        subst (Filled list rows) (sym (wrote room))
            (subst (λ l. Filled list l (line_set p.nodes p.inner k b e cols)) (sym same) (filled_more list cols (lines long frames) before.0 r p.nodes p.inner k b e n room (before.1 ∙ hp) hk hb he)),
        leads before.1,
      )

  -- An end told.
  end_lined : (f : Frame) (fs : List Frame) → Lined list (lines long (f ∷ fs)) (innermost (f ∷ fs)) cols p.inner → (next up : ℕ)
      → (p.inner < node_limit → (new ≡ columns cols.parents cols.kinds cols.begins (set cols.ends p.inner next)) × (up ≡ get_or cols.parents p.inner 0))
      → let node = element f.name f.begin next f.inside nothing in Lined list (so_far long (joined node fs)) (innermost (open_in (joined node fs))) new up
  end_lined f fs h next up told few =
      let node = element f.name f.begin next f.inside nothing in
      let same = closed_lines long next f fs in
      let n = length_lines long (f ∷ fs) in
      let before = h (omega (arith, ap length same, length_ending long next f fs, n, few)) in
      let i : p.inner ≡ begun fs = before.1 in
      let wrote = told (omega (arith, i, ap length same, length_ending long next f fs, few)) in (
        subst (Filled list (so_far long (joined node fs))) (sym wrote.0)
            (subst (λ l. Filled list l (columns cols.parents cols.kinds cols.begins (set cols.ends p.inner next))) (sym same) (filled_end list cols long f fs before.0 p.inner next _ i refl)),
        wrote.1 ∙ ap (λ k. get_or cols.parents k 0) i ∙ parent_there list cols long f fs before.0 ∙ sym (joined_inner node fs),
      )

-- PIECES. One that a value is, stands next.
pub faced : {text list begins : List ℕ} {cols : Columns} {piece : Piece} {p : Progress} → Facing text list begins cols piece p → {r : Piece} → piece ≡ r → Facing text list begins cols r p
faced {text} {list} {begins} {cols} {piece} {p} h e = subst (λ q. Facing text list begins cols q p) e h

-- Where they end, and that there is room for them.
module _ (text list begins : List ℕ) (cols : Columns) (p : Progress) where
  -- There is room for the place of an element more.
  pub start_room : (name_end : ℕ) (next : Cursor) → Facing text list begins cols (Start name_end next) p → length text ≤ text_limit → p.depth < open_limit
  start_room name_end next h short =
      let t = h.moves.1 in omega (arith, t.1, t.2, h.moves.0.inside, h.counts.room, h.counts.depth)

  -- Where an end tag stands an element is open, and it ends within the text.
  pub end_inside : (next : Cursor) → Facing text list begins cols (End next) p → (0 < p.depth) × (next.at ≤ length text)
  end_inside next h = go h.frames h.moves h.counts
    where
      go : (frames : List Frame) → Moves text p.at frames (End next) → Counts (number_of (names_of list)) begins frames (lines (length text) frames) p → (0 < p.depth) × (next.at ≤ length text)
      go [] m c = absurd m
      go (f ∷ fs) m c = (omega (arith, c.depth), m.0.inside)

  -- A run of characters ends within the text.
  pub text_inside : (next : Cursor) → Facing text list begins cols (Text next) p → next.at ≤ length text
  text_inside next h = go h.frames h.moves
    where
      go : (frames : List Frame) → Moves text p.at frames (Text next) → next.at ≤ length text
      go [] m = absurd m
      go (f ∷ fs) m = m.0.inside

-- What was promised of the first name that is lacking, with a start tag more.
abbrev pub Lacks : (List ℕ → Option ℕ) → List ℕ → ℕ → Given ℕ → Given ℕ → Type 0
Lacks look name begin before u =
    (rows : List Row) (up end : ℕ) → found before ≡ unnamed look rows → found u ≡ unnamed look (rows ++ (row up (named name) begin end ∷ []))

module _ (text list begins : List ℕ) (cols new : Columns) (p : Progress) where
  abbrev look : List ℕ → Option ℕ
  look = number_of (names_of list)

  -- The name of the tag that stands next.
  abbrev name : List ℕ
  name = name_at text (suc p.at)

  pub start_comes : (name_end : ℕ) (next : Cursor) → Facing text list begins cols (Start name_end next) p → length text ≤ text_limit → (u : Given ℕ) (v n k : ℕ) → v ≡ p.at → n ≡ p.nodes → Lacks look name p.at p.unnamed u
      → k ≡ name_kind (look name) → (p.nodes < node_limit → new ≡ line_set p.nodes p.inner k p.at 0 cols)
      → Standing text list (set begins p.depth v) new (progress next.at (p.depth + 1) n (p.nodes + 1) u) × (p.at < next.at)
  start_comes name_end next h short u v n k e number lacks kind wrote =
      let t = h.moves.1 in
      let same = length_lines (length text) h.frames in (
        record {
          stand = within (opened name p.at) h.frames;
          stands = h.moves.0;
          counts =
              start_counts (length text) look begins p h.frames h.counts name next.at n v u (omega (arith, t.1, t.2)) (omega (arith, h.moves.0.inside)) e
              (lacks (lines (length text) h.frames) (innermost h.frames) 0 h.counts.lacking);
          lined =
              more_lined (length text) list cols new p h.frames h.lined h.counts.nodes (lines (length text) (opened name p.at ∷ h.frames)) (begun h.frames) n (row (innermost h.frames) (named name) p.at 0) refl k p.at 0 refl
              kind refl refl wrote (λ i. number ∙ h.counts.nodes ∙ same);
        },
        omega (arith, t.1, t.2),
      )

  pub empty_comes : (name_end : ℕ) (next : Cursor) → Facing text list begins cols (Empty name_end next) p → (u : Given ℕ) (k : ℕ) → Lacks look name p.at p.unnamed u
      → k ≡ name_kind (look name) → (p.nodes < node_limit → new ≡ line_set p.nodes p.inner k p.at next.at cols)
      → Standing text list begins new (progress next.at p.depth p.inner (p.nodes + 1) u) × (p.at < next.at)
  empty_comes name_end next h u k lacks kind wrote =
      let t = h.moves.1 in
      let node = element name p.at next.at nothing nothing in
      let r = row (innermost h.frames) (named name) p.at next.at in
      let far : p.at < next.at = omega (arith, t.1, t.2) in (
        record {
          stand = joined node h.frames;
          stands = h.moves.0;
          counts =
              joined_counts (length text) look begins p h.frames h.counts node r refl next.at p.inner u far
              (lacks (lines (length text) h.frames) (innermost h.frames) next.at h.counts.lacking);
          lined =
              more_lined (length text) list cols new p h.frames h.lined h.counts.nodes (so_far (length text) (joined node h.frames)) (innermost (open_in (joined node h.frames))) p.inner r
              (joined_lines (length text) node h.frames) k p.at next.at refl kind refl refl wrote (λ i. i ∙ sym (joined_inner node h.frames));
        },
        far,
      )

  -- An end tag and a run of characters stand inside an element alone.
  pub end_comes : (next : Cursor) → Facing text list begins cols (End next) p → (up : ℕ)
      → (p.inner < node_limit → (new ≡ columns cols.parents cols.kinds cols.begins (set cols.ends p.inner next.at)) × (up ≡ get_or cols.parents p.inner 0))
      → Standing text list begins new (progress next.at (p.depth - 1) up p.nodes p.unnamed) × (p.at < next.at)
  end_comes next h up told = go h.frames h.moves h.counts h.lined
    where
      go : (frames : List Frame) → Moves text p.at frames (End next) → Counts look begins frames (lines (length text) frames) p → Lined list (lines (length text) frames) (innermost frames) cols p.inner
          → Standing text list begins new (progress next.at (p.depth - 1) up p.nodes p.unnamed) × (p.at < next.at)
      go [] m c l = absurd m
      go (f ∷ fs) m c l = (
        record {
          stand = joined (element f.name f.begin next.at f.inside nothing) fs;
          stands = m.0;
          counts = closed_counts (length text) look begins p f fs c next.at up m.1;
          lined = end_lined (length text) list cols new p f fs l next.at up told;
        },
        m.1,
      )

  pub text_comes : (next : Cursor) → Facing text list begins cols (Text next) p → (p.nodes < node_limit → new ≡ line_set p.nodes p.inner 1 p.at next.at cols)
      → Standing text list begins new (progress next.at p.depth p.inner (p.nodes + 1) p.unnamed) × (p.at < next.at)
  text_comes next h wrote = go h.frames h.moves h.counts h.lined
    where
      go : (frames : List Frame) → Moves text p.at frames (Text next) → Counts look begins frames (lines (length text) frames) p → Lined list (lines (length text) frames) (innermost frames) cols p.inner
          → Standing text list begins new (progress next.at p.depth p.inner (p.nodes + 1) p.unnamed) × (p.at < next.at)
      go [] m c l = absurd m
      go (f ∷ fs) m c l =
          let node = chars p.at next.at nothing in
          let r = row (begun fs) xml.text p.at next.at in (
            record {
              stand = within (with f node) fs;
              stands = m.0;
              counts =
                  joined_counts (length text) look begins p (f ∷ fs) c node r refl next.at p.inner p.unnamed m.1
                  (c.lacking ∙ lacks_nothing look (lines (length text) (f ∷ fs)) r refl);
              lined =
                  more_lined (length text) list cols new p (f ∷ fs) l c.nodes (so_far (length text) (joined node (f ∷ fs))) (begun fs) p.inner r (joined_lines (length text) node (f ∷ fs)) 1 p.at next.at refl refl refl refl wrote (λ i. i);
            },
            m.1,
          )
