-- Places in the table nest and rise, and between two texts with one parent there is an element.
-- Each claim by induction over the nodes, for the lines from number n on, under the node `up`. Assumes nothing.
use Prim.Native.Nat.{ℕ, zero, suc, ◌+◌, ◌<◌, ◌≤◌}
use native.Mathlib.Omega.{arith}
use native.Mathlib.Decide.{ℕ_discrete}
use mathlib.Core.Path.{◌≡◌, sym, ◌∙◌, ap, subst}
use mathlib.Core.Bool.{Bool, true, false, false≢true}
use mathlib.Core.List.{List}
use mathlib.Core.Logic.{◌⊎◌, inl, inr, ⊎_elim, by_cases}
use lib.ListN.{length}
use Rattle.paper.specs.Xml.{Nodes, nothing, element, chars, What, Row, rows, table, count}
use Rattle.xml_grammar.specs.Productions.{Derives}
use Rattle.xml_theorems.specs.Tables.{Nested, Spaced, line_at, PlacesNest, PlacesRise, PlacesApart, ElementBetween, NoTwoTexts}
use Rattle.xml_verdicts.proofs.Accepted.{accepted}
use Rattle.xml_theorems.proofs.Nesting.{tree_nests, tree_spaced}
use Rattle.xml_theorems.proofs.Numbered.{length_rows, Stand, stand_element, stand_inside, stand_rest, stand_chars, stand_behind, three, two}

pub named_text : (name : List ℕ) → What.named name ≡ What.text → ⊥
named_text name h = let z : ◌≡◌ {A = ℕ} 0 1 = cc in omega arith

-- What nests leaves room.
nested_room : (nodes : Nodes) (low high : ℕ) → Nested low high nodes → low ≤ high
nested_room nothing low high h = h
nested_room (element name begin end inside rest) low high h = omega (arith, h.0, h.1, nested_room rest end high h.3)
nested_room (chars begin end rest) low high h = omega (arith, h.0, h.1, nested_room rest end high h.2)

module _ (lines : List Row) where
  abbrev parent_at : ℕ → ℕ
  parent_at i = (line_at lines i).parent

  abbrev begin_at : ℕ → ℕ
  begin_at i = (line_at lines i).begin

  abbrev end_at : ℕ → ℕ
  end_at i = (line_at lines i).end

  abbrev what_at : ℕ → What
  what_at i = (line_at lines i).what

  -- A node's parent is `up` or one of these nodes, before it.
  pub parents : (nodes : Nodes) (up n : ℕ) → Stand lines n (rows up n nodes)
      → (i : ℕ) → n ≤ i → i < n + count nodes → (parent_at i ≡ up) ⊎ ((n ≤ parent_at i) × (parent_at i < i))
  parents nothing up n h i a l = absurd (omega arith)
  parents (element name begin end inside rest) up n h i a l =
      three n (count inside) (count rest) i a l
      (λ e. inl (ap parent_at e ∙ ap (λ (r : Row). r.parent) (stand_element lines up n name begin end inside rest h)))
      (λ b m.
      ⊎_elim (λ e. inr (omega (arith, e), omega (arith, e))) (λ q. inr (omega (arith, q.0), q.1))
      (parents inside n (suc n) (stand_inside lines up n name begin end inside rest h) i b m))
      (λ b m.
      ⊎_elim (λ e. inl e) (λ q. inr (omega (arith, q.0), q.1))
      (parents rest up (suc n + count inside) (stand_rest lines up n name begin end inside rest h) i b m))
  parents (chars begin end rest) up n h i a l =
      two n (count rest) i a l (λ e. inl (ap parent_at e ∙ ap (λ (r : Row). r.parent) (stand_chars lines up n begin end rest h)))
      (λ b m. ⊎_elim (λ e. inl e) (λ q. inr (omega (arith, q.0), q.1)) (parents rest up (suc n) (stand_behind lines up n begin end rest h) i b m))

  -- A node lies where the row of nodes lies.
  pub placed : (nodes : Nodes) (up n low high : ℕ) → Stand lines n (rows up n nodes) → Nested low high nodes
      → (i : ℕ) → n ≤ i → i < n + count nodes → (low ≤ begin_at i) × (begin_at i < end_at i) × (end_at i ≤ high)
  placed nothing up n low high h g i a l = absurd (omega arith)
  placed (element name begin end inside rest) up n low high h g i a l =
      let here = stand_element lines up n name begin end inside rest h in
      let room = nested_room rest end high g.3 in
      three n (count inside) (count rest) i a l
      (λ e.
      let b : begin_at i ≡ begin = ap begin_at e ∙ ap (λ (r : Row). r.begin) here in
      let f : end_at i ≡ end = ap end_at e ∙ ap (λ (r : Row). r.end) here in
      (omega (arith, g.0), omega (arith, g.1), omega arith))
      (λ b m.
      let q = placed inside n (suc n) (suc begin) end (stand_inside lines up n name begin end inside rest h) g.2 i b m in
      (omega (arith, q.0, g.0), q.1, omega (arith, q.2)))
      (λ b m.
      let q = placed rest up (suc n + count inside) end high (stand_rest lines up n name begin end inside rest h) g.3 i b m in
      (omega (arith, q.0, g.0, g.1), q.1, q.2))
  placed (chars begin end rest) up n low high h g i a l =
      let here = stand_chars lines up n begin end rest h in
      let room = nested_room rest end high g.2 in
      two n (count rest) i a l
      (λ e.
      let b : begin_at i ≡ begin = ap begin_at e ∙ ap (λ (r : Row). r.begin) here in
      let f : end_at i ≡ end = ap end_at e ∙ ap (λ (r : Row). r.end) here in
      (omega (arith, g.0), omega (arith, g.1), omega arith))
      (λ b m.
      let q = placed rest up (suc n) end high (stand_behind lines up n begin end rest h) g.2 i b m in
      (omega (arith, q.0, g.0, g.1), q.1, q.2))

  -- And within its parent, if the row lies within `up`.
  within : (nodes : Nodes) (up n low high : ℕ) → Stand lines n (rows up n nodes) → Nested low high nodes → begin_at up ≤ low → high ≤ end_at up
      → (i : ℕ) → n ≤ i → i < n + count nodes → (begin_at (parent_at i) ≤ begin_at i) × (end_at i ≤ end_at (parent_at i))
  within nothing up n low high h g lo hi i a l = absurd (omega arith)
  within (element name begin end inside rest) up n low high h g lo hi i a l =
      let here = stand_element lines up n name begin end inside rest h in
      let b : begin_at n ≡ begin = ap (λ (r : Row). r.begin) here in
      let f : end_at n ≡ end = ap (λ (r : Row). r.end) here in
      three n (count inside) (count rest) i a l
      (λ e.
      let p : parent_at i ≡ up = ap parent_at e ∙ ap (λ (r : Row). r.parent) here in
      let q = placed (element name begin end inside rest) up n low high h g i a l in
      (omega (arith, q.0, lo, ap begin_at p), omega (arith, q.2, hi, ap end_at p)))
      (λ c m. within inside n (suc n) (suc begin) end (stand_inside lines up n name begin end inside rest h) g.2 (omega arith) (omega arith) i c m)
      (λ c m. within rest up (suc n + count inside) end high (stand_rest lines up n name begin end inside rest h) g.3 (omega (arith, lo, g.0, g.1)) hi i c m)
  within (chars begin end rest) up n low high h g lo hi i a l =
      two n (count rest) i a l
      (λ e.
      let p : parent_at i ≡ up = ap parent_at e ∙ ap (λ (r : Row). r.parent) (stand_chars lines up n begin end rest h) in
      let q = placed (chars begin end rest) up n low high h g i a l in
      (omega (arith, q.0, lo, ap begin_at p), omega (arith, q.2, hi, ap end_at p)))
      (λ c m. within rest up (suc n) end high (stand_behind lines up n begin end rest h) g.2 (omega (arith, lo, g.0, g.1)) hi i c m)

  -- A later node begins later, and past the end of an earlier one with the same parent.
  rising : (nodes : Nodes) (up n low high : ℕ) → Stand lines n (rows up n nodes) → Nested low high nodes → up < n
      → (i j : ℕ) → n ≤ i → i < j → j < n + count nodes → (begin_at i < begin_at j) × (parent_at i ≡ parent_at j → end_at i ≤ begin_at j)
  rising nothing up n low high h g u i j a o l = absurd (omega arith)
  rising (element name begin end inside rest) up n low high h g u i j a o l =
      let here = stand_element lines up n name begin end inside rest h in
      let si = stand_inside lines up n name begin end inside rest h in
      let sr = stand_rest lines up n name begin end inside rest h in
      let m = suc n + count inside in
      three n (count inside) (count rest) i a (omega arith)
      (λ e.
      let p : parent_at i ≡ up = ap parent_at e ∙ ap (λ (r : Row). r.parent) here in
      let b : begin_at i ≡ begin = ap begin_at e ∙ ap (λ (r : Row). r.begin) here in
      let f : end_at i ≡ end = ap end_at e ∙ ap (λ (r : Row). r.end) here in
      three n (count inside) (count rest) j (omega arith) l (λ d. absurd (omega arith))
      (λ c k.
      let q = placed inside n (suc n) (suc begin) end si g.2 j c k in
      (omega (arith, q.0), λ s. absurd (⊎_elim (λ z. omega arith) (λ z. omega (arith, z.0)) (parents inside n (suc n) si j c k))))
      (λ c k.
      let q = placed rest up m end high sr g.3 j c k in
      (omega (arith, q.0, g.1), λ s. omega (arith, q.0))))
      (λ c k.
      three n (count inside) (count rest) j (omega arith) l (λ d. absurd (omega arith))
      (λ c' k'. rising inside n (suc n) (suc begin) end si g.2 (omega arith) i j c o k')
      (λ c' k'.
      let p = placed inside n (suc n) (suc begin) end si g.2 i c k in
      let q = placed rest up m end high sr g.3 j c' k' in
      (omega (arith, p.1, p.2, q.0), λ s. omega (arith, p.2, q.0))))
      (λ c k. rising rest up m end high sr g.3 (omega arith) i j c o (omega arith))
  rising (chars begin end rest) up n low high h g u i j a o l =
      let here = stand_chars lines up n begin end rest h in
      let sr = stand_behind lines up n begin end rest h in
      two n (count rest) i a (omega arith)
      (λ e.
      let b : begin_at i ≡ begin = ap begin_at e ∙ ap (λ (r : Row). r.begin) here in
      let f : end_at i ≡ end = ap end_at e ∙ ap (λ (r : Row). r.end) here in
      let q = placed rest up (suc n) end high sr g.2 j (omega arith) (omega arith) in
      (omega (arith, q.0, g.1), λ s. omega (arith, q.0)))
      (λ c k. rising rest up (suc n) end high sr g.2 (omega arith) i j c o (omega arith))

  -- A text with the parent `up` stands behind an element with that parent, if the row begins with no text.
  behind : (nodes : Nodes) (up n : ℕ) → Stand lines n (rows up n nodes) → Spaced false nodes → up < n
      → (b j : ℕ) → b < n → n ≤ j → j < n + count nodes → parent_at j ≡ up → what_at j ≡ What.text → ElementBetween lines up b j
  behind nothing up n h g u b j o a l p t = absurd (omega arith)
  behind (element name begin end inside rest) up n h g u b j o a l p t =
      let here = stand_element lines up n name begin end inside rest h in
      record {
        node = n;
        name = name;
        past = o;
        before = by_cases (ℕ_discrete j n) (λ e. absurd (named_text name (sym (ap what_at e ∙ ap (λ (r : Row). r.what) here) ∙ t))) (λ e. omega arith);
        beside = ap (λ (r : Row). r.parent) here;
        is_element = ap (λ (r : Row). r.what) here;
      }
  behind (chars begin end rest) up n h g u b j o a l p t = absurd (false≢true g.0)

  -- Between two texts with one parent there is an element with that parent.
  spread : (nodes : Nodes) (fresh : Bool) (up n : ℕ) → Stand lines n (rows up n nodes) → Spaced fresh nodes → up < n
      → (i j : ℕ) → n ≤ i → i < j → j < n + count nodes → parent_at i ≡ parent_at j → what_at i ≡ What.text → what_at j ≡ What.text → ElementBetween lines (parent_at i) i j
  spread nothing fresh up n h g u i j a o l s ti tj = absurd (omega arith)
  spread (element name begin end inside rest) fresh up n h g u i j a o l s ti tj =
      let here = stand_element lines up n name begin end inside rest h in
      let si = stand_inside lines up n name begin end inside rest h in
      let sr = stand_rest lines up n name begin end inside rest h in
      let m = suc n + count inside in
      three n (count inside) (count rest) i a (omega arith)
      (λ e. absurd (named_text name (sym (ap what_at e ∙ ap (λ (r : Row). r.what) here) ∙ ti)))
      (λ c k.
      three n (count inside) (count rest) j (omega arith) l (λ d. absurd (omega arith))
      (λ c' k'. spread inside true n (suc n) si g.0 (omega arith) i j c o k' s ti tj)
      (λ c' k'.
      absurd
      (⊎_elim (λ x. ⊎_elim (λ y. omega arith) (λ y. omega (arith, y.0)) (parents rest up m sr j c' k'))
      (λ x. ⊎_elim (λ y. omega (arith, x.0)) (λ y. omega (arith, x.1, y.0)) (parents rest up m sr j c' k'))
      (parents inside n (suc n) si i c k))))
      (λ c k. spread rest true up m sr g.1 (omega arith) i j c o (omega arith) s ti tj)
  spread (chars begin end rest) fresh up n h g u i j a o l s ti tj =
      let here = stand_chars lines up n begin end rest h in
      let sr = stand_behind lines up n begin end rest h in
      two n (count rest) i a (omega arith)
      (λ e.
      let p : parent_at i ≡ up = ap parent_at e ∙ ap (λ (r : Row). r.parent) here in
      subst (λ x. ElementBetween lines x i j) (sym p) (behind rest up (suc n) sr g.1 (omega arith) i j (omega arith) (omega arith) (omega arith) (sym s ∙ p) tj))
      (λ c k. spread rest false up (suc n) sr g.1 (omega arith) i j c o (omega arith) s ti tj)

-- The nodes below the root stand in the table from number 1 on.
pub stand_table : (long : ℕ) (tree : Nodes) → Stand (table long tree) 1 (rows 0 1 tree)
stand_table long tree k l =
    let e : 1 + k ≡ suc k = omega arith in
    ap (line_at (table long tree)) e

pub length_table : (long : ℕ) (tree : Nodes) → length (table long tree) ≡ 1 + count tree
length_table long tree = omega (arith, length_rows 0 1 tree)

-- A wanted text is not empty.
text_filled : {text : List ℕ} {tree : Nodes} → Derives text tree → Nested 0 (length text) tree → 0 < length text
text_filled {text = text} (Derives.text {past = past} d s r w) g = omega (arith, g.1, g.3)

pub places_nest : PlacesNest
places_nest text tree h zero l =
    record { filled = text_filled ((accepted text tree).0 h) (tree_nests text tree h); begins = omega arith; ends = omega arith }
places_nest text tree h (suc i) l =
    let lines = table (length text) tree in
    let g = tree_nests text tree h in
    let s = stand_table (length text) tree in
    let m : suc i < 1 + count tree = omega (arith, length_table (length text) tree) in
    let p = placed lines tree 0 1 0 (length text) s g (suc i) (omega arith) m in
    let q = within lines tree 0 1 0 (length text) s g (omega arith) (omega arith) (suc i) (omega arith) m in
    record { filled = p.1; begins = q.0; ends = q.1 }

pub places_rise : PlacesRise
places_rise text tree h i j z o l =
    (rising (table (length text) tree) tree 0 1 0 (length text) (stand_table (length text) tree) (tree_nests text tree h) (omega arith) i j (omega arith) o
    (omega (arith, length_table (length text) tree))).0

pub places_apart : PlacesApart
places_apart text tree h i j z o l =
    (rising (table (length text) tree) tree 0 1 0 (length text) (stand_table (length text) tree) (tree_nests text tree h) (omega arith) i j (omega arith) o
    (omega (arith, length_table (length text) tree))).1

pub root_text : What.root ≡ What.text → ⊥
root_text h = let z : ◌≡◌ {A = ℕ} 0 1 = cc in omega arith

pub no_two_texts : NoTwoTexts
no_two_texts text tree h zero j o l s ti tj = absurd (root_text ti)
no_two_texts text tree h (suc i) j o l s ti tj =
    spread (table (length text) tree) tree false 0 1 (stand_table (length text) tree) (tree_spaced text tree h) (omega arith) (suc i) j (omega arith) o
    (omega (arith, length_table (length text) tree)) s ti tj
