-- What is written for the marked nodes of a tree is what a walk over the lines of its table writes, node by node in document order:
-- for each marked node the end tags of the elements that are open up to its parent, then its text or its start tag; in the end all end tags.
-- By induction over the nodes: a walk that leaves elements open may as well close them at once, since the next marked node stands at or above the innermost that stays open. Assumes nothing.
use Prim.Native.Nat.{ℕ, zero, suc, ◌+◌, ◌<◌, ◌≤◌}
use native.Mathlib.Omega.{arith}
use native.Mathlib.Decide.{dec_lt}
use native.Mathlib.Nat.{add-zero, zero-add}
use mathlib.Core.Path.{◌≡◌, refl, sym, ◌∙◌, ap, ap₂, subst}
use mathlib.Core.Bool.{Bool, true, false, cond, false≢true}
use mathlib.Core.List.{List, [], ◌∷◌, ◌++◌, append_assoc, append-nil}
use mathlib.Core.Logic.{⊎_elim, by_cases}
use lib.Dec.{eqb}
use lib.ListN.{length, get_or, get_or-eq_default}
use borrow.Author.Tests.{eq-eqb, ne_eqb}
use Rattle.paper.specs.Document.{marked}
use Rattle.paper.specs.Xml.{Nodes, nothing, element, chars, wanted, read_xml, What, Row, row, rows, table, count}
use Rattle.paper.specs.WriteXml.{pruned, bytes_at, squares_past, escaped, as_xml}
use Rattle.paper.proofs.Tests.{decide}
use Rattle.paper.proofs.Trees.{Closed}
pub use Rattle.xml_theorems.specs.Tables.{line_at}
use Rattle.xml_theorems.proofs.Numbered.{Stand, stand_element, stand_inside, stand_rest, stand_chars, stand_behind, three, two}
use Rattle.xml_theorems.proofs.Placed.{stand_table, places_nest}
pub use Rattle.xml_theorems.proofs.Placed.{length_table}
use Rattle.xml_theorems.proofs.Standing.{elements_stand, texts_stand}
use Rattle.file_theorems.specs.Files.{columns_of}
use Rattle.file_theorems.proofs.Rebuilt.{element_bytes, text_bytes}
use Rattle.file_theorems.proofs.Pruning.{unmarked, under_marked}

abbrev pub name_of : What → List ℕ
name_of What.root = []
name_of What.text = []
name_of (What.named name) = name

-- What a marked node writes: a text stays in the element that is open, an element is opened.
abbrev pub shown : What → List ℕ → ℕ → (ℕ → List ℕ) → List ℕ → List ℕ
shown What.root bytes k within under = within k
shown What.text bytes k within under = escaped k bytes ++ within (squares_past k bytes)
shown (What.named name) bytes k within under = 60 ∷ name ++ (62 ∷ under)

-- The innermost open element once a marked node was written.
abbrev pub innermost : Row → ℕ → ℕ
innermost r i = inner r.what
  where
    inner : What → ℕ
    inner What.root = r.parent
    inner What.text = r.parent
    inner (What.named name) = i

-- How many `]` end what is written, once the elements from `top` to `up` are closed.
abbrev pub past : ℕ → ℕ → ℕ → ℕ
past top up k = cond (eqb top up) k 0

module _ (text marks : List ℕ) (lines : List Row) where
  -- The end tags of the elements from `top` up to `up`, which stays open.
  abbrev pub closes : ℕ → ℕ → ℕ → List ℕ
  closes zero top up = []
  closes (suc fuel) top up = cond (eqb top up) [] (60 ∷ 47 ∷ name_of (line_at lines top).what ++ (62 ∷ closes fuel (line_at lines top).parent up))

  -- The walk over the `left` nodes from i on, where `top` is the innermost open element and k `]` end what is written.
  abbrev pub onward : ℕ → ℕ → ℕ → ℕ → List ℕ
  onward zero i top k = closes top top 0
  onward (suc left) i top k =
      let r = line_at lines i in
      let passed = onward left (suc i) top k in
      cond (marked marks i)
      (closes top top r.parent
      ++ shown r.what (bytes_at text r.begin r.end) (past top r.parent k) (λ n. onward left (suc i) r.parent n) (onward left (suc i) i 0))
      passed

  -- OPEN ELEMENTS, from one up to another that is over it, with their end tags.
  pub data Chain : ℕ → ℕ → List ℕ → Type 0 where
    here : {i : ℕ} → Chain i i []
    below : {i up : ℕ} {name bytes : List ℕ} → up < i → i < length lines → (line_at lines i).what ≡ What.named name → (line_at lines i).parent < i
        → Chain (line_at lines i).parent up bytes → Chain i up (60 ∷ 47 ∷ name_of (line_at lines i).what ++ (62 ∷ bytes))

  chain_falls : {i up : ℕ} {bytes : List ℕ} → Chain i up bytes → up ≤ i
  chain_falls here = omega arith
  chain_falls (below l n w p c) = omega arith

  pub chain_closes : {i up : ℕ} {bytes : List ℕ} → Chain i up bytes → (fuel : ℕ) → i ≤ fuel → closes fuel i up ≡ bytes
  chain_closes here zero l = refl
  chain_closes (here {i = i}) (suc fuel) l = let same : eqb i i ≡ true = eq-eqb i i refl in rw same
  chain_closes (below u n w p c) zero l = absurd (omega arith)
  chain_closes (below {i = i} {up = up} u n w p c) (suc fuel) l =
      let other : eqb i up ≡ false = ne_eqb i up (λ e. omega arith) in
      rw other (ap (λ (bs : List ℕ). 60 ∷ 47 ∷ name_of (line_at lines i).what ++ (62 ∷ bs)) (chain_closes c fuel (omega arith)))

  chain_then : {i j p : ℕ} {b c : List ℕ} → Chain i j b → Chain j p c → Chain i p (b ++ c)
  chain_then here d = d
  chain_then {p = p} {c = c} (below {i = i} {bytes = bs} u n w l r) d =
      subst (Chain i p) (sym (append_assoc (60 ∷ 47 ∷ name_of (line_at lines i).what) (62 ∷ bs) c)) (below (omega (arith, chain_falls d)) n w l (chain_then r d))

  -- The next marked node, or the end, stands at `up` or above it.
  abbrev pub Rests : ℕ → ℕ → ℕ → Type 0
  Rests up zero i = (b : List ℕ) × Chain up 0 b
  Rests up (suc left) i = (marked marks i ≡ true → (b : List ℕ) × Chain up (line_at lines i).parent b) × (marked marks i ≡ false → Rests up left (suc i))

  rests_below : (left i up low : ℕ) (b : List ℕ) → Chain low up b → Rests up left i → Rests low left i
  rests_below zero i up low b c r = (b ++ r.0, chain_then c r.1)
  rests_below (suc left) i up low b c r = (λ m. (b ++ (r.0 m).0, chain_then c (r.0 m).1), λ m. rests_below left (suc i) up low b c (r.1 m))

  none_either : (x : Bool) → ◌≡◌ {A = ℕ} (cond x 0 0) 0
  none_either true = refl
  none_either false = refl

  -- So open elements may be closed at once.
  lazy : (left i top up k : ℕ) (b : List ℕ) → up < top → Chain top up b → Rests up left i → onward left i top k ≡ b ++ onward left i up 0
  lazy zero i top up k b l c r =
      chain_closes (chain_then c r.1) top (omega arith) ∙ ap (λ (x : List ℕ). b ++ x) (sym (chain_closes r.1 up (omega arith)))
  lazy (suc left) i top up k b l c r =
      ⊎_elim
      (λ (m : marked marks i ≡ true).
      let p = (line_at lines i).parent in
      let d = (r.0 m).1 in
      let ends : closes top top p ≡ b ++ closes up up p = chain_closes (chain_then c d) top (omega arith) ∙ ap (λ (x : List ℕ). b ++ x) (sym (chain_closes d up (omega arith))) in
      let other : past top p k ≡ 0 = ap (λ x. cond x k 0) (ne_eqb top p (λ e. omega (arith, chain_falls d))) in
      let none : past up p 0 ≡ 0 = none_either (eqb up p) in
      let rest : ℕ → List ℕ = λ n. shown (line_at lines i).what (bytes_at text (line_at lines i).begin (line_at lines i).end) n (λ n. onward left (suc i) p n) (onward left (suc i) i 0) in
      rw m (ap₂ (λ (x : List ℕ) n. x ++ rest n) ends (other ∙ sym none) ∙ append_assoc b (closes up up p) (rest (past up p 0))))
      (λ (m : marked marks i ≡ false). rw m (lazy left (suc i) top up k b l c (r.1 m)))
      (decide (marked marks i))

  -- A row of unmarked nodes is passed.
  passes : (many left i top k : ℕ) → ((j : ℕ) → i ≤ j → j < i + many → marked marks j ≡ false) → onward (many + left) i top k ≡ onward left (i + many) top k
  passes zero left i top k h = ap₂ (λ m n. onward m n top k) (zero-add left) (sym (add-zero i))
  passes (suc many) left i top k h =
      let m : marked marks i ≡ false = h i (omega arith) (omega arith) in
      let on : suc i + many ≡ i + suc many = omega arith in
      let all : suc many + left ≡ suc (many + left) = omega arith in
      ap (λ n. onward n i top k) all
      ∙ rw m (passes many left (suc i) top k (λ j a l. h j (omega arith) (omega arith)) ∙ ap (λ n. onward left n top k) on)

  rests_past : (many left i up : ℕ) → ((j : ℕ) → i ≤ j → j < i + many → marked marks j ≡ false) → Rests up left (i + many) → Rests up (many + left) i
  rests_past zero left i up h r = subst (λ n. Rests up n i) (sym (zero-add left)) (subst (Rests up left) (add-zero i) r)
  rests_past (suc many) left i up h r =
      let on : i + suc many ≡ suc i + many = omega arith in
      let all : suc (many + left) ≡ suc many + left = omega arith in
      subst (λ n. Rests up n i) all (
        λ m. absurd (false≢true (sym (h i (omega arith) (omega arith)) ∙ m)),
        λ m. rests_past many left (suc i) up (λ j a l. h j (omega arith) (omega arith)) (subst (Rests up left) on r),
      )

  -- A turn of the walk at a marked node under the innermost open element.
  element_turn : (left i up k : ℕ) (name : List ℕ) (begin end : ℕ) → line_at lines i ≡ row up (What.named name) begin end → marked marks i ≡ true
      → onward (suc left) i up k ≡ 60 ∷ name ++ (62 ∷ onward left (suc i) i 0)
  element_turn left i up k name begin end line m =
      rw m
      (ap
      (λ (r : Row).
      closes up up r.parent ++ shown r.what (bytes_at text r.begin r.end) (past up r.parent k) (λ n. onward left (suc i) r.parent n) (onward left (suc i) i 0))
      line
      ∙ ap (λ (bs : List ℕ). bs ++ (60 ∷ name ++ (62 ∷ onward left (suc i) i 0))) (chain_closes (here {i = up}) up (omega arith)))

  text_turn : (left i up k begin end : ℕ) → line_at lines i ≡ row up What.text begin end → marked marks i ≡ true
      → onward (suc left) i up k ≡ escaped k (bytes_at text begin end) ++ onward left (suc i) up (squares_past k (bytes_at text begin end))
  text_turn left i up k begin end line m =
      let bytes = bytes_at text begin end in
      let same : past up up k ≡ k = ap (λ x. cond x k 0) (eq-eqb up up refl) in
      rw m
      (ap
      (λ (r : Row).
      closes up up r.parent ++ shown r.what (bytes_at text r.begin r.end) (past up r.parent k) (λ n. onward left (suc i) r.parent n) (onward left (suc i) i 0))
      line
      ∙ ap₂ (λ (bs : List ℕ) n. bs ++ (escaped n bytes ++ onward left (suc i) up (squares_past n bytes))) (chain_closes (here {i = up}) up (omega arith)) same)

  -- An element that was just opened.
  opened : (n up : ℕ) (name : List ℕ) (begin end : ℕ) → line_at lines n ≡ row up (What.named name) begin end → up < n → n < length lines → Chain n up (60 ∷ 47 ∷ name ++ (62 ∷ []))
  opened n up name begin end line u l =
      let p = ap (λ (r : Row). r.parent) line in
      let w = ap (λ (r : Row). r.what) line in
      subst (λ v. Chain n up (60 ∷ 47 ∷ name_of v ++ (62 ∷ []))) w (below u l w (omega (arith, p)) (subst (λ i. Chain i up []) (sym p) here))

  -- How many `]` end what was written for nodes.
  abbrev ends : ℕ → Nodes → ℕ
  ends k nothing = k
  ends k (element name begin end inside rest) = ends 0 rest
  ends k (chars begin end rest) = ends (squares_past k (bytes_at text begin end)) rest

  -- Its start tag, what is inside it, its end tag and what stands behind it.
  element_walked : (name : List ℕ) (k begin end n up m left : ℕ) (walk : List ℕ) (inside more : Nodes) (rest : List ℕ) → up < n
      → Chain n up (60 ∷ 47 ∷ name ++ (62 ∷ [])) → Rests up left m → walk ≡ as_xml text 0 inside ++ onward left m n (ends 0 inside)
      → onward left m up 0 ≡ as_xml text 0 more ++ rest → 60 ∷ name ++ (62 ∷ walk) ≡ as_xml text k (element name begin end inside more) ++ rest
  element_walked name k begin end n up m left walk inside more rest u c r within behind =
      let tag : List ℕ = 60 ∷ 47 ∷ name in
      let closed : onward left m n (ends 0 inside) ≡ tag ++ (62 ∷ as_xml text 0 more ++ rest) =
      lazy left m n up (ends 0 inside) (tag ++ (62 ∷ [])) u c r ∙ append_assoc tag (62 ∷ []) (onward left m up 0) ∙ ap (λ (x : List ℕ). tag ++ (62 ∷ x)) behind in
      ap (λ (x : List ℕ). 60 ∷ name ++ (62 ∷ x)) (within ∙ ap (λ (x : List ℕ). as_xml text 0 inside ++ x) closed) ∙ sym (element_bytes text name k begin end inside more rest)

  -- Below the root a node is a text or an element.
  told {ℓ} : {C : Type ℓ} (ns : Nodes) (up n : ℕ) → Stand lines n (rows up n ns) → (i : ℕ) → n ≤ i → i < n + count ns
      → ((line_at lines i).what ≡ What.text → C) → ((name : List ℕ) → (line_at lines i).what ≡ What.named name → C) → C
  told nothing up n h i a l f g = absurd (omega arith)
  told (element name begin end inside rest) up n h i a l f g =
      three n (count inside) (count rest) i a l
      (λ e. g name (ap (λ j. (line_at lines j).what) e ∙ ap (λ (r : Row). r.what) (stand_element lines up n name begin end inside rest h)))
      (λ b m. told inside n (suc n) (stand_inside lines up n name begin end inside rest h) i b m f g)
      (λ b m. told rest up (suc n + count inside) (stand_rest lines up n name begin end inside rest h) i b m f g)
  told (chars begin end rest) up n h i a l f g =
      two n (count rest) i a l (λ e. f (ap (λ j. (line_at lines j).what) e ∙ ap (λ (r : Row). r.what) (stand_chars lines up n begin end rest h)))
      (λ b m. told rest up (suc n) (stand_behind lines up n begin end rest h) i b m f g)

  module _ (up-marked : (i : ℕ) → i < length lines → marked marks i ≡ true → marked marks (line_at lines i).parent ≡ true) where
    -- Under an unmarked node nothing is marked.
    none_marked : (ns : Nodes) (up n : ℕ) → Stand lines n (rows up n ns) → n + count ns ≤ length lines → marked marks up ≡ false
        → (j : ℕ) → n ≤ j → j < n + count ns → marked marks j ≡ false
    none_marked nothing up n h l u j a b = absurd (omega arith)
    none_marked (element name begin end inside rest) up n h l u j a b =
        let own : marked marks n ≡ false = unmarked marks lines up-marked n up (omega arith) (ap (λ (r : Row). r.parent) (stand_element lines up n name begin end inside rest h)) u in
        three n (count inside) (count rest) j a b (λ e. ap (marked marks) e ∙ own)
        (λ c d. none_marked inside n (suc n) (stand_inside lines up n name begin end inside rest h) (omega arith) own j c d)
        (λ c d. none_marked rest up (suc n + count inside) (stand_rest lines up n name begin end inside rest h) (omega arith) u j c d)
    none_marked (chars begin end rest) up n h l u j a b =
        let own : marked marks n ≡ false = unmarked marks lines up-marked n up (omega arith) (ap (λ (r : Row). r.parent) (stand_chars lines up n begin end rest h)) u in
        two n (count rest) j a b (λ e. ap (marked marks) e ∙ own) (λ c d. none_marked rest up (suc n) (stand_behind lines up n begin end rest h) (omega arith) u j c d)

    -- The marked nodes of a row stand under `up`.
    rests_row : (ns : Nodes) (up n left : ℕ) → Stand lines n (rows up n ns) → n + count ns ≤ length lines → Rests up left (n + count ns) → Rests up (count ns + left) n
    rests_row nothing up n left h l r = subst (λ m. Rests up m n) (sym (zero-add left)) (subst (Rests up left) (add-zero n) r)
    rests_row (element name begin end inside rest) up n left h l r =
        let line = ap (λ (r : Row). r.parent) (stand_element lines up n name begin end inside rest h) in
        let more : Rests up (count rest + left) (suc n + count inside) =
        rests_row rest up (suc n + count inside) left (stand_rest lines up n name begin end inside rest h) (omega arith) (let on : n + suc (count inside + count rest) ≡ suc n + count inside + count rest = omega arith in subst (Rests up left) on r) in
        let sum : count inside + (count rest + left) ≡ count inside + count rest + left = omega arith in
        let all : suc (count inside + count rest + left) ≡ suc (count inside + count rest) + left = omega arith in
        subst (λ m. Rests up m n) all (
          λ m. ([], subst (λ p. Chain up p []) (sym line) here),
          λ m.
              subst (λ k. Rests up k (suc n)) sum
              (rests_past (count inside) (count rest + left) (suc n) up (λ j a b. none_marked inside n (suc n) (stand_inside lines up n name begin end inside rest h) (omega arith) m j a b) more),
        )
    rests_row (chars begin end rest) up n left h l r =
        let line = ap (λ (r : Row). r.parent) (stand_chars lines up n begin end rest h) in
        let on : n + suc (count rest) ≡ suc n + count rest = omega arith in
        let all : suc (count rest + left) ≡ suc (count rest) + left = omega arith in
        subst (λ m. Rests up m n) all
        (λ m. ([], subst (λ p. Chain up p []) (sym line) here), λ m. rests_row rest up (suc n) left (stand_behind lines up n begin end rest h) (omega arith) (subst (Rests up left) on r))

    -- What is open once a marked node was written: the element itself, or a text's parent. What comes next rests there.
    rests_behind : (ns : Nodes) (up n left : ℕ) → Stand lines n (rows up n ns) → up < n → n + count ns ≤ length lines → Rests up left (n + count ns)
        → (i more : ℕ) → n ≤ i → i < n + count ns → suc i + more ≡ n + count ns + left → Rests (innermost (line_at lines i) i) more (suc i)
    rests_behind nothing up n left h u l r i more a b e = absurd (omega arith)
    rests_behind (element name begin end inside rest) up n left h u l r i more a b e =
        let m = suc n + count inside in
        let line = stand_element lines up n name begin end inside rest h in
        let hi = stand_inside lines up n name begin end inside rest h in
        let hr = stand_rest lines up n name begin end inside rest h in
        let on : n + suc (count inside + count rest) ≡ m + count rest = omega arith in
        let behind : Rests up left (m + count rest) = subst (Rests up left) on r in
        let resting : Rests up (count rest + left) m = rests_row rest up m left hr (omega arith) behind in
        let within : Rests n (count rest + left) m = rests_below (count rest + left) m up n _ (opened n up name begin end line u (omega arith)) resting in
        three n (count inside) (count rest) i a b
        (λ same.
        let all : count inside + (count rest + left) ≡ more = omega arith in
        subst (λ j. Rests (innermost (line_at lines j) j) more (suc j)) (sym same)
        (subst (λ (r : Row). Rests (innermost r n) more (suc n)) (sym line) (subst (λ k. Rests n k (suc n)) all (rests_row inside n (suc n) (count rest + left) hi (omega arith) within))))
        (λ c d. rests_behind inside n (suc n) (count rest + left) hi (omega arith) (omega arith) within i more c d (omega arith))
        (λ c d. rests_behind rest up m left hr (omega arith) (omega arith) behind i more c d (omega arith))
    rests_behind (chars begin end rest) up n left h u l r i more a b e =
        let line = stand_chars lines up n begin end rest h in
        let hb = stand_behind lines up n begin end rest h in
        let on : n + suc (count rest) ≡ suc n + count rest = omega arith in
        let behind : Rests up left (suc n + count rest) = subst (Rests up left) on r in
        two n (count rest) i a b
        (λ same.
        let all : count rest + left ≡ more = omega arith in
        subst (λ j. Rests (innermost (line_at lines j) j) more (suc j)) (sym same)
        (subst (λ (r : Row). Rests (innermost r n) more (suc n)) (sym line) (subst (λ k. Rests up k (suc n)) all (rests_row rest up (suc n) left hb (omega arith) behind))))
        (λ c d. rests_behind rest up (suc n) left hb (omega arith) (omega arith) behind i more c d (omega arith))

    -- THE WALK over a row writes its marked nodes, and goes on behind it.
    walked : (ns : Nodes) (up n left k : ℕ) → Stand lines n (rows up n ns) → up < n → n + count ns ≤ length lines → Rests up left (n + count ns)
        → onward (count ns + left) n up k ≡ as_xml text k (pruned marks n ns) ++ onward left (n + count ns) up (ends k (pruned marks n ns))
    walked nothing up n left k h u l r = ap₂ (λ m i. onward m i up k) (zero-add left) (sym (add-zero n))
    walked (element name begin end inside rest) up n left k h u l r =
        let m = suc n + count inside in
        let line = stand_element lines up n name begin end inside rest h in
        let hi = stand_inside lines up n name begin end inside rest h in
        let hr = stand_rest lines up n name begin end inside rest h in
        let on : n + suc (count inside + count rest) ≡ m + count rest = omega arith in
        let all : suc (count inside + count rest) + left ≡ suc (count inside + (count rest + left)) = omega arith in
        let behind : Rests up left (m + count rest) = subst (Rests up left) on r in
        let resting : Rests up (count rest + left) m = rests_row rest up m left hr (omega arith) behind in
        let later : (k : ℕ) → onward (count rest + left) m up k ≡ as_xml text k (pruned marks m rest) ++ onward left (m + count rest) up (ends k (pruned marks m rest)) =
        λ k. walked rest up m left k hr (omega arith) (omega arith) behind in
        let chain = opened n up name begin end line u (omega arith) in
        ap (λ i. onward i n up k) all
        ∙ ⊎_elim
        (λ (e : marked marks n ≡ true).
        element_turn (count inside + (count rest + left)) n up k name begin end line e
        ∙ element_walked name k begin end n up m (count rest + left) (onward (count inside + (count rest + left)) (suc n) n 0) (pruned marks (suc n) inside) (pruned marks m rest)
        (onward left (m + count rest) up (ends 0 (pruned marks m rest))) u chain resting
        (walked inside n (suc n) (count rest + left) 0 hi (omega arith) (omega arith) (rests_below (count rest + left) m up n _ chain resting)) (later 0)
        ∙ rw e (ap (λ i. as_xml text k (element name begin end (pruned marks (suc n) inside) (pruned marks m rest)) ++ onward left i up (ends 0 (pruned marks m rest))) (sym on)))
        (λ (e : marked marks n ≡ false).
        rw e
        (passes (count inside) (count rest + left) (suc n) up k (λ j a b. none_marked inside n (suc n) hi (omega arith) e j a b) ∙ later k
        ∙ ap (λ i. as_xml text k (pruned marks m rest) ++ onward left i up (ends k (pruned marks m rest))) (sym on)))
        (decide (marked marks n))
    walked (chars begin end rest) up n left k h u l r =
        let line = stand_chars lines up n begin end rest h in
        let bytes = bytes_at text begin end in
        let on : n + suc (count rest) ≡ suc n + count rest = omega arith in
        let all : suc (count rest) + left ≡ suc (count rest + left) = omega arith in
        let later : (k : ℕ) → onward (count rest + left) (suc n) up k ≡ as_xml text k (pruned marks (suc n) rest) ++ onward left (suc n + count rest) up (ends k (pruned marks (suc n) rest)) =
        λ k. walked rest up (suc n) left k (stand_behind lines up n begin end rest h) (omega arith) (omega arith) (subst (Rests up left) on r) in
        ap (λ i. onward i n up k) all
        ∙ ⊎_elim
        (λ (e : marked marks n ≡ true).
        text_turn (count rest + left) n up k begin end line e
        ∙ ap (λ (x : List ℕ). escaped k bytes ++ x) (later (squares_past k bytes))
        ∙ sym (text_bytes text k begin end (pruned marks (suc n) rest) (onward left (suc n + count rest) up (ends (squares_past k bytes) (pruned marks (suc n) rest))))
        ∙ rw e (ap (λ i. as_xml text k (chars begin end (pruned marks (suc n) rest)) ++ onward left i up (ends (squares_past k bytes) (pruned marks (suc n) rest))) (sym on)))
        (λ (e : marked marks n ≡ false).
        rw e (later k ∙ ap (λ i. as_xml text k (pruned marks (suc n) rest) ++ onward left i up (ends k (pruned marks (suc n) rest))) (sym on)))
        (decide (marked marks n))

-- THE KEPT PART of a table with closed marks is what the walk writes, from node 1 on with the root open.
pub kept_onward : (list text marks : List ℕ) (long : ℕ) (tree : Nodes) → Closed (columns_of list long tree) marks
    → as_xml text 0 (pruned marks 1 tree) ≡ onward text marks (table long tree) (count tree) 1 0 0
kept_onward list text marks long tree c =
    let lines = table long tree in
    sym (append-nil (as_xml text 0 (pruned marks 1 tree)))
    ∙ sym (walked text marks lines (under_marked list marks long tree c) tree 0 1 0 0 (stand_table long tree) (omega arith) (omega (arith, length_table long tree)) ([], here))
    ∙ ap (λ n. onward text marks lines n 1 0 0) (add-zero (count tree))

-- ALL THE WAY what comes next rests in the innermost open element: at the start, and behind each node below the root.
pub start_rests : (list text marks : List ℕ) (long : ℕ) (tree : Nodes) → Closed (columns_of list long tree) marks → Rests text marks (table long tree) 0 (count tree) 1
start_rests list text marks long tree c =
    let lines = table long tree in
    subst (λ n. Rests text marks lines 0 n 1) (add-zero (count tree))
    (rests_row text marks lines (under_marked list marks long tree c) tree 0 1 0 (stand_table long tree) (omega (arith, length_table long tree)) ([], here))

pub node_rests : (list text marks : List ℕ) (long : ℕ) (tree : Nodes) → Closed (columns_of list long tree) marks
    → (i left : ℕ) → 0 < i → suc i + left ≡ length (table long tree) → Rests text marks (table long tree) (innermost (line_at (table long tree) i) i) left (suc i)
node_rests list text marks long tree c i left a e =
    let long-is = length_table long tree in
    rests_behind text marks (table long tree) (under_marked list marks long tree c) tree 0 1 0 (stand_table long tree) (omega arith) (omega (arith, long-is)) ([], here) i left (omega arith)
    (omega (arith, long-is)) (omega (arith, long-is))

-- BELOW THE ROOT a node is a text or an element, and has a place in the text.
pub node-told {ℓ} : {C : Type ℓ} (long : ℕ) (tree : Nodes) (i : ℕ) → 0 < i → i < length (table long tree)
    → ((line_at (table long tree) i).what ≡ What.text → C) → ((name : List ℕ) → (line_at (table long tree) i).what ≡ What.named name → C) → C
node-told long tree i a l f g = told [] [] (table long tree) tree 0 1 (stand_table long tree) i (omega arith) (omega (arith, length_table long tree)) f g

-- A byte that is not 0 stands inside.
stands_inside : (text : List ℕ) (at b : ℕ) → 0 < b → get_or text at 0 ≡ b → at < length text
stands_inside text at b z h = by_cases (dec_lt at (length text)) (λ l. l) (λ l. absurd (omega (arith, z, h, get_or-eq_default text 0 {n = at} (omega arith))))

pub node_inside : (text : List ℕ) (tree : Nodes) → read_xml text ≡ wanted tree → (i : ℕ) → 0 < i → i < length (table (length text) tree)
    → ((line_at (table (length text) tree) i).begin < (line_at (table (length text) tree) i).end) × ((line_at (table (length text) tree) i).end ≤ length text)
node_inside text tree read i a l = (
  (places_nest text tree read i l).filled,
  node-told (length text) tree i a l (λ w. omega (arith, stands_inside text _ 60 (omega arith) (texts_stand text tree read i l w).before))
      (λ name w.
      let past = (elements_stand text tree read i name l w).closed in
      omega (arith, past.next, stands_inside text past.last 62 (omega arith) past.stands)),
)
