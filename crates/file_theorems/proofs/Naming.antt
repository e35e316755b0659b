-- An element's name is all the bytes of a name right behind its `<`.
-- By the derivation: what follows a name is white space, `/` or `>`, with which no name goes on. Assumes nothing.
use Prim.Native.Nat.{ℕ, suc, zero, ◌+◌, ◌-◌, ◌<◌, ◌≤◌}
use native.Mathlib.Omega.{arith}
use mathlib.Core.Path.{◌≡◌, refl, sym, ◌∙◌, ap, subst}
use mathlib.Core.Bool.{Bool, true, false}
use mathlib.Core.List.{List, [], ◌∷◌, ◌++◌}
use lib.ListN.{length, take, drop}
use Rattle.paper.specs.Tools.{run_of}
use Rattle.paper.specs.Names.{name_start, name_part}
use Rattle.paper.specs.Tokens.{white}
use Rattle.paper.specs.Xml.{Nodes, nothing, element, chars, What, Row, row, rows, table, count, first_is}
use Rattle.paper.specs.WriteXml.{bytes_at}
use Rattle.paper.proofs.Tests.{or_left}
use Rattle.xml_grammar.specs.Productions.{ManyIn, no_more, one_more, PartsIn, name_ends, name_goes_on, NameIn, name-starts, RowIn, row_ends, run_first, empty_first, full_first, Derives, text}
use Rattle.xml_theorems.specs.Tables.{line_at}
use Rattle.xml_verdicts.proofs.Accepted.{accepted}
use Rattle.xml_grammar.proofs.Followed.{white_no_part}
use Rattle.xml_theorems.proofs.Nesting.{drop_next, say_further, many_further, name_further, run_further, declaration_further, rowed}
use Rattle.xml_theorems.proofs.Numbered.{Stand, stand_element, stand_inside, stand_rest, stand_chars, stand_behind, three, two}
use Rattle.xml_theorems.proofs.Placed.{stand_table, length_table}
use Rattle.xml_theorems.proofs.Standing.{text_named, root_named, named_same}
use Rattle.xml_theorems.proofs.Written.{take_front}
use Rattle.file_theorems.specs.Files.{NamesStand}

-- THE RUN of name bytes is the name, where no name goes on with what follows.
record Spans (bs name : List ℕ) : Type 0 where
  long : run_of name_part bs ≡ length name
  is : take (length name) bs ≡ name

no_run : (bs : List ℕ) → first_is name_part bs ≡ false → run_of name_part bs ≡ 0
no_run [] h = refl
no_run (b ∷ bs) h = rw h

parts_span : {at to : ℕ} {bs name rest : List ℕ} → PartsIn at bs name to rest → first_is name_part rest ≡ false → Spans bs name
parts_span (name_ends {bs = bs}) h = record { long = no_run bs h; is = refl }
parts_span (name_goes_on {b = b} {bs = bs} {name = name} p r) h =
    let s = parts_span r h in
    record { long = rw p (ap suc s.long); is = ap (λ (l : List ℕ). b ∷ l) s.is }

name_span : {at to : ℕ} {bs name rest : List ℕ} → NameIn at bs name to rest → first_is name_part rest ≡ false → Spans bs name
name_span (name-starts {b = b} p r) h =
    let s = parts_span r h in
    let part : name_part b ≡ true = or_left _ (or_left _ (or_left _ p)) in
    record { long = rw part (ap suc s.long); is = ap (λ (l : List ℕ). b ∷ l) s.is }

-- Behind the name of a tag.
tag_ends : {at to : ℕ} {bs rest : List ℕ} → ManyIn white at bs to rest → first_is name_part rest ≡ false → first_is name_part bs ≡ false
tag_ends no_more h = h
tag_ends (one_more {b = b} w r) h = white_no_part b w

-- So it is of all elements of a text.
abbrev Spanned : List ℕ → Nodes → Type 0
Spanned whole nothing = Unit
Spanned whole (element name begin end inside rest) = Spans (drop (suc begin) whole) name × Spanned whole inside × Spanned whole rest
Spanned whole (chars begin end rest) = Spanned whole rest

row_spanned : {fresh : Bool} {at to : ℕ} {bs rest : List ℕ} {nodes : Nodes} → RowIn fresh at bs nodes to rest → (whole : List ℕ) → drop at whole ≡ bs → Spanned whole nodes
row_spanned row_ends whole h = tt
row_spanned (run_first a r) whole h = row_spanned r whole ((run_further a).0.lies whole h)
row_spanned {at = at} (empty_first {q = q} {name = name} n s r) whole h =
    let tag = drop_next at whole h in
    let slash = (many_further s).lies whole ((name_further n).lies whole tag) in
    (subst (λ (l : List ℕ). Spans l name) (sym tag) (name_span n (tag_ends s refl)), tt, row_spanned r whole (drop_next (suc q) whole (drop_next q whole slash)))
row_spanned {at = at} (full_first {q = q} {r = r₁} {t = t} {name = name} n s i e w r) whole h =
    let tag = drop_next at whole h in
    let inner = drop_next q whole ((many_further s).lies whole ((name_further n).lies whole tag)) in
    let end = (rowed i).moves.lies whole inner in
    let last = (many_further w).lies whole ((say_further e).lies whole (drop_next (suc r₁) whole (drop_next r₁ whole end))) in
    (subst (λ (l : List ℕ). Spans l name) (sym tag) (name_span n (tag_ends s refl)), row_spanned i whole inner, row_spanned r whole (drop_next t whole last))

derived_spanned : {whole : List ℕ} {tree : Nodes} → Derives whole tree → Spanned whole tree
derived_spanned {whole} (text d s r w) = row_spanned r whole ((many_further s).lies whole ((declaration_further d).lies whole refl))

-- In the table.
module _ (whole : List ℕ) (lines : List Row) where
  spans : (ns : Nodes) (up n : ℕ) → Stand lines n (rows up n ns) → Spanned whole ns
      → (i : ℕ) (name : List ℕ) → n ≤ i → i < n + count ns → (line_at lines i).what ≡ What.named name → Spans (drop (suc (line_at lines i).begin) whole) name
  spans nothing up n h g i word a l w = absurd (omega arith)
  spans (element name begin end inside rest) up n h g i word a l w =
      three n (count inside) (count rest) i a l
      (λ e.
      let line : line_at lines i ≡ row up (What.named name) begin end = ap (line_at lines) e ∙ stand_element lines up n name begin end inside rest h in
      let same : name ≡ word = named_same (sym (ap (λ (r : Row). r.what) line) ∙ w) in
      subst (λ (r : Row). Spans (drop (suc r.begin) whole) word) (sym line) (subst (λ x. Spans (drop (suc begin) whole) x) same g.0))
      (λ b m. spans inside n (suc n) (stand_inside lines up n name begin end inside rest h) g.1 i word b m w)
      (λ b m. spans rest up (suc n + count inside) (stand_rest lines up n name begin end inside rest h) g.2 i word b m w)
  spans (chars begin end rest) up n h g i word a l w =
      two n (count rest) i a l (λ e. absurd (text_named word (sym (ap (λ (r : Row). r.what) (ap (line_at lines) e ∙ stand_chars lines up n begin end rest h)) ∙ w)))
      (λ b m. spans rest up (suc n) (stand_behind lines up n begin end rest h) g i word b m w)

-- The bytes of the run.
spanned_bytes : (whole name : List ℕ) (from : ℕ) → Spans (drop from whole) name → bytes_at whole from (from + run_of name_part (drop from whole)) ≡ name
spanned_bytes whole name from s =
    let long : from + run_of name_part (drop from whole) - from ≡ length name = omega (arith, s.long) in
    ap (λ n. take n (drop from whole)) long ∙ s.is

pub names_stand : NamesStand
names_stand whole tree h zero name l w = absurd (root_named name w)
names_stand whole tree h (suc i) name l w =
    spanned_bytes whole name (suc (line_at (table (length whole) tree) (suc i)).begin)
    (spans whole (table (length whole) tree) tree 0 1 (stand_table (length whole) tree) (derived_spanned ((accepted whole tree).0 h)) (suc i) name (omega arith)
    (omega (arith, length_table (length whole) tree)) w)
