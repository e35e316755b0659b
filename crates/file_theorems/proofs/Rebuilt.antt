-- What is written for nodes whose names are names and whose texts are characters and references is derived again, as the same nodes with texts side by side made one.
-- By induction over the nodes, once from where a run may begin and once from inside a run behind k `]`. Assumes nothing.
use Prim.Native.Nat.{ℕ, suc, ◌+◌, ◌-◌}
use native.Mathlib.Omega.{arith}
use mathlib.Core.Path.{◌≡◌, refl, sym, ◌∙◌, ap, ap₂, subst}
use mathlib.Core.Bool.{Bool, true, false, cond}
use mathlib.Core.List.{List, [], ◌∷◌, ◌++◌, append_assoc, append-nil}
use lib.ListN.{length, take, drop, length-append}
use Rattle.paper.specs.Names.{name_parts, is_name}
use Rattle.paper.specs.Document.{marked}
use Rattle.paper.specs.Xml.{Nodes, nothing, element, chars, count}
use Rattle.paper.specs.WriteXml.{pruned, bytes_at, squares_past, escaped, as_xml}
use Rattle.paper.proofs.Tests.{and_true, true_and}
use Rattle.xml_grammar.specs.Productions.{no_more, PartsIn, name_ends, name_goes_on, NameIn, name-starts, Atom, AtomsIn, no_atom, RunIn, a_run, RowIn, row_ends, run_first, empty_first, full_first, Derives, text, not_declared}
use Rattle.xml_grammar.proofs.Squares.{fine, fine_marks}
use Rattle.xml_theorems.proofs.Nesting.{drop_next, say_further, many_further, name_further, run_further, declaration_further, rowed}
use Rattle.xml_theorems.proofs.Written.{take_front}
use Rattle.file_theorems.specs.Files.{Parts, before, parts_of, escaped_runs}
use Rattle.file_theorems.proofs.Letters.{say_again, Spelt, atoms_spelt, spelt_before, Puts, some_put, fine_then, escaped_then}

-- NAMES, at any place.
parts_name : {at to : ℕ} {bs name rest : List ℕ} → PartsIn at bs name to rest → name_parts name ≡ true
parts_name name_ends = refl
parts_name (name_goes_on h r) = true_and h (parts_name r)

is_name_lem : {at to : ℕ} {bs name rest : List ℕ} → NameIn at bs name to rest → is_name name ≡ true
is_name_lem (name-starts h r) = true_and h (parts_name r)

parts_again : (name : List ℕ) (at : ℕ) (rest : List ℕ) → name_parts name ≡ true → (to : ℕ) × PartsIn at (name ++ rest) name to rest
parts_again [] at rest h = (at, name_ends)
parts_again (b ∷ name) at rest h =
    let (u, v) = and_true _ (name_parts name) h in
    let (to, p) = parts_again name (suc at) rest v in
    (to, name_goes_on u p)

name_again : (name : List ℕ) (at : ℕ) (rest : List ℕ) → is_name name ≡ true → (to : ℕ) × NameIn at (name ++ rest) name to rest
name_again [] at rest h = absurd (let z : ◌≡◌ {A = ℕ} 0 1 = cc in omega arith)
name_again (b ∷ name) at rest h =
    let (u, v) = and_true _ (name_parts name) h in
    let (to, p) = parts_again name (suc at) rest v in
    (to, name-starts u p)

-- SOUND NODES: each name is a name, and the bytes of each text are characters and references, at least one.
pub record Says (ws : List ℕ) : Type 0 where
  pub head : Atom
  pub others : List Atom
  pub says : Spelt ws (head ∷ others)

abbrev pub Sound : List ℕ → Nodes → Type 0
Sound whole nothing = Unit
Sound whole (element name begin end inside rest) = (is_name name ≡ true) × Sound whole inside × Sound whole rest
Sound whole (chars begin end rest) = Says (bytes_at whole begin end) × Sound whole rest

-- Those of a derived text are.
run_bytes : {at to : ℕ} {bs rest : List ℕ} → RunIn at bs to rest → (ws : List ℕ) → bs ≡ ws ++ rest → (whole : List ℕ) → drop at whole ≡ bs → bytes_at whole at to ≡ ws
run_bytes {at} {to} {bs} {rest} r ws e whole h =
    let far : at + length bs ≡ to + length rest = (run_further r).0.level in
    let many : length bs ≡ length ws + length rest = ap length e ∙ length-append ws rest in
    let long : to - at ≡ length ws = omega (arith, (run_further r).1) in
    ap (take (to - at)) (h ∙ e) ∙ ap (λ n. take n (ws ++ rest)) long ∙ take_front ws rest

run_says : {at to : ℕ} {bs rest : List ℕ} → RunIn at bs to rest → (whole : List ℕ) → drop at whole ≡ bs → Says (bytes_at whole at to)
run_says (a_run {x = x} {xs = xs} r m) whole h =
    let (ws, s, e) = atoms_spelt r in
    record { head = x; others = xs; says = subst (λ (w : List ℕ). Spelt w (x ∷ xs)) (sym (run_bytes (a_run r m) ws e whole h)) s }

row_sound : {fresh : Bool} {at to : ℕ} {bs rest : List ℕ} {nodes : Nodes} → RowIn fresh at bs nodes to rest → (whole : List ℕ) → drop at whole ≡ bs → Sound whole nodes
row_sound row_ends whole h = tt
row_sound (run_first a r) whole h = (run_says a whole h, row_sound r whole ((run_further a).0.lies whole h))
row_sound {at = at} (empty_first {q = q} n s r) whole h =
    let slash = (many_further s).lies whole ((name_further n).lies whole (drop_next at whole h)) in
    (is_name_lem n, tt, row_sound r whole (drop_next (suc q) whole (drop_next q whole slash)))
row_sound {at = at} (full_first {q = q} {r = r₁} {t = t} n s i e w r) whole h =
    let inner = drop_next q whole ((many_further s).lies whole ((name_further n).lies whole (drop_next at whole h))) in
    let tag = (rowed i).moves.lies whole inner in
    let last = (many_further w).lies whole ((say_further e).lies whole (drop_next (suc r₁) whole (drop_next r₁ whole tag))) in
    (is_name_lem n, row_sound i whole inner, row_sound r whole (drop_next t whole last))

pub derived_sound : {whole : List ℕ} {tree : Nodes} → Derives whole tree → Sound whole tree
derived_sound {whole} (text d s r w) = row_sound r whole ((many_further s).lies whole ((declaration_further d).lies whole refl))

-- And so are the marked ones of them.
pub pruned_sound : (whole marks : List ℕ) (nodes : Nodes) (n : ℕ) → Sound whole nodes → Sound whole (pruned marks n nodes)
pruned_sound whole marks nothing n s = tt
pruned_sound whole marks (element name begin end inside rest) n s =
    let later = pruned_sound whole marks rest (suc n + count inside) s.2 in
    go (marked marks n) (s.0, pruned_sound whole marks inside (suc n) s.1, later) later
  where
    go : (b : Bool) → Sound whole (element name begin end (pruned marks (suc n) inside) (pruned marks (suc n + count inside) rest)) → Sound whole (pruned marks (suc n + count inside) rest)
        → Sound whole
        (cond b (element name begin end (pruned marks (suc n) inside) (pruned marks (suc n + count inside) rest)) (pruned marks (suc n + count inside) rest))
    go true x y = x
    go false x y = y
pruned_sound whole marks (chars begin end rest) n s =
    let later = pruned_sound whole marks rest (suc n) s.1 in
    go (marked marks n) (s.0, later) later
  where
    go : (b : Bool) → Sound whole (chars begin end (pruned marks (suc n) rest)) → Sound whole (pruned marks (suc n) rest) → Sound whole (cond b (chars begin end (pruned marks (suc n) rest)) (pruned marks (suc n) rest))
    go true x y = x
    go false x y = y

-- THE SAME NODES, apart from their places.
pub data Alike : Nodes → Nodes → Type 0 where
  alike_nothing : Alike nothing nothing
  alike_element : {name : List ℕ} {b e b' e' : ℕ} {inside rest inside' rest' : Nodes} → Alike inside inside' → Alike rest rest'
      → Alike (element name b e inside rest) (element name b' e' inside' rest')
  alike_chars : {b e b' e' : ℕ} {rest rest' : Nodes} → Alike rest rest' → Alike (chars b e rest) (chars b' e' rest')

-- Of texts side by side only the first (`fresh` says that none stands right before).
abbrev pub joined : Bool → Nodes → Nodes
joined fresh nothing = nothing
joined fresh (element name begin end inside rest) = element name begin end (joined true inside) (joined true rest)
joined fresh (chars begin end rest) = cond fresh (chars begin end (joined false rest)) (joined false rest)

-- A row that is derived again.
pub record Again (fresh : Bool) (at : ℕ) (bs rest : List ℕ) (shape : Nodes) (content : Parts) : Type 0 where
  pub past : ℕ
  pub nodes : Nodes
  pub row : RowIn fresh at bs nodes past rest
  pub alike : Alike shape nodes
  pub parts : (file : List ℕ) → drop at file ≡ bs → parts_of file nodes ≡ content

-- A run under way behind k `]`, which these characters and references end, and the row behind it: `lead` are the bytes that are escaped, `tail` what stands behind the run.
record Going (k at : ℕ) (bs rest : List ℕ) (shape : Nodes) (content : Parts) (atoms : List Atom) : Type 0 where
  mid : ℕ
  behind : List ℕ
  run : AtomsIn at bs atoms mid behind
  may : fine k atoms ≡ true
  lead : List ℕ
  tail : Parts
  wrote : bs ≡ escaped k lead ++ behind
  splits : (ws : List ℕ) → before ws content ≡ Parts.run (ws ++ lead) tail
  apart : (ws : List ℕ) → before ws (escaped_runs tail) ≡ Parts.run ws (escaped_runs tail)
  again : Again false mid behind rest shape (escaped_runs tail)

pub record Back (whole : List ℕ) (nodes : Nodes) : Type 0 where
  pub begins : (at : ℕ) (rest : List ℕ) → Again true at (as_xml whole 0 nodes ++ rest) rest (joined true nodes) (escaped_runs (parts_of whole nodes))
  goes_on : (k at : ℕ) (rest : List ℕ) → (atoms : List Atom) × Going k at (as_xml whole k nodes ++ rest) rest (joined false nodes) (parts_of whole nodes) atoms

-- An element before the bytes behind it.
pub element_bytes : (whole name : List ℕ) (k begin end : ℕ) (inside more : Nodes) (rest : List ℕ)
    → as_xml whole k (element name begin end inside more) ++ rest
    ≡ 60 ∷ name ++ (62 ∷ as_xml whole 0 inside ++ (60 ∷ 47 ∷ name ++ (62 ∷ as_xml whole 0 more ++ rest)))
element_bytes whole name k begin end inside more rest =
    let last : List ℕ = 62 ∷ as_xml whole 0 more in
    let tag : List ℕ = 60 ∷ 47 ∷ name ++ last in
    append_assoc (60 ∷ name) (62 ∷ as_xml whole 0 inside ++ tag) rest
    ∙ ap (λ (l : List ℕ). 60 ∷ name ++ l)
    (append_assoc (62 ∷ as_xml whole 0 inside) tag rest ∙ ap (λ (l : List ℕ). 62 ∷ as_xml whole 0 inside ++ l) (append_assoc (60 ∷ 47 ∷ name) last rest))

element_again : {whole name : List ℕ} {inside more : Nodes} (fresh old : Bool) (k begin end : ℕ) → is_name name ≡ true → Back whole inside → Back whole more → (at : ℕ) (rest : List ℕ)
    → Again fresh at (as_xml whole k (element name begin end inside more) ++ rest) rest (joined old (element name begin end inside more)) (escaped_runs (parts_of whole (element name begin end inside more)))
element_again {whole} {name} {inside} {more} fresh old k begin end h i m at rest =
    let last : List ℕ = 62 ∷ as_xml whole 0 more ++ rest in
    let tag : List ℕ = name ++ last in
    let (p, n) = name_again name (suc at) (62 ∷ as_xml whole 0 inside ++ (60 ∷ 47 ∷ tag)) h in
    let inner = i.begins (suc p) (60 ∷ 47 ∷ tag) in
    let (q, s) = say_again name (suc (suc inner.past)) last in
    let outer = m.begins (suc q) rest in
    subst (λ (l : List ℕ). Again fresh at l rest (joined old (element name begin end inside more)) (escaped_runs (parts_of whole (element name begin end inside more))))
    (sym (element_bytes whole name k begin end inside more rest))
    (record {
      past = outer.past;
      nodes = element name at (suc q) inner.nodes outer.nodes;
      row = full_first n no_more inner.row s no_more outer.row;
      alike = alike_element inner.alike outer.alike;
      parts =
          λ file f.
          let within = drop_next p file ((name_further n).lies file (drop_next at file f)) in
          let closing = drop_next (suc inner.past) file (drop_next inner.past file ((rowed inner.row).moves.lies file within)) in
          ap₂ (Parts.tag name) (inner.parts file within) (outer.parts file (drop_next q file ((say_further s).lies file closing)));
    })

-- Bytes before others.
before_before : (vs ws : List ℕ) (p : Parts) → before vs (before ws p) ≡ before (vs ++ ws) p
before_before vs ws Parts.end = refl
before_before vs ws (Parts.tag name inside rest) = refl
before_before vs ws (Parts.run more rest) = ap (λ (l : List ℕ). Parts.run l rest) (sym (append_assoc vs ws more))

-- A text before a run that goes on; and from where the run begins, since it has a character or a reference at least.
text_going : {ws bs rest : List ℕ} {shape : Nodes} {content : Parts} {k : ℕ} {ys : List Atom} → Puts k ws ys
    → ((at : ℕ) → (zs : List Atom) × Going (squares_past k ws) at bs rest shape content zs) → (at : ℕ) → (zs : List Atom) × Going k at (escaped k ws ++ bs) rest shape (before ws content) (ys ++ zs)
text_going {ws} {bs} {content = content} {k = k} {ys = ys} p next at =
    let (mid, ahead) = spelt_before p.is at bs in
    let (zs, g) = next mid in (
      zs,
      record {
        mid = g.mid;
        behind = g.behind;
        run = ahead zs g.mid g.behind g.run;
        may = fine_then ys zs k p.may (ap (λ n. fine n zs) p.leaves ∙ g.may);
        lead = ws ++ g.lead;
        tail = g.tail;
        wrote =
            ap (λ (l : List ℕ). escaped k ws ++ l) g.wrote ∙ sym (append_assoc (escaped k ws) (escaped (squares_past k ws) g.lead) g.behind)
            ∙ ap (λ (l : List ℕ). l ++ g.behind) (sym (escaped_then ws g.lead k));
        splits = λ vs. before_before vs ws content ∙ g.splits (vs ++ ws) ∙ ap (λ (l : List ℕ). Parts.run l g.tail) (append_assoc vs ws g.lead);
        apart = g.apart;
        again = g.again;
      },
    )

text_begins : {ws bs rest : List ℕ} {shape : Nodes} {content : Parts} {y : Atom} {ys : List Atom} (begin end : ℕ) → Puts 0 ws (y ∷ ys)
    → ((at : ℕ) → (zs : List Atom) × Going (squares_past 0 ws) at bs rest shape content zs)
    → (at : ℕ) → Again true at (escaped 0 ws ++ bs) rest (chars begin end shape) (escaped_runs (before ws content))
text_begins {ws} {bs} {content = content} {y = y} {ys = ys} begin end p next at =
    let (zs, g) = text_going p next at in
    let r : RunIn at (escaped 0 ws ++ bs) g.mid g.behind = a_run g.run (fine_marks (y ∷ ys ++ zs) g.may) in
    record {
      past = g.again.past;
      nodes = chars at g.mid g.again.nodes;
      row = run_first r g.again.row;
      alike = alike_chars g.again.alike;
      parts =
          λ file f.
          ap₂ before (run_bytes r (escaped 0 g.lead) g.wrote file f) (g.again.parts file ((run_further r).0.lies file f)) ∙ g.apart (escaped 0 g.lead)
          ∙ ap escaped_runs (sym (sym (before_before [] ws content) ∙ g.splits []));
    }

pub text_bytes : (whole : List ℕ) (k begin end : ℕ) (more : Nodes) (rest : List ℕ)
    → as_xml whole k (chars begin end more) ++ rest ≡ escaped k (bytes_at whole begin end) ++ (as_xml whole (squares_past k (bytes_at whole begin end)) more ++ rest)
text_bytes whole k begin end more rest = append_assoc (escaped k (bytes_at whole begin end)) (as_xml whole (squares_past k (bytes_at whole begin end)) more) rest

-- No text comes next: the run under way ends here.
run-stops : {bs rest : List ℕ} {shape : Nodes} (content : Parts) (k at : ℕ) → ((ws : List ℕ) → before ws content ≡ Parts.run ws content)
    → ((ws : List ℕ) → before ws (escaped_runs content) ≡ Parts.run ws (escaped_runs content)) → Again false at bs rest shape (escaped_runs content)
    → (atoms : List Atom) × Going k at bs rest shape content atoms
run-stops {bs} content k at e f a = (
  [],
  record {
    mid = at;
    behind = bs;
    run = no_atom;
    may = refl;
    lead = [];
    tail = content;
    wrote = refl;
    splits = λ ws. e ws ∙ ap (λ (l : List ℕ). Parts.run l content) (sym (append-nil ws));
    apart = f;
    again = a;
  },
)

pub back : (whole : List ℕ) (nodes : Nodes) → Sound whole nodes → Back whole nodes
back whole nothing s =
    record {
      begins = λ at rest. record { past = at; nodes = nothing; row = row_ends; alike = alike_nothing; parts = λ file f. refl };
      goes_on =
          λ k at rest.
          run-stops Parts.end k at (λ ws. refl) (λ ws. refl) (record { past = at; nodes = nothing; row = row_ends; alike = alike_nothing; parts = λ file f. refl });
    }
back whole (element name begin end inside rest) s =
    let i = back whole inside s.1 in
    let m = back whole rest s.2 in
    record {
      begins = λ at after. element_again true true 0 begin end s.0 i m at after;
      goes_on =
          λ k at after.
          run-stops (Parts.tag name (parts_of whole inside) (parts_of whole rest)) k at (λ ws. refl) (λ ws. refl) (element_again false false k begin end s.0 i m at after);
    }
back whole (chars begin end rest) s =
    let m = back whole rest s.1 in
    let ws = bytes_at whole begin end in
    let content = before ws (parts_of whole rest) in
    record {
      begins =
          λ at after.
          let (y, ys, p) = some_put s.0.says 0 in
          subst (λ (l : List ℕ). Again true at l after (chars begin end (joined false rest)) (escaped_runs content)) (sym (text_bytes whole 0 begin end rest after))
          (text_begins begin end p (λ mid. m.goes_on (squares_past 0 ws) mid after) at);
      goes_on =
          λ k at after.
          let (y, ys, p) = some_put s.0.says k in
          let (zs, g) = text_going p (λ mid. m.goes_on (squares_past k ws) mid after) at in
          (y ∷ ys ++ zs, subst (λ (l : List ℕ). Going k at l after (joined false rest) content (y ∷ ys ++ zs)) (sym (text_bytes whole k begin end rest after)) g);
    }

-- THE ONE ELEMENT as a text of its own.
pub record File (whole bs name : List ℕ) (inside : Nodes) : Type 0 where
  pub past : ℕ
  pub within : Nodes
  pub derived : Derives bs (element name 0 past within nothing)
  pub alike : Alike (joined true inside) within
  pub parts : parts_of bs within ≡ escaped_runs (parts_of whole inside)

pub file : (whole name : List ℕ) (begin end : ℕ) (inside : Nodes) → Sound whole (element name begin end inside nothing)
    → File whole (as_xml whole 0 (element name begin end inside nothing)) name inside
file whole name begin end inside s =
    let (p, n) = name_again name 1 (62 ∷ as_xml whole 0 inside ++ (60 ∷ 47 ∷ name ++ (62 ∷ []))) s.0 in
    let inner = (back whole inside s.1).begins (suc p) (60 ∷ 47 ∷ name ++ (62 ∷ [])) in
    let (q, w) = say_again name (suc (suc inner.past)) (62 ∷ []) in
    record {
      past = suc q;
      within = inner.nodes;
      derived = text not_declared no_more (full_first n no_more inner.row w no_more row_ends) no_more;
      alike = inner.alike;
      parts =
          let bs = as_xml whole 0 (element name begin end inside nothing) in
          inner.parts bs (drop_next p bs ((name_further n).lies bs refl));
    }
