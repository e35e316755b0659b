-- Wherever reading stands, some bytes lead to the end of a wanted text; so the bytes that it went over begin one.
-- The open patterns are finished, then the open elements are closed, the innermost first. Assumes nothing.
use Prim.Native.Nat.{ℕ, suc, ◌+◌}
use mathlib.Core.Path.{◌≡◌, refl, ap}
use mathlib.Core.Bool.{true}
use mathlib.Core.List.{List, [], ◌∷◌, ◌++◌}
use mathlib.Core.Option.{some}
use lib.Dec.{eqb}
use lib.ListN.{length}
use borrow.Author.Tests.{eq-eqb}
use Rattle.paper.specs.Xml.{Nodes, nothing, element, chars, Pattern}
use Rattle.paper.specs.Xml.{Frame, Mode, start, ahead, opening, in_name, emptied, content, run, partly, closing, ended, State, with, goes_on, step}
use Rattle.xml_grammar.specs.Productions.{SayIn, said, saying}
use Rattle.xml_verdicts.specs.Owed.{Begins}
use Rattle.xml_grammar.proofs.Moves.{state, Runs, still, onto, runs_then, runs_cut, goes_runs}
use Rattle.xml_grammar.proofs.Live.{Finishes, last, further, live_finishes}
use Rattle.xml_grammar.proofs.Heading.{head}
use Rattle.xml_grammar.proofs.Followed.{finish_goes, followed}
use Rattle.xml_grammar.proofs.Reached.{Reached, reached, derived, at-start, at_first, in_heading, at_ahead, at_opening, in_name_lem, in_tag_lem, at_emptied}
use Rattle.xml_grammar.proofs.Reached.{at_content, in_run, in_part, in_closing, at_closing, at_ended}

-- Some bytes lead to the end.
pub record Completes (at : ℕ) (s : State) : Type 0 where
  pub bytes : List ℕ
  pub tree : Nodes
  pub runs : Runs at s bytes (state (ended tree) [])

-- A byte before them, or several.
byte_first : {at : ℕ} {s t : State} (b : ℕ) → step at s b ≡ some t → Completes (suc at) t → Completes at s
byte_first b h c = record { bytes = b ∷ c.bytes; tree = c.tree; runs = onto h c.runs }

bytes_first : {at : ℕ} {s t : State} {bs : List ℕ} → Runs at s bs t → Completes (at + length bs) t → Completes at s
bytes_first {bs = bs} r c = record { bytes = bs ++ c.bytes; tree = c.tree; runs = runs_then r c.runs }

-- The name of an end tag.
name_first : (ws : List ℕ) (fs : List Frame) → ((at : ℕ) → Completes at (state (closing []) fs)) → (at : ℕ) → Completes at (state (closing ws) fs)
name_first [] fs c at = c at
name_first (w ∷ ws) fs c at = byte_first w here (name_first ws fs c (suc at))
  where
    here : step at (state (closing (w ∷ ws)) fs) w ≡ some (state (closing ws) fs)
    here = let same : eqb w w ≡ true = eq-eqb w w refl in rw same

-- All end tags.
closes : (fs : List Frame) (f : Frame) (at : ℕ) → Completes at (state (closing []) (f ∷ fs))
closes [] f at = byte_first 62 refl (record { bytes = []; tree = element f.name f.begin (suc at) f.inside nothing; runs = still })
closes (g ∷ fs) f at =
    byte_first 62 refl
    (byte_first 60 refl
    (byte_first 47 refl
    (name_first g.name (with g (element f.name f.begin (suc at) f.inside nothing) ∷ fs) (λ n. closes fs (with g (element f.name f.begin (suc at) f.inside nothing)) n)
    (suc (suc (suc at))))))

tag_closes : (begin : ℕ) (fs : List Frame) (f : Frame) (at : ℕ) → Completes at (state (opening begin) (f ∷ fs))
tag_closes begin fs f at = byte_first 47 refl (name_first f.name (f ∷ fs) (λ n. closes fs f n) (suc at))

content_closes : (fs : List Frame) (f : Frame) (at : ℕ) → Completes at (state content (f ∷ fs))
content_closes fs f at = byte_first 60 refl (tag_closes at fs f (suc at))

run_closes : (begin k : ℕ) (fs : List Frame) (f : Frame) (at : ℕ) → Completes at (state (run begin k) (f ∷ fs))
run_closes begin k fs f at = byte_first 60 refl (tag_closes at fs (with f (chars begin at nothing)) (suc at))

-- An empty element.
emptied_closes : (begin : ℕ) (name : List ℕ) (fs : List Frame) (at : ℕ) → Completes at (state (emptied begin name) fs)
emptied_closes begin name [] at = byte_first 62 refl (record { bytes = []; tree = element name begin (suc at) nothing nothing; runs = still })
emptied_closes begin name (f ∷ fs) at = byte_first 62 refl (content_closes fs (with f (element name begin (suc at) nothing nothing)) (suc at))

name_closes : (begin : ℕ) (name : List ℕ) (fs : List Frame) (at : ℕ) → Completes at (state (in_name begin name) fs)
name_closes begin name fs at = byte_first 47 refl (emptied_closes begin name fs (suc at))

ahead_closes : (at : ℕ) → Completes at (state ahead [])
ahead_closes at = byte_first 60 refl (byte_first 97 refl (name_closes at (97 ∷ []) [] (suc (suc at))))

-- A pattern.
said_self : (ws : List ℕ) (at : ℕ) → (to : ℕ) × SayIn ws at ws to []
said_self [] at = (at, said)
said_self (w ∷ ws) at = let (to, s) = said_self ws (suc at) in (to, saying s)

part_closes : {p : Pattern} {ws : List ℕ} (begin : ℕ) (fs : List Frame) (f : Frame) (at : ℕ) → Finishes p ws → Completes at (state (partly begin p) (f ∷ fs))
part_closes {p = p} {ws = ws} begin fs f at k =
    bytes_first (goes_runs (finish_goes (state (partly begin p) (f ∷ fs)) (λ b q e. ap (goes_on begin (f ∷ fs)) e) k (said_self ws at).1)) (run_closes begin 0 fs f (at + length ws))

head_closes : {p : Pattern} {ws : List ℕ} (at : ℕ) → Finishes p ws → Completes at (head p)
head_closes {p = p} at (last {q = q} {b = b} h d) = byte_first b here (ahead_closes (suc at))
  where
    here : step at (head p) b ≡ some (state ahead [])
    here = rw (h, d)
head_closes {p = p} at (further {q = q} {b = b} h d k) = byte_first b here (head_closes (suc at) k)
  where
    here : step at (head p) b ≡ some (head q)
    here = rw (h, d)

pub completes : {whole bs : List ℕ} {m : Mode} {fs : List Frame} {to : ℕ} → Reached whole m fs to bs → (at : ℕ) → Completes at (state m fs)
completes at-start at = byte_first 60 refl (byte_first 97 refl (name_closes 0 (97 ∷ []) [] (suc (suc at))))
completes at_first at = byte_first 97 refl (name_closes 0 (97 ∷ []) [] (suc at))
completes (in_heading pass live d) at = head_closes at (live_finishes live d).1
completes (at_ahead o) at = ahead_closes at
completes (at_opening {begin = begin} {fs = fs} l o) at = byte_first 97 refl (name_closes begin (97 ∷ []) fs (suc at))
completes (in_name_lem {name = name} {begin = begin} {fs = fs} l o n) at = name_closes begin name fs at
completes (in_tag_lem {name = name} {begin = begin} {fs = fs} l o n w) at = byte_first 47 refl (emptied_closes begin name fs (suc at))
completes (at_emptied {name = name} {begin = begin} {fs = fs} o n m) at = emptied_closes begin name fs at
completes (at_content {f = f} {fs = fs} o) at = content_closes fs f at
completes (in_run {begin = begin} {k = k} {f = f} {fs = fs} o g r) at = run_closes begin k fs f at
completes (in_part {begin = begin} {f = f} {fs = fs} o g w pass live d) at = part_closes begin fs f at (live_finishes live d).1
completes (in_closing {xs = xs} {x = x} {f = f} {fs = fs} o y e) at = name_first (x ∷ xs) (f ∷ fs) (λ n. closes fs f n) at
completes (at_closing {f = f} {fs = fs} o y m) at = closes fs f at
completes (at_ended {name = name} {begin = begin} {past = past} {inside = inside} o r m) at = record { bytes = []; tree = element name begin past inside nothing; runs = still }

-- The bytes that reading goes over begin a wanted text, and reading goes over those that do.
pub runs_begins : {before : List ℕ} {s : State} → Runs 0 (state start []) before s → Begins before
runs_begins {before = before} r =
    let c = completes (reached r).1 (0 + length before) in
    (c.bytes, c.tree, derived (runs_then r c.runs) refl)

pub begins_runs : {before : List ℕ} → Begins before → (s : State) × Runs 0 (state start []) before s
begins_runs {before = before} (more, tree, d) = let c = runs_cut before (followed d) in (c.0, c.1)
