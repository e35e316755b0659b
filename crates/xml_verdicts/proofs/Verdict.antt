-- How judging ends: past the element, short of it, at a thing that is left out, or at a byte with which nothing goes on; and that nothing is left out before.
-- By induction over the bytes. Assumes nothing.
use Prim.Native.Nat.{ℕ, zero, suc, ◌+◌, ◌<◌, ◌≤◌}
use native.Mathlib.Omega.{arith}
use mathlib.Core.Path.{◌≡◌, refl, sym, ◌∙◌, ap, subst}
use mathlib.Core.Bool.{Bool, true, false, cond}
use mathlib.Core.List.{List, [], ◌∷◌, ◌++◌, append-nil}
use mathlib.Core.Option.{Option, none, some}
use lib.ListN.{length, take, drop, take-append-drop}
use lib.Seq.{take-append-le}
use Rattle.paper.specs.Xml.{Nodes, quote_of, other_encoding, State, Frame, Mode, start, first, heading, ahead, opening, in_name, in_tag, emptied, content, run, partly, closing, ended}
use Rattle.paper.specs.Xml.{step, left_out, Judged, wanted, unwanted, at_end, onward, judge, read_xml}
use Rattle.paper.proofs.Tests.{some_inj, none-some}
use Rattle.xml_grammar.proofs.Moves.{state, Runs, still, onto, runs_cut}
use Rattle.xml_verdicts.proofs.Unending.{Ended}

-- Reading goes over the bytes, and at none of them a thing opens that is left out; the rest follows.
pub data Calm : ℕ → State → List ℕ → State → List ℕ → Type 0 where
  calm_still : {at : ℕ} {s : State} {rest : List ℕ} → Calm at s [] s rest
  calm_onto : {at b : ℕ} {bs rest : List ℕ} {s t u : State} → left_out s.mode (b ∷ (bs ++ rest)) ≡ false → step at s b ≡ some t → Calm (suc at) t bs u rest → Calm at s (b ∷ bs) u rest

pub calm_runs : {at : ℕ} {bs rest : List ℕ} {s u : State} → Calm at s bs u rest → Runs at s bs u
calm_runs calm_still = still
calm_runs (calm_onto l h c) = onto h (calm_runs c)

pub data Verdict (at : ℕ) (s : State) (text : List ℕ) : Judged → Type 0 where
  ends : {u : State} {tree : Nodes} → Calm at s text u [] → u.mode ≡ ended tree → Verdict at s text (wanted tree)
  short : {u : State} {place : ℕ} → Calm at s text u [] → (Ended u → ⊥) → place ≡ at + length text → Verdict at s text (unwanted 11 place)
  left_out_lem : {u : State} {place : ℕ} (before : List ℕ) (c : ℕ) (rest : List ℕ) → before ++ (c ∷ rest) ≡ text → Calm at s before u (c ∷ rest) → left_out u.mode (c ∷ rest) ≡ true
      → place ≡ at + length before → Verdict at s text (unwanted 12 place)
  stuck : {u : State} {place : ℕ} (before : List ℕ) (c : ℕ) (rest : List ℕ) → before ++ (c ∷ rest) ≡ text → Calm at s before u (c ∷ rest) → left_out u.mode (c ∷ rest) ≡ false
      → step place u c ≡ none → place ≡ at + length before → Verdict at s text (unwanted 11 place)

verdict_on : {at b : ℕ} {bs : List ℕ} {s t : State} {j : Judged} → left_out s.mode (b ∷ bs) ≡ false → step at s b ≡ some t → Verdict (suc at) t bs j → Verdict at s (b ∷ bs) j
verdict_on {b = b} {bs = bs} {s = s} l h (ends c e) = ends (calm_onto (subst (λ x. left_out s.mode (b ∷ x) ≡ false) (sym (append-nil bs)) l) h c) e
verdict_on {b = b} {bs = bs} {s = s} l h (short {place = place} c n p) = short {place = place} (calm_onto (subst (λ x. left_out s.mode (b ∷ x) ≡ false) (sym (append-nil bs)) l) h c) n (omega arith)
verdict_on {b = b} {s = s} l h (left_out_lem {place = place} before d rest e c k p) =
    left_out_lem {place = place} (b ∷ before) d rest (ap (λ x. b ∷ x) e) (calm_onto (subst (λ x. left_out s.mode (b ∷ x) ≡ false) (sym e) l) h c) k (omega arith)
verdict_on {b = b} {s = s} l h (stuck {place = place} before d rest e c k i p) =
    stuck {place = place} (b ∷ before) d rest (ap (λ x. b ∷ x) e) (calm_onto (subst (λ x. left_out s.mode (b ∷ x) ≡ false) (sym e) l) h c) k i (omega arith)

verdict_end : (at : ℕ) (m : Mode) (fs : List Frame) → Verdict at (state m fs) [] (at_end m at)
verdict_end at start fs = short {place = at} calm_still (λ e. let k = e.1 in let z : ◌≡◌ {A = ℕ} 0 1 = cc in omega arith) (omega arith)
verdict_end at first fs = short {place = at} calm_still (λ e. let k = e.1 in let z : ◌≡◌ {A = ℕ} 0 1 = cc in omega arith) (omega arith)
verdict_end at (heading p) fs = short {place = at} calm_still (λ e. let k = e.1 in let z : ◌≡◌ {A = ℕ} 0 1 = cc in omega arith) (omega arith)
verdict_end at ahead fs = short {place = at} calm_still (λ e. let k = e.1 in let z : ◌≡◌ {A = ℕ} 0 1 = cc in omega arith) (omega arith)
verdict_end at (opening begin) fs = short {place = at} calm_still (λ e. let k = e.1 in let z : ◌≡◌ {A = ℕ} 0 1 = cc in omega arith) (omega arith)
verdict_end at (in_name begin name) fs = short {place = at} calm_still (λ e. let k = e.1 in let z : ◌≡◌ {A = ℕ} 0 1 = cc in omega arith) (omega arith)
verdict_end at (in_tag begin name) fs = short {place = at} calm_still (λ e. let k = e.1 in let z : ◌≡◌ {A = ℕ} 0 1 = cc in omega arith) (omega arith)
verdict_end at (emptied begin name) fs = short {place = at} calm_still (λ e. let k = e.1 in let z : ◌≡◌ {A = ℕ} 0 1 = cc in omega arith) (omega arith)
verdict_end at content fs = short {place = at} calm_still (λ e. let k = e.1 in let z : ◌≡◌ {A = ℕ} 0 1 = cc in omega arith) (omega arith)
verdict_end at (run begin k) fs = short {place = at} calm_still (λ e. let k = e.1 in let z : ◌≡◌ {A = ℕ} 0 1 = cc in omega arith) (omega arith)
verdict_end at (partly begin p) fs = short {place = at} calm_still (λ e. let k = e.1 in let z : ◌≡◌ {A = ℕ} 0 1 = cc in omega arith) (omega arith)
verdict_end at (closing name) fs = short {place = at} calm_still (λ e. let k = e.1 in let z : ◌≡◌ {A = ℕ} 0 1 = cc in omega arith) (omega arith)
verdict_end at (ended tree) fs = ends calm_still refl

pub verdict : (bs : List ℕ) (at : ℕ) (s : State) → Verdict at s bs (judge at s bs)
verdict [] at s = verdict_end at s.mode s.frames
verdict (b ∷ bs) at s = go (left_out s.mode (b ∷ bs)) refl (step at s b) refl (λ t. verdict bs (suc at) t)
  where
    go : (l : Bool) → left_out s.mode (b ∷ bs) ≡ l → (o : Option State) → step at s b ≡ o → ((t : State) → Verdict (suc at) t bs (judge (suc at) t bs))
        → Verdict at s (b ∷ bs) (cond l (unwanted 12 at) (onward at o (λ t. judge (suc at) t bs)))
    go true l o h f = left_out_lem {place = at} [] b bs refl calm_still l (omega arith)
    go false l none h f = stuck {place = at} [] b bs refl calm_still l h (omega arith)
    go false l (some t) h f = verdict_on l h (f t)

pub verdict_text : (text : List ℕ) → Verdict 0 (state start []) text (read_xml text)
unfolding read_xml
verdict_text text = verdict text 0 (state start [])

-- WHAT A CALM WAY SAYS of the places on it.

-- Nothing is left out at any of them.
pub calm_quiet : {at : ℕ} {bs rest : List ℕ} {s u t : State} → Calm at s bs u rest → (n : ℕ) → n < length bs → Runs at s (take n (bs ++ rest)) t → left_out t.mode (drop n (bs ++ rest)) ≡ false
calm_quiet calm_still n l r = absurd (omega arith)
calm_quiet (calm_onto l h c) zero m still = l
calm_quiet {t = t} (calm_onto {at = at} {bs = bs} {rest = rest} l h c) (suc n) m (onto k r) =
    calm_quiet c n (omega arith) (subst (λ z. Runs (suc at) z (take n (bs ++ rest)) t) (some_inj (sym k ∙ h)) r)

-- Each is reached.
pub calm_reaches : {at : ℕ} {bs rest : List ℕ} {s u : State} → Calm at s bs u rest → (n : ℕ) → n ≤ length bs → (t : State) × Runs at s (take n (bs ++ rest)) t
calm_reaches {at = at} {bs = bs} {rest = rest} {s = s} {u = u} c n l =
    let cut = runs_cut (take n bs) (subst (λ x. Runs at s x u) (sym (take-append-drop n bs)) (calm_runs c)) in
    (cut.0, subst (λ x. Runs at s x cut.0) (sym (take-append-le n bs rest l)) cut.1)

-- None past a byte with which nothing goes on.
pub calm_stuck : {at : ℕ} {bs rest : List ℕ} {c place : ℕ} {s u t : State} → Calm at s bs u (c ∷ rest) → step place u c ≡ none → place ≡ at + length bs → (n : ℕ) → length bs < n
    → Runs at s (take n (bs ++ (c ∷ rest))) t → ⊥
calm_stuck calm_still i p zero l r = omega arith
calm_stuck {c = c} {u = u} (calm_still {at = at}) i p (suc n) l (onto k r) = none-some (sym i ∙ ap (λ m. step m u c) (let e : _ ≡ at = omega arith in e) ∙ k)
calm_stuck (calm_onto l h c) i p zero m r = omega arith
calm_stuck {rest = rest} {c = d} {t = t} (calm_onto {at = at} {bs = bs} l h c) i p (suc n) m (onto k r) =
    calm_stuck c i (omega arith) n (omega arith) (subst (λ z. Runs (suc at) z (take n (bs ++ (d ∷ rest))) t) (some_inj (sym k ∙ h)) r)

-- Where no byte is left, nothing is left out.
pub nothing_left : (m : Mode) → left_out m [] ≡ false
unfolding left_out
nothing_left start = refl
nothing_left first = refl
nothing_left (heading p) = no_encoding (quote_of p)
  where
    no_encoding : (q : Option ℕ) → other_encoding q [] ≡ false
    no_encoding none = refl
    no_encoding (some q) = refl
nothing_left ahead = refl
nothing_left (opening begin) = refl
nothing_left (in_name begin name) = refl
nothing_left (in_tag begin name) = refl
nothing_left (emptied begin name) = refl
nothing_left content = refl
nothing_left (run begin k) = refl
nothing_left (partly begin p) = refl
nothing_left (closing name) = refl
nothing_left (ended tree) = refl
