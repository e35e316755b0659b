-- Refusals 12 and 11 are given exactly where their lines hold first, and every text is read or refused.
-- From the verdict on the text, which ends at one place, compared with the place that the line names. Assumes nothing.
use Prim.Native.Nat.{ℕ, suc, ◌+◌, ◌<◌, ◌≤◌}
use native.Mathlib.Omega.{arith}
use mathlib.Core.Path.{◌≡◌, refl, sym, ◌∙◌, ap, subst, subst₂}
use mathlib.Core.Bool.{true, false, false≢true}
use mathlib.Core.List.{List, [], ◌∷◌, ◌++◌, append-nil}
use mathlib.Core.Logic.{◌⊎◌, inl, inr, ⊎_elim}
use lib.Dec.{ltb}
use borrow.Author.Tests.{ltb-true, ltb-false}
use lib.ListN.{length, take, drop, length-append, drop_of_length-le}
use lib.Seq.{take_at, drop_at}
use Rattle.paper.specs.Xml.{Nodes, State, start, left_out, Judged, wanted, unwanted, read_xml}
use Rattle.paper.proofs.Tests.{decide}
use Rattle.xml_verdicts.specs.Owed.{Begins, Opens, LeftOutAt, StuckAt, LeftOutRefused, StuckRefused, Settled}
use Rattle.xml_grammar.proofs.Moves.{state, Runs, runs_one}
use Rattle.xml_grammar.proofs.Reached.{derived}
use Rattle.xml_grammar.proofs.Followed.{followed}
use Rattle.xml_verdicts.proofs.Completed.{runs_begins, begins_runs}
use Rattle.xml_verdicts.proofs.Opening.{seen_opens, opens_seen}
use Rattle.xml_verdicts.proofs.Verdict.{Calm, calm_runs, calm_quiet, calm_reaches, calm_stuck, nothing_left, Verdict, ends, short, left_out_lem, stuck, verdict_text}

-- One number is below another, equal or above.
compared {ℓ} : {C : Type ℓ} (m n : ℕ) → (m < n → C) → (m ≡ n → C) → (n < m → C) → C
compared m n f g h = ⊎_elim (λ k. f (ltb-true m n k)) (λ k. ⊎_elim (λ j. h (ltb-true n m j)) (λ j. let a = ltb-false m n k in let b = ltb-false n m j in g (omega arith)) (decide (ltb n m))) (decide (ltb m n))

-- Where a thing is left out, reading stands and sees it.
out-seen {ℓ} : {C : Type ℓ} (text : List ℕ) (place : ℕ) → LeftOutAt text place → ((s : State) → Runs 0 (state start []) (take place text) s → left_out s.mode (drop place text) ≡ true → C) → C
out-seen text place o k = let (s, r) = begins_runs o.begun in k s r (opens_seen (drop place text) r o.opens)

-- Then a byte stands there.
out_inside : (text : List ℕ) (place : ℕ) → LeftOutAt text place → place < length text
out_inside text place o =
    ⊎_elim (λ k. ltb-true place (length text) k)
    (λ k.
    absurd
    (out-seen text place o
    (λ s r l.
    false≢true (sym (nothing_left s.mode) ∙ ap (left_out s.mode) (sym (drop_of_length-le text (ltb-false place (length text) k))) ∙ l))))
    (decide (ltb place (length text)))

-- None is left out on a calm way,
calm_none : {before rest : List ℕ} {u : State} (text : List ℕ) → before ++ rest ≡ text → Calm 0 (state start []) before u rest → (n : ℕ) → n < length before → LeftOutAt text n → ⊥
calm_none text e c n l o =
    out-seen text n o
    (λ s r h.
    false≢true
    (sym (calm_quiet c n l (subst (λ x. Runs 0 (state start []) (take n x) s) (sym e) r)) ∙ ap (λ x. left_out s.mode (drop n x)) e ∙ h))

-- nor behind it, where none is seen.
seen_none : {before rest : List ℕ} {c : ℕ} {u : State} (text : List ℕ) → before ++ (c ∷ rest) ≡ text → Calm 0 (state start []) before u (c ∷ rest) → left_out u.mode (c ∷ rest) ≡ false
    → LeftOutAt text (length before) → ⊥
seen_none {before = before} {rest = rest} {c = c} {u = u} text e w l o =
    out-seen text (length before) o
    (λ s r h.
    let front : take (length before) text ≡ before = ap (take (length before)) (sym e) ∙ take_at before (c ∷ rest) (length before) refl in
    let back : drop (length before) text ≡ c ∷ rest = ap (drop (length before)) (sym e) ∙ drop_at before (c ∷ rest) (length before) refl in
    let same : s ≡ u = runs_one (subst (λ x. Runs 0 (state start []) x s) front r) (calm_runs w) in
    false≢true (sym l ∙ subst₂ (λ z x. left_out z.mode x ≡ true) same back h))

-- Where one is seen, it is left out.
seen_out : {before rest : List ℕ} {c : ℕ} {u : State} (text : List ℕ) → before ++ (c ∷ rest) ≡ text → Calm 0 (state start []) before u (c ∷ rest) → left_out u.mode (c ∷ rest) ≡ true → LeftOutAt text (length before)
seen_out {before = before} {rest = rest} {c = c} {u = u} text e w l =
    let front : take (length before) text ≡ before = ap (take (length before)) (sym e) ∙ take_at before (c ∷ rest) (length before) refl in
    let back : drop (length before) text ≡ c ∷ rest = ap (drop (length before)) (sym e) ∙ drop_at before (c ∷ rest) (length before) refl in
    record {
      inside = omega (arith, simp length-append at (ap length e));
      begun = subst Begins (sym front) (runs_begins (calm_runs w));
      opens = subst₂ Opens (sym front) (sym back) (seen_opens (calm_runs w) l);
    }

-- All up to a place of a calm way, and to its end, begins a wanted text.
calm_begins : {before rest : List ℕ} {u : State} (text : List ℕ) → before ++ rest ≡ text → Calm 0 (state start []) before u rest → (n : ℕ) → n ≤ length before → Begins (take n text)
calm_begins text e c n l = let (t, r) = calm_reaches c n l in runs_begins (subst (λ x. Runs 0 (state start []) (take n x) t) e r)

-- REFUSAL 12.

out_refused : {text : List ℕ} {place : ℕ} → Verdict 0 (state start []) text (unwanted 12 place) → LeftOutAt text place × ((earlier : ℕ) → earlier < place → LeftOutAt text earlier → ⊥)
out_refused {text = text} {place = place} (left_out_lem before c rest e w l p) =
    let q : length before ≡ place = omega arith in
    (subst (LeftOutAt text) q (seen_out text e w l), λ earlier m o. calm_none text e w earlier (omega arith) o)

-- The verdict on a text where a thing is left out, and none before.
out_verdict : {text : List ℕ} {place : ℕ} {j : Judged} → LeftOutAt text place → ((earlier : ℕ) → earlier < place → LeftOutAt text earlier → ⊥) → Verdict 0 (state start []) text j → j ≡ unwanted 12 place
out_verdict {text} {place} o first (ends c e) = absurd (calm_none text (append-nil text) c place (out_inside text place o) o)
out_verdict {text} {place} o first (short c n p) = absurd (calm_none text (append-nil text) c place (out_inside text place o) o)
out_verdict {text} {place} o first (left_out_lem {place = there} before c rest e w l p) =
    compared place (length before) (λ m. absurd (calm_none text e w place m o)) (λ m. ap (unwanted 12) (let q : there ≡ place = omega arith in q))
    (λ m. absurd (first (length before) m (seen_out text e w l)))
out_verdict {text} {place} o first (stuck before c rest e w l i p) =
    absurd
    (compared place (length before) (λ m. calm_none text e w place m o) (λ m. seen_none text e w l (subst (LeftOutAt text) m o))
    (λ m. let (s, r) = begins_runs o.begun in calm_stuck w i p place m (subst (λ x. Runs 0 (state start []) (take place x) s) (sym e) r)))

pub left_out_refused : LeftOutRefused
left_out_refused text place =
    (λ h. out_refused (subst (Verdict 0 (state start []) text) h (verdict_text text)), λ x. out_verdict x.0 x.1 (verdict_text text))

-- REFUSAL 11.

stuck_refusal : {text : List ℕ} {place : ℕ} → Verdict 0 (state start []) text (unwanted 11 place) → StuckAt text place × ((earlier : ℕ) → earlier ≤ place → LeftOutAt text earlier → ⊥)
stuck_refusal {text} {place} (short {u = u} c n p) =
    let q : place ≡ length text = omega arith in (
      record {
        inside = omega arith;
        begun = calm_begins text (append-nil text) c place (omega arith);
        stuck = inr (q, λ tree d. n (tree, ap (λ (z : State). z.mode) (runs_one (calm_runs c) (followed d))));
      },
      λ earlier m o. let l = out_inside text earlier o in calm_none text (append-nil text) c earlier l o,
    )
stuck_refusal {text} {place} (stuck {u = u} before c rest e w l i p) =
    let size : length before + suc (length rest) ≡ length text = sym (length-append before (c ∷ rest)) ∙ ap length e in (
      record {
        inside = omega arith;
        begun = calm_begins text e w place (omega arith);
        stuck = inl (omega arith, λ b. let (s, r) = begins_runs b in calm_stuck w i p (suc place) (omega arith) (subst (λ x. Runs 0 (state start []) (take (suc place) x) s) (sym e) r));
      },
      λ earlier m o.
          compared earlier (length before) (λ k. calm_none text e w earlier k o) (λ k. seen_none text e w l (subst (LeftOutAt text) k o)) (λ k. omega arith),
    )

-- Where a text is stuck, no longer part of it begins a wanted text, and it is none itself.
stuck_short : {text : List ℕ} {place : ℕ} → StuckAt text place → place < length text → Begins (take (suc place) text) → ⊥
stuck_short s l b = ⊎_elim (λ k. k.1 b) (λ k. let e = k.0 in omega arith) s.stuck

stuck_verdict : {text : List ℕ} {place : ℕ} {j : Judged} → StuckAt text place → ((earlier : ℕ) → earlier ≤ place → LeftOutAt text earlier → ⊥) → Verdict 0 (state start []) text j → j ≡ unwanted 11 place
stuck_verdict {text} {place} s first (ends {tree = tree} c e) =
    absurd (⊎_elim (λ k. k.1 (calm_begins text (append-nil text) c (suc place) k.0)) (λ k. k.1 tree (derived (calm_runs c) e)) s.stuck)
stuck_verdict {text} {place} s first (short {place = there} c n p) =
    ⊎_elim (λ k. absurd (k.1 (calm_begins text (append-nil text) c (suc place) k.0))) (λ k. let f = k.0 in ap (unwanted 11) (let q : there ≡ place = omega arith in q)) s.stuck
stuck_verdict {text} {place} s first (left_out_lem before c rest e w l p) =
    let size : length before + suc (length rest) ≡ length text = sym (length-append before (c ∷ rest)) ∙ ap length e in
    absurd
    (compared place (length before) (λ m. stuck_short s (omega arith) (calm_begins text e w (suc place) m)) (λ m. first (length before) (omega arith) (seen_out text e w l))
    (λ m. first (length before) (omega arith) (seen_out text e w l)))
stuck_verdict {text} {place} s first (stuck {place = there} before c rest e w l i p) =
    let size : length before + suc (length rest) ≡ length text = sym (length-append before (c ∷ rest)) ∙ ap length e in
    compared place (length before) (λ m. absurd (stuck_short s (omega arith) (calm_begins text e w (suc place) m))) (λ m. ap (unwanted 11) (let q : there ≡ place = omega arith in q))
    (λ m. absurd (let (t, r) = begins_runs s.begun in calm_stuck w i p place m (subst (λ x. Runs 0 (state start []) (take place x) t) (sym e) r)))

pub stuck_refused : StuckRefused
stuck_refused text place = (
  λ h. let x = stuck_refusal (subst (Verdict 0 (state start []) text) h (verdict_text text)) in (x.0, λ earlier l o. x.1 earlier (omega arith) o),
  λ x. stuck_verdict x.0 (λ earlier l o. x.1 earlier (omega arith) o) (verdict_text text),
)

-- EVERY TEXT.

pub settled : Settled
settled text = go (read_xml text) refl (verdict_text text)
  where
    go : (j : Judged) → read_xml text ≡ j → Verdict 0 (state start []) text j
        → ((tree : Nodes) × (read_xml text ≡ wanted tree)) ⊎ ((place : ℕ) × ((read_xml text ≡ unwanted 12 place) ⊎ (read_xml text ≡ unwanted 11 place)))
    go j h (ends {tree = tree} c e) = inl (tree, h)
    go j h (short {place = place} c n p) = inr (place, inr h)
    go j h (left_out_lem {place = place} before c rest e w l p) = inr (place, inl h)
    go j h (stuck {place = place} before c rest e w l i p) = inr (place, inr h)
