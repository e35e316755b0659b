-- How reading goes through what stands before the one element: a pattern's byte, white space and digits in a row, and which of two patterns goes on.
-- Assumes nothing.
use Prim.Native.Nat.{ℕ, suc, ◌+◌, ◌≤◌, ◌<◌}
use native.Mathlib.Omega.{arith}
use native.Mathlib.Nat.{add-zero}
use mathlib.Core.Path.{◌≡◌, refl, sym, ◌∙◌, ap}
use mathlib.Core.Bool.{Bool, true, false, ◌||◌, cond}
use mathlib.Core.List.{List, [], ◌∷◌}
use mathlib.Core.Option.{none, some}
use Rattle.std.specs.Prelude.{Ok, Err}
use lib.Dec.{eqb}
use lib.ListN.{length, get_or, drop, drop_of_length-le}
use lib.Seq.{drop-cons, drop-drop}
use Rattle.paper.specs.Tools.{run_of}
use Rattle.paper.specs.Tokens.{white}
use Rattle.paper.specs.Xml.{Pattern, one, many, is_done, quote_of, after, say, stands, heading, ahead, heading_goes_on, left_out, left_out_anywhere}
use Rattle.paper.specs.declared.Refusal.{Refusal}
use Rattle.xml_bytes.specs.Seeking.{refused, refusing}
use Rattle.xml_bytes.specs.Promised.{Reach, state, Between, refusal_at, row_of, Reads, calm, all_calm, spelling}
use Rattle.prolog.specs.Heading.{seek_head, head_at, awaiting, comes, Heads}
use Rattle.xml_bytes.proofs.Steps.{Calm, calm_opens, in_or_out, stops_run}
use Rattle.xml_bytes.proofs.Rows.{CalmSets, landed, row_goes, reads_bounds, exactly_between, byte_calm, word_calm, ones, say_ones}
use Rattle.xml_bytes.proofs.Signs.{white_calm}

or_none : (t : Bool) → (t || false) ≡ t
or_none true = refl
or_none false = refl

goes_awaiting : (p : Pattern) → heading_goes_on (some p) ≡ some (awaiting p)
goes_awaiting p = go (is_done p)
  where
    go : (b : Bool) → cond b (stands ahead []) (stands (heading p) []) ≡ some (cond b (state ahead []) (state (heading p) []))
    go true = refl
    go false = refl

-- ONE BYTE.
module _ (text : List ℕ) (at : ℕ) (p : Pattern) (plain : quote_of p ≡ none) where
  pub pattern_cut : length text ≤ at → head_at text at (state (heading p) []) ≡ refused 11 at
  pattern_cut l = rw (drop_of_length-le text l)

  module _ (inside : at < length text) where
    pub pattern_takes : (q : Pattern) → Calm (get_or text at 0) → after p (get_or text at 0) ≡ some q → head_at text at (state (heading p) []) ≡ head_at text (suc at) (awaiting q)
    unfolding left_out
    pattern_takes q calm e =
        rw (drop-cons text at 0 inside, plain, calm_opens (get_or text at 0) (drop (suc at) text) calm, e) (rw (goes_awaiting q))

    pub pattern_none : (why : Refusal) → after p (get_or text at 0) ≡ none → why ≡ refusal_at (left_out_anywhere (drop at text)) at → head_at text at (state (heading p) []) ≡ refusing why
    unfolding left_out
    pattern_none why e f = go (left_out_anywhere (drop at text)) refl ∙ ap refusing (sym f)
      where
        go : (t : Bool) → left_out_anywhere (drop at text) ≡ t → head_at text at (state (heading p) []) ≡ refusing (refusal_at (left_out_anywhere (drop at text)) at)
        go true h = let h' = rw (drop-cons text at 0 inside) at h in rw (drop-cons text at 0 inside, h')
        go false h = let h' = rw (drop-cons text at 0 inside) at h in rw (drop-cons text at 0 inside, h', plain, e)

-- Two patterns that go on alike.
pub pattern_alike : (text : List ℕ) (at : ℕ) (p q : Pattern) → quote_of p ≡ none → quote_of q ≡ none → (at < length text → after p (get_or text at 0) ≡ after q (get_or text at 0))
    → head_at text at (state (heading p) []) ≡ head_at text at (state (heading q) [])
unfolding left_out
pattern_alike text at p q f g h =
    in_or_out at (length text) (λ inside. let e = h inside in rw (drop-cons text at 0 inside, f, g, e)) (λ l. rw (drop_of_length-le text l))

-- FROM PATTERN TO PATTERN.
pub farther : (least least' most : ℕ) (r : Reach) → least' ≤ least → Between least most r → Between least' most r
farther least least' most (Ok to) l b = (omega (arith, b.0), b.1)
farther least least' most (Err why) l b = b

module _ (text : List ℕ) (at : ℕ) where
  -- A refusal is one of the whole.
  pub heads_stuck : (p q s : Pattern) (why : Refusal) → Heads text at p q (Err why) → Heads text at p s (Err why)
  heads_stuck p q s why h = record { goes = h.goes; bounds = h.bounds }

  -- One part after the other.
  pub heads_then : (p q s : Pattern) (to : ℕ) (r : Reach) → Heads text at p q (Ok to) → Heads text to q s r → Heads text at p s r
  heads_then p q s to r g h = record { goes = g.goes ∙ h.goes; bounds = farther to at (length text) r g.bounds.0 h.bounds }

  -- The same from another place on.
  pub heads_from : (from : ℕ) (p p' q : Pattern) (r : Reach) → at ≤ from → head_at text at (awaiting p) ≡ head_at text from (awaiting p') → Heads text from p' q r → Heads text at p q r
  heads_from from p p' q r l e h = record { goes = e ∙ h.goes; bounds = farther from at (length text) r l h.bounds }

  -- A row of bytes.
  pub row_heads : (sets : List (ℕ → Bool)) (r : Reach) → CalmSets sets → at ≤ length text → Reads text at sets r → (p : Pattern) → Heads text at (ones sets p) p r
  row_heads sets r calm l h p =
      record {
        goes = row_goes text (λ n rest. head_at text n (awaiting (ones rest p))) (λ n set rest m. pattern_cut text n (one set (ones rest p)) refl m)
            (λ n set rest inside t c. pattern_takes text n (one set (ones rest p)) refl inside (ones rest p) c (rw t))
            (λ n set rest inside t. pattern_none text n (one set (ones rest p)) refl inside (refusal_at (left_out_anywhere (drop n text)) n) (rw t) refl) at sets calm
            ∙ sym (as_comes (row_of at sets (drop at text))) ∙ ap (comes text (awaiting p)) (sym h.comes);
        bounds = exactly_between (at + length sets) at (length text) r (omega arith) (reads_bounds text at sets r l h);
      }
    where
      as_comes : (q : Reach) → comes text (awaiting p) q ≡ landed (λ to. head_at text to (awaiting p)) q
      as_comes (Ok to) = refl
      as_comes (Err why) = refl

  pub byte_heads : (b : ℕ) (r : Reach) → calm b ≡ true → at ≤ length text → Reads text at (eqb b ∷ []) r → (p : Pattern) → Heads text at (one (eqb b) p) p r
  byte_heads b r calm l h p = row_heads (eqb b ∷ []) r (byte_calm b calm, tt) l h p

  pub word_heads : (word : List ℕ) (r : Reach) → all_calm word ≡ true → at ≤ length text → Reads text at (spelling word) r → (p : Pattern) → Heads text at (say word p) p r
  word_heads word r calm l h p = rw (say_ones word p) (row_heads (spelling word) r (word_calm word calm) l h p)

-- RUNS. A pattern that goes on with any number of bytes of a set.
module _ (set : ℕ → Bool) (calm : (b : ℕ) → set b ≡ true → Calm b) where
  -- A pattern that such a byte leaves as it is.
  loops : (p : Pattern) → is_done p ≡ false → quote_of p ≡ none → ((b : ℕ) → set b ≡ true → after p b ≡ some p) → (at : ℕ) (bs : List ℕ)
      → seek_head at (state (heading p) []) bs ≡ seek_head (at + run_of set bs) (state (heading p) []) (drop (run_of set bs) bs)
  unfolding left_out
  loops p more plain again at [] = rw (add-zero at)
  loops p more plain again at (b ∷ bs) = go (set b) refl (loops p more plain again (suc at) bs)
    where
      go : (t : Bool) → set b ≡ t → seek_head (suc at) (state (heading p) []) bs ≡ seek_head (suc at + run_of set bs) (state (heading p) []) (drop (run_of set bs) bs)
          → seek_head at (state (heading p) []) (b ∷ bs) ≡ seek_head (at + run_of set (b ∷ bs)) (state (heading p) []) (drop (run_of set (b ∷ bs)) (b ∷ bs))
      go true h later =
          let e : suc at + run_of set bs ≡ at + suc (run_of set bs) = omega arith in
          rw (h, plain, calm_opens b bs (calm b h), again b h, more) (later ∙ ap (λ n. seek_head n (state (heading p) []) (drop (run_of set bs) bs)) e)
      go false h later = rw (h, add-zero at)

  module _ (text : List ℕ) (at to : ℕ) (e : to ≡ at + run_of set (drop at text)) where
    pub loop_run : (p : Pattern) → is_done p ≡ false → quote_of p ≡ none → ((b : ℕ) → set b ≡ true → after p b ≡ some p) → head_at text at (state (heading p) []) ≡ head_at text to (state (heading p) [])
    loop_run p more plain again =
        loops p more plain again at (drop at text) ∙ ap (λ (l : List ℕ). seek_head (at + run_of set (drop at text)) (state (heading p) []) l) (drop-drop (run_of set (drop at text)) at text)
        ∙ ap (λ n. head_at text n (state (heading p) [])) (sym e)

    -- Any number of such bytes, then what must come.
    pub many_run : (p : Pattern) → is_done p ≡ false → quote_of p ≡ none → head_at text at (state (heading (many set p)) []) ≡ head_at text to (state (heading p) [])
    many_run p more plain =
        loop_run (many set p) refl refl (λ b h. rw h) ∙ pattern_alike text to (many set p) p refl plain (λ inside. let h = stops_run set text at to e inside in rw h)

    -- A first such byte, which leads to a pattern that they leave as it is.
    pub enters_run : (p q : Pattern) → at < to → at < length text → is_done q ≡ false → quote_of p ≡ none → quote_of q ≡ none → ((b : ℕ) → set b ≡ true → after p b ≡ some q)
        → ((b : ℕ) → set b ≡ true → after q b ≡ some q) → head_at text at (state (heading p) []) ≡ head_at text to (state (heading q) [])
    enters_run p q l inside more plain plain' first again =
        let h = first_in (set (get_or text at 0)) refl in
        pattern_takes text at p plain inside q (calm (get_or text at 0) h) (first (get_or text at 0) h) ∙ rw more
        (sym (pattern_takes text at q plain' inside q (calm (get_or text at 0) h) (again (get_or text at 0) h) ∙ rw more) ∙ loop_run q more plain' again)
      where
        first_in : (t : Bool) → set (get_or text at 0) ≡ t → set (get_or text at 0) ≡ true
        first_in true h = h
        first_in false h = absurd (let z : run_of set (drop at text) ≡ 0 = rw (drop-cons text at 0 inside, h) in omega arith)

-- White space.
pub space_calm : (b : ℕ) → white b ≡ true → Calm b
space_calm b h = (white_calm b h).calm
