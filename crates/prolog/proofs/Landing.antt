-- The place of the one element: past white space, and from the beginning of the text. By induction over the bytes before it. Assumes nothing.
use Prim.Native.Nat.{ℕ, suc, ◌+◌, ◌≤◌, ◌<◌}
use native.Mathlib.Omega.{arith}
use native.Mathlib.Nat.{add-zero}
use borrow.Author.Tests.{ne_eqb, eqb-true, eqb-false}
use mathlib.Core.Path.{◌≡◌, refl, sym, ◌∙◌, ap, subst}
use mathlib.Core.Bool.{Bool, true, false, not, ◌&&◌, ◌||◌, false≢true}
use mathlib.Core.List.{List, [], ◌∷◌, ◌++◌}
use mathlib.Core.Logic.{⊎_elim}
use mathlib.Core.Option.{Option, none, some}
use Rattle.std.specs.Prelude.{Ok, Err}
use lib.Dec.{eqb}
use lib.ListN.{length, get_or, drop, drop_of_length-le, length-drop}
use lib.Seq.{drop-cons, drop-drop}
use Rattle.paper.specs.Tools.{ascii, begins, run_of}
use Rattle.paper.specs.Tokens.{white}
use Rattle.paper.specs.Xml.{Pattern, done, many, is_done, after, say, start, first, heading, ahead, opening, starts, first_is, declares, left_out, left_out_anywhere}
use Rattle.paper.proofs.Tests.{decide, and_true}
use Rattle.paper.proofs.Lexing.{begins_within}
use Rattle.paper.specs.declared.Refusal.{Refusal}
use Rattle.paper.specs.declared.Refusal.TheVariants.{LeftOut}
use Rattle.xml_bytes.specs.Seeking.{Sought, stops, refused, seek}
use Rattle.xml_bytes.specs.Promised.{Reach, state, seek_at, reached, refusal_at}
use Rattle.prolog.specs.Heading.{seek_head, head_at, Heads, valued, version_value, led, Marked, Lands, Leads}
use Rattle.xml_bytes.proofs.Steps.{calm_opens, in_or_out, run_inside, stops_run}
use Rattle.prolog.proofs.Heading.{many_run, space_calm}
use Rattle.prolog.proofs.Declaring.{stood}

-- PAST WHITE SPACE.
space_no_tag : (b : ℕ) → white b ≡ true → eqb 60 b ≡ false
space_no_tag b h = ne_eqb 60 b (λ e. (space_calm b h).no_tag (sym e))

ahead_run : (at : ℕ) (bs : List ℕ) → seek_head at (state ahead []) bs ≡ seek_head (at + run_of white bs) (state ahead []) (drop (run_of white bs) bs)
unfolding left_out
ahead_run at [] = rw (add-zero at)
ahead_run at (b ∷ bs) = go (white b) refl (ahead_run (suc at) bs)
  where
    go : (t : Bool) → white b ≡ t → seek_head (suc at) (state ahead []) bs ≡ seek_head (suc at + run_of white bs) (state ahead []) (drop (run_of white bs) bs)
        → seek_head at (state ahead []) (b ∷ bs) ≡ seek_head (at + run_of white (b ∷ bs)) (state ahead []) (drop (run_of white (b ∷ bs)) (b ∷ bs))
    go true h later =
        let e : suc at + run_of white bs ≡ at + suc (run_of white bs) = omega arith in
        rw (h, calm_opens b bs (space_calm b h), space_no_tag b h) (later ∙ ap (λ n. seek_head n (state ahead []) (drop (run_of white bs) bs)) e)
    go false h later = rw (h, add-zero at, h)

module _ (text : List ℕ) (at place : ℕ) (l : at ≤ length text) (e : place ≡ at + run_of white (drop at text)) where
  pub place_inside : place ≤ length text
  place_inside = run_inside white text at place e l

  to_place : head_at text at (state ahead []) ≡ head_at text place (state ahead [])
  to_place =
      ahead_run at (drop at text) ∙ ap (λ (w : List ℕ). seek_head (at + run_of white (drop at text)) (state ahead []) w) (drop-drop (run_of white (drop at text)) at text)
      ∙ ap (λ n. head_at text n (state ahead [])) (sym e)

  -- Another byte stands there, or none.
  pub land_other : (why : Refusal) → begins 60 (drop place text) ≡ false → why ≡ refusal_at (left_out_anywhere (drop place text)) place → Lands text at (Err why)
  unfolding left_out
  land_other why h f = rw f (in_or_out place (length text) here over)
    where
      over : length text ≤ place → Lands text at (Err (refusal_at (left_out_anywhere (drop place text)) place))
      over o = rw (drop_of_length-le text o) (record { goes = to_place ∙ rw (drop_of_length-le text o); marked = place_inside })

      here : place < length text → Lands text at (Err (refusal_at (left_out_anywhere (drop place text)) place))
      here inside = go (left_out_anywhere (drop place text)) refl
        where
          no_tag : eqb 60 (get_or text place 0) ≡ false
          no_tag = sym (stood text place 60 inside) ∙ h

          no_tag' : eqb (get_or text place 0) 60 ≡ false
          no_tag' = ne_eqb (get_or text place 0) 60 (λ g. eqb-false 60 (get_or text place 0) no_tag (sym g))

          no_space : white (get_or text place 0) ≡ false
          no_space = stops_run white text at place e inside

          go : (t : Bool) → left_out_anywhere (drop place text) ≡ t → Lands text at (Err (refusal_at t place))
          go true o = let o' = rw (drop-cons text place 0 inside) at o in record { goes = to_place ∙ rw (drop-cons text place 0 inside, no_tag, o'); marked = place_inside }
          go false o = let o' = rw (drop-cons text place 0 inside) at o in record { goes = to_place ∙ rw (drop-cons text place 0 inside, no_tag, o', no_space, no_tag'); marked = place_inside }

  module _ (tag : begins 60 (drop place text) ≡ true) where
    inside_by : place < length text
    inside_by = begins_within 60 place text tag

    tag_here : eqb 60 (get_or text place 0) ≡ true
    tag_here = sym (stood text place 60 inside_by) ∙ tag

    pub land_left_out : left_out_anywhere (drop place text) ≡ true → Lands text at (Err (LeftOut place))
    unfolding left_out
    land_left_out o =
        let o' = rw (drop-cons text place 0 inside_by) at o in
        record { goes = to_place ∙ rw (drop-cons text place 0 inside_by, tag_here, o'); marked = place_inside }

    pub land_here : left_out_anywhere (drop place text) ≡ false → Lands text at (Ok place)
    land_here o =
        let o' = rw (drop-cons text place 0 inside_by) at o in
        record {
          goes = to_place ∙ rw (drop-cons text place 0 inside_by, tag_here, o');
          marked = (inside_by, sym (eqb-true 60 (get_or text place 0) tag_here), o);
        }

-- READING GOES ON FROM THERE.
abbrev goes_on_from : List ℕ → Sought → Sought
goes_on_from text (stops to t) = seek_at text to t
goes_on_from text (refused number place) = refused number place

module _ (text : List ℕ) where
  next_drop : (at b : ℕ) (bs : List ℕ) → drop at text ≡ b ∷ bs → drop (suc at) text ≡ bs
  next_drop at b bs e = let f : suc at ≡ at + 1 = omega arith in ap (λ n. drop n text) f ∙ sym (drop-drop 1 at text) ∙ ap (drop 1) e

  -- The states before the element.
  abbrev Before : List ℕ → ℕ → Type 0
  Before bs at = (seek at (state ahead []) bs ≡ goes_on_from text (seek_head at (state ahead []) bs)) × ((p : Pattern) → seek at (state (heading p) []) bs ≡ goes_on_from text (seek_head at (state (heading p) []) bs))

  module _ (at b : ℕ) (bs : List ℕ) (e : drop at text ≡ b ∷ bs) (later : Before bs (suc at)) where
    ahead_stops : left_out_anywhere (b ∷ bs) ≡ false → eqb 60 b ≡ true → seek_head at (state ahead []) (b ∷ bs) ≡ stops at (state ahead [])
    ahead_stops o t = rw (t, o)

    ahead_tag : (o : Bool) → left_out_anywhere (b ∷ bs) ≡ o → eqb 60 b ≡ true → seek at (state ahead []) (b ∷ bs) ≡ goes_on_from text (seek_head at (state ahead []) (b ∷ bs))
    unfolding left_out
    ahead_tag true o t = rw (t, o)
    ahead_tag false o t = sym (ap (goes_on_from text) (ahead_stops o t) ∙ ap (seek at (state ahead [])) e)

    ahead_other : (o : Bool) → left_out_anywhere (b ∷ bs) ≡ o → (w : Bool) → white b ≡ w → eqb 60 b ≡ false → seek at (state ahead []) (b ∷ bs) ≡ goes_on_from text (seek_head at (state ahead []) (b ∷ bs))
    unfolding left_out
    ahead_other true o w h t = rw (t, o)
    ahead_other false o true h t = rw (t, o, h) later.0
    ahead_other false o false h t = rw (t, o, h, ne_eqb b 60 (λ g. eqb-false 60 b t (sym g)))

    in_ahead : seek at (state ahead []) (b ∷ bs) ≡ goes_on_from text (seek_head at (state ahead []) (b ∷ bs))
    in_ahead = ⊎_elim (λ t. ahead_tag (left_out_anywhere (b ∷ bs)) refl t) (λ t. ahead_other (left_out_anywhere (b ∷ bs)) refl (white b) refl t) (decide (eqb 60 b))

    heading_on : (p : Pattern) (o : Bool) → left_out (heading p) (b ∷ bs) ≡ o → (q : Option Pattern) → after p b ≡ q → seek at (state (heading p) []) (b ∷ bs) ≡ goes_on_from text (seek_head at (state (heading p) []) (b ∷ bs))
    heading_on p true o q a = rw o
    heading_on p false o none a = rw (o, a)
    heading_on p false o (some q) a = rw (o, a) (⊎_elim (λ (d : is_done q ≡ true). rw d later.0) (λ (d : is_done q ≡ false). rw d (later.1 q)) (decide (is_done q)))

  before : (bs : List ℕ) (at : ℕ) → drop at text ≡ bs → Before bs at
  before [] at e = (refl, λ p. refl)
  before (b ∷ bs) at e =
      let later = before bs (suc at) (next_drop at b bs e) in
      (in_ahead at b bs e later, λ p. heading_on at b bs e later p (left_out (heading p) (b ∷ bs)) refl (after p b) refl)

  pub goes_ahead : (at : ℕ) → seek_at text at (state ahead []) ≡ goes_on_from text (head_at text at (state ahead []))
  goes_ahead at = (before (drop at text) at refl).0

  pub goes_heading : (at : ℕ) (p : Pattern) → seek_at text at (state (heading p) []) ≡ goes_on_from text (head_at text at (state (heading p) []))
  goes_heading at p = (before (drop at text) at refl).1 p

  led_goes : (r : Reach) → goes_on_from text (led r) ≡ reached text (state ahead []) r
  led_goes (Ok to) = refl
  led_goes (Err why) = refl

-- THE BEGINNING OF THE TEXT.
starts_whole : (xs bs : List ℕ) → starts xs bs ≡ true → bs ≡ xs ++ drop (length xs) bs
starts_whole [] bs h = refl
starts_whole (x ∷ xs) [] h = absurd (false≢true h)
starts_whole (x ∷ xs) (b ∷ bs) h =
    let one = and_true (eqb b x) (starts xs bs) h in
    ap (λ n. n ∷ bs) (eqb-true b x one.0) ∙ ap (λ (w : List ℕ). x ∷ w) (starts_whole xs bs one.1)

-- What must come behind `<?xml` and its first white space.
abbrev versioned : Pattern
versioned = say (ascii "version") (valued version_value)

module _ (text : List ℕ) where
  -- A declaration.
  module _ (d : declares text ≡ true) where
    opening_bytes : text ≡ ascii "<?xml" ++ drop 5 text
    opening_bytes = starts_whole (ascii "<?xml") text (and_true (starts (ascii "<?xml") text) (first_is white (drop 5 text)) d).0

    six : (5 < length text) × (white (get_or text 5 0) ≡ true)
    six = go (drop 5 text) refl (and_true (starts (ascii "<?xml") text) (first_is white (drop 5 text)) d).1
      where
        go : (bs : List ℕ) → drop 5 text ≡ bs → first_is white bs ≡ true → (5 < length text) × (white (get_or text 5 0) ≡ true)
        go [] e h = absurd (false≢true h)
        go (b ∷ bs) e h =
            let l : 5 < length text = let z = length-drop 5 text in let y = ap length e in omega arith in
            (l, ap (first_is white) (sym (drop-cons text 5 0 l) ∙ e) ∙ h)

    pub room : 6 ≤ length text
    room = omega (arith, six.0)

    whole : text ≡ ascii "<?xml" ++ (get_or text 5 0 ∷ drop 6 text)
    whole = opening_bytes ∙ ap (λ (w : List ℕ). ascii "<?xml" ++ w) (drop-cons text 5 0 six.0)

    starts_here : (w : ℕ) (bs : List ℕ) → white w ≡ true → seek_head 0 (state start []) (ascii "<?xml" ++ (w ∷ bs)) ≡ seek_head 6 (state (heading (many white versioned)) []) bs
    unfolding left_out
    starts_here w bs h = rw (h, calm_opens w bs (space_calm w h))

    starts_seek : (w : ℕ) (bs : List ℕ) → white w ≡ true → seek 0 (state start []) (ascii "<?xml" ++ (w ∷ bs)) ≡ seek 6 (state (heading (many white versioned)) []) bs
    unfolding left_out
    starts_seek w bs h = rw (h, calm_opens w bs (space_calm w h))

    head_six : seek_head 0 (state start []) text ≡ head_at text 6 (state (heading (many white versioned)) [])
    head_six = ap (seek_head 0 (state start [])) whole ∙ starts_here (get_or text 5 0) (drop 6 text) six.1

    seek_six : seek 0 (state start []) text ≡ seek_at text 6 (state (heading (many white versioned)) [])
    seek_six = ap (seek 0 (state start [])) whole ∙ starts_seek (get_or text 5 0) (drop 6 text) six.1

    module _ (place : ℕ) (e : place ≡ 6 + run_of white (drop 6 text)) where
      pub version_inside : place ≤ length text
      version_inside = run_inside white text 6 place e room

      by_head : (r : Reach) → head_at text place (state (heading versioned) []) ≡ led r → Marked text r → Leads text r
      by_head r h m =
          let only : seek_head 0 (state start []) text ≡ led r = head_six ∙ many_run white space_calm text 6 place e versioned refl refl ∙ h in
          record {
            goes = seek_six ∙ goes_heading text 6 (many white versioned) ∙ ap (goes_on_from text) (sym head_six ∙ only) ∙ led_goes text r;
            marked = m;
            only = only;
          }

      pub lead_stuck : (why : Refusal) → Heads text place versioned done (Err why) → Leads text (Err why)
      lead_stuck why h = by_head (Err why) h.goes h.bounds

      pub lead_declared : (end : ℕ) (r : Reach) → Heads text place versioned done (Ok end) → Lands text end r → Leads text r
      lead_declared end r h g = by_head r (h.goes ∙ g.goes) g.marked

  -- A byte order mark.
  pub lead_mark : starts (239 ∷ 187 ∷ 191 ∷ []) text ≡ true → Leads text (Err (LeftOut 0))
  unfolding left_out
  lead_mark h =
      let whole = starts_whole (239 ∷ 187 ∷ 191 ∷ []) text h in
      record { goes = ap (seek 0 (state start [])) whole ∙ sought (drop 3 text); marked = omega arith; only = ap (seek_head 0 (state start [])) whole ∙ headed (drop 3 text) }
    where
      sought : (bs : List ℕ) → seek 0 (state start []) (239 ∷ 187 ∷ 191 ∷ bs) ≡ refused 12 0
      sought bs = refl

      headed : (bs : List ℕ) → seek_head 0 (state start []) (239 ∷ 187 ∷ 191 ∷ bs) ≡ refused 12 0
      headed bs = refl

-- Neither: as before the element.
or_none : (t : Bool) → (t || false) ≡ t
or_none true = refl
or_none false = refl

and_unit : (t : Bool) → (t && true) ≡ t
and_unit true = refl
and_unit false = refl

plain_opens : (bs : List ℕ) → declares bs ≡ false → starts (239 ∷ 187 ∷ 191 ∷ []) bs ≡ false → left_out start bs ≡ left_out_anywhere bs
unfolding left_out
plain_opens bs d m =
    ap (λ (t : Bool). left_out_anywhere bs && not t || starts (239 ∷ 187 ∷ 191 ∷ []) bs) d ∙ ap (λ (t : Bool). left_out_anywhere bs && true || t) m ∙ or_none (left_out_anywhere bs && true) ∙ and_unit (left_out_anywhere bs)

-- Past a `<` with nothing left out behind it.
past_tag : (bs : List ℕ) → left_out_anywhere (60 ∷ bs) ≡ false → seek 1 (state first []) bs ≡ seek 1 (state (opening 0) []) bs
unfolding left_out
past_tag [] o = refl
past_tag (b ∷ bs) o = go (eqb b 63) refl
  where
    go : (t : Bool) → eqb b 63 ≡ t → seek 1 (state first []) (b ∷ bs) ≡ seek 1 (state (opening 0) []) (b ∷ bs)
    go true h = absurd (false≢true (sym o ∙ rw (eqb-true b 63 h)))
    go false h = rw h

start_head : (bs : List ℕ) → declares bs ≡ false → starts (239 ∷ 187 ∷ 191 ∷ []) bs ≡ false → seek_head 0 (state start []) bs ≡ seek_head 0 (state ahead []) bs
unfolding left_out
start_head [] d m = refl
start_head (b ∷ bs) d m = go (left_out_anywhere (b ∷ bs)) refl
  where
    same_opens : left_out start (b ∷ bs) ≡ left_out ahead (b ∷ bs)
    same_opens = plain_opens (b ∷ bs) d m

    go : (o : Bool) → left_out_anywhere (b ∷ bs) ≡ o → seek_head 0 (state start []) (b ∷ bs) ≡ seek_head 0 (state ahead []) (b ∷ bs)
    go true o = let s = same_opens in rw (s, o)
    go false o = ⊎_elim (λ (t : eqb 60 b ≡ true). rw (t, o)) (λ (t : eqb 60 b ≡ false). let s = same_opens in rw (t, s, o, ne_eqb b 60 (λ g. eqb-false 60 b t (sym g)))) (decide (eqb 60 b))

start_seek : (bs : List ℕ) → declares bs ≡ false → starts (239 ∷ 187 ∷ 191 ∷ []) bs ≡ false → seek 0 (state start []) bs ≡ seek 0 (state ahead []) bs
unfolding left_out
start_seek [] d m = refl
start_seek (b ∷ bs) d m = go (left_out_anywhere (b ∷ bs)) refl
  where
    same_opens : left_out start (b ∷ bs) ≡ left_out ahead (b ∷ bs)
    same_opens = plain_opens (b ∷ bs) d m

    at_tag : left_out start (60 ∷ bs) ≡ false → left_out_anywhere (60 ∷ bs) ≡ false → seek 0 (state start []) (60 ∷ bs) ≡ seek 0 (state ahead []) (60 ∷ bs)
    at_tag s o = rw (s, o) (past_tag bs o)

    go : (o : Bool) → left_out_anywhere (b ∷ bs) ≡ o → seek 0 (state start []) (b ∷ bs) ≡ seek 0 (state ahead []) (b ∷ bs)
    go true o = let s = same_opens in rw (s, o)
    go false o =
        ⊎_elim
        (λ (t : eqb b 60 ≡ true). subst (λ n. left_out start (n ∷ bs) ≡ false → left_out_anywhere (n ∷ bs) ≡ false → seek 0 (state start []) (n ∷ bs) ≡ seek 0 (state ahead []) (n ∷ bs)) (sym (eqb-true b 60 t)) at_tag (same_opens ∙ o) o)
        (λ (t : eqb b 60 ≡ false). let s = same_opens in rw (s, o, t)) (decide (eqb b 60))

pub lead_plain : (text : List ℕ) (r : Reach) → declares text ≡ false → starts (239 ∷ 187 ∷ 191 ∷ []) text ≡ false → Lands text 0 r → Leads text r
lead_plain text r d m h =
    record {
      goes = start_seek text d m ∙ goes_ahead text 0 ∙ ap (goes_on_from text) h.goes ∙ led_goes text r;
      marked = h.marked;
      only = start_head text d m ∙ h.goes;
    }
