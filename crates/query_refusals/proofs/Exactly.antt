-- A refusal 3 or 4 is given wherever its line holds: reading stops somewhere, and anywhere else it would contradict the line.
-- Of two tokens of a list one is before the other or they are the same: each case by what can be completed and what cannot. Assumes nothing.
use Prim.Native.Nat.{ℕ, suc}
use native.Mathlib.Omega.{arith}
use mathlib.Core.Path.{◌≡◌, refl, sym, ◌∙◌, ap, ap₂, subst, subst₂}
use mathlib.Core.Bool.{Bool, true}
use mathlib.Core.List.{List, [], ◌∷◌, ◌++◌, append_assoc}
use mathlib.Core.Logic.{◌⊎◌, inl, inr, ⊎_elim}
use mathlib.Core.Option.{Option}
use Rattle.paper.specs.Limits.{bracket_limit}
use Rattle.paper.specs.Answers.{any_name}
use Rattle.paper.specs.Tokens.{Placed, tokens}
use Rattle.paper.specs.Query.{Query}
use Rattle.paper.specs.Reading.{Got, got, refused, read_text}
use Rattle.query_grammar.specs.Grammar.{Derives, ended, reading}
use Rattle.query_grammar.proofs.Accepted.{derived_if, read_if, tokens_ended, all_read}
use Rattle.query_refusals.specs.Refusals.{Rising, AllKnown, Wrong, Reached, TooDeep, WrongRefused, DeepRefused, ExactText, Settled, ReadAnyNames}
use Rattle.query_refusals.proofs.Refusals.{same_head, append_cancel, same_place, tokens_rising, refused_never, StopsAt, stops_at, refused_wrong_text, refused_deep, refused_deep_text}

-- Two tokens of one list, with those before each.
data Order (b : List Placed) (t : Placed) (c : List Placed) (u : Placed) : Type 0 where
  earlier : (m : List Placed) → c ≡ b ++ (t ∷ m) → Order b t c u
  same : b ≡ c → t ≡ u → Order b t c u
  later : (m : List Placed) → b ≡ c ++ (u ∷ m) → Order b t c u

order : (b c : List Placed) (t u : Placed) (a e : List Placed) → b ++ (t ∷ a) ≡ c ++ (u ∷ e) → Order b t c u
order [] [] t u a e h = same refl (same_head h)
order [] (y ∷ c) t u a e h = earlier c (ap (λ z. z ∷ c) (sym (same_head h)))
order (x ∷ b) [] t u a e h = later b (ap (λ z. z ∷ b) (same_head h))
order (x ∷ b) (y ∷ c) t u a e h = go (same_head h) (order b c t u a e (let f = h in cc))
  where
    go : x ≡ y → Order b t c u → Order (x ∷ b) t (y ∷ c) u
    go p (earlier m q) = earlier m (ap₂ (λ z l. z ∷ l) (sym p) q)
    go p (same q r) = same (ap₂ (λ z l. z ∷ l) p q) r
    go p (later m q) = later m (ap₂ (λ z l. z ∷ l) p q)

-- What is read is not refused.
read-not-refused {ℓ} : {q : Query} {left : List Placed} {n p : ℕ} {r : Got Query} {C : Type ℓ} → r ≡ got q left → r ≡ refused n p → C
read-not-refused {n = n} {p = p} e f = absurd (let g = sym e ∙ f in let z : ◌≡◌ {A = ℕ} 0 1 = cc in omega arith)

module _ (newer : Bool) (look : List ℕ → Option ℕ) (d : ℕ) (ts : List Placed) (known : AllKnown look) (fin : ended ts ≡ true) (rise : Rising ts) where
  -- Where reading stops, the tokens before can be completed.
  stop_fits : (n p : ℕ) (x : StopsAt newer look d ts n p) → reading newer look d ts ≡ refused n p → (more : List Placed) × (q : Query) × Derives newer look d (x.before ++ more) q
  stop_fits n p x h =
      ⊎_elim (λ three. x.completed three)
      (λ four.
      let y = (refused_deep newer look d ts p known fin rise (subst (λ m. reading newer look d ts ≡ refused m p) four h)).reached in
      let at : y.before ≡ x.before =
      same_place y.before x.before y.token x.token y.after x.after (subst Rising y.split rise) (sym y.split ∙ x.split) (y.place ∙ sym x.place) in
      (y.fits.0, y.fits.1, subst (λ l. Derives newer look d (l ++ y.fits.0) y.fits.1) at y.fits.2))
      x.number

  -- Reading stops before no token that can be gone past.
  not_earlier {ℓ} : {C : Type ℓ} (n p : ℕ) (x : StopsAt newer look d ts n p) (b m more : List Placed) (q : Query) → b ≡ x.before ++ (x.token ∷ m) → Derives newer look d (b ++ more) q → C
  not_earlier n p x b m more q e i =
      let s : b ++ more ≡ x.before ++ (x.token ∷ (m ++ more)) = ap (λ l. l ++ more) e ∙ append_assoc x.before (x.token ∷ m) more in
      read-not-refused (read_if newer look d d (x.before ++ (x.token ∷ (m ++ more))) q (omega arith) (subst (λ l. Derives newer look d l q) s i)) (x.stands (m ++ more))

  -- Nor behind a token that cannot.
  not-later {ℓ} : {C : Type ℓ} (n p : ℕ) (x : StopsAt newer look d ts n p) → reading newer look d ts ≡ refused n p → (b : List Placed) (t : Placed) (m : List Placed) → x.before ≡ b ++ (t ∷ m)
      → ((more : List Placed) (q : Query) → Derives newer look d (b ++ (t ∷ more)) q → ⊥) → C
  not-later n p x h b t m e never =
      let f = stop_fits n p x h in
      let s : x.before ++ f.0 ≡ b ++ (t ∷ (m ++ f.0)) = ap (λ l. l ++ f.0) e ∙ append_assoc b (t ∷ m) f.0 in
      absurd (never (m ++ f.0) f.1 (subst (λ l. Derives newer look d l f.1) s f.2))

  wrong_at : (p : ℕ) → Wrong newer look d ts p → reading newer look d ts ≡ refused 3 p
  wrong_at p w = go (reading newer look d ts) refl
    where
      -- A bracket too many would go on with a query, at a deeper nesting.
      no_four : reading newer look d ts ≡ refused 4 p → ⊥
      no_four h =
          let y = (refused_deep newer look d ts p known fin rise h).reached in
          let at : y.before ≡ w.before =
          same_place y.before w.before y.token w.token y.after w.after (subst Rising y.split rise) (sym y.split ∙ w.split) (y.place ∙ sym w.place) in
          let rest : y.before ++ (y.token ∷ y.after) ≡ y.before ++ (w.token ∷ w.after) = sym y.split ∙ w.split ∙ ap (λ l. l ++ (w.token ∷ w.after)) (sym at) in
          let token : y.token ≡ w.token = same_head (append_cancel y.before (y.token ∷ y.after) (w.token ∷ w.after) rest) in
          w.never look (suc d) y.deeper.0 y.deeper.1 (subst₂ (λ b t. Derives newer look (suc d) (b ++ (t ∷ y.deeper.0)) y.deeper.1) at token y.deeper.2)

      judged : (n r : ℕ) (x : StopsAt newer look d ts n r) → reading newer look d ts ≡ refused n r → Order x.before x.token w.before w.token → reading newer look d ts ≡ refused 3 p
      judged n r x h (earlier m e) = not_earlier n r x w.before m w.completed.0 w.completed.1 e w.completed.2
      judged n r x h (same e f) =
          let place : r ≡ p = sym x.place ∙ ap (λ (z : Placed). z.place) f ∙ w.place in
          ⊎_elim (λ three. h ∙ ap₂ refused three place)
          (λ four. absurd (no_four (h ∙ ap₂ refused four place)))
          x.number
      judged n r x h (later m e) = not-later n r x h w.before w.token m e (λ more q i. w.never look d more q i)

      go : (r : Got Query) → reading newer look d ts ≡ r → reading newer look d ts ≡ refused 3 p
      go (got q left) h = absurd (w.never look d w.after q (subst (λ l. Derives newer look d l q) w.split (derived_if newer look d ts q left fin h).0))
      go (refused n r) h =
          let x = stops_at newer look d ts n r known fin h in
          judged n r x h (order x.before w.before x.token w.token x.after w.after (sym x.split ∙ w.split))

  deep_at : (p : ℕ) → TooDeep newer look d ts p → reading newer look d ts ≡ refused 4 p
  deep_at p w = go (reading newer look d ts) refl
    where
      y : Reached newer look d ts p
      y = w.reached

      -- A token that goes on with no query would not at a deeper nesting.
      no_three : (n r : ℕ) (x : StopsAt newer look d ts n r) → n ≡ 3 → x.before ≡ y.before → x.token ≡ y.token → ⊥
      no_three n r x three e f =
          refused_never newer look known d r (x.before ++ (x.token ∷ y.deeper.0)) (x.stands y.deeper.0 ∙ ap (λ m. refused m r) three) look (suc d) y.deeper.1
          (subst₂ (λ b t. Derives newer look (suc d) (b ++ (t ∷ y.deeper.0)) y.deeper.1) (sym e) (sym f) y.deeper.2)

      judged : (n r : ℕ) (x : StopsAt newer look d ts n r) → reading newer look d ts ≡ refused n r → Order x.before x.token y.before y.token → reading newer look d ts ≡ refused 4 p
      judged n r x h (earlier m e) = not_earlier n r x y.before m y.fits.0 y.fits.1 e y.fits.2
      judged n r x h (same e f) =
          let place : r ≡ p = sym x.place ∙ ap (λ (z : Placed). z.place) f ∙ y.place in
          ⊎_elim (λ three. absurd (no_three n r x three e f)) (λ four. h ∙ ap₂ refused four place) x.number
      judged n r x h (later m e) = not-later n r x h y.before y.token m e (λ more q i. w.never look more q i)

      go : (r : Got Query) → reading newer look d ts ≡ r → reading newer look d ts ≡ refused 4 p
      go (got q left) h = absurd (w.never look y.after q (subst (λ l. Derives newer look d l q) y.split (derived_if newer look d ts q left fin h).0))
      go (refused n r) h =
          let x = stops_at newer look d ts n r known fin h in
          judged n r x h (order x.before y.before x.token y.token x.after y.after (sym x.split ∙ y.split))

-- EXACTLY.
pub wrong_refused : WrongRefused
wrong_refused newer look d ts p known fin rise w = wrong_at newer look d ts known fin rise p w

pub deep_refused : DeepRefused
deep_refused newer look d ts p known fin rise w = deep_at newer look d ts known fin rise p w

pub exact_text : ExactText
unfolding read_text
exact_text newer text p = (
  (refused_wrong_text newer text p, λ w. wrong_refused newer any_name bracket_limit (tokens text) p (λ v. (0, refl)) (tokens_ended text) (tokens_rising text) w),
  (refused_deep_text newer text p, λ w. deep_refused newer any_name bracket_limit (tokens text) p (λ v. (0, refl)) (tokens_ended text) (tokens_rising text) w),
)

pub settled : Settled
unfolding read_text
settled newer text = go (read_text newer any_name text) refl
  where
    go : (r : Got Query) → read_text newer any_name text ≡ r
        → ((q : Query) × (read_text newer any_name text ≡ got q [])) ⊎ ((p : ℕ) × ((read_text newer any_name text ≡ refused 3 p) ⊎ (read_text newer any_name text ≡ refused 4 p)))
    go (got q left) h = inl (q, h ∙ ap (got q) (all_read newer any_name text q left h))
    go (refused n p) h =
        inr (
          p,
          ⊎_elim (λ three. inl (h ∙ ap (λ m. refused m p) three)) (λ four. inr (h ∙ ap (λ m. refused m p) four))
              (stops_at newer any_name bracket_limit (tokens text) n p (λ w. (0, refl)) (tokens_ended text) h).number,
        )

-- What some names derive is refused by none.
pub read_any_names : ReadAnyNames
unfolding read_text
read_any_names newer look text q left h =
    let ts = tokens text in
    let i = (derived_if newer look bracket_limit ts q left (tokens_ended text) h).0 in
    ⊎_elim (λ r. r)
    (λ r.
    absurd
    (⊎_elim
    (λ e.
    let w = refused_wrong_text newer text r.0 e in
    w.never look bracket_limit w.after q (subst (λ l. Derives newer look bracket_limit l q) w.split i))
    (λ e.
    let w = refused_deep_text newer text r.0 e in
    let y = w.reached in
    w.never look y.after q (subst (λ l. Derives newer look bracket_limit l q) y.split i))
    r.1))
    (settled newer text)
