-- The tokens of a printed text are those of its pieces, one after the other. A name or a `.` is never followed by a byte that goes on with it, and a `/` never by another.
-- By induction over the pieces. Assumes nothing.
use Prim.Native.Nat.{ℕ, suc, ◌+◌, ◌≤◌}
use native.Mathlib.Omega.{arith}
use mathlib.Core.Path.{◌≡◌, refl, sym, ◌∙◌, ap, subst}
use mathlib.Core.Bool.{Bool, true, false, ◌&&◌, false≢true}
use mathlib.Core.List.{List, [], ◌∷◌, ◌++◌}
use mathlib.Core.Logic.{⊎_elim}
use lib.Dec.{eqb, leb}
use lib.ListN.{length, get_or, drop, length-append}
use lib.Seq.{take-append_seam, drop-append_seam}
use borrow.Author.Tests.{eqb-true, leb-true, ne_eqb}
use Rattle.paper.specs.Tools.{ascii, begins}
use Rattle.paper.specs.Names.{letter, name_start, name_part, name_parts, is_name}
use Rattle.paper.specs.Tokens.{Token, slash, slashes, dot, dots, colons, bar, open_square, close_square, open_round, close_round, star, finish, word}
use Rattle.paper.specs.Tokens.{white, run, token_at, Placed, tokens_from}
use Rattle.paper.specs.Query.{Test, any_node, text_node, named, any_element}
use Rattle.paper.specs.Printing.{Piece, slash_sign, slashes_sign, dot_sign, dots_sign, colons_sign, bar_sign, open_pred, close_pred, open_group, open_not, and_word, or_word, axis_word, test_word}
use Rattle.paper.specs.Printing.{close_round as close_sign}
use Rattle.paper.specs.Printing.{axis_text, test_text, text_of}
use Rattle.paper.proofs.Tests.{and_true, or_true}
use Rattle.paper.proofs.Lexing.{passed}
use Rattle.paper.proofs.Axes.{axis_name}

-- The tokens of a test and of a piece.
abbrev pub test_tokens : List (List ℕ) → Test → List Token
test_tokens names any_node = word (ascii "node") ∷ open_round ∷ close_round ∷ []
test_tokens names text_node = word (ascii "text") ∷ open_round ∷ close_round ∷ []
test_tokens names (named v) = word (get_or names v []) ∷ []
test_tokens names any_element = star ∷ []

abbrev pub piece_tokens : List (List ℕ) → Piece → List Token
piece_tokens names slash_sign = slash ∷ []
piece_tokens names slashes_sign = slashes ∷ []
piece_tokens names dot_sign = dot ∷ []
piece_tokens names dots_sign = dots ∷ []
piece_tokens names colons_sign = colons ∷ []
piece_tokens names bar_sign = bar ∷ []
piece_tokens names open_pred = open_square ∷ []
piece_tokens names close_pred = close_square ∷ []
piece_tokens names open_group = open_round ∷ []
piece_tokens names open_not = word (ascii "not") ∷ open_round ∷ []
piece_tokens names close_sign = close_round ∷ []
piece_tokens names and_word = word (ascii "and") ∷ []
piece_tokens names or_word = word (ascii "or") ∷ []
piece_tokens names (axis_word a) = word (axis_text a) ∷ []
piece_tokens names (test_word t) = test_tokens names t

abbrev pub tokens_of : List (List ℕ) → List Piece → List Token
tokens_of names [] = []
tokens_of names (p ∷ ps) = piece_tokens names p ++ tokens_of names ps

-- Tokens at these places, and others after them.
abbrev pub first_place : List ℕ → ℕ
first_place [] = 0
first_place (x ∷ xs) = x

abbrev pub laid : List ℕ → List Token → List Placed → List Placed
laid places [] rest = rest
laid places (t ∷ ts) rest = record { place = first_place places; token = t } ∷ laid (drop 1 places) ts rest

-- Does a piece begin with a byte of a name; does it begin with `/`?
abbrev pub wordy : Piece → Bool
wordy slash_sign = false
wordy slashes_sign = false
wordy dot_sign = true
wordy dots_sign = true
wordy colons_sign = false
wordy bar_sign = false
wordy open_pred = false
wordy close_pred = false
wordy open_group = false
wordy open_not = true
wordy close_sign = false
wordy and_word = false
wordy or_word = false
wordy (axis_word a) = true
wordy (test_word t) = true

abbrev pub slashy : Piece → Bool
slashy slash_sign = true
slashy slashes_sign = true
slashy dot_sign = false
slashy dots_sign = false
slashy colons_sign = false
slashy bar_sign = false
slashy open_pred = false
slashy close_pred = false
slashy open_group = false
slashy open_not = false
slashy close_sign = false
slashy and_word = false
slashy or_word = false
slashy (axis_word a) = false
slashy (test_word t) = false

abbrev pub Soft : List Piece → Type 0
Soft [] = Unit {0}
Soft (p ∷ ps) = wordy p ≡ false

abbrev pub NoSlash : List Piece → Type 0
NoSlash [] = Unit {0}
NoSlash (p ∷ ps) = slashy p ≡ false

-- A test whose name is one of the list.
abbrev pub Spelt : (ℕ → Type 0) → Test → Type 0
Spelt P any_node = Unit {0}
Spelt P text_node = Unit {0}
Spelt P (named v) = P v
Spelt P any_element = Unit {0}

-- May this piece stand before those?
abbrev pub Fits : (ℕ → Type 0) → Piece → List Piece → Type 0
Fits P slash_sign ps = NoSlash ps
Fits P slashes_sign ps = Unit {0}
Fits P dot_sign ps = Soft ps
Fits P dots_sign ps = Unit {0}
Fits P colons_sign ps = Unit {0}
Fits P bar_sign ps = Unit {0}
Fits P open_pred ps = Unit {0}
Fits P close_pred ps = Unit {0}
Fits P open_group ps = Unit {0}
Fits P open_not ps = Unit {0}
Fits P close_sign ps = Unit {0}
Fits P and_word ps = Unit {0}
Fits P or_word ps = Unit {0}
Fits P (axis_word a) ps = Soft ps
Fits P (test_word t) ps = Soft ps × Spelt P t

abbrev pub Fine : (ℕ → Type 0) → List Piece → Type 0
Fine P [] = Unit {0}
Fine P (p ∷ ps) = Fits P p ps × Fine P ps

-- Does a name stop here?
abbrev Halts : List ℕ → Type 0
Halts [] = Unit {0}
Halts (b ∷ bs) = name_part b ≡ false

run_name : (bs tail : List ℕ) → name_parts bs ≡ true → Halts tail → run (bs ++ tail) ≡ length bs
run_name [] [] h s = refl
run_name [] (b ∷ tail) h s = rw s
run_name (b ∷ bs) tail h s =
    let (p, q) = and_true (name_part b) (name_parts bs) h in
    rw (p, run_name bs tail q s)

-- A byte that a name starts with is no white space.
not_white : (b : ℕ) → name_start b ≡ true → white b ≡ false
not_white b h =
    let big : 65 ≤ b =
    ⊎_elim
    (λ l.
    ⊎_elim (λ u. leb-true 65 b (and_true (leb 65 b) (leb b 90) u).0) (λ u. let k : 97 ≤ b = leb-true 97 b (and_true (leb 97 b) (leb b 122) u).0 in omega arith)
    (or_true (leb 65 b && leb b 90) (leb 97 b && leb b 122) l))
    (λ u. let k : b ≡ 95 = eqb-true b 95 u in omega arith)
    (or_true (letter b) (eqb b 95) h) in
    rw (ne_eqb b 32 (λ e. omega arith), ne_eqb b 9 (λ e. omega arith), ne_eqb b 10 (λ e. omega arith), ne_eqb b 13 (λ e. omega arith))

-- A name is one token.
name_token : (w tail : List ℕ) (at : ℕ) → is_name w ≡ true → Halts tail
    → tokens_from 0 at (w ++ tail) ≡ record { place = at; token = word w } ∷ tokens_from 0 (at + length w) tail
unfolding token_at
name_token [] tail at h s = absurd (false≢true h)
name_token (b ∷ bs) tail at h s =
    let (p, q) = and_true (name_start b) (name_parts bs) h in
    let long : length bs ≤ length (bs ++ tail) = omega (arith, length-append bs tail) in
    let e : suc at + length bs ≡ at + suc (length bs) = omega arith in
    let later : tokens_from (length bs) (suc at) (bs ++ tail) ≡ tokens_from 0 (at + suc (length bs)) tail =
    passed (length bs) (suc at) (bs ++ tail) long ∙ ap (λ (x : List ℕ). tokens_from 0 (suc at + length bs) x) (drop-append_seam bs tail) ∙ ap (λ (k : ℕ). tokens_from 0 k tail) e in
    rw (not_white b p, p, run_name bs tail q s, take-append_seam bs tail) (ap (λ (x : List Placed). record { place = at; token = word (b ∷ bs) } ∷ x) later)

-- After a word comes a byte that no name goes on with; after a `/` comes no `/`.
soft_halts : (names : List (List ℕ)) (ps : List Piece) → Soft ps → Halts (text_of names ps)
soft_halts names [] s = tt
soft_halts names (slash_sign ∷ ps) s = refl
soft_halts names (slashes_sign ∷ ps) s = refl
soft_halts names (dot_sign ∷ ps) s = absurd (false≢true (sym s))
soft_halts names (dots_sign ∷ ps) s = absurd (false≢true (sym s))
soft_halts names (colons_sign ∷ ps) s = refl
soft_halts names (bar_sign ∷ ps) s = refl
soft_halts names (open_pred ∷ ps) s = refl
soft_halts names (close_pred ∷ ps) s = refl
soft_halts names (open_group ∷ ps) s = refl
soft_halts names (open_not ∷ ps) s = absurd (false≢true (sym s))
soft_halts names (close_sign ∷ ps) s = refl
soft_halts names (and_word ∷ ps) s = refl
soft_halts names (or_word ∷ ps) s = refl
soft_halts names (axis_word a ∷ ps) s = absurd (false≢true (sym s))
soft_halts names (test_word t ∷ ps) s = absurd (false≢true (sym s))

-- Where a name stops, no `.` follows.
halts_dot : (bs : List ℕ) → Halts bs → begins 46 bs ≡ false
halts_dot [] h = refl
halts_dot (b ∷ bs) h = ne_eqb 46 b (λ e. absurd (false≢true (sym h ∙ ap name_part (sym e))))

-- The first byte of a name is no `/`.
name_apart : (w tail : List ℕ) → is_name w ≡ true → begins 47 (w ++ tail) ≡ false
name_apart [] tail h = absurd (false≢true h)
name_apart (b ∷ bs) tail h =
    let p = (and_true (name_start b) (name_parts bs) h).0 in
    ne_eqb 47 b (λ e. absurd (false≢true (subst (λ (x : ℕ). name_start x ≡ true) (sym e) p)))

-- These are the tokens of a text, at some places, and then its end.
pub record Lexed (ts : List Token) (found : List Placed) : Type 0 where
  pub places : List ℕ
  pub end : ℕ
  pub are : found ≡ laid places ts (record { place = end; token = finish } ∷ [])

one : {t : Token} {ts : List Token} {found more : List Placed} (at : ℕ) → found ≡ record { place = at; token = t } ∷ more → Lexed ts more → Lexed (t ∷ ts) found
one {t} {ts} {found} {more} at e l =
    record { places = at ∷ l.places; end = l.end; are = e ∙ ap (λ (x : List Placed). record { place = at; token = t } ∷ x) l.are }

module _ (P : ℕ → Type 0) (names : List (List ℕ)) (spells : (v : ℕ) → P v → is_name (get_or names v []) ≡ true) where
  test_apart : (t : Test) (tail : List ℕ) → Spelt P t → begins 47 (test_text names t ++ tail) ≡ false
  test_apart any_node tail k = refl
  test_apart text_node tail k = refl
  test_apart (named v) tail k = name_apart (get_or names v []) tail (spells v k)
  test_apart any_element tail k = refl

  no_slash : (ps : List Piece) → Fine P ps → NoSlash ps → begins 47 (text_of names ps) ≡ false
  no_slash [] f s = refl
  no_slash (slash_sign ∷ ps) f s = absurd (false≢true (sym s))
  no_slash (slashes_sign ∷ ps) f s = absurd (false≢true (sym s))
  no_slash (dot_sign ∷ ps) f s = refl
  no_slash (dots_sign ∷ ps) f s = refl
  no_slash (colons_sign ∷ ps) f s = refl
  no_slash (bar_sign ∷ ps) f s = refl
  no_slash (open_pred ∷ ps) f s = refl
  no_slash (close_pred ∷ ps) f s = refl
  no_slash (open_group ∷ ps) f s = refl
  no_slash (open_not ∷ ps) f s = refl
  no_slash (close_sign ∷ ps) f s = refl
  no_slash (and_word ∷ ps) f s = refl
  no_slash (or_word ∷ ps) f s = refl
  no_slash (axis_word a ∷ ps) f s = name_apart (axis_text a) (text_of names ps) (axis_name a)
  no_slash (test_word t ∷ ps) f s = test_apart t (text_of names ps) f.0.1

  -- THE TOKENS OF A PRINTED TEXT are those of its pieces.
  pub lexed : (ps : List Piece) → Fine P ps → (at : ℕ) → Lexed (tokens_of names ps) (tokens_from 0 at (text_of names ps))
  unfolding token_at
  lexed [] f at = record { places = []; end = at; are = refl }
  lexed (slash_sign ∷ ps) f at = one at (rw (no_slash ps f.1 f.0)) (lexed ps f.1 (suc at))
  lexed (slashes_sign ∷ ps) f at = one at refl (lexed ps f.1 (suc (suc at)))
  lexed (dot_sign ∷ ps) f at = one at (rw (halts_dot (text_of names ps) (soft_halts names ps f.0))) (lexed ps f.1 (suc at))
  lexed (dots_sign ∷ ps) f at = one at refl (lexed ps f.1 (suc (suc at)))
  lexed (colons_sign ∷ ps) f at = one at refl (lexed ps f.1 (suc (suc at)))
  lexed (bar_sign ∷ ps) f at = one at refl (lexed ps f.1 (suc at))
  lexed (open_pred ∷ ps) f at = one at refl (lexed ps f.1 (suc at))
  lexed (close_pred ∷ ps) f at = one at refl (lexed ps f.1 (suc at))
  lexed (open_group ∷ ps) f at = one at refl (lexed ps f.1 (suc at))
  lexed (open_not ∷ ps) f at =
      one at (name_token (ascii "not") (40 ∷ text_of names ps) at refl refl) (one (at + 3) refl (lexed ps f.1 (suc (at + 3))))
  lexed (close_sign ∷ ps) f at = one at refl (lexed ps f.1 (suc at))
  lexed (and_word ∷ ps) f at = one (suc at) (name_token (ascii "and") (32 ∷ text_of names ps) (suc at) refl refl) (lexed ps f.1 (suc (suc at + 3)))
  lexed (or_word ∷ ps) f at = one (suc at) (name_token (ascii "or") (32 ∷ text_of names ps) (suc at) refl refl) (lexed ps f.1 (suc (suc at + 2)))
  lexed (axis_word a ∷ ps) f at = one at (name_token (axis_text a) (text_of names ps) at (axis_name a) (soft_halts names ps f.0)) (lexed ps f.1 (at + length (axis_text a)))
  lexed (test_word any_node ∷ ps) f at =
      one at (name_token (ascii "node") (40 ∷ 41 ∷ text_of names ps) at refl refl) (one (at + 4) refl (one (suc (at + 4)) refl (lexed ps f.1 (suc (suc (at + 4))))))
  lexed (test_word text_node ∷ ps) f at =
      one at (name_token (ascii "text") (40 ∷ 41 ∷ text_of names ps) at refl refl) (one (at + 4) refl (one (suc (at + 4)) refl (lexed ps f.1 (suc (suc (at + 4))))))
  lexed (test_word (named v) ∷ ps) f at =
      one at (name_token (get_or names v []) (text_of names ps) at (spells v f.0.1) (soft_halts names ps f.0.0)) (lexed ps f.1 (at + length (get_or names v [])))
  lexed (test_word any_element ∷ ps) f at = one at refl (lexed ps f.1 (suc at))
