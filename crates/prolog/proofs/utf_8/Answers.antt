-- The three letters come in either case, `-8`, and the quote. Assumes nothing.
use native.Mathlib.Omega.{arith}
use mathlib.Core.Path.{refl}
use mathlib.Core.List.{List, [], ◌∷◌}
use Rattle.std.specs.Prelude.{ℕ, ◌≤◌, ◌≡◌, true, Ok, eqb, length}
use Rattle.std.proofs.lemmas.Result.{err_from_is_err_and}
use Rattle.paper.specs.Tools.{ascii}
use Rattle.paper.specs.Xml.{Pattern, one, say, any_case, after_encoding}
use Rattle.xml_bytes.specs.Promised.{Reach, Reads, calm, spelling}
use Rattle.prolog.specs.Heading.{Heads, utf8}
use Rattle.prolog.proofs.Heading.{row_heads, byte_heads, word_heads, heads_then, heads_stuck}
use Rattle.prolog.proofs.Declaring.{case_calm}
use Rattle.prolog.proofs.utf_8.Goals as goal

-- What must come past each part.
abbrev past-8 : ℕ → Pattern
past-8 q = one (eqb q) after_encoding

abbrev past-f : ℕ → Pattern
past-f q = say (ascii "-8") (past-8 q)

abbrev past-t : ℕ → Pattern
past-t q = one (any_case 102) (past-f q)

abbrev past-u : ℕ → Pattern
past-u q = one (any_case 116) (past-t q)

letter_read : (text : List ℕ) (at small : ℕ) (r : Reach) → 97 ≤ small → at ≤ length text → Reads text at (any_case small ∷ []) r → (p : Pattern) → Heads text at (one (any_case small) p) p r
letter_read text at small r s l h p = row_heads text at (any_case small ∷ []) r ((λ b m. case_calm b small s m), tt) l h p

-- Each part behind those before it.
module _ (text : List ℕ) (at q : ℕ) (l : at ≤ length text) where
  u_read : (r : Reach) → Reads text at (any_case 117 ∷ []) r → Heads text at (utf8 q) (past-u q) r
  u_read r h = letter_read text at 117 r (omega arith) l h (past-u q)

  module _ (u : ℕ) (gu : Reads text at (any_case 117 ∷ []) (Ok u)) where
    t_read : (r : Reach) → Reads text u (any_case 116 ∷ []) r → Heads text at (utf8 q) (past-t q) r
    t_read r h = let before = u_read (Ok u) gu in heads_then text at (utf8 q) (past-u q) (past-t q) u r before (letter_read text u 116 r (omega arith) before.bounds.1 h (past-t q))

    module _ (t : ℕ) (gt : Reads text u (any_case 116 ∷ []) (Ok t)) where
      f_read : (r : Reach) → Reads text t (any_case 102 ∷ []) r → Heads text at (utf8 q) (past-f q) r
      f_read r h = let before = t_read (Ok t) gt in heads_then text at (utf8 q) (past-t q) (past-f q) t r before (letter_read text t 102 r (omega arith) before.bounds.1 h (past-f q))

      module _ (f : ℕ) (gf : Reads text t (any_case 102 ∷ []) (Ok f)) where
        end_read : (r : Reach) → Reads text f (spelling (ascii "-8")) r → Heads text at (utf8 q) (past-8 q) r
        end_read r h = let before = f_read (Ok f) gf in heads_then text at (utf8 q) (past-f q) (past-8 q) f r before (word_heads text f (ascii "-8") r refl before.bounds.1 h (past-8 q))

        quote_read : (end : ℕ) → Reads text f (spelling (ascii "-8")) (Ok end) → calm q ≡ true → (r : Reach) → Reads text end (eqb q ∷ []) r → Heads text at (utf8 q) after_encoding r
        quote_read end ge calm r h = let before = end_read (Ok end) ge in heads_then text at (utf8 q) (past-8 q) after_encoding end r before (byte_heads text end q r calm before.bounds.1 h after_encoding)

pub returns-in_err-past_u : goal.returns-in_err-past_u
returns-in_err-past_u c =
    let p = err_from_is_err_and c.from_residual.result c.from_residual.ensures.1 in
    rw (p.1, p.2) (heads_stuck _ _ _ _ after_encoding _ (u_read c.args.text.now c.args.at c.args.closing c.requires.0 _ c.in_err-past_u.ensures))

pub returns-in_err-past_t : goal.returns-in_err-past_t
returns-in_err-past_t c =
    let p = err_from_is_err_and c.from_residual-in_err-past_t.result c.from_residual-in_err-past_t.ensures.1 in
    rw (p.1, p.2) (heads_stuck _ _ _ _ after_encoding _ (t_read c.args.text.now c.args.at c.args.closing c.requires.0 _ c.in_ok-past_u.ensures _ c.in_err-past_t.ensures))

pub returns-in_err-past_f : goal.returns-in_err-past_f
returns-in_err-past_f c =
    let p = err_from_is_err_and c.from_residual-in_err-past_f.result c.from_residual-in_err-past_f.ensures.1 in
    rw (p.1, p.2) (heads_stuck _ _ _ _ after_encoding _ (f_read c.args.text.now c.args.at c.args.closing c.requires.0 _ c.in_ok-past_u.ensures _ c.in_ok-past_t.ensures _ c.in_err-past_f.ensures))

pub returns-in_err-end : goal.returns-in_err-end
returns-in_err-end c =
    let p = err_from_is_err_and c.from_residual-in_err-end.result c.from_residual-in_err-end.ensures.1 in
    rw (p.1, p.2)
    (heads_stuck _ _ _ _ after_encoding _ (end_read c.args.text.now c.args.at c.args.closing c.requires.0 _ c.in_ok-past_u.ensures _ c.in_ok-past_t.ensures _ c.in_ok-past_f.ensures _ c.in_err-end.ensures))

pub byte-requires : goal.byte-requires
byte-requires c = (end_read c.args.text.now c.args.at c.args.closing c.requires.0 _ c.in_ok-past_u.ensures _ c.in_ok-past_t.ensures _ c.in_ok-past_f.ensures _ c.in_ok-end.ensures).bounds.1

pub returns : goal.returns
returns c = quote_read c.args.text.now c.args.at c.args.closing c.requires.0 _ c.in_ok-past_u.ensures _ c.in_ok-past_t.ensures _ c.in_ok-past_f.ensures _ c.in_ok-end.ensures c.requires.1 c.byte.result c.byte.ensures
