-- The name and its quote come, `yes` or `no`, the quote again, and the end. Assumes nothing.
use mathlib.Core.List.{List}
use Rattle.std.specs.Prelude.{ℕ, Ok, Err, ◌-◌, get_or, eqb}
use Rattle.std.proofs.lemmas.Result.{err_from_is_err_and}
use Rattle.paper.specs.Tools.{ascii}
use Rattle.paper.specs.Xml.{Pattern, done, one, say, declaration_end}
use Rattle.paper.specs.declared.Refusal.{Refusal}
use Rattle.xml_bytes.specs.Promised.{Reach, Reads}
use mathlib.Core.List.{[], ◌∷◌}
use Rattle.prolog.specs.Heading.{Heads, valued, Gives, yes_no, standalone_value}
use Rattle.prolog.proofs.Heading.{byte_heads, heads_then, heads_stuck}
use Rattle.prolog.proofs.Declaring.{given_stuck, given_then, quote_calm}
use Rattle.prolog.proofs.standalone.Goals as goal

abbrev named : (ℕ → Pattern) → Pattern
named value = say (ascii "standalone") (valued value)

-- Each part behind those before it, with the quote that opened the value.
module _ (text : List ℕ) (at from : ℕ) (g : Gives text at named (Ok from)) where
  abbrev q : ℕ
  q = get_or text (from - 1) 0

  abbrev past_word : Pattern
  past_word = one (eqb q) declaration_end

  word_stuck : (why : Refusal) → Heads text from (yes_no past_word) past_word (Err why) → Heads text at (named standalone_value) done (Err why)
  word_stuck why h = given_then text at named standalone_value done from (Err why) g (heads_stuck text from (standalone_value q) past_word done why h)

  module _ (end : ℕ) (h : Heads text from (yes_no past_word) past_word (Ok end)) where
    closed : (r : Reach) → Reads text end (eqb q ∷ []) r → Heads text from (standalone_value q) declaration_end r
    closed r k = heads_then text from (standalone_value q) past_word declaration_end end r h (byte_heads text end q r (quote_calm q g.quote) h.bounds.1 k declaration_end)

    quote_stuck : (why : Refusal) → Reads text end (eqb q ∷ []) (Err why) → Heads text at (named standalone_value) done (Err why)
    quote_stuck why k = given_then text at named standalone_value done from (Err why) g (heads_stuck text from (standalone_value q) declaration_end done why (closed (Err why) k))

    all_read : (next : ℕ) → Reads text end (eqb q ∷ []) (Ok next) → (r : Reach) → Heads text next declaration_end done r → Heads text at (named standalone_value) done r
    all_read next k r m = given_then text at named standalone_value done from r g (heads_then text from (standalone_value q) declaration_end done next r (closed (Ok next) k) m)

pub returns-in_err-from : goal.returns-in_err-from
returns-in_err-from c =
    let p = err_from_is_err_and c.from_residual.result c.from_residual.ensures.1 in
    rw (p.1, p.2) (given_stuck c.args.text.now c.args.at named standalone_value done _ c.in_err-from.ensures)

pub returns-in_err-end : goal.returns-in_err-end
returns-in_err-end c =
    let p = err_from_is_err_and c.from_residual-in_err-end.result c.from_residual-in_err-end.ensures.1 in
    rw (p.1, p.2) (word_stuck c.args.text.now c.args.at c.in_ok-from.from c.in_ok-from.ensures _ (c.in_err-end.ensures (past_word c.args.text.now c.args.at c.in_ok-from.from c.in_ok-from.ensures)))

pub byte-requires : goal.byte-requires
byte-requires c = (c.in_ok-end.ensures done).bounds.1

pub returns-in_err-next : goal.returns-in_err-next
returns-in_err-next c =
    let p = err_from_is_err_and c.from_residual-in_err-next.result c.from_residual-in_err-next.ensures.1 in
    rw (p.1, p.2)
    (quote_stuck c.args.text.now c.args.at c.in_ok-from.from c.in_ok-from.ensures _ (c.in_ok-end.ensures (past_word c.args.text.now c.args.at c.in_ok-from.from c.in_ok-from.ensures)) _ c.in_err-next.ensures)

pub returns : goal.returns
returns c =
    all_read c.args.text.now c.args.at c.in_ok-from.from c.in_ok-from.ensures _ (c.in_ok-end.ensures (past_word c.args.text.now c.args.at c.in_ok-from.from c.in_ok-from.ensures)) _ c.in_ok-next.ensures c.declaration_end.result c.declaration_end.ensures
