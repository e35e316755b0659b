-- How absolute paths and operands begin, by the marks and words that were looked for. Assumes nothing.
use Prim.Native.Nat.{ℕ, ◌<◌}
use native.Mathlib.Omega.{arith}
use mathlib.Core.Path.{◌≡◌, refl}
use mathlib.Core.Bool.{Bool, true, false, ◌&&◌}
use mathlib.Core.List.{List, []}
use lib.Dec.{eqb}
use lib.ListN.{length, drop}
use borrow.Author.Tests.{eqb-true}
use Rattle.std.specs.Prelude.{Ok}
use Rattle.paper.specs.Tokens as paper
use Rattle.paper.specs.Tokens.{sort, letters}
use Rattle.paper.specs.Reading.{next, sees, says, starts_step}
use Rattle.token.specs.declared.Cursor.{Cursor}
use Rattle.ahead.specs.declared.Joint.{Joint}
use Rattle.ahead.specs.declared.Lead.TheVariants.{Alone, Before}
use Rattle.marks.specs.Marks.{tokens_at, Past}
use Rattle.ahead.specs.Looking.{Joins, Leads}
use Rattle.marks.proofs.Lexed.{no_same, mark_letters}

-- PATHS. Whichever comes next, one token is passed.
pub joined_past : (text : List ℕ) (past : ℕ) (joint : Joint) → Joins text past (Ok joint) → Past text past joint.next.at
joined_past text past joint j = j.passed

module _ (text : List ℕ) (from : ℕ) (past : Cursor) (deep : Bool) where
  pub lead_deep : deep ≡ true → Joins text from (Ok (record { next = past; deep = deep })) → Leads text from (Ok (Before (record { next = past; deep = deep })))
  lead_deep d j = (j, rw d refl)

  pub lead_before : deep ≡ false → Joins text from (Ok (record { next = past; deep = deep })) → starts_step (next (tokens_at text past.at)) ≡ true
      → Leads text from (Ok (Before (record { next = past; deep = deep })))
  lead_before d j s = (j, rw d s)

  pub lead_alone : deep ≡ false → Joins text from (Ok (record { next = past; deep = deep })) → starts_step (next (tokens_at text past.at)) ≡ false → Leads text from (Ok (Alone past))
  lead_alone d j s = (rw d at j, s)

-- OPERANDS. What begins with `(` is no word.
pub round_no_word : (text word : List ℕ) (from : ℕ) (b : Bool) → 0 < length word → eqb 8 (sort (next (tokens_at text from))) ≡ true → (says word (tokens_at text from) && b) ≡ false
round_no_word text word from b l h =
    let none : letters (next (tokens_at text from)) ≡ [] = mark_letters (next (tokens_at text from)) (λ e. omega (arith, eqb-true 8 (sort (next (tokens_at text from))) h)) in
    rw (none, no_same word l)

pub no_word_and : (text word : List ℕ) (from : ℕ) (b : Bool) → says word (tokens_at text from) ≡ false → (says word (tokens_at text from) && b) ≡ false
no_word_and text word from b h = rw h

-- Two tests joined fail if the second does.
pub and_false : (a : Bool) → (a && false) ≡ false
and_false true = refl
and_false false = refl

pub no_round_and : (text word : List ℕ) (from past : ℕ) → Past text from past → sees paper.open_round (tokens_at text past) ≡ false
    → (says word (tokens_at text from) && sees paper.open_round (drop 1 (tokens_at text from))) ≡ false
no_round_and text word from past p h = rw (p.rest, h) (and_false (says word (tokens_at text from)))
