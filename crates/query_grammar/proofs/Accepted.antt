-- Tokens are accepted exactly if a query is derived from them, and the query is unique.
-- The end of the text is passed over by no relation of the grammar, so it is what reading stops at. Assumes nothing.
use Prim.Native.Nat.{ℕ, zero, suc, ◌≤◌, max}
use native.Mathlib.Omega.{arith}
use mathlib.Core.Path.{◌≡◌, refl, sym, ◌∙◌, ap, subst}
use mathlib.Core.Bool.{Bool, true, false, cond, false≢true}
use mathlib.Core.List.{List, [], ◌∷◌}
use mathlib.Core.Logic.{inr}
use mathlib.Core.Option.{Option}
use lib.Dec.{eqb}
use lib.ListN.{length, drop}
use Rattle.paper.specs.Tools.{begins}
use Rattle.paper.specs.Names.{name_start}
use Rattle.paper.specs.Limits.{bracket_limit}
use Rattle.paper.specs.Tokens.{Token, finish, is, Placed, white, token_at, beyond, tokens_from, tokens}
use Rattle.paper.specs.Query.{Query}
use Rattle.paper.specs.Reading.{got, at, sees, read_within, read_text}
use Rattle.query_grammar.specs.Grammar.{tok}
use Rattle.query_grammar.specs.Grammar.{QueryIn, Within, Derives, ended, reading, Accepted, AcceptedText, AllRead, Unique}
use Rattle.query_grammar.proofs.Seeing.{same_sort, got_value}
use Rattle.query_grammar.proofs.Sound.{within_got, paths-got}
use Rattle.query_grammar.proofs.Leaving.{leaves_ended, query_leaves, within_leaves}
use Rattle.query_grammar.proofs.Fuel.{all_paths}
use Rattle.query_grammar.proofs.Complete.{Comes, comes, runs_short, within_read, query_read}

-- Where the end is last and comes next, nothing else is left.
at-end : (ts : List Placed) → ended ts ≡ true → sees finish ts ≡ true → ts ≡ tok (at ts) finish ∷ []
at-end [] h s = absurd (false≢true h)
at-end (t ∷ []) h s = ap (λ x. tok t.place x ∷ []) (sym (same_sort finish t.token s))
at-end (t ∷ u ∷ us) h s = absurd (false≢true (rw s at h))

-- ACCEPTED EXACTLY IF DERIVED.
pub derived_if : (newer : Bool) (look : List ℕ → Option ℕ) (d : ℕ) (ts : List Placed) (q : Query) (left : List Placed) → ended ts ≡ true → reading newer look d ts ≡ got q left
    → Derives newer look d ts q × (left ≡ [])
derived_if newer look d ts q left n h =
    let r = paths-got newer look (read_within newer look d) (Within newer look d) (within_got newer look d) (length ts) ts q left h in
    let e : r.0 ≡ tok (at r.0) finish ∷ [] = at-end r.0 (sym (leaves_ended (query_leaves newer look (Within newer look d) (within_leaves newer look d) r.1)) ∙ n) r.2 in
    ((at r.0, subst (λ m. QueryIn newer look (Within newer look d) ts q m) e r.1), sym r.3 ∙ ap (drop 1) e)

pub read_if : (newer : Bool) (look : List ℕ → Option ℕ) (d most : ℕ) (ts : List Placed) (q : Query) → d ≤ most → Derives newer look d ts q → reading newer look most ts ≡ got q []
unfolding all_paths
read_if newer look d most ts q l (p, i) =
    exactly
    (query_read ⊥ newer look (read_within newer look most) (Within newer look d) (Within newer look most) (within_got newer look most) (within_leaves newer look most)
    (λ p us e rest j c. within_read ⊥ newer look d most p (inr l) us e rest j c) i p [] refl)
  where
    exactly : Comes ⊥ (reading newer look most ts) (got q []) → reading newer look most ts ≡ got q []
    exactly (comes e) = e
    exactly (runs_short n e) = absurd n

pub accepted : Accepted
accepted newer look d ts q n = (λ h. (derived_if newer look d ts q [] n h).0, λ i. read_if newer look d d ts q (omega arith) i)

-- UNIQUE.
pub unique : Unique
unique newer look c d ts q r i j = got_value (sym (read_if newer look c (max c d) ts q (omega arith) i) ∙ read_if newer look d (max c d) ts r (omega arith) j)

-- The end of the text is the last of its tokens, and no other.
pub either_way : {A : Type 0} (P : A → Type 0) (b : Bool) {x y : A} → P x → P y → P (cond b x y)
either_way P true p q = p
either_way P false p q = q

no_finish : (b : ℕ) (bs : List ℕ) → is finish (token_at b bs) ≡ false
unfolding token_at
no_finish b bs =
    let P : Token → Type 0 = λ t. is finish t ≡ false in
    either_way P (name_start b) refl
    (either_way P (eqb b 47) (either_way P (begins 47 bs) refl refl)
    (either_way P (eqb b 46) (either_way P (begins 46 bs) refl refl)
    (either_way P (eqb b 58) (either_way P (begins 58 bs) refl refl)
    (either_way P (eqb b 124) refl
    (either_way P (eqb b 91) refl
    (either_way P (eqb b 93) refl
    (either_way P (eqb b 40) refl
    (either_way P (eqb b 41) refl
    (either_way P (eqb b 42) refl refl)))))))))

from_ended : (taken at : ℕ) (bs : List ℕ) → ended (tokens_from taken at bs) ≡ true
from_ended taken at [] = refl
from_ended (suc taken) at (b ∷ bs) = from_ended taken (suc at) bs
from_ended zero at (b ∷ bs) =
    either_way (λ l. ended l ≡ true) (white b) (from_ended 0 (suc at) bs) (rw (no_finish b bs) (from_ended (beyond (token_at b bs)) (suc at) bs))

pub tokens_ended : (text : List ℕ) → ended (tokens text) ≡ true
unfolding tokens
tokens_ended text = from_ended 0 0 text

-- So with texts.
pub accepted_text : AcceptedText
unfolding read_text
accepted_text newer look text q = accepted newer look bracket_limit (tokens text) q (tokens_ended text)

pub all_read : AllRead
unfolding read_text
all_read newer look text q left h = (derived_if newer look bracket_limit (tokens text) q left (tokens_ended text) h).1
