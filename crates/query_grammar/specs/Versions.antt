-- 02, 2026-08: what version 1 of XPath accepts means the same in version 2; the proofs are in proofs/.
use Rattle.std.specs.Prelude.{ℕ, ◌≡◌, true, false, List, []}
use Rattle.std.proofs.Math.Option.{Option}
use Rattle.paper.specs.Tokens.{Placed}
use Rattle.paper.specs.Query.{Query}
use Rattle.paper.specs.Reading.{got, read_text}
use Rattle.paper.specs.Answers.{value, read_answer, read_items}
use Rattle.query_grammar.specs.Grammar.{Derives, ended, reading}

-- VERSIONS: what version 1 derives from tokens, version 2 derives, as the same query;
abbrev pub NewerDerives : Type 0
NewerDerives = (look : List ℕ → Option ℕ) (d : ℕ) (ts : List Placed) (q : Query) → Derives false look d ts q → Derives true look d ts q

-- so tokens that version 1 reads, and texts, version 2 reads as the same query;
abbrev pub NewerReads : Type 0
NewerReads =
    (look : List ℕ → Option ℕ) (d : ℕ) (ts : List Placed) (q : Query) → ended ts ≡ true → reading false look d ts ≡ got q [] → reading true look d ts ≡ got q []

abbrev pub NewerReadsText : Type 0
NewerReadsText =
    (look : List ℕ → Option ℕ) (text : List ℕ) (q : Query) (left : List Placed) → read_text false look text ≡ got q left → read_text true look text ≡ got q left

-- and where a read by version 1 is accepted, one by version 2 answers the same and gives the same items.
abbrev pub NewerAnswers : Type 0
NewerAnswers =
    (text list : List ℕ) (room n : ℕ) → read_answer text 1 list room ≡ value n → (read_answer text 2 list room ≡ value n) × (read_items text 2 list ≡ read_items text 1 list)
