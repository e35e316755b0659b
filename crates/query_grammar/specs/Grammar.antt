-- docs/SCOPE.md, "The part of XPath" and demand 2: the grammar of queries over tokens, as 01 and XPath 1.0 have it and, where `newer` holds, as 02 has it of XPath 2.0 (2026-08), and what reading owes to it; the proofs are in proofs/. A token stands with its place, which plays no part (`PlacesApart`).
-- Each relation `XIn ts x rest` says: the tokens ts are those of x, then rest. No relation looks ahead.
use Rattle.std.specs.Prelude.{ℕ, zero, suc, ◌≡◌, Bool, true, false, cond, List, [], ◌∷◌, ◌↔◌, length}
use Rattle.std.proofs.Math.Option.{Option, none, some}
use Rattle.paper.specs.Tools.{ascii}
use Rattle.paper.specs.Limits.{bracket_limit}
use Rattle.paper.specs.Tokens.{Token, slash, slashes, dot, dots, colons, bar, open_square, close_square, open_round, close_round, star, finish, stray, word, is, Placed, tokens}
use Rattle.paper.specs.Query.{Axis, self, child, parent, Test, any_node, text_node, named, any_element}
use Rattle.paper.specs.Query.{Expr, path, both, either, negated, Steps, stop, step, Preds, bare, pred, Query, paths}
use Rattle.paper.specs.Reading.{Got, got, sees, axis_named, axis_ahead, Step, before, deep, read_step, read_paths, read_within, read_text}

-- A token at a place.
abbrev pub tok : ℕ → Token → Placed
tok p t = record { place = p; token = t }

-- Is a path `/` alone?
abbrev pub lone : Steps → Bool
lone stop = true
lone (step a t ps rest) = false

-- The tokens that join a path to the next: `|`, and by version 2 the word `union`, but not behind `/` alone, after which a word is a name.
pub data Joins (newer : Bool) (s : Steps) : Token → Type 0 where
  bar_joins : Joins newer s bar
  union_joins : newer ≡ true → lone s ≡ false → Joins newer s (word (ascii "union"))

-- `newer` says that the version is 2; the names are looked up by `look`; `Inside` says what stands in a bracket.
module _ (newer : Bool) (look : List ℕ → Option ℕ) (Inside : List Placed → Expr → List Placed → Type 0) where
  -- Predicates: any number of `[` expression `]`.
  pub data PredsIn : List Placed → Preds → List Placed → Type 0 where
    no_pred : {ts : List Placed} → PredsIn ts bare ts
    one_pred : {p q : ℕ} {ts us rest : List Placed} {e : Expr} {ps : Preds} → Inside ts e (tok q close_square ∷ us) → PredsIn us ps rest
        → PredsIn (tok p open_square ∷ ts) (pred e ps) rest

  -- A test: `*`, `node()`, `text()`, or a name.
  pub data TestIn : List Placed → Test → List Placed → Type 0 where
    star_test : {p : ℕ} {ts : List Placed} → TestIn (tok p star ∷ ts) any_element ts
    node_test : {p q r : ℕ} {ts : List Placed} → TestIn (tok p (word (ascii "node")) ∷ tok q open_round ∷ tok r close_round ∷ ts) any_node ts
    text_test : {p q r : ℕ} {ts : List Placed} → TestIn (tok p (word (ascii "text")) ∷ tok q open_round ∷ tok r close_round ∷ ts) text_node ts
    name_test : {p v : ℕ} {w : List ℕ} {ts : List Placed} → look w ≡ some v → TestIn (tok p (word w) ∷ ts) (named v) ts

  -- What follows `.` and `..`: nothing, or by version 2 predicates.
  pub data DotIn : List Placed → Preds → List Placed → Type 0 where
    dot_alone : {ts : List Placed} → DotIn ts bare ts
    dot_preds : {ts rest : List Placed} {ps : Preds} → newer ≡ true → PredsIn ts ps rest → DotIn ts ps rest

  -- A step: `.`, `..`, or test and predicates, after an axis and `::` or alone.
  pub data StepIn : List Placed → Step → List Placed → Type 0 where
    dot_step : {p : ℕ} {ts rest : List Placed} {ps : Preds} → DotIn ts ps rest → StepIn (tok p dot ∷ ts) (record { axis = self; test = any_node; preds = ps }) rest
    dots_step : {p : ℕ} {ts rest : List Placed} {ps : Preds} → DotIn ts ps rest → StepIn (tok p dots ∷ ts) (record { axis = parent; test = any_node; preds = ps }) rest
    child_step : {ts us rest : List Placed} {t : Test} {ps : Preds} → TestIn ts t us → PredsIn us ps rest
        → StepIn ts (record { axis = child; test = t; preds = ps }) rest
    axis_step : {p q : ℕ} {w : List ℕ} {a : Axis} {ts us rest : List Placed} {t : Test} {ps : Preds} → axis_named w ≡ some a → TestIn ts t us → PredsIn us ps rest
        → StepIn (tok p (word w) ∷ tok q colons ∷ ts) (record { axis = a; test = t; preds = ps }) rest

  -- Steps separated by `/` or `//`.
  pub data StepsIn : List Placed → Steps → List Placed → Type 0 where
    last_step_lem : {ts rest : List Placed} {s : Step} → StepIn ts s rest → StepsIn ts (before s stop) rest
    slash_step : {p : ℕ} {ts us rest : List Placed} {s : Step} {ss : Steps} → StepIn ts s (tok p slash ∷ us) → StepsIn us ss rest → StepsIn ts (before s ss) rest
    slashes_step : {p : ℕ} {ts us rest : List Placed} {s : Step} {ss : Steps} → StepIn ts s (tok p slashes ∷ us) → StepsIn us ss rest
        → StepsIn ts (before s (deep ss)) rest

  -- An operand: steps, `(` expression `)`, or `not(` expression `)`.
  pub data OperandIn : List Placed → Expr → List Placed → Type 0 where
    path_operand : {ts rest : List Placed} {s : Steps} → StepsIn ts s rest → OperandIn ts (path s) rest
    round_operand : {p q : ℕ} {ts rest : List Placed} {e : Expr} → Inside ts e (tok q close_round ∷ rest) → OperandIn (tok p open_round ∷ ts) e rest
    not_operand : {p q r : ℕ} {ts rest : List Placed} {e : Expr} → Inside ts e (tok r close_round ∷ rest)
        → OperandIn (tok p (word (ascii "not")) ∷ tok q open_round ∷ ts) (negated e) rest

  -- A term: an operand, or a term, `and` and an operand.
  pub data TermIn : List Placed → Expr → List Placed → Type 0 where
    one_operand : {ts rest : List Placed} {e : Expr} → OperandIn ts e rest → TermIn ts e rest
    and_operand : {p : ℕ} {ts us rest : List Placed} {a b : Expr} → TermIn ts a (tok p (word (ascii "and")) ∷ us) → OperandIn us b rest → TermIn ts (both a b) rest

  -- An expression: a term, or an expression, `or` and a term.
  pub data ExprIn : List Placed → Expr → List Placed → Type 0 where
    one_term : {ts rest : List Placed} {e : Expr} → TermIn ts e rest → ExprIn ts e rest
    or_term : {p : ℕ} {ts us rest : List Placed} {a b : Expr} → ExprIn ts a (tok p (word (ascii "or")) ∷ us) → TermIn us b rest → ExprIn ts (either a b) rest

  -- An absolute path: `/` alone, or `/` or `//` and steps.
  pub data PathIn : List Placed → Steps → List Placed → Type 0 where
    root_path : {p : ℕ} {ts : List Placed} → PathIn (tok p slash ∷ ts) stop ts
    slash_path : {p : ℕ} {ts rest : List Placed} {s : Steps} → StepsIn ts s rest → PathIn (tok p slash ∷ ts) s rest
    slashes_path : {p : ℕ} {ts rest : List Placed} {s : Steps} → StepsIn ts s rest → PathIn (tok p slashes ∷ ts) (deep s) rest

  -- Absolute paths, joined.
  pub data QueryIn : List Placed → Query → List Placed → Type 0 where
    one_path : {ts rest : List Placed} {s : Steps} → PathIn ts s rest → QueryIn ts (record { first = s; others = [] }) rest
    join_path : {p : ℕ} {t : Token} {ts us rest : List Placed} {s : Steps} {q : Query} → Joins newer s t → PathIn ts s (tok p t ∷ us) → QueryIn us q rest
        → QueryIn ts (record { first = s; others = paths q }) rest

-- What stands in a bracket, where so many brackets may be open at once, this one counted.
abbrev pub Within : Bool → (List ℕ → Option ℕ) → ℕ → List Placed → Expr → List Placed → Type 0
Within newer look zero ts e rest = ⊥
Within newer look (suc d) ts e rest = ExprIn newer look (Within newer look d) ts e rest

-- DERIVED: the tokens are those of a query with at most d brackets open at once, then the end of the text.
abbrev pub Derives : Bool → (List ℕ → Option ℕ) → ℕ → List Placed → Query → Type 0
Derives newer look d ts q = (p : ℕ) × QueryIn newer look (Within newer look d) ts q (tok p finish ∷ [])

-- The tokens without their places.
abbrev pub bare_tokens : List Placed → List Token
bare_tokens [] = []
bare_tokens (t ∷ ts) = t.token ∷ bare_tokens ts

-- PLACES: they play no part in what is derived.
abbrev pub PlacesApart : Type 0
PlacesApart = (newer : Bool) (look : List ℕ → Option ℕ) (d : ℕ) (ts us : List Placed) (q : Query) → bare_tokens ts ≡ bare_tokens us → Derives newer look d ts q → Derives newer look d us q

-- Is the end of the text the last token, and no other?
abbrev pub ended : List Placed → Bool
ended [] = false
ended (t ∷ ts) = cond (is finish t.token) (empty ts) (ended ts)
  where
    empty : List Placed → Bool
    empty [] = true
    empty (u ∷ us) = false

-- Reading the tokens of a query, where at most d brackets may be open at once.
abbrev pub reading : Bool → (List ℕ → Option ℕ) → ℕ → List Placed → Got Query
reading newer look d ts = read_paths newer look (read_within newer look d) (length ts) ts

-- ACCEPTED: tokens are read as a query exactly if it is derived from them;
abbrev pub Accepted : Type 0
Accepted = (newer : Bool) (look : List ℕ → Option ℕ) (d : ℕ) (ts : List Placed) (q : Query) → ended ts ≡ true → (reading newer look d ts ≡ got q []) ↔ Derives newer look d ts q

-- a text is read as a query exactly if it is derived from the text's tokens, with at most as many brackets open at once as the limit allows;
abbrev pub AcceptedText : Type 0
AcceptedText = (newer : Bool) (look : List ℕ → Option ℕ) (text : List ℕ) (q : Query) → (read_text newer look text ≡ got q []) ↔ Derives newer look bracket_limit (tokens text) q

-- what is read of a text is all of it;
abbrev pub AllRead : Type 0
AllRead = (newer : Bool) (look : List ℕ → Option ℕ) (text : List ℕ) (q : Query) (left : List Placed) → read_text newer look text ≡ got q left → left ≡ []

-- UNIQUE: from the same tokens no two queries are derived, however many brackets may be open.
abbrev pub Unique : Type 0
Unique = (newer : Bool) (look : List ℕ → Option ℕ) (c d : ℕ) (ts : List Placed) (q r : Query) → Derives newer look c ts q → Derives newer look d ts r → q ≡ r

-- A token at a place written out: `//` as `/descendant-or-self::node()/`, `.` as `self::node()`, `..` as `parent::node()`.
abbrev pub nodes_along : ℕ → List ℕ → List Placed → List Placed
nodes_along p axis rest = tok p (word axis) ∷ tok p colons ∷ tok p (word (ascii "node")) ∷ tok p open_round ∷ tok p close_round ∷ rest

abbrev pub spell : Token → ℕ → List Placed → List Placed
spell slash p rest = tok p slash ∷ rest
spell slashes p rest = tok p slash ∷ nodes_along p (ascii "descendant-or-self") (tok p slash ∷ rest)
spell dot p rest = nodes_along p (ascii "self") rest
spell dots p rest = nodes_along p (ascii "parent") rest
spell colons p rest = tok p colons ∷ rest
spell bar p rest = tok p bar ∷ rest
spell open_square p rest = tok p open_square ∷ rest
spell close_square p rest = tok p close_square ∷ rest
spell open_round p rest = tok p open_round ∷ rest
spell close_round p rest = tok p close_round ∷ rest
spell star p rest = tok p star ∷ rest
spell finish p rest = tok p finish ∷ rest
spell stray p rest = tok p stray ∷ rest
spell (word w) p rest = tok p (word w) ∷ rest

-- Every such token written out.
abbrev pub spelt : List Placed → List Placed
spelt [] = []
spelt (t ∷ ts) = spell t.token t.place (spelt ts)

-- ABBREVIATIONS: the query derived from tokens is derived from them with every `//`, `.` and `..` written out, and so it is read;
abbrev pub SpeltDerived : Type 0
SpeltDerived = (newer : Bool) (look : List ℕ → Option ℕ) (d : ℕ) (ts : List Placed) (q : Query) → Derives newer look d ts q → Derives newer look d (spelt ts) q

abbrev pub SpeltRead : Type 0
SpeltRead = (newer : Bool) (look : List ℕ → Option ℕ) (d : ℕ) (ts : List Placed) (q : Query) → ended ts ≡ true → reading newer look d ts ≡ got q [] → reading newer look d (spelt ts) ≡ got q []

-- and wherever a step is read that is no `.` or `..` and has no axis, it is read, or refused, as with `child::` before it.
abbrev pub ChildRead : Type 0
ChildRead =
    (newer : Bool) (look : List ℕ → Option ℕ) (d p q : ℕ) (ts : List Placed) → sees dot ts ≡ false → sees dots ts ≡ false → axis_ahead ts ≡ none
    → read_step newer look (read_within newer look d) (tok p (word (ascii "child")) ∷ tok q colons ∷ ts) ≡ read_step newer look (read_within newer look d) ts
