-- docs/SCOPE.md, demand 2: which texts reading refuses, and where: 3 exactly at the token that goes on with no query, 4 exactly at the bracket that is one too many; the proofs are in proofs/.
use Rattle.std.specs.Prelude.{ℕ, suc, ◌+◌, ◌<◌, ◌≡◌, Bool, true, List, [], ◌∷◌, ◌++◌, ◌↔◌, ◌⊎◌}
use Rattle.std.proofs.Math.Option.{Option, some}
use Rattle.paper.specs.Limits.{bracket_limit}
use Rattle.paper.specs.Tokens.{Token, slash, slashes, dot, dots, colons, bar, open_square, close_square, open_round, close_round, star, finish, stray, word, Placed, tokens}
use Rattle.paper.specs.Query.{Query}
use Rattle.paper.specs.Answers.{any_name}
use Rattle.paper.specs.Reading.{got, refused, read_text}
use Rattle.query_grammar.specs.Grammar.{Derives, ended, reading}

-- Do the places rise?
abbrev pub all_beyond : ℕ → List Placed → Type 0
all_beyond n [] = Unit {0}
all_beyond n (t ∷ ts) = (n < t.place) × all_beyond n ts

abbrev pub Rising : List Placed → Type 0
Rising [] = Unit {0}
Rising (t ∷ ts) = all_beyond t.place ts × Rising ts

-- Every name is known, as where only the syntax is judged.
abbrev pub AllKnown : (List ℕ → Option ℕ) → Type 0
AllKnown look = (w : List ℕ) → (v : ℕ) × (look w ≡ some v)

-- The token at place p goes on with no query: those before it can be completed to one, and with it they cannot, with any names, at any nesting, whatever follows.
pub record Wrong (newer : Bool) (look : List ℕ → Option ℕ) (d : ℕ) (ts : List Placed) (p : ℕ) : Type 0 where
  pub before : List Placed
  pub token : Placed
  pub after : List Placed
  pub split : ts ≡ before ++ (token ∷ after)
  pub place : token.place ≡ p
  pub completed : (more : List Placed) × (q : Query) × Derives newer look d (before ++ more) q
  pub never : (names : List ℕ → Option ℕ) (depth : ℕ) (more : List Placed) (q : Query) → Derives newer names depth (before ++ (token ∷ more)) q → ⊥

-- REFUSAL 3: tokens are refused with 3 only at the token that goes on with no query; so with texts, where a byte that starts no token and the end of the text are tokens too.
abbrev pub RefusedWrong : Type 0
RefusedWrong = (newer : Bool) (look : List ℕ → Option ℕ) (d : ℕ) (ts : List Placed) (p : ℕ) → AllKnown look → ended ts ≡ true → reading newer look d ts ≡ refused 3 p → Wrong newer look d ts p

abbrev pub RefusedWrongText : Type 0
RefusedWrongText = (newer : Bool) (text : List ℕ) (p : ℕ) → read_text newer any_name text ≡ refused 3 p → Wrong newer any_name bracket_limit (tokens text) p

-- The brackets that tokens open, and those that they close.
abbrev pub opening : Token → ℕ
opening slash = 0
opening slashes = 0
opening dot = 0
opening dots = 0
opening colons = 0
opening bar = 0
opening open_square = 1
opening close_square = 0
opening open_round = 1
opening close_round = 0
opening star = 0
opening finish = 0
opening stray = 0
opening (word w) = 0

abbrev pub closing : Token → ℕ
closing slash = 0
closing slashes = 0
closing dot = 0
closing dots = 0
closing colons = 0
closing bar = 0
closing open_square = 0
closing close_square = 1
closing open_round = 0
closing close_round = 1
closing star = 0
closing finish = 0
closing stray = 0
closing (word w) = 0

abbrev pub opened : List Placed → ℕ
opened [] = 0
opened (t ∷ ts) = opening t.token + opened ts

abbrev pub closed : List Placed → ℕ
closed [] = 0
closed (t ∷ ts) = closing t.token + closed ts

-- With the bracket at place p d + 1 are open: d are before it, and the tokens before it can be completed to a query with at most d open at once, and with it to one with d + 1.
pub record Reached (newer : Bool) (look : List ℕ → Option ℕ) (d : ℕ) (ts : List Placed) (p : ℕ) : Type 0 where
  pub before : List Placed
  pub token : Placed
  pub after : List Placed
  pub split : ts ≡ before ++ (token ∷ after)
  pub place : token.place ≡ p
  pub bracket : opening token.token ≡ 1
  pub count : opened before ≡ closed before + d
  pub fits : (more : List Placed) × (q : Query) × Derives newer look d (before ++ more) q
  pub deeper : (more : List Placed) × (q : Query) × Derives newer look (suc d) (before ++ (token ∷ more)) q

-- It is one too many: with it no query has at most d open at once, whatever names are known and whatever follows.
pub record TooDeep (newer : Bool) (look : List ℕ → Option ℕ) (d : ℕ) (ts : List Placed) (p : ℕ) : Type 0 where
  pub reached : Reached newer look d ts p
  pub never : (names : List ℕ → Option ℕ) (more : List Placed) (q : Query) → Derives newer names d (reached.before ++ (reached.token ∷ more)) q → ⊥

-- REFUSAL 4: tokens are refused with 4 only at the bracket that is one too many, where the tokens up to it begin a query.
abbrev pub RefusedDeep : Type 0
RefusedDeep = (newer : Bool) (look : List ℕ → Option ℕ) (d : ℕ) (ts : List Placed) (p : ℕ) → AllKnown look → ended ts ≡ true → Rising ts → reading newer look d ts ≡ refused 4 p → TooDeep newer look d ts p

abbrev pub RefusedDeepText : Type 0
RefusedDeepText = (newer : Bool) (text : List ℕ) (p : ℕ) → read_text newer any_name text ≡ refused 4 p → TooDeep newer any_name bracket_limit (tokens text) p

-- EXACTLY: each of the two is given wherever its line holds;
abbrev pub WrongRefused : Type 0
WrongRefused = (newer : Bool) (look : List ℕ → Option ℕ) (d : ℕ) (ts : List Placed) (p : ℕ) → AllKnown look → ended ts ≡ true → Rising ts → Wrong newer look d ts p → reading newer look d ts ≡ refused 3 p

abbrev pub DeepRefused : Type 0
DeepRefused = (newer : Bool) (look : List ℕ → Option ℕ) (d : ℕ) (ts : List Placed) (p : ℕ) → AllKnown look → ended ts ≡ true → Rising ts → TooDeep newer look d ts p → reading newer look d ts ≡ refused 4 p

abbrev pub ExactText : Type 0
ExactText =
    (newer : Bool) (text : List ℕ) (p : ℕ)
    → ((read_text newer any_name text ≡ refused 3 p) ↔ Wrong newer any_name bracket_limit (tokens text) p) × ((read_text newer any_name text ≡ refused 4 p) ↔ TooDeep newer any_name bracket_limit (tokens text) p)

-- and with any names a text is read whole, refused with 3 or refused with 4.
abbrev pub Settled : Type 0
Settled =
    (newer : Bool) (text : List ℕ) → ((q : Query) × (read_text newer any_name text ≡ got q [])) ⊎ ((p : ℕ) × ((read_text newer any_name text ≡ refused 3 p) ⊎ (read_text newer any_name text ≡ refused 4 p)))

-- ANY NAMES: a text that is read with some names is read where every name is known.
abbrev pub ReadAnyNames : Type 0
ReadAnyNames = (newer : Bool) (look : List ℕ → Option ℕ) (text : List ℕ) (q : Query) (left : List Placed) → read_text newer look text ≡ got q left → (r : Query) × (read_text newer any_name text ≡ got r [])
