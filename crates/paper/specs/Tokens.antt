-- docs/SCOPE.md, "The part of XPath": a text read token by token, longest token first.
use Rattle.std.specs.Prelude.{ℕ, zero, suc, pred, Bool, ◌||◌, cond, List, [], ◌∷◌, eqb, length, take}
use Rattle.paper.specs.Tools.{begins, run_of}
use Rattle.paper.specs.Names.{name_start, name_part}

-- The tokens; beside them the end of the text, and a byte that starts no token.
pub data Token : Type 0 where
  slash slashes dot dots colons bar open_square close_square open_round close_round star finish stray : Token
  word : List ℕ → Token

-- Which of them a token is, as a number.
abbrev pub sort : Token → ℕ
sort slash = 0
sort slashes = 1
sort dot = 2
sort dots = 3
sort colons = 4
sort bar = 5
sort open_square = 6
sort close_square = 7
sort open_round = 8
sort close_round = 9
sort star = 10
sort finish = 11
sort stray = 12
sort (word w) = 13

-- Are two tokens of one sort?
abbrev pub is : Token → Token → Bool
is t u = eqb (sort t) (sort u)

-- The letters of a word; no letters of another token.
abbrev pub letters : Token → List ℕ
letters slash = []
letters slashes = []
letters dot = []
letters dots = []
letters colons = []
letters bar = []
letters open_square = []
letters close_square = []
letters open_round = []
letters close_round = []
letters star = []
letters finish = []
letters stray = []
letters (word w) = w

-- White space: space, tab, LF and, by 02's 2026-03, CR.
abbrev pub white : ℕ → Bool
white b = eqb b 32 || eqb b 9 || eqb b 10 || eqb b 13

-- How many of the first bytes go on with a name?
abbrev pub run : List ℕ → ℕ
run bs = run_of name_part bs

-- The longest token that starts with byte b, where the bytes bs follow.
unfoldable pub token_at : ℕ → List ℕ → Token
token_at b bs =
    cond (name_start b) (word (b ∷ take (run bs) bs))
    (cond (eqb b 47) (cond (begins 47 bs) slashes slash)
    (cond (eqb b 46) (cond (begins 46 bs) dots dot)
    (cond (eqb b 58) (cond (begins 58 bs) colons stray)
    (cond (eqb b 124) bar
    (cond (eqb b 91) open_square
    (cond (eqb b 93) close_square
    (cond (eqb b 40) open_round
    (cond (eqb b 41) close_round
    (cond (eqb b 42) star
    stray)))))))))

-- How many bytes of the text a token takes beyond its first.
abbrev pub beyond : Token → ℕ
beyond slash = 0
beyond slashes = 1
beyond dot = 0
beyond dots = 1
beyond colons = 1
beyond bar = 0
beyond open_square = 0
beyond close_square = 0
beyond open_round = 0
beyond close_round = 0
beyond star = 0
beyond finish = 0
beyond stray = 0
beyond (word w) = pred (length w)

-- A token and where it starts.
pub record Placed : Type 0 where
  pub place : ℕ
  pub token : Token

-- The tokens of bytes that start at `at`, of which the first `taken` belong to the token before; the end of the text is the last.
abbrev pub tokens_from : ℕ → ℕ → List ℕ → List Placed
tokens_from taken at [] = record { place = at; token = finish } ∷ []
tokens_from (suc taken) at (b ∷ bs) = tokens_from taken (suc at) bs
tokens_from zero at (b ∷ bs) =
    let t = token_at b bs in
    let blank = tokens_from 0 (suc at) bs in
    let later = tokens_from (beyond t) (suc at) bs in
    cond (white b) blank (record { place = at; token = t } ∷ later)

-- The tokens of a text, each with its place.
unfoldable pub tokens : List ℕ → List Placed
tokens text = tokens_from 0 0 text
