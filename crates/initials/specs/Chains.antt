-- The names that begin with the same byte, one after the other.
use Rattle.std.specs.Prelude.{ℕ, suc, ◌+◌, ◌-◌, ◌≤◌, ◌<◌, ◌≡◌, List, [], eqb, length, get_or}
use Rattle.std.proofs.Math.Option.{Option, none, some}
use Rattle.paper.specs.Limits.{names_limit}
use Rattle.paper.specs.Tools.{first_from}
use Rattle.name_lines.specs.Lines.{starts_count}

-- How many bytes there are, and how many links are kept: one a byte and one a name.
abbrev pub bytes_count : ℕ
bytes_count = 256

abbrev pub chains_count : ℕ
chains_count = bytes_count + starts_count

-- A name in a link: one more than its number, 0 for none.
abbrev pub link_of : Option ℕ → ℕ
link_of none = 0
link_of (some v) = suc v

-- The first byte of name v.
abbrev pub first_byte : List (List ℕ) → ℕ → ℕ
first_byte names v = get_or (get_or names v []) 0 0

-- The first of the names from `from` on that begins with a byte.
abbrev pub next_of : List (List ℕ) → ℕ → ℕ → ℕ
next_of names b from = link_of (first_from (length names - from) from (λ u. eqb (first_byte names u) b))

-- For each byte the first name that begins with it; for each name the next that begins alike; the rest is 0.
pub record Chained (names : List (List ℕ)) (chains : List ℕ) : Type 0 where
  pub long : length chains ≡ chains_count
  pub few : length names ≤ names_limit
  pub heads : (b : ℕ) → b < bytes_count → get_or chains b 0 ≡ next_of names b 0
  pub nexts : (v : ℕ) → v < length names → get_or chains (bytes_count + v) 0 ≡ next_of names (first_byte names v) (suc v)
  pub rest : (i : ℕ) → bytes_count + length names ≤ i → i < chains_count → get_or chains i 0 ≡ 0
