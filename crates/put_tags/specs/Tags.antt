-- What putting tags asks and promises: the name of an element in the text, and the end tags of the elements that are open.
use Rattle.std.specs.Prelude.{ℕ, suc, ◌+◌, ◌<◌, ◌≡◌, List, [], ◌∷◌, ◌++◌, length, get_or, drop}
use Rattle.paper.specs.Tools.{run_of}
use Rattle.paper.specs.Names.{name_part}
use Rattle.paper.specs.WriteXml.{bytes_at}

-- The name of the element that begins here: the name bytes behind its `<`.
abbrev pub name_at : List ℕ → ℕ → List ℕ
name_at text begin = bytes_at text (suc begin) (suc begin + run_of name_part (drop (suc begin) text))

-- The elements that are open from one up to another, which stays open, by the columns of parents and places; with their end tags.
pub data Open (text parents begins : List ℕ) : ℕ → ℕ → List ℕ → Type 0 where
  none_open : {i : ℕ} → Open text parents begins i i []
  one_open : {i up : ℕ} {bytes : List ℕ} → up < i → i < length parents → i < length begins → get_or begins i 0 < length text → get_or parents i 0 < i
      → Open text parents begins (get_or parents i 0) up bytes → Open text parents begins i up (60 ∷ 47 ∷ name_at text (get_or begins i 0) ++ (62 ∷ bytes))

-- What closing asks: that they are open, and that their end tags can be counted.
pub record Closable (text parents begins : List ℕ) (pen top up : ℕ) : Type 0 where
  pub bytes : List ℕ
  pub chain : Open text parents begins top up bytes
  pub room : pen + length bytes + length text < 274877906944

-- What the columns say of a node.
pub record Says (parents kinds begins ends : List ℕ) (node up kind begin end : ℕ) : Type 0 where
  pub up_is : up ≡ get_or parents node 0
  pub kind_is : kind ≡ get_or kinds node 0
  pub begin_is : begin ≡ get_or begins node 0
  pub end_is : end ≡ get_or ends node 0
