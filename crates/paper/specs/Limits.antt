-- docs/SCOPE.md, "Numbers refused": the limits on what is lent.
use Rattle.std.specs.Prelude.{ℕ}

-- A text lent for reading has at most 32,768 bytes.
abbrev pub text_limit : ℕ
text_limit = 32768

-- A name list has at most 8,192 bytes.
abbrev pub list_limit : ℕ
list_limit = 8192

-- A query has at most 4,096 items.
abbrev pub item_limit : ℕ
item_limit = 4096

-- A table has at most 4,096 nodes.
abbrev pub node_limit : ℕ
node_limit = 4096

-- At most 64 brackets are open at once.
abbrev pub bracket_limit : ℕ
bracket_limit = 64

-- A name has at most 64 bytes.
abbrev pub name_limit : ℕ
name_limit = 64

-- A list has at most 256 names.
abbrev pub names_limit : ℕ
names_limit = 256
