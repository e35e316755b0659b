-- What putting a step without its predicates asks: a test that the list has a name for, and room.
use Rattle.std.specs.Prelude.{ℕ, ◌+◌, ◌≤◌, ◌<◌}
use Rattle.paper.specs.Limits.{name_limit, list_limit}
use Rattle.paper.specs.Query.{any_element}
use Rattle.paper.specs.Items.{named_from, test_number}
use Rattle.paper.specs.Printing.{axis_text_limit}

-- No step without its predicates has more bytes: an axis, `::`, and a name, which is no longer than its list.
abbrev pub head_room : ℕ
head_room = axis_text_limit + 2 + list_limit

-- Nor more than these, where the list has no fault.
abbrev pub sound_room : ℕ
sound_room = axis_text_limit + 2 + name_limit

-- A test by its number, of which the list has a name where it is one.
abbrev pub Known : ℕ → ℕ → Type 0
Known count test = (test ≤ test_number any_element) × (named_from ≤ test → test < test_number any_element → test < count + named_from)
