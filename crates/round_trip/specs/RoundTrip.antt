-- docs/SCOPE.md, demand 2: reading what was printed gives the very same items.
use Rattle.std.specs.Prelude.{ℕ, ◌≤◌, ◌≡◌, Bool, false, List, length, take}
use Rattle.paper.specs.Limits.{text_limit}
use Rattle.paper.specs.Answers.{value, no_version, print_answer, print_out, read_answer, read_items}

-- ROUND TRIP: where a print in either form is accepted with at most 32,768 bytes, reading those bytes by either version, with the same list and room enough, is accepted and gives the query back.
abbrev pub RoundTrip : Type 0
RoundTrip =
    (brief : Bool) (query list out : List ℕ) (n room version : ℕ) → no_version version ≡ false → print_answer brief query list (length out) ≡ value n → n ≤ text_limit → length query ≤ room →
    let text = take n (print_out brief query list out) in
    (read_answer text version list room ≡ value (length query)) × (read_items text version list ≡ query)
