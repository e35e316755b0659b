-- `bad_line` meets its contract: each return is one of the line's faults, and the last asks for a repeat.
use Rattle.std.proofs.Common.{sym, ◌∙◌, ◌-◌, take, drop}
use borrow.Author.Tests.{le-ltb, lt-ltb}
use native.Mathlib.Omega.{arith}
use Rattle.paper.proofs.Same.{part_length}
use Rattle.paper.proofs.Lines.{bad_name, bad_long, bad_open, bad_many, bad_repeat}
use Rattle.name_keys.specs.Keys.{earlier}
use Rattle.names.specs.Listing.{line_to}
use Rattle.name_keys.proofs.Earlier.{earlier_length}
use Rattle.names.proofs.Parts.{name_length}
use Rattle.names.proofs.bad_line.Goals as goal

pub returns-then-end-list : goal.returns-then-end-list
returns-then-end-list c =
    let a = c.args in
    sym (bad_open (earlier a.list.now a.starts.now a.count) (line_to a.list.now a.start a.end) (le-ltb a.end _ (omega arith)))

pub returns-then-not-is_name : goal.returns-then-not-is_name
returns-then-not-is_name c =
    let a = c.args in
    sym (bad_name (earlier a.list.now a.starts.now a.count) (line_to a.list.now a.start a.end) (sym c.is_name.ensures ∙ c.if-not-is_name.true))

pub returns-then-end-start-gt-NAME_LIMIT : goal.returns-then-end-start-gt-NAME_LIMIT
returns-then-end-start-gt-NAME_LIMIT c =
    let a = c.args in
    let long = part_length a.list.now a.list.now a.start (a.end - a.start) (omega arith) in
    sym (bad_long (earlier a.list.now a.starts.now a.count) (line_to a.list.now a.start a.end) (rw long (omega arith)))

pub returns-then-count-ge-NAMES_LIMIT : goal.returns-then-count-ge-NAMES_LIMIT
returns-then-count-ge-NAMES_LIMIT c =
    let a = c.args in
    sym (bad_many (earlier a.list.now a.starts.now a.count) (line_to a.list.now a.start a.end) (rw (earlier_length a.list.now a.starts.now a.count) (omega arith)))

pub repeats-requires-clause-word_nonzero : goal.repeats-requires-clause-word_nonzero
repeats-requires-clause-word_nonzero c =
    let a = c.args in
    let long = part_length a.list.now a.list.now a.start (a.end - a.start) (omega arith) in
    (name_length (take (a.end - a.start) (drop a.start a.list.now)) (sym c.is_name.ensures ∙ c.if-not-is_name.false), rw long (omega arith))

pub returns : goal.returns
returns c =
    let a = c.args in
    let long = part_length a.list.now a.list.now a.start (a.end - a.start) (omega arith) in
    let many = earlier_length a.list.now a.starts.now a.count in
    sym (bad_repeat (earlier a.list.now a.starts.now a.count) (line_to a.list.now a.start a.end)
    (sym c.is_name.ensures ∙ c.if-not-is_name.false)
    (rw long (omega arith))
    (lt-ltb a.end _ (omega arith))
    (rw many (omega arith))
    ∙ sym c.repeats.ensures)
