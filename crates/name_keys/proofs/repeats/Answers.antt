-- `repeats` meets its contract: where no line has the word's key no line says it, and else the first that says it is searched.
use Rattle.std.proofs.Common.{sym, ◌∙◌, ap, eqb, get_or}
use Rattle.paper.specs.Tools.{some_below}
use Rattle.name_keys.proofs.Earlier.{repeats_first}
use Rattle.name_keys.proofs.Keying.{no_key_no_line}
use Rattle.name_keys.proofs.repeats.Goals as goal

pub returns-then-not-key_kept : goal.returns-then-not-key_kept
returns-then-not-key_kept c =
    let a = c.args in
    let none = no_key_no_line a.list.now a.starts.now a.keys.now a.count a.word.now c.requires.keyed in
    sym (none (ap (λ k. some_below a.count (λ v. eqb (get_or a.keys.now v 0) k)) (sym c.key.ensures) ∙ sym c.key_kept.ensures ∙ c.if-not-key_kept.true))

pub returns : goal.returns
returns c =
    let a = c.args in
    c.is_some.ensures ∙ sym (repeats_first a.list.now a.starts.now a.count a.word.now c.first_same.result c.first_same.ensures)
