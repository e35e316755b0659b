-- `read::read` meets its contract: the lines of its answer in their order. Assumes nothing.
use borrow.Author.Rules.{rules}
use mathlib.Core.Path.{◌≡◌, sym, ◌∙◌, ap}
use mathlib.Core.Bool.{true, false}
use lib.ListN.{length}
use Rattle.std.specs.Prelude.{Err}
use Rattle.paper.specs.Answers.{no_version}
use Rattle.paper.specs.Told.{told}
use Rattle.paper.specs.declared.Refusal.TheVariants.{TooLong, BadName}
use Rattle.read.proofs.Answering.{text_long, list_long, no-version, bad_list, good_list, kept, accepted}
use Rattle.read.proofs.read.Goals as goal

pub returns-then-text-gt-TEXT_LIMIT-clause-result_value : goal.returns-then-text-gt-TEXT_LIMIT-clause-result_value
returns-then-text-gt-TEXT_LIMIT-clause-result_value c =
    let a = c.args in
    text_long a.text.now a.version a.list.now (length a.out.now) c.if-text-gt-TEXT_LIMIT.true

pub returns-then-text-gt-TEXT_LIMIT-clause-out_after : goal.returns-then-text-gt-TEXT_LIMIT-clause-out_after
returns-then-text-gt-TEXT_LIMIT-clause-out_after c =
    let a = c.args in
    kept a.text.now a.version a.list.now a.out.now TooLong (text_long a.text.now a.version a.list.now (length a.out.now) c.if-text-gt-TEXT_LIMIT.true)

pub returns-then-list-gt-LIST_LIMIT-clause-result_value : goal.returns-then-list-gt-LIST_LIMIT-clause-result_value
returns-then-list-gt-LIST_LIMIT-clause-result_value c =
    let a = c.args in
    list_long a.text.now a.version a.list.now (length a.out.now) c.if-text-gt-TEXT_LIMIT.false c.if-list-gt-LIST_LIMIT.true

pub returns-then-list-gt-LIST_LIMIT-clause-out_after : goal.returns-then-list-gt-LIST_LIMIT-clause-out_after
returns-then-list-gt-LIST_LIMIT-clause-out_after c =
    let a = c.args in
    kept a.text.now a.version a.list.now a.out.now TooLong (list_long a.text.now a.version a.list.now (length a.out.now) c.if-text-gt-TEXT_LIMIT.false c.if-list-gt-LIST_LIMIT.true)

pub returns-then-not-known-clause-result_value : goal.returns-then-not-known-clause-result_value
returns-then-not-known-clause-result_value c =
    let a = c.args in
    let none : no_version a.version ≡ true = search rules in
    no-version a.text.now a.version a.list.now (length a.out.now) c.if-text-gt-TEXT_LIMIT.false c.if-list-gt-LIST_LIMIT.false none

pub returns-then-not-known-clause-out_after : goal.returns-then-not-known-clause-out_after
returns-then-not-known-clause-out_after c =
    let a = c.args in
    let none : no_version a.version ≡ true = search rules in
    kept a.text.now a.version a.list.now a.out.now TooLong (no-version a.text.now a.version a.list.now (length a.out.now) c.if-text-gt-TEXT_LIMIT.false c.if-list-gt-LIST_LIMIT.false none)

pub returns-in_err-names-clause-result_value : goal.returns-in_err-names-clause-result_value
returns-in_err-names-clause-result_value c =
    let a = c.args in
    let known : no_version a.version ≡ false = search rules in
    let b = c.in_err-names.ensures.bad in
    let made : c.from_residual.result ≡ Err c.in_err-names.field-0.0 = search rules in
    ap told (made ∙ ap (λ why. Err why) b.refused) ∙ bad_list a.text.now a.version a.list.now (length a.out.now) c.if-text-gt-TEXT_LIMIT.false c.if-list-gt-LIST_LIMIT.false known b.start b.fault

pub returns-in_err-names-clause-out_after : goal.returns-in_err-names-clause-out_after
returns-in_err-names-clause-out_after c =
    let a = c.args in
    let known : no_version a.version ≡ false = search rules in
    let b = c.in_err-names.ensures.bad in
    kept a.text.now a.version a.list.now a.out.now (BadName b.start) (bad_list a.text.now a.version a.list.now (length a.out.now) c.if-text-gt-TEXT_LIMIT.false c.if-list-gt-LIST_LIMIT.false known b.start b.fault)

-- With a good list the lines on the text are left.
pub returns-in_err-end-clause-result_value : goal.returns-in_err-end-clause-result_value
returns-in_err-end-clause-result_value c =
    let a = c.args in
    let known : no_version a.version ≡ false = search rules in
    let good = c.in_ok-names.ensures.good in
    let made : c.from_residual-in_err-end.result ≡ Err c.in_err-end.field-0.0 = search rules in
    ap told made ∙ (rw (c.listed-listed.ensures.same ∙ good.0) at c.in_err-end.ensures.answered) ∙ good_list a.text.now a.version a.list.now (length a.out.now) c.if-text-gt-TEXT_LIMIT.false c.if-list-gt-LIST_LIMIT.false known good.1

pub returns-in_err-end-clause-out_after : goal.returns-in_err-end-clause-out_after
returns-in_err-end-clause-out_after c =
    let a = c.args in
    let known : no_version a.version ≡ false = search rules in
    let good = c.in_ok-names.ensures.good in
    kept a.text.now a.version a.list.now a.out.now c.in_err-end.field-0.0
    ((rw (c.listed-listed.ensures.same ∙ good.0) at c.in_err-end.ensures.answered) ∙ good_list a.text.now a.version a.list.now (length a.out.now) c.if-text-gt-TEXT_LIMIT.false c.if-list-gt-LIST_LIMIT.false known good.1)

pub returns-clause-result_value : goal.returns-clause-result_value
returns-clause-result_value c =
    let a = c.args in
    let known : no_version a.version ≡ false = search rules in
    let good = c.in_ok-names.ensures.good in
    (rw (c.listed-listed.ensures.same ∙ good.0) at c.in_ok-end.ensures.answered) ∙ good_list a.text.now a.version a.list.now (length a.out.now) c.if-text-gt-TEXT_LIMIT.false c.if-list-gt-LIST_LIMIT.false known good.1

pub returns-clause-out_after : goal.returns-clause-out_after
returns-clause-out_after c =
    let a = c.args in
    let known : no_version a.version ≡ false = search rules in
    let good = c.in_ok-names.ensures.good in
    let value = (rw (c.listed-listed.ensures.same ∙ good.0) at c.in_ok-end.ensures.answered) ∙ good_list a.text.now a.version a.list.now (length a.out.now) c.if-text-gt-TEXT_LIMIT.false c.if-list-gt-LIST_LIMIT.false known good.1 in
    accepted a.text.now a.version a.list.now a.out.now _ _ (sym value) (rw (c.listed-listed.ensures.same ∙ good.0) at c.write.ensures)
