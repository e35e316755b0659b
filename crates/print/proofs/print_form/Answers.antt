-- `print_form` meets its contract: the lines of the table of answers in their order, and a text only where none holds. Assumes nothing.
use Rattle.std.proofs.Common.{◌≡◌, ◌≤◌, ◌<◌, ◌++◌, sym, ◌∙◌, ap, subst, arith, rules, length, [], Some, None, Err}
use Rattle.paper.specs.Names.{names_of}
use Rattle.paper.specs.Items.{decode}
use Rattle.paper.specs.Answers.{unknown_from, text_got}
use Rattle.paper.specs.Told.{told, told_refusal}
use Rattle.paper.specs.declared.Refusal.TheVariants.{BadQuery}
use Rattle.pen.proofs.Room.{puts_written, puts_nothing}
use Rattle.print.proofs.Answering.{shape_none, shape_some, Ready, refuses, accepts, long_query, long_list, bad_list, bad_query, unknown_name, short_room, value_told}
use Rattle.unknown_names.proofs.Unknowns.{all_known}
use Rattle.pen.specs.Putting.{Puts}
use Rattle.put_query.specs.Writing.{Named}
use Rattle.print.proofs.print_form.Goals as goal

pub returns-then-query-gt-ITEM_LIMIT : goal.returns-then-query-gt-ITEM_LIMIT
returns-then-query-gt-ITEM_LIMIT c =
    let a = c.args in
    let (answer, left) = refuses a.brief a.query.now a.list.now a.out.now 1 0 (long_query a.brief a.query.now a.list.now a.out.now c.if-query-gt-ITEM_LIMIT.true) in
    record { result_value = answer; out_after = left }

pub returns-then-list-gt-LIST_LIMIT : goal.returns-then-list-gt-LIST_LIMIT
returns-then-list-gt-LIST_LIMIT c =
    let a = c.args in
    let (answer, left) =
    refuses a.brief a.query.now a.list.now a.out.now 1 0 (long_list a.brief a.query.now a.list.now a.out.now c.if-query-gt-ITEM_LIMIT.false c.if-list-gt-LIST_LIMIT.true) in
    record { result_value = answer; out_after = left }

pub returns-in_err-names : goal.returns-in_err-names
returns-in_err-names c =
    let a = c.args in
    let bad = c.in_err-names.ensures.bad in
    let refused : c.from_residual.result ≡ Err c.in_err-names.field-0.0 = search rules in
    let (answer, left) =
    refuses a.brief a.query.now a.list.now a.out.now 2 bad.start (bad_list a.brief a.query.now a.list.now a.out.now c.if-query-gt-ITEM_LIMIT.false c.if-list-gt-LIST_LIMIT.false bad.start bad.fault) in
    record { result_value = ap told refused ∙ ap told_refusal bad.refused ∙ answer; out_after = left }

pub returns-in_err-ok_or : goal.returns-in_err-ok_or
returns-in_err-ok_or c =
    let a = c.args in
    let good = c.in_ok-names.ensures.good in
    let (no_shape, refused) : (c.measure.result ≡ None) × (c.from_residual-in_err-ok_or.result ≡ Err (BadQuery 0)) = search rules in
    let (answer, left) =
    refuses a.brief a.query.now a.list.now a.out.now 6 0
    (bad_query a.brief a.query.now a.list.now a.out.now c.if-query-gt-ITEM_LIMIT.false c.if-list-gt-LIST_LIMIT.false good.1 (shape_none (decode a.query.now) (sym no_shape ∙ c.measure.ensures))) in
    record { result_value = ap told refused ∙ answer; out_after = left }

pub returns-in-Some : goal.returns-in-Some
returns-in-Some c =
    let a = c.args in
    let good = c.in_ok-names.ensures.good in
    let some_shape : c.measure.result ≡ Some c.in_ok-ok_or.field-0 = search rules in
    let shape = shape_some (decode a.query.now) c.in_ok-ok_or.field-0 (sym some_shape ∙ c.measure.ensures) in
    let ready : Ready a.query.now a.list.now =
    record { few_items = c.if-query-gt-ITEM_LIMIT.false; few_bytes = c.if-list-gt-LIST_LIMIT.false; no_fault = good.1; is = shape.0; decoded = shape.1 } in
    let count : c.count.result ≡ length (names_of a.list.now) = c.count.ensures.counted ∙ ap (λ list. length (names_of list)) good.0 in
    let unknown = ap (λ n. unknown_from n 0 a.query.now) (sym count) ∙ sym c.in-Some.ensures.told in
    let (answer, left) = refuses a.brief a.query.now a.list.now a.out.now 5 c.in-Some.at (unknown_name a.brief a.query.now a.list.now a.out.now ready c.in-Some.at unknown) in
    record { result_value = answer; out_after = left }

pub paths-needed-requires-clause-names : goal.paths-needed-requires-clause-names
paths-needed-requires-clause-names c =
    let a = c.args in
    let good = c.in_ok-names.ensures.good in
    let count : c.count.result ≡ length (names_of a.list.now) = c.count.ensures.counted ∙ ap (λ list. length (names_of list)) good.0 in
    let known = ap (λ n. unknown_from n 0 a.query.now) (sym count) ∙ sym c.in_default.ensures.told in
    subst (λ list. Named (names_of list) a.query.now) (sym good.0) (record { known = all_known (length (names_of a.list.now)) a.query.now known })

pub returns-then-out-needed : goal.returns-then-out-needed
returns-then-out-needed c =
    let a = c.args in
    let good = c.in_ok-names.ensures.good in
    let some_shape : c.measure.result ≡ Some c.in_ok-ok_or.field-0 = search rules in
    let shape = shape_some (decode a.query.now) c.in_ok-ok_or.field-0 (sym some_shape ∙ c.measure.ensures) in
    let ready : Ready a.query.now a.list.now =
    record { few_items = c.if-query-gt-ITEM_LIMIT.false; few_bytes = c.if-list-gt-LIST_LIMIT.false; no_fault = good.1; is = shape.0; decoded = shape.1 } in
    let count : c.count.result ≡ length (names_of a.list.now) = c.count.ensures.counted ∙ ap (λ list. length (names_of list)) good.0 in
    let known = ap (λ n. unknown_from n 0 a.query.now) (sym count) ∙ sym c.in_default.ensures.told in
    let needed = c.paths-needed.result in
    let counted = subst (λ list. Puts (text_got a.brief (names_of list) (decode a.query.now)) 0 [] c.paths-needed.new.out needed) good.0 c.paths-needed.ensures in
    let kept : c.paths-needed.new.out ++ a.out.now ≡ a.out.now = ap (λ x. x ++ a.out.now) (puts_nothing _ _ _ _ counted) in
    let short : length a.out.now < needed = subst (λ x. length x < needed) kept c.if-out-needed.true in
    let (answer, left) = refuses a.brief a.query.now a.list.now a.out.now 10 needed (short_room a.brief a.query.now a.list.now a.out.now ready known needed counted.moved short) in
    record { result_value = answer; out_after = kept ∙ left }

pub paths-requires-clause-names : goal.paths-requires-clause-names
paths-requires-clause-names c =
    let a = c.args in
    let good = c.in_ok-names.ensures.good in
    let count : c.count.result ≡ length (names_of a.list.now) = c.count.ensures.counted ∙ ap (λ list. length (names_of list)) good.0 in
    let known = ap (λ n. unknown_from n 0 a.query.now) (sym count) ∙ sym c.in_default.ensures.told in
    subst (λ list. Named (names_of list) a.query.now) (sym good.0) (record { known = all_known (length (names_of a.list.now)) a.query.now known })

pub returns : goal.returns
returns c =
    let a = c.args in
    let good = c.in_ok-names.ensures.good in
    let some_shape : c.measure.result ≡ Some c.in_ok-ok_or.field-0 = search rules in
    let shape = shape_some (decode a.query.now) c.in_ok-ok_or.field-0 (sym some_shape ∙ c.measure.ensures) in
    let ready : Ready a.query.now a.list.now =
    record { few_items = c.if-query-gt-ITEM_LIMIT.false; few_bytes = c.if-list-gt-LIST_LIMIT.false; no_fault = good.1; is = shape.0; decoded = shape.1 } in
    let count : c.count.result ≡ length (names_of a.list.now) = c.count.ensures.counted ∙ ap (λ list. length (names_of list)) good.0 in
    let known = ap (λ n. unknown_from n 0 a.query.now) (sym count) ∙ sym c.in_default.ensures.told in
    let needed = c.paths-needed.result in
    let counted = subst (λ list. Puts (text_got a.brief (names_of list) (decode a.query.now)) 0 [] c.paths-needed.new.out needed) good.0 c.paths-needed.ensures in
    let kept : c.paths-needed.new.out ++ a.out.now ≡ a.out.now = ap (λ x. x ++ a.out.now) (puts_nothing _ _ _ _ counted) in
    let room : needed ≤ length a.out.now = subst (λ x. needed ≤ length x) kept c.if-out-needed.false in
    let puts = subst (λ list. Puts (text_got a.brief (names_of list) (decode a.query.now)) 0 (c.paths-needed.new.out ++ a.out.now) c.paths.new.out c.paths.result) good.0 c.paths.ensures in
    let wrote = puts_written (text_got a.brief (names_of a.list.now) (decode a.query.now)) a.out.now _ _ (rw kept at puts) (omega (arith, counted.moved)) in
    let (answer, left) = accepts a.brief a.query.now a.list.now a.out.now needed _ (value_told a.brief a.query.now a.list.now a.out.now ready known needed counted.moved room) wrote in
    record { result_value = answer; out_after = left }
