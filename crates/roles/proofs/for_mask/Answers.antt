-- `roles::for_mask` meets its contract: the limits, the list and the role are examined in the order of the paper's lines, and the lines of the union are left. Assumes nothing.
use Prim.Native.Nat.{ℕ, ◌≤◌, ◌<◌}
use native.Mathlib.Omega.{arith}
use borrow.Author.Rules.{rules}
use mathlib.Core.Path.{◌≡◌, sym, ◌∙◌, ap}
use mathlib.Core.Bool.{false, ◌||◌}
use mathlib.Core.List.{List}
use lib.ListN.{length}
use lib.Dec.{ltb}
use borrow.Author.Tests.{ltb-false}
use Rattle.std.specs.Prelude.{Err}
use Rattle.paper.specs.Limits.{text_limit, list_limit}
use Rattle.paper.specs.Answers.{refusal, too_long}
use Rattle.paper.specs.Roles.{view_limit, role_limit, beyond, mask_out}
use Rattle.paper.specs.Told.{told}
use Rattle.paper.proofs.Refusing.{refusal_told, or_none}
use Rattle.roles.specs.Judging.{views_counted}
use Rattle.roles.proofs.Answering.{long, lines, too_long_lem, too_many, bad_list, no_role, no_view, not_given, to_union, kept_out, union-out}
use Rattle.roles.proofs.for_mask.Goals as goal

-- A refusal of the paper's lines, and that nothing is written.
refused : (views list text old : List ℕ) (roles role mask number place : ℕ) → refusal number place ≡ lines views list text roles role mask (length old)
    → (refusal number place ≡ lines views list text roles role mask (length old)) × (old ≡ mask_out views list roles role mask text old)
refused views list text old roles role mask number place e = (e, kept_out views list text old roles role mask number place e)

-- The views are short where no length is beyond its limit.
views_short : (views list text : List ℕ) (roles role mask room : ℕ) → long views list text roles role mask room ≡ false → length views ≤ text_limit
views_short views list text roles role mask room short =
    let three = (or_none (too_long views text_limit || too_long list list_limit || too_long text text_limit) (ltb role_limit roles) short).0 in
    let two = (or_none (too_long views text_limit || too_long list list_limit) (too_long text text_limit) three).0 in
    ltb-false text_limit (length views) (or_none (too_long views text_limit) (too_long list list_limit) two).0

pub returns-then-long : goal.returns-then-long
returns-then-long c =
    let a = c.args in
    refused a.views.now a.list.now a.text.now a.out.now a.roles a.role a.mask 1 0 (too_long_lem a.views.now a.list.now a.text.now a.roles a.role a.mask (length a.out.now) c.if-long.true)

pub count_views-count-requires : goal.count_views-count-requires
count_views-count-requires c =
    let a = c.args in
    views_short a.views.now a.list.now a.text.now a.roles a.role a.mask (length a.out.now) c.if-long.false

pub returns-then-count-gt-VIEW_LIMIT : goal.returns-then-count-gt-VIEW_LIMIT
returns-then-count-gt-VIEW_LIMIT c =
    let a = c.args in
    refused a.views.now a.list.now a.text.now a.out.now a.roles a.role a.mask 1 0
    (too_many a.views.now a.list.now a.text.now a.roles a.role a.mask (length a.out.now) (omega (arith, c.if-count-gt-VIEW_LIMIT.true, c.count_views-count.ensures)))

pub returns-in_err-judge_list : goal.returns-in_err-judge_list
returns-in_err-judge_list c =
    let a = c.args in
    let e = c.in_err-judge_list in
    let w : c.from_residual.result ≡ Err e.field-0.0 = search rules in
    let (number, place, t) = refusal_told e.field-0.0 in
    let few : views_counted a.views.now ≤ view_limit = omega (arith, c.if-count-gt-VIEW_LIMIT.false, c.count_views-count.ensures) in
    let both =
    refused a.views.now a.list.now a.text.now a.out.now a.roles a.role a.mask number place
    (bad_list a.views.now a.list.now a.text.now a.roles a.role a.mask (length a.out.now) c.if-long.false few number place (sym t ∙ e.ensures)) in
    (ap told w ∙ t ∙ both.0, both.1)

pub returns-then-roles-number : goal.returns-then-roles-number
returns-then-roles-number c =
    let a = c.args in
    let few : views_counted a.views.now ≤ view_limit = omega (arith, c.if-count-gt-VIEW_LIMIT.false, c.count_views-count.ensures) in
    refused a.views.now a.list.now a.text.now a.out.now a.roles a.role a.mask 15 a.role
    (no_role a.views.now a.list.now a.text.now a.roles a.role a.mask (length a.out.now) c.if-long.false few _ c.in_ok-judge_list.ensures (omega (arith, c.if-roles-number.true)))

pub returns-then-mask-eq0 : goal.returns-then-mask-eq0
returns-then-mask-eq0 c =
    let a = c.args in
    let few : views_counted a.views.now ≤ view_limit = omega (arith, c.if-count-gt-VIEW_LIMIT.false, c.count_views-count.ensures) in
    let there : a.role < a.roles = omega (arith, c.if-roles-number.false) in
    refused a.views.now a.list.now a.text.now a.out.now a.roles a.role a.mask 16 a.role
    (no_view a.views.now a.list.now a.text.now a.roles a.role a.mask (length a.out.now) c.if-long.false few _ c.in_ok-judge_list.ensures there (omega (arith, c.if-mask-eq0.true)))

pub returns-then-left_of-ne0 : goal.returns-then-left_of-ne0
returns-then-left_of-ne0 c =
    let a = c.args in
    let few : views_counted a.views.now ≤ view_limit = omega (arith, c.if-count-gt-VIEW_LIMIT.false, c.count_views-count.ensures) in
    let there : a.role < a.roles = omega (arith, c.if-roles-number.false) in
    let left = c.left_of.ensures ∙ ap (beyond _) c.count_views-count.ensures in
    refused a.views.now a.list.now a.text.now a.out.now a.roles a.role a.mask 16 a.role
    (not_given a.views.now a.list.now a.text.now a.roles a.role a.mask (length a.out.now) c.if-long.false few _ c.in_ok-judge_list.ensures there (λ e. c.if-left_of-ne0.true (left ∙ e)))

pub compose_union-requires : goal.compose_union-requires
compose_union-requires c =
    let a = c.args in
    views_short a.views.now a.list.now a.text.now a.roles a.role a.mask (length a.out.now) c.if-long.false

pub returns : goal.returns
returns c =
    let a = c.args in
    let few : views_counted a.views.now ≤ view_limit = omega (arith, c.if-count-gt-VIEW_LIMIT.false, c.count_views-count.ensures) in
    let there : a.role < a.roles = omega (arith, c.if-roles-number.false) in
    let left = c.left_of.ensures ∙ ap (beyond _) c.count_views-count.ensures in
    let e =
    to_union a.views.now a.list.now a.text.now a.roles a.role a.mask (length a.out.now) c.if-long.false few _ c.in_ok-judge_list.ensures there (λ z. c.if-mask-eq0.false z) (sym left ∙ c.if-left_of-ne0.false) in
    (c.compose_union.ensures.result_value ∙ sym e, union-out a.views.now a.list.now a.text.now a.out.now _ a.roles a.role a.mask e c.compose_union.ensures.out_after)
