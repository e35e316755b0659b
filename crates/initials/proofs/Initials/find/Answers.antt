-- `find` meets its contract: the names that begin as the word does are compared with it, one after the other.
use Rattle.std.proofs.Common.{arith, ◌≡◌, ◌<◌, ◌+◌, ◌-◌, ◌∙◌, ap, sym, subst, true, false, length, get_or, []}
use Rattle.paper.specs.Tools.{same}
use Rattle.paper.specs.Names.{names_of, number_of}
use Rattle.paper.proofs.Same.{same_pointwise}
use Rattle.initials.specs.Chains.{bytes_count}
use Rattle.initials.proofs.Linking.{Seeks, seek_first, seek-next, found_first, none_found, left, left_less}
use Rattle.initials.proofs.Initials.find.Goals as goal

pub loop-at-init : goal.loop-at-init
loop-at-init c =
    let names = names_of c.self.inside.names in
    let sought = seek_first names c.args.word.now c.self.inside.chains c.self.invariant (omega (arith, c.type_inv.word 0)) in
    subst (Seeks names c.args.word.now) (sym (c.from-at.ensures ∙ ap (λ b. get_or c.self.inside.chains b 0) c.from.ensures)) sought

pub returns-then-eq-clause-numbered : goal.returns-then-eq-clause-numbered
returns-then-eq-clause-numbered c =
    let names = names_of c.self.inside.names in
    let at = c.loop-at.at in
    let word = c.args.word.now in
    let says : same (get_or names (at - 1) []) word ≡ true =
    ap (λ name. same name word) (sym c.spell-name.ensures.says) ∙ sym (same_pointwise c.spell-name.result.now word) ∙ sym c.eq.ensures ∙ c.if-eq.true in
    found_first names word at c.loop-at.invariant c.loop-at-test.true says ∙ ap (λ list. number_of (names_of list) word) c.self.view_is

pub loop-at-smaller : goal.loop-at-smaller
loop-at-smaller c =
    let names = names_of c.self.inside.names in
    let at = c.loop-at.at in
    let word = c.args.word.now in
    let says : same (get_or names (at - 1) []) word ≡ false =
    ap (λ name. same name word) (sym c.spell-name.ensures.says) ∙ sym (same_pointwise c.spell-name.result.now word) ∙ sym c.eq.ensures ∙ c.if-eq.false in
    let next = get_or c.self.inside.chains (bytes_count + (at - 1)) 0 in
    let onward = seek-next names word c.self.inside.chains c.self.invariant at c.loop-at.invariant c.loop-at-test.true says in
    let less = left_less (length names) at next c.loop-at-test.true c.loop-at.invariant.few onward.1 in
    subst (λ link. left (length names) link < left (length names) at) (sym c.from-at-in-loop-at.ensures) less

pub loop-at-preserved : goal.loop-at-preserved
loop-at-preserved c =
    let names = names_of c.self.inside.names in
    let at = c.loop-at.at in
    let word = c.args.word.now in
    let says : same (get_or names (at - 1) []) word ≡ false =
    ap (λ name. same name word) (sym c.spell-name.ensures.says) ∙ sym (same_pointwise c.spell-name.result.now word) ∙ sym c.eq.ensures ∙ c.if-eq.false in
    let onward = seek-next names word c.self.inside.chains c.self.invariant at c.loop-at.invariant c.loop-at-test.true says in
    subst (Seeks names word) (sym c.from-at-in-loop-at.ensures) onward.0

pub returns-clause-numbered : goal.returns-clause-numbered
returns-clause-numbered c =
    let word = c.args.word.now in
    none_found (names_of c.self.inside.names) word c.loop-at.at c.loop-at.invariant (omega arith) ∙ ap (λ list. number_of (names_of list) word) c.self.view_is
