-- The place kept last is where the innermost open element begins.
use Rattle.std.proofs.Common.{◌∙◌, sym, subst, arith, rules}
use Rattle.xml.specs.Pieces.{Named}
use Rattle.read_listed.proofs.Judged.{deep, takes, takes_refused}
use Rattle.read_listed.proofs.read_piece.Goals as goal

pub overflow_sub-so_far : goal.overflow_sub-so_far
overflow_sub-so_far c = c.requires.standing.1

pub offset_bounds-open-so_far : goal.offset_bounds-open-so_far
offset_bounds-open-so_far c = omega (arith, (deep _ _ _ _ _ c.requires.text_len_bound c.requires.standing.0 c.requires.standing.1).room)

pub bounds-open-so_far : goal.bounds-open-so_far
bounds-open-so_far c = (deep _ _ _ _ _ c.requires.text_len_bound c.requires.standing.0 c.requires.standing.1).room

pub take-requires : goal.take-requires
take-requires c =
    let h = deep _ _ _ _ _ c.requires.text_len_bound c.requires.standing.0 c.requires.standing.1 in
    (h.stands.inside, subst (Named _) (sym (c.from-inner.ensures ∙ h.kept)) h.stands.named.1)

pub returns-in_err-piece-clause-comes : goal.returns-in_err-piece-clause-comes
returns-in_err-piece-clause-comes c =
    let h = deep _ _ _ _ _ c.requires.text_len_bound c.requires.standing.0 c.requires.standing.1 in
    let refused = takes_refused _ _ _ _ _ h _ _ (c.from-inner.ensures ∙ h.kept) c.in_err-piece.ensures in
    search rules

pub keep_piece-requires-clause-facing : goal.keep_piece-requires-clause-facing
keep_piece-requires-clause-facing c =
    let h = deep _ _ _ _ _ c.requires.text_len_bound c.requires.standing.0 c.requires.standing.1 in
    takes _ _ _ _ _ h _ _ (c.from-inner.ensures ∙ h.kept) c.in_ok-piece.ensures
