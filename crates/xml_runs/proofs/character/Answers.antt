-- `xml_runs::character` meets its contract: a reference, a character of several bytes, or one byte. Assumes nothing.
use Prim.Native.Nat.{ℕ}
use native.Mathlib.Omega.{arith}
use borrow.Author.Tests.{ne_eqb, eqb-true}
use lib.ListN.{get_or}
use mathlib.Core.Bool.{false, false≢true}
use mathlib.Core.List.{List}
use mathlib.Core.Path.{◌≡◌, refl, sym, ◌∙◌, ap}
use Rattle.paper.specs.Xml.{plain, reference, run}
use Rattle.paper.proofs.Tests.{and_true}
use Rattle.xml_bytes.specs.Promised.{Reach}
use Rattle.xml_runs.specs.Runs.{Crosses, squares_after}
use Rattle.xml_runs.proofs.Holding.{run_on, run_by, run_stuck, run_left_out}
use Rattle.xml_runs.proofs.Leading.{plain_step, marked_step, wrong_step, reference_step}
use Rattle.xml_runs.proofs.character.Goals as goal

-- After another byte than `]` none ends the run.
other_byte : (text : List ℕ) (at b : ℕ) (k : ℕ) (r : Reach) → (b ≡ 93 → ⊥) → Crosses text at (λ begin. run begin k) (λ begin. run begin 0) r
    → Crosses text at (λ begin. run begin k) (λ begin. run begin (squares_after b k)) r
other_byte text at b k r other h = rw (ne_eqb b 93 other) h

-- What is no character is no `]`.
not_square : (b : ℕ) → plain b ≡ false → b ≡ 93 → ⊥
not_square b p e = false≢true (sym p ∙ ap plain e)

pub returns-then-markup : goal.returns-then-markup
returns-then-markup c = run_left_out _ _ c.requires.0 _ _ c.requires.1 (sym c.markup.ensures ∙ c.if-markup.true)

pub returns-then-b-eq38 : goal.returns-then-b-eq38
returns-then-b-eq38 c =
    let here = get_or c.args.text.now c.args.at 0 in
    other_byte c.args.text.now c.args.at here c.args.squares _ (λ e. omega arith)
    (run_on _ _ c.requires.0 c.args.squares reference _ c.requires.1 (sym c.markup.ensures ∙ c.if-markup.false)
    (λ begin frames. reference_step begin c.args.squares c.args.at here frames c.if-b-eq38.true) c.named_character.ensures)

pub returns-then-b-ge128 : goal.returns-then-b-ge128
returns-then-b-ge128 c = other_byte c.args.text.now c.args.at (get_or c.args.text.now c.args.at 0) c.args.squares _ (λ e. omega arith) (c.wide.ensures c.args.squares)

pub returns-then-b-squares : goal.returns-then-b-squares
returns-then-b-squares c =
    let here = get_or c.args.text.now c.args.at 0 in
    let mark : here ≡ 62 = eqb-true here 62 (and_true _ _ c.if-b-squares.true).0 in
    run_stuck _ _ c.requires.0 _ _ (record { no_tag = c.requires.1; no-reference = c.if-b-eq38.false })
    (λ begin frames. marked_step begin c.args.squares c.args.at here frames c.requires.1 c.if-b-eq38.false c.if-b-squares.true (λ e. omega arith))

pub returns-then-plain : goal.returns-then-plain
returns-then-plain c =
    let here = get_or c.args.text.now c.args.at 0 in
    run_by _ _ c.requires.0 _ _ _ (record { no_tag = c.requires.1; no-reference = c.if-b-eq38.false }) refl
    (λ begin frames. plain_step begin c.args.squares c.args.at here frames c.requires.1 c.if-b-eq38.false c.if-b-squares.false (sym c.plain.ensures ∙ c.if-plain.true))

pub returns-else-plain : goal.returns-else-plain
returns-else-plain c =
    let here = get_or c.args.text.now c.args.at 0 in
    let wrong = sym c.plain.ensures ∙ c.if-plain.false in
    run_stuck _ _ c.requires.0 _ _ (record { no_tag = c.requires.1; no-reference = c.if-b-eq38.false })
    (λ begin frames. wrong_step begin c.args.squares c.args.at here frames (omega arith) c.requires.1 c.if-b-eq38.false (not_square here wrong) c.if-b-squares.false wrong)
