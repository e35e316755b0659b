-- `lines::put_decimal` meets its contract: the digits of a tenth, and the last digit after them. The measure is the number. Assumes nothing.
use native.Mathlib.Omega.{arith}
use mathlib.Core.Path.{sym}
use borrow.Author.Rules.{rules}
use Rattle.pen.proofs.Putting.{puts_as, puts_both}
use Rattle.lines.proofs.Digits.{decimal_one, decimal_more, decimal_few}
use Prim.Native.Nat.{ℕ, ◌^◌, ◌<◌}
use borrow.Fn.Kinds.{In}
use borrow.Fn.PlainCycle.{Measures, is, falls, and}
use Rattle.lines.proofs.put_decimal.Reads as put-decimal
use Rattle.lines.proofs.put_decimal.Kinds as put-decimal-kinds
use Rattle.lines.proofs.+put_decimal.Lts-put_decimal as put-decimal-lts
use Rattle.lines.proofs.put_digit.Reads as put-digit-reads
use Rattle.lines.proofs.+put_decimal.{statement}
use Rattle.lines.proofs.+put_decimal.Tie.{close}

abbrev μ-put-decimal : Measures 1 put-decimal-kinds.ps ℕ
μ-put-decimal κs a = a.1.1.0

abbrev put_decimal_at : ℕ → In 1 put-decimal-kinds.ps
put_decimal_at t =
    and 1 put-decimal-kinds.ps (is 1 put-decimal-kinds.ps μ-put-decimal t) put-decimal.Pre

abbrev put_decimal_below : ℕ → In 1 put-decimal-kinds.ps
put_decimal_below t =
    and 1 put-decimal-kinds.ps (falls 1 put-decimal-kinds.ps ◌<◌ μ-put-decimal t) put-decimal.Pre

put_decimal_put_digit_requires : (t : ℕ) → put-decimal-lts.Need-put_digit-requires (
  put-digit-reads.Asked,
  put-digit-reads.Learnt,
  put_decimal_below t,
  put-decimal.Post,
) (put_decimal_at t) put-decimal.Post
put_decimal_put_digit_requires t c κs = omega arith

put_decimal_same_length : (t : ℕ) → put-decimal-lts.Need-shape_of-out-then-n-lt10 (
  put-digit-reads.Asked,
  put-digit-reads.Learnt,
  put_decimal_below t,
  put-decimal.Post,
) (put_decimal_at t) put-decimal.Post
put_decimal_same_length t c = search rules

put_decimal_returns : (t : ℕ) → put-decimal-lts.Need-returns-then-n-lt10 (
  put-digit-reads.Asked,
  put-digit-reads.Learnt,
  put_decimal_below t,
  put-decimal.Post,
) (put_decimal_at t) put-decimal.Post
put_decimal_returns t c =
    let a = c.args in
    let puts = c.put_digit.ensures in
    (puts_as (sym (decimal_one a.n c.if-n-lt10.true)) puts, omega (arith, puts.moved))

put_decimal_put_decimal_requires : (t : ℕ) → put-decimal-lts.Need-put_decimal-next-requires (
  put-digit-reads.Asked,
  put-digit-reads.Learnt,
  put_decimal_below t,
  put-decimal.Post,
) (put_decimal_at t) put-decimal.Post
put_decimal_put_decimal_requires t c κs = let measured = c.requires.0 in omega arith

put_decimal_put_digit_requires_2 : (t : ℕ) → put-decimal-lts.Need-put_digit-requires-2 (
  put-digit-reads.Asked,
  put-digit-reads.Learnt,
  put_decimal_below t,
  put-decimal.Post,
) (put_decimal_at t) put-decimal.Post
put_decimal_put_digit_requires_2 t c κs = omega (arith, c.put_decimal-next.ensures.1)

put_decimal_same_length_2 : (t : ℕ) → put-decimal-lts.Need-shape_of-out (
  put-digit-reads.Asked,
  put-digit-reads.Learnt,
  put_decimal_below t,
  put-decimal.Post,
) (put_decimal_at t) put-decimal.Post
put_decimal_same_length_2 t c = search rules

put_decimal_returns_2 : (t : ℕ) → put-decimal-lts.Need-returns (
  put-digit-reads.Asked,
  put-digit-reads.Learnt,
  put_decimal_below t,
  put-decimal.Post,
) (put_decimal_at t) put-decimal.Post
put_decimal_returns_2 t c =
    let start = c in
    let n = start.args.n in
    let puts =
    puts_as (sym (decimal_more n c.if-n-lt10.false))
    (puts_both c.put_decimal-next.ensures.0 c.put_digit-2.ensures) in
    let few : n < 10 ^ 20 = omega arith in
    (puts, omega (arith, puts.moved, decimal_few 19 n few))

pub +put_decimal_spec : {M : Type 1} → statement M
+put_decimal_spec = close μ-put-decimal λ t. put-decimal-lts.spec (
  put-digit-reads.Asked,
  put-digit-reads.Learnt,
  put_decimal_below t,
  put-decimal.Post,
)
    (put_decimal_at t)
    put-decimal.Post
    (put_decimal_put_digit_requires t)
    (put_decimal_same_length t)
    (put_decimal_returns t)
    (put_decimal_put_decimal_requires t)
    (put_decimal_put_digit_requires_2 t)
    (put_decimal_same_length_2 t)
    (put_decimal_returns_2 t)
