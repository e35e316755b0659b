-- The links are fixed: one list has them all. Assumes nothing.
use Prim.Native.Nat.{ℕ, ◌+◌, ◌-◌, ◌<◌}
use native.Mathlib.Omega.{arith}
use native.Mathlib.Decide.{dec_lt}
use mathlib.Core.Path.{◌≡◌, sym, ◌∙◌, ap}
use mathlib.Core.List.{List}
use mathlib.Core.Logic.{by_cases}
use lib.ListN.{length, get_or}
use lib.Seq.{ext_get_or}
use Rattle.initials.specs.Chains.{bytes_count, Chained}

pub chained_unique : (names : List (List ℕ)) (a b : List ℕ) → Chained names a → Chained names b → a ≡ b
chained_unique names a b h k =
    ext_get_or 0 a b (h.long ∙ sym k.long)
    (λ i l.
    by_cases (dec_lt i bytes_count) (λ p. h.heads i p ∙ sym (k.heads i p))
    (λ p.
    let v : bytes_count + (i - bytes_count) ≡ i = omega arith in
    by_cases (dec_lt i (bytes_count + length names))
    (λ q.
    let less : i - bytes_count < length names = omega arith in
    sym (ap (λ n. get_or a n 0) v) ∙ h.nexts (i - bytes_count) less ∙ sym (k.nexts (i - bytes_count) less) ∙ ap (λ n. get_or b n 0) v)
    (λ q. h.rest i (omega arith) (omega (arith, h.long)) ∙ sym (k.rest i (omega arith) (omega (arith, h.long))))))
