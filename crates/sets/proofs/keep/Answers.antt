-- `sets::keep`: each byte is the `&` of both sets' bytes.
use Rattle.std.proofs.Common.{rules, ◌≡◌, ◌&&◌, length, get_or, bit_and, ◌∙◌}
use mathlib.Core.Path.{ap₂}
use Rattle.sets.proofs.Bits.{bits_at, bits_of, and_bits}
use Rattle.sets.proofs.keep.Goals as goal

pub returns : goal.returns
returns c = λ f g p q.
    let n = length c.args.set.now in
    bits_of n (λ i. f i && g i) c.each.ensures.len
    (λ k l.
    let m = c.each.ensures.made k l in
    let h : get_or c.each.new.set k 0 ≡ bit_and (get_or c.args.set.now k 0) (get_or c.args.other.now k 0) = search rules in
    h ∙ ap₂ bit_and (bits_at n f p k l) (bits_at n g q k l) ∙ and_bits (f k) (g k))
