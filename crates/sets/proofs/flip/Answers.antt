-- `sets::flip`: each byte is the old one with its lowest bit turned.
use Rattle.std.proofs.Common.{rules, ◌≡◌, not, length, get_or, bit_xor, ◌∙◌, ap}
use Rattle.sets.proofs.Bits.{bits_at, bits_of, flip_bit}
use Rattle.sets.proofs.flip.Goals as goal

pub returns : goal.returns
returns c = λ f p.
    let n = length c.args.set.now in
    bits_of n (λ i. not (f i)) c.each.ensures.len
    (λ k l.
    let m = c.each.ensures.made k l in
    let h : get_or c.each.new.set k 0 ≡ bit_xor (get_or c.args.set.now k 0) 1 = search rules in
    h ∙ ap (λ x. bit_xor x 1) (bits_at n f p k l) ∙ flip_bit (f k))
