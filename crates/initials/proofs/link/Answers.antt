-- `link` meets its contract: at first no name is linked, and each turn links one more.
use Rattle.std.proofs.Common.{arith, ◌-◌, ◌∙◌, ap, refl, get_or}
use Rattle.paper.specs.Names.{names_of}
use Rattle.initials.proofs.Linking.{none_linked, one_linked}
use Rattle.initials.proofs.link.Goals as goal

pub loop-v-init : goal.loop-v-init
loop-v-init c = rw c.count-v.ensures.counted (none_linked (names_of c.args.names.now) _ c.requires)

pub loop-v-preserved : goal.loop-v-preserved
loop-v-preserved c =
    let v = c.loop-v.v - 1 in
    let byte = c.first_byte-first.ensures.0 ∙ ap (λ name. get_or name 0 0) c.spell.ensures.says in
    one_linked (names_of c.args.names.now) c.loop-v.chains c.loop-v.v v c.first_byte-first.result _ _ c.loop-v.invariant (omega arith) (omega arith) byte c.first_byte-first.ensures.1 refl (omega arith)
