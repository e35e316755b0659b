-- No digit comes, or digits and the quote. Assumes nothing.
use native.Mathlib.Omega.{arith}
use Rattle.paper.specs.Xml.{digit}
use Rattle.xml_bytes.proofs.Steps.{run_inside}
use Rattle.prolog.proofs.Heading.{byte_heads}
use Rattle.prolog.proofs.Declaring.{number_refused, number_read}
use Rattle.prolog.proofs.number.Goals as goal

pub returns-then-end-at : goal.returns-then-end-at
returns-then-end-at c = λ p. number_refused c.args.text.now c.args.at c.digits_end-end.result c.args.closing c.digits_end-end.ensures c.requires.0 p c.refuse.result (omega arith) c.refuse.ensures

pub byte-requires : goal.byte-requires
byte-requires c = run_inside digit c.args.text.now c.args.at c.digits_end-end.result c.digits_end-end.ensures c.requires.0

pub returns : goal.returns
returns c =
    let text = c.args.text.now in
    let end = c.digits_end-end.result in
    let inside = run_inside digit text c.args.at end c.digits_end-end.ensures c.requires.0 in
    λ p. number_read text c.args.at end c.args.closing c.digits_end-end.ensures c.requires.0 p c.byte.result (omega arith) (byte_heads text end c.args.closing c.byte.result c.requires.1 inside c.byte.ensures p)
