-- `xml::start_tag` meets its contract: the first byte begins a name or is refused. Assumes nothing.
use Prim.Native.Nat.{ℕ, ◌+◌, ◌≤◌, ◌<◌}
use native.Mathlib.Omega.{arith}
use lib.ListN.{length, get_or, drop}
use mathlib.Core.Bool.{false}
use mathlib.Core.List.{List}
use mathlib.Core.Path.{◌≡◌, sym, ◌∙◌, ap}
use Rattle.paper.specs.Names.{name_part}
use Rattle.paper.specs.Tokens.{white}
use Rattle.paper.specs.Tools.{run_of}
use Rattle.xml_bytes.proofs.Steps.{run_inside, stops_run}
use Rattle.xml.proofs.Tagging.{start_foreign, start_refused, start_names}
use Rattle.xml.proofs.start_tag.Goals as goal

-- Where no white space stands behind a name, no byte goes on with it.
no_part_there : (text : List ℕ) (from name_end to : ℕ) → name_end ≡ from + run_of name_part (drop from text) → name_end ≡ to → to < length text → name_part (get_or text to 0) ≡ false
no_part_there text from name_end to e f inside = ap (λ n. name_part (get_or text n 0)) (sym f) ∙ stops_run name_part text from name_end e (omega arith)

pub returns-then-xml_start : goal.returns-then-xml_start
returns-then-xml_start c = start_foreign _ _ c.if-text-at.false (sym c.name_start.ensures ∙ c.if-not-name_start.true) (sym c.xml_start.ensures ∙ c.if-xml_start.true)

pub returns-then-not-name_start : goal.returns-then-not-name_start
returns-then-not-name_start c = start_refused _ _ c.if-text-at.false _ (sym c.name_start.ensures ∙ c.if-not-name_start.true) (sym c.xml_start.ensures ∙ c.if-xml_start.false) c.refuse.ensures

pub skip-requires : goal.skip-requires
skip-requires c = run_inside name_part c.args.text.now (c.args.at + 1) c.run_end-name_end.result c.run_end-name_end.ensures (omega arith)

pub tag_end-requires : goal.tag_end-requires
tag_end-requires c =
    let text = c.args.text.now in
    let name-end = c.run_end-name_end.result in
    let within : name-end ≤ length text = run_inside name_part text (c.args.at + 1) name-end c.run_end-name_end.ensures (omega arith) in (
      run_inside white text name-end c.skip.result c.skip.ensures within,
      omega (arith, c.skip.ensures),
      λ inside. record {
        no_space = stops_run white text name-end c.skip.result c.skip.ensures inside;
        no_part = λ e. no_part_there text (c.args.at + 1) name-end c.skip.result c.run_end-name_end.ensures e inside;
      },
    )

pub returns : goal.returns
returns c = start_names _ _ c.if-text-at.false _ _ _ (sym c.name_start.ensures ∙ c.if-not-name_start.false) c.run_end-name_end.ensures c.skip.ensures c.tag_end.ensures
