-- Files over calls, from the theorems on what the entry points answer and leave: a call's contract says both by those definitions. Assumes nothing.
use Prim.Native.Nat.{ℕ}
use native.Mathlib.Omega.{arith}
use mathlib.Core.Path.{◌≡◌, refl, sym, ◌∙◌, ap, ap₂, subst}
use mathlib.Core.List.{List}
use mathlib.Core.Option.{some}
use lib.ListN.{length, take}
use Rattle.paper.specs.Query.{Query}
use Rattle.paper.specs.Items.{decode}
use Rattle.paper.specs.Document.{table_of}
use Rattle.paper.specs.Extraction.{extracted}
use Rattle.paper.specs.Composition.{composed}
use Rattle.paper.specs.Answers.{value, write_xml_answer, write_xml_out, read_xml_answer, read_xml_column, parent_field, kind_field}
use Rattle.paper.specs.Answers.{Answer as Told}
use Rattle.paper.specs.Told.{told}
use Rattle.paper.specs.Told.{Answer}
use Rattle.std.specs.Prelude.{Ok}
use Rattle.file_theorems.specs.Files.{EqualTexts, shown}
use Rattle.file_theorems.proofs.Answered.{read_back_answers}
use Rattle.file_theorems.proofs.Secret.{secret_answers}
use Rattle.call_promises.specs.Calls.{ComposeCall, RunCall, View, ones}
use Rattle.file_promises.specs.FileCalls.{ReadXmlCall, WriteXmlCall, ReadBack, FileSecrecy}
use Rattle.call_promises.proofs.Telling.{told_same}
use Rattle.entry_promises.proofs.Accepting.{composition, ran, left_by, shown as shown-is}
use Rattle.call_promises.proofs.Calls.{old_items, composed_value, composed_left, old-marks, scratch-room, run_value, run_left, shows}

-- WRITE XML. What the contract says of an accepted call.
module _ {text list parents kinds begins ends marks file : List ℕ} {n : ℕ} (c : WriteXmlCall text list parents kinds begins ends marks (Ok n) file) where
  abbrev old_bytes : List ℕ
  old_bytes = c.args.1.1.1.1.1.1.1.0.now

  write_value : write_xml_answer text list (table_of parents kinds) begins ends marks (length old_bytes) ≡ value n
  write_value = rw (c.text_lent, c.list_lent, c.parents_lent, c.kinds_lent, c.begins_lent, c.ends_lent, c.marks_lent) at (sym c.met.0)

  write_left : file ≡ write_xml_out text list (table_of parents kinds) begins ends marks old_bytes
  write_left = sym c.file_left ∙ (rw (c.text_lent, c.list_lent, c.parents_lent, c.kinds_lent, c.begins_lent, c.ends_lent, c.marks_lent) at c.met.1)

-- READ BACK.
pub read_back : ReadBack
read_back text list parents kinds begins ends marks file new_parents new_kinds n room answer wrote most enough r =
    let ps = r.args.1.1.0.now in
    let ks = r.args.1.1.1.0.now in
    let bs = r.args.1.1.1.1.0.now in
    let es = r.args.1.1.1.1.1.0.now in
    let back = read_back_answers text list parents kinds begins ends marks (old_bytes wrote) n (write_value wrote) most ps ks bs es
    (omega (arith, enough, r.parents_room)) (r.kinds_room ∙ sym r.parents_room) (r.begins_room ∙ sym r.parents_room) (r.ends_room ∙ sym r.parents_room) in
    let m = back.0 in
    let said : told answer ≡ read_xml_answer (take n file) list (length ps) (length ks) (length bs) (length es) = rw (r.text_lent, r.list_lent) at r.met.0 in
    let got : told answer ≡ value m =
    said ∙ ap (λ f. read_xml_answer (take n f) list (length ps) (length ks) (length bs) (length es)) (write_left wrote) ∙ back.1 in
    let parents-are : new_parents ≡ read_xml_column parent_field (take n file) (told answer) ps = sym r.parents_left ∙ (rw r.text_lent at r.met.1.0) in
    let kinds-are : new_kinds ≡ read_xml_column (kind_field list) (take n file) (told answer) ks =
    sym r.kinds_left ∙ (rw (r.text_lent, r.list_lent) at r.met.1.1.0) in
    let parents_left = parents-are ∙ ap₂ (λ f a. read_xml_column parent_field (take n f) a ps) (write_left wrote) got in
    let kinds_left = kinds-are ∙ ap₂ (λ f a. read_xml_column (kind_field list) (take n f) a ks) (write_left wrote) got in
    (m, told_same answer (Ok m) got, ap₂ (λ p k. table_of (take m p) (take m k)) parents_left kinds_left ∙ back.2)

-- SECRECY OF FILES. The marks that a run of known items left.
marks_are : {query parents kinds marks : List ℕ} {a : ℕ} (q : Query) → decode query ≡ some q → RunCall query parents kinds (ones parents) (Ok a) marks → marks ≡ shown (table_of parents kinds) q
marks_are {query} {parents} {kinds} {marks} {a} q d c =
    run_left c ∙ left_by q d (ran query (table_of parents kinds) (ones parents) (old-marks c) (scratch-room c) a (run_value c))

pub file_secrecy : FileSecrecy
file_secrecy outer inner both list text parents kinds begins ends marks file ps ks text' parents' kinds' begins' ends' marks' file' ps' ks' n a w a' w' composing v v' same-parents same-kinds texts run run' wrote wrote' =
    let t = table_of parents kinds in
    let t' = table_of parents' kinds' in
    let c = (composition outer inner (old_items composing) n (composed_value composing)).0 in
    let o = c.outer_is in
    let i = c.inner_is in
    let decodes : decode (take n both) ≡ some (composed o i) = ap (λ ws. decode (take n ws)) (composed_left composing) ∙ c.decodes in
    let left = marks_are (composed o i) decodes run in
    let left' = marks_are (composed o i) decodes run' in
    let first = marks_are i c.inner_decodes v.ran in
    let first' = marks_are i c.inner_decodes v'.ran in
    let seen = shown-is inner t (ones parents) v.kept v.count ps ks i c.inner_decodes (shows v) in
    let seen' = shown-is inner t' (ones parents') v'.kept v'.count ps' ks' i c.inner_decodes (shows v') in
    let equal : EqualTexts text t begins ends (shown t i) text' t' begins' ends' (shown t' i) =
    subst (λ m. EqualTexts text t begins ends m text' t' begins' ends' (shown t' i)) first
    (subst (λ m. EqualTexts text t begins ends v.marks text' t' begins' ends' m) first' texts) in
    let alike = secret_answers list text begins ends (old_bytes wrote) text' begins' ends' (old_bytes wrote') t t' o i w w'
    (ap (λ m. write_xml_answer text list t begins ends m (length (old_bytes wrote))) (sym left) ∙ write_value wrote)
    (ap (λ m. write_xml_answer text' list t' begins' ends' m (length (old_bytes wrote'))) (sym left') ∙ write_value wrote')
    (sym seen.view ∙ ap₂ table_of same-parents same-kinds ∙ seen'.view) equal in (
      alike.0,
      ap (take w) (write_left wrote ∙ ap (λ m. write_xml_out text list t begins ends m (old_bytes wrote)) left) ∙ alike.1
          ∙ sym (ap (take w') (write_left wrote' ∙ ap (λ m. write_xml_out text' list t' begins' ends' m (old_bytes wrote')) left')),
    )
