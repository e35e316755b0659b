-- The contracts of the public functions below the entry points leave one answer and one content of each slice. Most say what the answer is by one definition;
-- an enum is given back by what its cases stand for, and a place in a list by what is left of it there or by the length of what stands before. Assumes nothing.
use Prim.Native.Nat.{ℕ, ◌≤◌}
use native.Mathlib.Omega.{arith}
use mathlib.Core.Path.{◌≡◌, refl, sym, ◌∙◌, ap, ap₂}
use mathlib.Core.List.{List, [], ◌∷◌}
use lib.ListN.{length, get_or, take, drop, length-drop}
use lib.Seq.{length-take-le}
use Rattle.paper.specs.WriteXml.{kept_xml}
use Rattle.paper.specs.Answers.{Answer, at_exit}
use Rattle.paper.specs.Items.{count_bound, Taken}
use Rattle.paper.proofs.Tests.{none-some, some_inj}
use Rattle.std.specs.Prelude.{Option, Some, None, Result, Ok, Err, IfOk, IfErr}
use Rattle.std.proofs.Math.Option.{none}
use Rattle.paper.specs.Names.{names_fault}
use Rattle.paper.specs.declared.Refusal.{Refusal}
use Rattle.names.specs.Listing.{BadAt}
use Rattle.names.proofs.Unique.{refused_unique}
use Rattle.names.proofs.Unique as names
use Rattle.initials.proofs.Unique.{chained_unique}
use Rattle.name_lines.proofs.Unique.{found_unique}
use Rattle.token.proofs.Unique as token
use Rattle.xml_runs.proofs.Unique as runs
use Rattle.prolog.proofs.Unique as prolog
use Rattle.end_tags.proofs.Unique.{end_unique}
use Rattle.xml.proofs.Unique as xml
use Rattle.xml_lines.specs.Kept.{Columns, columns, exit_columns}
use Rattle.paper.specs.Told.{told, found}
use Rattle.line_tests.proofs.Tests.{tells_unique}
use Rattle.match_lines.proofs.Unique as match_lines
use Rattle.ahead.proofs.Unique as ahead
use Rattle.places.proofs.Unique as places
use Rattle.candidates.proofs.Leading.{best_unique}
use Rattle.slots.specs.Slots.{deep_items}
use Rattle.slots.proofs.Unique.{deep_small, said_unique, wrote_unique, grouped_unique}
use Rattle.read_paths.proofs.Unique.{reads_unique, reads_left}
use Rattle.shape.specs.declared.Walked.{Walked}
use Rattle.shape.specs.Walks.{Walks}
use Rattle.pen.specs.Putting.{Puts}
use Rattle.uniqueness.specs.UniqueParts.{UnpackUnique, PackPathUnique, PackStepUnique, TurnUnique, GuardedUnique, PutItemsUnique, PutSameUnique}
use Rattle.uniqueness.specs.UniqueParts.{NameStartUnique, NamePartUnique, LinePartUnique, IndexUnique, NewListedUnique, ByStartsUnique, LinkUnique, CountListedUnique, FindListedUnique, SpellListedUnique, NewNamesUnique, ListedUnique, IntoListedUnique, CountNamesUnique, FindUnique, NewInitialsUnique, FindInitialUnique, SpellUnique, WhiteSpaceUnique, TakeUnique}
use Rattle.uniqueness.specs.UniqueParts.{SkipSpaceUnique, RunEndUnique, MarkupUnique, RefuseUnique, ByteUnique, SayUnique, SoonerUnique, RunPieceUnique, TakePieceUnique, RootPieceUnique, FinishUnique, LeadUnique}
use Rattle.uniqueness.specs.UniqueParts.{MarkUnique, WordAheadUnique, JoinedUnique, PathLeadUnique, OpeningUnique, AxisAheadUnique, TestCallUnique}
use Rattle.uniqueness.specs.UniqueParts.{RunOfUnique, StepsUnique, MeasureUnique, TableFaultUnique, MarksFaultUnique, CountUnique}
use Rattle.uniqueness.specs.UniqueParts.{PutByteUnique, PutUnique, PutSlashUnique, PutBarUnique, PutOpenUnique, PutOrUnique, PutAndUnique, PutNotUnique, PutListedHeadUnique, PutHeadUnique}
use Rattle.uniqueness.specs.UniqueParts.{LineEndUnique, LineStartUnique, PutRefusalUnique, PutResultUnique}
use Rattle.uniqueness.specs.UniqueParts.{NumberOfUnique, PlaceOfUnique, CodeUnique, ComposeUnionUnique, ReportQueriesUnique, ReportTextsUnique, RunWholeUnique, RunWithinUnique, ShowRowsUnique}
use Rattle.uniqueness.specs.UniqueParts.{FillUnique, CopyUnique, KeepUnique, AddUnique, FlipUnique, KeepSecondUnique, AddSecondUnique, KeepMetUnique}
use Rattle.uniqueness.specs.UniqueParts.{ChildrenUnique, ParentsUnique, BelowUnique, AboveUnique, DescendantsUnique, AncestorsUnique}
use Rattle.uniqueness.specs.UniqueParts.{FollowingSiblingsUnique, PrecedingSiblingsUnique, FollowingUnique, PrecedingUnique, AlongUnique}
use Rattle.uniqueness.specs.UniqueParts.{RestrictUnique, SpreadUnique, KeepQueryUnique, OwesUnique, SkipUnique, CountPathsUnique, PutSelectedUnique, SelectedSizeUnique}
use Rattle.uniqueness.specs.UniqueParts.{MarkQueryUnique, ComposeByUnique}
use Rattle.uniqueness.specs.UniqueParts.{NarrowUnique, FindNameUnique, FirstUnnamedUnique, KindOfUnique, AnswerUnique}
use Rattle.uniqueness.specs.UniqueParts.{SaysUnique, KindIsUnique, BeginsLineUnique, ReadsAsUnique, WriteKeptUnique}
use Rattle.uniqueness.specs.UniqueParts.{EndTagUnique, FillListedUnique, OutcomeUnique}
use Rattle.uniqueness.specs.UniqueParts.{RowStandsUnique, AllStandUnique, ElementMarkedUnique, FileUnique, JudgeListedUnique}
use Rattle.uniqueness.specs.UniqueParts.{PastStepsUnique, LookUnique, LookFirstUnique, StepAtUnique, PathAtUnique}
use Rattle.uniqueness.specs.UniqueParts.{IsOverUnique, AxisLeadsUnique, SpreadKinUnique, JudgeUnique, CandidateUnique, MarkKeptUnique}
use Rattle.uniqueness.specs.UniqueParts.{PutTextUnique, NewMarkedUnique, CountMarkedUnique, TextOfUnique, MarkOfUnique, LineOfUnique, CloseUnique, StartAtUnique, PutNodeUnique, PutKeptUnique}
use Rattle.uniqueness.specs.UniqueParts.{NewGivenUnique, CountGivenUnique, MarkOfGivenUnique, CloseGivenUnique, GivenUnique, JudgedUnique}
use Rattle.uniqueness.specs.UniqueParts.{IsNameUnique, NameLineUnique, FirstSameUnique, KeyUnique, RepeatsUnique}
use Rattle.uniqueness.specs.UniqueParts.{SameWordUnique, AxisOfUnique}
use Rattle.uniqueness.specs.UniqueParts.{JoinsAheadUnique, PutItemUnique, PutDeepUnique, ItemOfPathUnique, ItemOfStepUnique, GroupUnique, StepHeadUnique, ReadPathsUnique, ReadPathsLeft}
use Rattle.uniqueness.specs.UniqueParts.{JoinedHeightUnique, OwnDepthUnique}
use Rattle.uniqueness.specs.UniqueParts.{PutAlongUnique}
use Rattle.uniqueness.specs.UniqueParts.{DeepUnique, FirstUnknownUnique, PutListedPathsUnique, PutPathsUnique}
use Rattle.uniqueness.specs.UniqueParts.{PutVisibleUnique, PutLastUnique, CountGuardsUnique, GuardStepsUnique, PutComposedUnique, ComposedSizeUnique}
use Rattle.call_promises.proofs.Telling.{same, same_told, same_slice, same_slices}

-- ITEMS.
pub unpack_unique : UnpackUnique
unpack_unique κs a u v x y g p q = same p q

pub pack_path_unique : PackPathUnique
pack_path_unique κs a u v x y g p q = same p q

pub pack_step_unique : PackStepUnique
pack_step_unique κs a u v x y g p q = same p q

pub turn_unique : TurnUnique
turn_unique κs a u v x y g p q = same (p g.0 g.1) (q g.0 g.1)

pub guarded_unique : GuardedUnique
guarded_unique κs a u v x y g p q = same p q

pub put_items_unique : PutItemsUnique
put_items_unique κs a u v x y g p q = (refl, same_slice p q)

pub put_same_unique : PutSameUnique
put_same_unique κs a u v x y g p q = (refl, same_slice p q)

-- NAMES AND TOKENS.
pub name_start_unique : NameStartUnique
name_start_unique κs a u v x y g p q = same p q

pub name_part_unique : NamePartUnique
name_part_unique κs a u v x y g p q = same p q

pub is_name_unique : IsNameUnique
is_name_unique κs a u v x y g p q = same p q

pub line_part_unique : LinePartUnique
line_part_unique κs a u v x y g p q = same p q

pub name_line_unique : NameLineUnique
name_line_unique κs a u v x y g p q = same p q

pub first_line_unique : FirstSameUnique
first_line_unique κs a u v x y g p q = found_unique u v (same p q)

pub key_unique : KeyUnique
key_unique κs a u v x y g p q = same p q

pub repeats_unique : RepeatsUnique
repeats_unique κs a u v x y g p q = same p q

pub index_unique : IndexUnique
index_unique κs a u v x y g p q =
    let both = names.index_unique a.0.now a.1.0.now x.1.0.now y.1.0.now u v p q in
    (both.0, same_slice both.1 refl)

-- A list is good or bad, and bad in one way.
checked_unique : (list : List ℕ) (r s : Result (List ℕ) Refusal)
    → IfOk r (λ names. (names ≡ list) × (names_fault list ≡ none)) → IfErr r (λ why. BadAt list why)
    → IfOk s (λ names. (names ≡ list) × (names_fault list ≡ none)) → IfErr s (λ why. BadAt list why) → r ≡ s
checked_unique list (Ok m) (Ok n) p f q g = ap (λ names. Ok names) (same p.0 q.0)
checked_unique list (Ok m) (Err why) p f q g = none-some (sym p.1 ∙ g.fault)
checked_unique list (Err why) (Ok n) p f q g = none-some (sym q.1 ∙ f.fault)
checked_unique list (Err why) (Err other) p f q g = ap (λ w. Err w) (refused_unique f g)

pub new_listed_unique : NewListedUnique
new_listed_unique κs a u v x y g p q = checked_unique a.0.now u v p.0 p.1 q.0 q.1

pub by_starts_unique : ByStartsUnique
by_starts_unique κs a u v x y g p q = same p q

pub count_listed_unique : CountListedUnique
count_listed_unique κs a u v x y g p q = same p.0 q.0

pub find_listed_unique : FindListedUnique
find_listed_unique κs a u v x y g p q = found_unique u v (same p.0 q.0)

pub spell_listed_unique : SpellListedUnique
spell_listed_unique κs a u v x y g p q = same p.0 q.0

pub new_names_unique : NewNamesUnique
new_names_unique κs a u v x y g p q = checked_unique a.0.now u v p.0 p.1 q.0 q.1

pub listed_unique : ListedUnique
listed_unique κs a u v x y g p q = same p.0 q.0

pub into_listed_unique : IntoListedUnique
into_listed_unique κs a u v x y g p q = same p q

pub count_names_unique : CountNamesUnique
count_names_unique κs a u v x y g p q = same p.0 q.0

pub find_unique : FindUnique
find_unique κs a u v x y g p q = found_unique u v (same p.0 q.0)

pub link_unique : LinkUnique
link_unique κs a u v x y g p q = (refl, ap (λ l. l ∷ []) (chained_unique _ _ _ p q))

pub new_initials_unique : NewInitialsUnique
new_initials_unique κs a u v x y g p q = same p q

pub find_initial_unique : FindInitialUnique
find_initial_unique κs a u v x y g p q = found_unique u v (same p.0 q.0)

pub spell_unique : SpellUnique
spell_unique κs a u v x y g p q = same p.0 q.0

pub white_space_unique : WhiteSpaceUnique
white_space_unique κs a u v x y g p q = same p q

pub skip_space_unique : SkipSpaceUnique
skip_space_unique κs a u v x y g p q = same p q

pub run_end_unique : RunEndUnique
run_end_unique κs a u v x y g p q = same p q

pub take_unique : TakeUnique
take_unique κs a u v x y g p q = token.take_unique a.1.0.now a.0.at u v p q

-- PIECES OF XML TEXT.
pub markup_unique : MarkupUnique
markup_unique κs a u v x y g p q = same p q

pub refuse_unique : RefuseUnique
refuse_unique κs a u v x y g p q = same p q

pub byte_unique : ByteUnique
byte_unique κs a u v x y g p q = same p.comes q.comes

pub say_unique : SayUnique
say_unique κs a u v x y g p q = same p.comes q.comes

pub sooner_unique : SoonerUnique
sooner_unique κs a u v x y g p q = same p.is q.is

pub run_piece_unique : RunPieceUnique
run_piece_unique κs a u v x y g p q = runs.run_unique a.0.now a.1.0 u v p q

pub end_tag_unique : EndTagUnique
end_tag_unique κs a u v x y g p q = end_unique a.0.now a.1.0 a.1.1.0 u v p q

pub take_piece_unique : TakePieceUnique
take_piece_unique κs a u v x y g p q = xml.take_unique a.1.0.now a.0.at a.1.1.0 u v p q

pub root_piece_unique : RootPieceUnique
root_piece_unique κs a u v x y g p q = xml.root_unique a.1.0.now a.0.at u v p q

pub finish_unique : FinishUnique
finish_unique κs a u v x y g p q = xml.finish_unique a.0.now a.1.0 u v p q

pub lead_unique : LeadUnique
lead_unique κs a u v x y g p q = prolog.lead_unique a.0.now u v p q

-- WHAT COMES NEXT IN A TEXT.
pub same_word_unique : SameWordUnique
same_word_unique κs a u v x y g p q = same p q

pub axis_of_unique : AxisOfUnique
axis_of_unique κs a u v x y g p q = found_unique u v (same p q)

pub mark_unique : MarkUnique
mark_unique κs a u v x y g p q = ahead.looks_unique a.0.now a.1.0.at _ u v p q

pub word_ahead_unique : WordAheadUnique
word_ahead_unique κs a u v x y g p q = ahead.looks_unique a.0.now a.1.0.at _ u v p q

pub joined_unique : JoinedUnique
joined_unique κs a u v x y g p q = ahead.joined_unique a.0.now a.1.0.at u v p q

pub path_lead_unique : PathLeadUnique
path_lead_unique κs a u v x y g p q = ahead.path_lead_unique a.0.now a.1.0.at u v p q

pub opening_unique : OpeningUnique
opening_unique κs a u v x y g p q = ahead.opening_unique a.0.now a.1.0.at u v p q

pub joins_ahead_unique : JoinsAheadUnique
joins_ahead_unique κs a u v x y g p q = ahead.looks_unique a.0.now a.1.0.at _ u v p q

pub axis_ahead_unique : AxisAheadUnique
axis_ahead_unique κs a u v x y g p q = ahead.axis_ahead_unique a.0.now a.1.0.at u v p q

pub test_call_unique : TestCallUnique
test_call_unique κs a u v x y g p q = ahead.test_call_unique a.0.now a.1.1.0.at a.1.0.now u v p q

-- READING.
pub put_item_unique : PutItemUnique
put_item_unique κs a u v x y g p q = (refl, ap (λ l. l ∷ []) (wrote_unique a.0.now _ _ a.1.0 (a.1.1.0 ∷ []) (omega arith) p.0 q.0 p.1 q.1))

pub put_deep_unique : PutDeepUnique
put_deep_unique κs a u v x y g p q =
    let deep = a.1.1.0 in
    (same p.0.1 q.0.1, ap (λ l. l ∷ []) (wrote_unique a.0.now _ _ a.1.0 (deep_items deep) (deep_small deep) p.0.0 q.0.0 p.1 q.1))

pub item_of_path_unique : ItemOfPathUnique
item_of_path_unique κs a u v x y g p q = said_unique a.0 count_bound u v _ 0 p.0 p.1 q.0 q.1

pub item_of_step_unique : ItemOfStepUnique
item_of_step_unique κs a u v x y g p q = said_unique a.1.1.0 count_bound u v _ 0 p.0 p.1 q.0 q.1

pub group_unique : GroupUnique
group_unique κs a u v x y g p q =
    (refl, ap (λ l. l ∷ []) (grouped_unique a.0.now _ _ a.1.0 a.1.1.0 a.1.1.1.0 _ g.0 p.0 q.0 p.1 q.1))

pub step_head_unique : StepHeadUnique
step_head_unique κs a u v x y g p q = same p.1 q.1

pub read_paths_unique : ReadPathsUnique
read_paths_unique κs a u v x y g p q = reads_unique a.0.now _ _ _ _ _ u v p.0 q.0 p.1 q.1

pub read_paths_left : ReadPathsLeft
read_paths_left κs a u v x y (query, left, (reads, small, fits)) p q = (
  reads_unique a.0.now _ _ _ _ _ u v p.0 q.0 p.1 q.1,
  same_slice (reads_left a.1.1.0.now _ _ query left reads small fits u p.0) (reads_left a.1.1.0.now _ _ query left reads small fits v q.0),
)

-- SHAPES. What is left of a list from a place on tells the place.
place_left : (list : List ℕ) (m n : ℕ) → m ≤ length list → n ≤ length list → drop m list ≡ drop n list → m ≡ n
place_left list m n a b h = omega (arith, length-drop m list, length-drop n list, ap length h)

-- Two walks that took the same end at one place with the same measures.
module _ {A : Type 0} (items : List ℕ) (at depth : ℕ) (taken : Taken A) (nest_of height_of guard_of : A → ℕ) where
  walk_unique : (r s : Option Walked) → Walks items at depth taken nest_of height_of guard_of r → Walks items at depth taken nest_of height_of guard_of s → r ≡ s
  walk_unique (Some w) (Some z) p q =
      let e = some_inj (same (sym p.reads) (sym q.reads)) in
      let what = ap (λ w. w.0) e in
      let place : w.next ≡ z.next = place_left items w.next z.next p.inside q.inside (ap (λ w. w.1) e) in
      let nests : w.nesting ≡ z.nesting = p.nests ∙ ap nest_of what ∙ sym q.nests in
      let heights : w.height ≡ z.height = p.heights ∙ ap height_of what ∙ sym q.heights in
      let guards : w.guards ≡ z.guards = p.guards ∙ ap guard_of what ∙ sym q.guards in
      let high : ◌≡◌ {A = ℕ × ℕ} (w.nesting, w.height) (z.nesting, z.height) = ap₂ (λ nesting height. (nesting, height)) nests heights in
      let ends : ◌≡◌ {A = ℕ × ℕ} (w.next, w.guards) (z.next, z.guards) = ap₂ (λ next guards. (next, guards)) place guards in
      ap₂ (λ (h : ℕ × ℕ) (e : ℕ × ℕ). Some (record { next = e.0; nesting = h.0; height = h.1; guards = e.1 })) high ends
  walk_unique (Some w) None p q = none-some (same (sym q) (sym p.reads))
  walk_unique None (Some w) p q = none-some (same (sym p) (sym q.reads))
  walk_unique None None p q = refl

pub joined_height_unique : JoinedHeightUnique
joined_height_unique κs a u v x y g p q = same p q

pub own_depth_unique : OwnDepthUnique
own_depth_unique κs a u v x y g p q = same p q

pub run_of_unique : RunOfUnique
run_of_unique κs a u v x y g p q = same p.0 q.0

pub steps_unique : StepsUnique
steps_unique κs a u v x y g p q = walk_unique a.0.now _ _ _ _ _ _ u v p q

pub measure_unique : MeasureUnique
measure_unique κs a u v x y g p q = same p q

-- BYTES. The same text put at one place ends at one place and leaves one content.
pub both_put : {text old new new' : List ℕ} {pen next next' : ℕ} → Puts text pen old new next → Puts text pen old new' next' → (next ≡ next') × (new ∷ [] ≡ new' ∷ [])
both_put p q = (same p.moved q.moved, same_slice p.wrote q.wrote)

pub put_byte_unique : PutByteUnique
put_byte_unique κs a u v x y g p q = both_put p q

pub put_unique : PutUnique
put_unique κs a u v x y g p q = both_put p q

pub put_slash_unique : PutSlashUnique
put_slash_unique κs a u v x y g p q = both_put p q

pub put_bar_unique : PutBarUnique
put_bar_unique κs a u v x y g p q = both_put p q

pub put_open_unique : PutOpenUnique
put_open_unique κs a u v x y g p q = both_put p q

pub put_or_unique : PutOrUnique
put_or_unique κs a u v x y g p q = both_put p q

pub put_and_unique : PutAndUnique
put_and_unique κs a u v x y g p q = both_put p q

pub put_not_unique : PutNotUnique
put_not_unique κs a u v x y g p q = both_put p q

pub put_along_unique : PutAlongUnique
put_along_unique κs a u v x y g p q = both_put (p.0 g.0 g.1) (q.0 g.0 g.1)

pub put_listed_head_unique : PutListedHeadUnique
put_listed_head_unique κs a u v x y g p q =
    let b = g.0 in let t = g.1 in
    both_put (p.0 b.0 t.0 b.1 t.1.1 t.1.0) (q.0 b.0 t.0 b.1 t.1.1 t.1.0)

pub put_head_unique : PutHeadUnique
put_head_unique κs a u v x y g p q =
    let b = g.0 in let t = g.1 in
    both_put (p.0 b.0 t.0 b.1 t.1.1 t.1.0) (q.0 b.0 t.0 b.1 t.1.1 t.1.0)

pub deep_unique : DeepUnique
deep_unique κs a u v x y g p q = same p q

pub first_unknown_unique : FirstUnknownUnique
first_unknown_unique κs a u v x y g p q = found_unique u v (same p.0 q.0)

pub put_listed_paths_unique : PutListedPathsUnique
put_listed_paths_unique κs a u v x y g p q = both_put p q

pub put_paths_unique : PutPathsUnique
put_paths_unique κs a u v x y g p q = both_put p q

-- LINES. The length of a line tells its end.
pub line_end_unique : LineEndUnique
line_end_unique κs a u v x y g p q =
    sym (length-take-le u a.0.now p.within) ∙ ap length (same p.says q.says) ∙ length-take-le v a.0.now q.within

pub line_start_unique : LineStartUnique
line_start_unique κs a u v x y g p q = place_left a.0.now u v p.inside q.inside (same p.follows q.follows)

pub put_refusal_unique : PutRefusalUnique
put_refusal_unique κs a u v x y g p q = both_put p.puts q.puts

pub put_result_unique : PutResultUnique
put_result_unique κs a u v x y g p q = both_put p.puts q.puts

-- ANSWERS IN NUMBERS.
pub number_of_unique : NumberOfUnique
number_of_unique κs a u v x y g p q = same p q

pub place_of_unique : PlaceOfUnique
place_of_unique κs a u v x y g p q = same p q

pub code_unique : CodeUnique
code_unique κs a u v x y g p q = same p.1 q.1

-- THE UNION OF VIEWS, AND THE REPORTS ON TWO QUERIES AND ON THEIR TEXTS.
pub compose_union_unique : ComposeUnionUnique
compose_union_unique κs a u v x y g p q = (same_told p.0 q.0, same_slice p.1 q.1)

pub report_queries_unique : ReportQueriesUnique
report_queries_unique κs a u v x y g p q = both_put p.puts q.puts

pub report_texts_unique : ReportTextsUnique
report_texts_unique κs a u v x y g p q = both_put p.puts q.puts

-- RUNNING A WHOLE DOCUMENT, AND SHOWING WHAT IS KEPT OF ONE.
pub run_whole_unique : RunWholeUnique
run_whole_unique κs a u v x y g p q = (same_told p.0 q.0, same_slices p.1.0 p.1.1 q.1.0 q.1.1)

pub run_within_unique : RunWithinUnique
run_within_unique room fits κs a u v x y g p q = (same_told p.0 q.0, ap (λ l. l ∷ []) (p.1 ∙ sym q.1))

pub show_rows_unique : ShowRowsUnique
show_rows_unique κs a u v x y g p q = both_put p.puts q.puts

-- TABLES.
pub table_fault_unique : TableFaultUnique
table_fault_unique κs a u v x y g p q = found_unique u v (same p q)

pub marks_fault_unique : MarksFaultUnique
marks_fault_unique κs a u v x y g p q = found_unique u v (same (p []) (q []))

pub count_unique : CountUnique
count_unique κs a u v x y g p q = same p q

-- CUTS.
pub row_stands_unique : RowStandsUnique
row_stands_unique κs a u v x y g p q = same p q

pub all_stand_unique : AllStandUnique
all_stand_unique κs a u v x y g p q = same p q

-- SETS.
pub fill_unique : FillUnique
fill_unique κs a u v x y g p q = (refl, same_slice p q)

pub copy_unique : CopyUnique
copy_unique κs a u v x y g p q = (refl, same_slice p q)

pub keep_unique : KeepUnique
keep_unique κs a u v x y g p q = let f = g.1 in let h = g.0 in (refl, same_slice (p f.0 h.0 f.1 h.1) (q f.0 h.0 f.1 h.1))

pub add_unique : AddUnique
add_unique κs a u v x y g p q = let f = g.1 in let h = g.0 in (refl, same_slice (p f.0 h.0 f.1 h.1) (q f.0 h.0 f.1 h.1))

pub flip_unique : FlipUnique
flip_unique κs a u v x y g p q = (refl, same_slice (p g.0 g.1) (q g.0 g.1))

pub keep_second_unique : KeepSecondUnique
keep_second_unique κs a u v x y g p q = let f = g.0 in let h = g.1 in (refl, same_slice (p.0 f.0 h.0 f.1 h.1) (q.0 f.0 h.0 f.1 h.1))

pub add_second_unique : AddSecondUnique
add_second_unique κs a u v x y g p q = let f = g.0 in let h = g.1 in (refl, same_slice (p.0 f.0 h.0 f.1 h.1) (q.0 f.0 h.0 f.1 h.1))

pub keep_met_unique : KeepMetUnique
keep_met_unique κs a u v x y g p q =
    let t = g.0 in let f = g.1 in
    (refl, same_slice (p t.0 f.0 t.1.0 t.1.1 f.1) (q t.0 f.0 t.1.0 t.1.1 f.1))

-- AXES.
pub children_unique : ChildrenUnique
children_unique κs a u v x y g p q = (refl, same_slice (p [] g.0 g.1) (q [] g.0 g.1))

pub parents_unique : ParentsUnique
parents_unique κs a u v x y g p q = (refl, same_slice (p [] g.0 g.1) (q [] g.0 g.1))

pub below_unique : BelowUnique
below_unique κs a u v x y g p q = (refl, same_slice (p [] g.0 g.1) (q [] g.0 g.1))

pub above_unique : AboveUnique
above_unique κs a u v x y g p q = (refl, same_slice (p [] g.0 g.1) (q [] g.0 g.1))

pub descendants_unique : DescendantsUnique
descendants_unique κs a u v x y g p q = (refl, same_slice (p [] g.0 g.1) (q [] g.0 g.1))

pub ancestors_unique : AncestorsUnique
ancestors_unique κs a u v x y g p q = (refl, same_slice (p [] g.0 g.1) (q [] g.0 g.1))

pub following_siblings_unique : FollowingSiblingsUnique
following_siblings_unique κs a u v x y g p q = (refl, same_slice (p [] g.0 g.1) (q [] g.0 g.1))

pub preceding_siblings_unique : PrecedingSiblingsUnique
preceding_siblings_unique κs a u v x y g p q = (refl, same_slice (p [] g.0 g.1) (q [] g.0 g.1))

pub following_unique : FollowingUnique
following_unique κs a u v x y g p q = (refl, same_slice (p [] g.0 g.1) (q [] g.0 g.1))

pub preceding_unique : PrecedingUnique
preceding_unique κs a u v x y g p q = (refl, same_slice (p [] g.0 g.1) (q [] g.0 g.1))

pub along_unique : AlongUnique
along_unique κs a u v x y g p q =
    let b = g.0 in let f = g.1 in (refl, same_slice (p [] b.0 f.0 b.1 f.1) (q [] b.0 f.0 b.1 f.1))

-- KEEPING.
pub restrict_unique : RestrictUnique
restrict_unique κs a u v x y g p q =
    let t = g.0 in let f = g.1 in
    (refl, same_slice (p t.0 f.0 t.1.0 t.1.1 f.1) (q t.0 f.0 t.1.0 t.1.1 f.1))

pub spread_unique : SpreadUnique
spread_unique κs a u v x y g p q = (refl, same_slices (p.0 g.0 g.1) (p.1 g.0 g.1) (q.0 g.0 g.1) (q.1 g.0 g.1))

pub keep_query_unique : KeepQueryUnique
keep_query_unique κs a u v x y g p q =
    let runs = g.1.1 in (refl, same_slices (p.0 runs.query runs.decodes) p.1 (q.0 runs.query runs.decodes) q.1)

-- STEPS IN ITEMS.
pub past_steps_unique : PastStepsUnique
past_steps_unique κs a u v x y g p q = places.ends_unique u v p q

pub look_unique : LookUnique
look_unique κs a u v x y g p q = places.places_unique a.1.1.1.1.0 a.1.1.1.0 u v p.0 q.0 p.1 q.1

pub look_first_unique : LookFirstUnique
look_first_unique κs a u v x y g p q = places.places_unique a.1.1.1.0 a.1.1.0 u v p.0 q.0 p.1 q.1

pub step_at_unique : StepAtUnique
step_at_unique κs a u v x y g p q = places.step_unique (get_or a.0.now a.1.0 0) u v p q

pub path_at_unique : PathAtUnique
path_at_unique κs a u v x y g p q = some_inj (sym p ∙ q)

-- NODE BY NODE.
pub is_over_unique : IsOverUnique
is_over_unique κs a u v x y g p q = same (p []) (q [])

pub axis_leads_unique : AxisLeadsUnique
axis_leads_unique κs a u v x y g p q = same (p [] g.0 g.1) (q [] g.0 g.1)

pub spread_kin_unique : SpreadKinUnique
spread_kin_unique κs a u v x y g p q = (refl, same_slice (p [] g.0 g.1) (q [] g.0 g.1))

pub judge_unique : JudgeUnique
judge_unique κs a u v x y g p q = same_told p q

pub candidate_unique : CandidateUnique
candidate_unique κs a u v x y g p q =
    let b = g.0 in let t = g.1 in
    best_unique _ _ u v (p b.0 t.0 t.1.0 b.1 t.1.1) (q b.0 t.0 t.1.0 b.1 t.1.1)

pub mark_kept_unique : MarkKeptUnique
mark_kept_unique κs a u v x y g p q = let r = g.1.2 in (refl, same_slice (p r.0 r.1) (q r.0 r.1))

-- REVERSES.
pub owes_unique : OwesUnique
owes_unique κs a u v x y g p q = same p.0 q.0

pub skip_unique : SkipUnique
skip_unique κs a u v x y g p q = same p.0 q.0

pub count_paths_unique : CountPathsUnique
count_paths_unique κs a u v x y g p q = same p q

pub put_selected_unique : PutSelectedUnique
put_selected_unique κs a u v x y g p q = (refl, same_slice p q)

pub selected_size_unique : SelectedSizeUnique
selected_size_unique κs a u v x y g p q = same p.0 q.0

-- COMPOSING.
pub mark_query_unique : MarkQueryUnique
mark_query_unique κs a u v x y g p q = (refl, same_slice p q)

pub put_visible_unique : PutVisibleUnique
put_visible_unique κs a u v x y g p q = (same p.1 q.1, same_slice p.0 q.0)

pub put_last_unique : PutLastUnique
put_last_unique κs a u v x y g p q = (same p.1 q.1, same_slice p.0 q.0)

pub count_guards_unique : CountGuardsUnique
count_guards_unique κs a u v x y g p q = same p.0 q.0

pub guard_steps_unique : GuardStepsUnique
guard_steps_unique κs a u v x y g p q = (same p.1 q.1, same_slice p.0 q.0)

pub put_composed_unique : PutComposedUnique
put_composed_unique κs a u v x y g p q = (refl, same_slice (p g.0) (q g.0))

pub composed_size_unique : ComposedSizeUnique
composed_size_unique κs a u v x y g p q = same (p g.0) (q g.0)

pub compose_by_unique : ComposeByUnique
compose_by_unique κs a u v x y g p q =
    let w = g.0 in
    (same_told (p w.0 w.1).0 (q w.0 w.1).0, same_slice (p w.0 w.1).1 (q w.0 w.1).1)

-- XML TEXT.
pub narrow_unique : NarrowUnique
narrow_unique κs a u v x y g p q = same p q

pub find_name_unique : FindNameUnique
find_name_unique κs a u v x y g p q = found_unique u v (same p.0 q.0)

pub first_unnamed_unique : FirstUnnamedUnique
first_unnamed_unique κs a u v x y (look, rows, name, (found, before)) p q =
    found_unique u v (same (p look rows name 0 0 found before) (q look rows name 0 0 found before))

pub kind_of_unique : KindOfUnique
kind_of_unique κs a u v x y g p q = same p q

pub answer_unique : AnswerUnique
answer_unique κs a u v x y (text, list, cols, judged) p q = same_told (p text list cols judged) (q text list cols judged)

pub fill_listed_unique : FillListedUnique
fill_listed_unique κs a u v x y g p q =
    let old : Columns = columns a.1.1.0.now a.1.1.1.0.now a.1.1.1.1.0.now a.1.1.1.1.1.0.now in
    let answer = same_told p.0 q.0 in
    (answer, ap (λ (c : Columns). c.parents ∷ c.kinds ∷ c.begins ∷ c.ends ∷ []) (p.1 ∙ ap (λ r. exit_columns a.0.now a.1.0.now (told r) old) answer ∙ sym q.1))

pub says_unique : SaysUnique
says_unique κs a u v x y g p q = tells_unique _ u v p q

pub kind_is_unique : KindIsUnique
kind_is_unique κs a u v x y g p q = tells_unique _ u v (p (λ name. found a.1.1.0) [] refl) (q (λ name. found a.1.1.0) [] refl)

pub begins_line_unique : BeginsLineUnique
begins_line_unique κs a u v x y g p q = tells_unique _ u v p q

pub outcome_unique : OutcomeUnique
outcome_unique κs a u v x y g p q =
    let cols : Columns = columns a.1.1.0.now a.1.1.1.0.now a.1.1.1.1.0.now a.1.1.1.1.1.0.now in
    match_lines.outcome_unique a.0.now a.1.0.now cols u v p q

pub reads_as_unique : ReadsAsUnique
reads_as_unique κs a u v x y g p q = same p q

pub put_text_unique : PutTextUnique
put_text_unique κs a u v x y g p q =
    let put = both_put p.puts q.puts in
    (ap₂ (λ at squares. record { at = at; squares = squares }) put.0 (same p.counts q.counts), put.1)

pub new_given_unique : NewGivenUnique
new_given_unique κs a u v x y g p q = same p q

pub new_marked_unique : NewMarkedUnique
new_marked_unique κs a u v x y g p q = same p q

pub count_given_unique : CountGivenUnique
count_given_unique κs a u v x y g p q = same p q

pub count_marked_unique : CountMarkedUnique
count_marked_unique κs a u v x y g p q = same p.0 q.0

pub text_of_unique : TextOfUnique
text_of_unique κs a u v x y g p q = same p q

pub mark_of_given_unique : MarkOfGivenUnique
mark_of_given_unique κs a u v x y g p q = same p q

pub mark_of_unique : MarkOfUnique
mark_of_unique κs a u v x y g p q = same p q

pub line_of_unique : LineOfUnique
line_of_unique κs a u v x y g p q =
    let of : ◌≡◌ {A = ℕ × ℕ} (u.up, u.kind) (v.up, v.kind) = ap₂ (λ up kind. (up, kind)) (same p.up_is q.up_is) (same p.kind_is q.kind_is) in
    let place : ◌≡◌ {A = ℕ × ℕ} (u.begin, u.end) (v.begin, v.end) = ap₂ (λ begin end. (begin, end)) (same p.begin_is q.begin_is) (same p.end_is q.end_is) in
    ap₂ (λ (o : ℕ × ℕ) (w : ℕ × ℕ). record { up = o.0; kind = o.1; begin = w.0; end = w.1 }) of place

pub close_given_unique : CloseGivenUnique
close_given_unique κs a u v x y g p q = both_put (p g.bytes g.chain) (q g.bytes g.chain)

pub close_unique : CloseUnique
close_unique κs a u v x y g p q = both_put (p g.bytes g.chain) (q g.bytes g.chain)

pub given_unique : GivenUnique
given_unique κs a u v x y g p q = same p q

pub judged_unique : JudgedUnique
judged_unique κs a u v x y g p q = same p q

pub start_at_unique : StartAtUnique
start_at_unique κs a u v x y g p q = both_put p q

pub put_node_unique : PutNodeUnique
put_node_unique κs a u v x y g p q =
    let c = g.closable in
    let m = p c.bytes c.chain in let n = q c.bytes c.chain in
    let put = both_put m.puts n.puts in
    let more : ◌≡◌ {A = ℕ × ℕ} (u.squares, u.top) (v.squares, v.top) = ap₂ (λ squares top. (squares, top)) (same m.counts n.counts) (same m.opens n.opens) in
    (ap₂ (λ (at : ℕ) (w : ℕ × ℕ). record { at = at; squares = w.0; top = w.1 }) put.0 more, put.1)

pub put_kept_unique : PutKeptUnique
put_kept_unique κs a u v x y g p q = both_put p q

pub write_kept_unique : WriteKeptUnique
write_kept_unique κs a u v x y g p q = both_put p q

pub element_marked_unique : ElementMarkedUnique
element_marked_unique κs a u v x y g p q = same (p a.0.now refl) (q a.0.now refl)

pub file_unique : FileUnique
file_unique κs a u v x y g p q =
    let leaves : Answer → List ℕ = λ said. at_exit said (kept_xml a.0.now.text a.0.now.marks) a.1.0.now in
    (same_told p.says q.says, same_slice (p.leaves ∙ ap leaves p.says) (q.leaves ∙ ap leaves q.says))

pub judge_listed_unique : JudgeListedUnique
judge_listed_unique κs a u v x y g p q = (same_told p.0 q.0, same_slice p.1 q.1)
