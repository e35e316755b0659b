-- The contract of each public function below the entry points leaves one answer and one content of each slice.
-- Eleven of the contracts speak of some arguments only: `turn`, `along`, `put_along` and `axis_leads` of the numbers of axes, `keep_met` and `restrict` of those of tests, `put_listed_head`, `put_head` and `candidate` of both, `first_unnamed` of a name that was looked for behind lines, `answer` of a text that was judged; and `sets`, `vertical`, `sideways`, `axes`, `spread` and the `spread` of `kin` speak of bytes that are 0 or 1.
-- The answer of `paths` of `read_paths` is one for every text, and so is what it leaves in the slice where the text is read and its items have room.
use Rattle.std.specs.Prelude.{ℕ, ◌≤◌, ◌≡◌, Bool, true, List, [], ◌∷◌, length, take, drop}
use Rattle.std.specs.Prelude.{Result}
use Rattle.std.specs.Prelude.{Option as Maybe}
use Rattle.std.proofs.Math.Option.{Option}
use Rattle.paper.specs.Limits.{item_limit}
use Rattle.paper.specs.Tokens.{Placed}
use Rattle.paper.specs.Query.{Axis, Test, Query}
use Rattle.paper.specs.Items.{axis_number, test_number, good_test, encode}
use Rattle.paper.specs.Reading.{got, read_text}
use Rattle.paper.specs.Xml.{Row, unnamed}
use Rattle.paper.specs.Told.{found}
use Rattle.paper.specs.declared.Refusal.{Refusal}
use Rattle.heads.specs.Heads.{look_of}
use Rattle.xml_lines.specs.Kept.{Columns}
use Rattle.xml_lines.specs.Judges.{Judges}
use Rattle.xml_lines.specs.declared.Progress.{Progress}
use Rattle.sets.specs.Sets.{bits}
use Rattle.item.proofs.unpack
use Rattle.item.proofs.pack_path
use Rattle.item.proofs.pack_step
use Rattle.item.proofs.turn
use Rattle.item.proofs.guarded
use Rattle.item.proofs.put_items
use Rattle.item.proofs.put_same
use Rattle.good_names.proofs.name_start
use Rattle.good_names.proofs.name_part
use Rattle.good_names.proofs.is_name
use Rattle.name_lines.proofs.line_part
use Rattle.name_lines.proofs.line as name_line
use Rattle.name_lines.proofs.first_same
use Rattle.name_keys.proofs.key
use Rattle.name_keys.proofs.repeats
use Rattle.names.proofs.index
use Rattle.names.proofs.Listed.new as new_listed
use Rattle.names.proofs.Listed.by_starts
use Rattle.names.proofs.Listed.count as count_listed
use Rattle.names.proofs.Listed.find as find_listed
use Rattle.names.proofs.Listed.spell as spell_listed
use Rattle.names.proofs.Names.new as new_names
use Rattle.names.proofs.Names.count as count_names
use Rattle.names.proofs.Names.find
use Rattle.names.proofs.Names.spell
use Rattle.names.proofs.Names.listed
use Rattle.names.proofs.Names.into_listed
use Rattle.initials.proofs.link
use Rattle.initials.proofs.Initials.new as new_initials
use Rattle.initials.proofs.Initials.find as find_initial
use Rattle.xml_lines.proofs.narrow
use Rattle.xml_lines.proofs.find_name
use Rattle.xml_lines.proofs.first_unnamed
use Rattle.xml_lines.proofs.kind_of
use Rattle.xml_lines.proofs.answer
use Rattle.read_listed.proofs.fill as fill_listed
use Rattle.line_tests.proofs.says
use Rattle.line_tests.proofs.kind_is
use Rattle.line_tests.proofs.begins_line
use Rattle.match_lines.proofs.outcome
use Rattle.match_xml.proofs.reads_as
use Rattle.put_text.proofs.put_text
use Rattle.put_tags.specs.Lending.{MarkedText}
use Rattle.put_tags.proofs.start_at
use Rattle.put_tags.proofs.Given.new as new_given
use Rattle.put_tags.proofs.Given.nodes as count_given
use Rattle.put_tags.proofs.Given.text as text_of
use Rattle.put_tags.proofs.Given.mark as mark_of_given
use Rattle.put_tags.proofs.Given.line as line_of
use Rattle.put_tags.proofs.Given.close as close_given
use Rattle.put_tags.proofs.Given.judged as judged_given
use Rattle.put_tags.proofs.Marked.new as new_marked
use Rattle.put_tags.proofs.Marked.nodes as count_marked
use Rattle.put_tags.proofs.Marked.mark as mark_of
use Rattle.put_tags.proofs.Marked.close
use Rattle.put_tags.proofs.Marked.given as given_of
use Rattle.put_node.proofs.put_node
use Rattle.put_kept.proofs.put_kept
use Rattle.put_xml.proofs.write_kept
use Rattle.kept_file.proofs.element_marked
use Rattle.kept_file.proofs.file
use Rattle.write_listed.proofs.judge as judge_listed
use Rattle.token.proofs.white_space
use Rattle.token.proofs.skip as skip_space
use Rattle.token.proofs.run_end
use Rattle.xml_bytes.proofs.markup
use Rattle.xml_bytes.proofs.refuse
use Rattle.xml_bytes.proofs.byte
use Rattle.xml_bytes.proofs.say
use Rattle.xml_bytes.proofs.sooner
use Rattle.xml_runs.proofs.run as run_piece
use Rattle.end_tags.proofs.end_tag
use Rattle.xml.proofs.Cursor.take as take_piece
use Rattle.xml.proofs.Cursor.root as root_piece
use Rattle.xml.proofs.finish
use Rattle.prolog.proofs.lead
use Rattle.token.proofs.Cursor.take as take_token
use Rattle.words.proofs.same_word
use Rattle.axis_words.proofs.axis_of
use Rattle.marks.proofs.mark
use Rattle.ahead.proofs.word_ahead
use Rattle.ahead.proofs.joined
use Rattle.ahead.proofs.path_lead
use Rattle.ahead.proofs.opening
use Rattle.ahead.proofs.joins_ahead
use Rattle.ahead.proofs.axis_ahead
use Rattle.ahead.proofs.test_call
use Rattle.heights.proofs.joined as joined_height
use Rattle.heights.proofs.own_depth
use Rattle.shape.proofs.run_of
use Rattle.shape.proofs.steps
use Rattle.shape.proofs.measure
use Rattle.slots.proofs.put as put-slot
use Rattle.slots.proofs.put_deep
use Rattle.slots.proofs.item_of_path
use Rattle.slots.proofs.item_of_step
use Rattle.slots.proofs.group
use Rattle.heads.proofs.step_head
use Rattle.read_paths.proofs.paths as read_paths
use Rattle.pen.proofs.put_byte
use Rattle.pen.proofs.put
use Rattle.pen.proofs.put_slash
use Rattle.pen.proofs.put_bar
use Rattle.pen.proofs.put_open
use Rattle.pen.proofs.put_or
use Rattle.pen.proofs.put_and
use Rattle.pen.proofs.put_not
use Rattle.put_axes.proofs.put_along
use Rattle.put_steps.proofs.put_listed_head
use Rattle.put_steps.proofs.put_head
use Rattle.slashes.proofs.deep
use Rattle.unknown_names.proofs.first_unknown
use Rattle.put_query.proofs.listed_paths as put_listed_paths
use Rattle.put_query.proofs.paths as put_paths
use Rattle.code.proofs.number_of
use Rattle.code.proofs.place_of
use Rattle.code.proofs.code as told-code
use Rattle.lines.proofs.line_end
use Rattle.lines.proofs.line_start
use Rattle.lines.proofs.put_refusal
use Rattle.lines.proofs.put_result
use Rattle.view_union.proofs.compose_union
use Rattle.query_report.proofs.report_queries
use Rattle.text_report.proofs.report_texts
use Rattle.whole.proofs.run_whole
use Rattle.whole.proofs.run_within
use Rattle.show_kept.proofs.show_rows
use Rattle.table.proofs.is_over
use Rattle.table.proofs.table_fault
use Rattle.table.proofs.marks_fault
use Rattle.table.proofs.count
use Rattle.cut_row.proofs.row_stands
use Rattle.cut_rows.proofs.all_stand
use Rattle.sets.proofs.fill
use Rattle.sets.proofs.copy
use Rattle.sets.proofs.keep
use Rattle.sets.proofs.add
use Rattle.sets.proofs.flip
use Rattle.sets.proofs.keep_second
use Rattle.sets.proofs.add_second
use Rattle.sets.proofs.keep_met
use Rattle.vertical.proofs.children
use Rattle.vertical.proofs.parents
use Rattle.vertical.proofs.below
use Rattle.vertical.proofs.above
use Rattle.vertical.proofs.descendants
use Rattle.vertical.proofs.ancestors
use Rattle.sideways.proofs.following_siblings
use Rattle.sideways.proofs.preceding_siblings
use Rattle.sideways.proofs.following
use Rattle.sideways.proofs.preceding
use Rattle.axes.proofs.along
use Rattle.spread.proofs.restrict
use Rattle.spread.proofs.spread
use Rattle.places.proofs.past_steps
use Rattle.places.proofs.look
use Rattle.places.proofs.look_first
use Rattle.places.proofs.step_at
use Rattle.places.proofs.path_at
use Rattle.keep.proofs.keep as keep_query
use Rattle.kin.proofs.axis_leads
use Rattle.kin.proofs.spread as spread_kin
use Rattle.judge.proofs.judge
use Rattle.candidates.proofs.candidate
use Rattle.search.proofs.mark_kept
use Rattle.owed.proofs.owes
use Rattle.owed.proofs.skip
use Rattle.reverse.proofs.count_paths
use Rattle.reverse.proofs.put_selected
use Rattle.reverse.proofs.selected_size
use Rattle.lean_marks.proofs.mark_query
use Rattle.visible.proofs.put_visible
use Rattle.visible.proofs.put_last
use Rattle.guards.proofs.count_guards
use Rattle.guards.proofs.guard_steps
use Rattle.composed.proofs.put_composed
use Rattle.composed.proofs.composed_size
use Rattle.compose.proofs.compose_by
use mir.Syntax.{w64}
use mir.Val.{Fits}
use Rattle.uniqueness.specs.Uniqueness.{Unique, UniqueAnswer, UniqueBytes, UniqueRead}

-- The number is that of an axis.
abbrev pub IsAxis : ℕ → Type 0
IsAxis number = (a : Axis) × (number ≡ axis_number a)

-- The number is that of a test, whose name is one of 256 if it has one.
abbrev pub IsTest : ℕ → Type 0
IsTest number = (t : Test) × ((good_test t ≡ true) × (number ≡ test_number t))

-- The bytes are a set of n nodes: each is 0 or 1.
abbrev pub IsSet : ℕ → List ℕ → Type 0
IsSet n bytes = (f : ℕ → Bool) × (bytes ≡ bits n f)

-- What was looked for and the place so far are those of a name and of lines.
abbrev pub IsLooked : Maybe ℕ → Maybe ℕ → Type 0
IsLooked number before =
    (look : List ℕ → Option ℕ) × (rows : List Row) × (name : List ℕ) × ((found number ≡ look name) × (found before ≡ unnamed look rows))

-- It is what judging a text came to.
abbrev pub IsJudged : Result Progress Refusal → Type 0
IsJudged judged = (text : List ℕ) × (list : List ℕ) × (cols : Columns) × Judges text list cols judged

-- The text is read, and there is room for its items.
abbrev pub IsRead : Bool → (List ℕ → Option ℕ) → List ℕ → ℕ → Type 0
IsRead newer look text room =
    (q : Query) × (left : List Placed) × ((read_text newer look text ≡ got q left) × (length (encode q) ≤ item_limit) × (length (encode q) ≤ room))

-- ITEMS.
abbrev pub UnpackUnique : Type 0
UnpackUnique = UniqueAnswer unpack.Kinds.ps unpack.Kinds.r unpack.Reads.Pre unpack.Reads.Post

abbrev pub PackPathUnique : Type 0
PackPathUnique = UniqueAnswer pack_path.Kinds.ps pack_path.Kinds.r pack_path.Reads.Pre pack_path.Reads.Post

abbrev pub PackStepUnique : Type 0
PackStepUnique = UniqueAnswer pack_step.Kinds.ps pack_step.Kinds.r pack_step.Reads.Pre pack_step.Reads.Post

abbrev pub TurnUnique : Type 0
TurnUnique = UniqueAnswer turn.Kinds.ps turn.Kinds.r (λ κs a. IsAxis a.0) turn.Reads.Post

abbrev pub GuardedUnique : Type 0
GuardedUnique = UniqueAnswer guarded.Kinds.ps guarded.Kinds.r guarded.Reads.Pre guarded.Reads.Post

abbrev pub PutItemsUnique : Type 0
PutItemsUnique = Unique put_items.Kinds.ps put_items.Kinds.r put_items.Reads.Pre put_items.Reads.Post (λ κs x. x.1.0.now ∷ [])

abbrev pub PutSameUnique : Type 0
PutSameUnique = Unique put_same.Kinds.ps put_same.Kinds.r put_same.Reads.Pre put_same.Reads.Post (λ κs x. x.0.now ∷ [])

-- NAMES.
abbrev pub NameStartUnique : Type 0
NameStartUnique = UniqueAnswer name_start.Kinds.ps name_start.Kinds.r name_start.Reads.Pre name_start.Reads.Post

abbrev pub NamePartUnique : Type 0
NamePartUnique = UniqueAnswer name_part.Kinds.ps name_part.Kinds.r name_part.Reads.Pre name_part.Reads.Post

abbrev pub IsNameUnique : Type 0
IsNameUnique = UniqueAnswer is_name.Kinds.ps is_name.Kinds.r is_name.Reads.Pre is_name.Reads.Post

abbrev pub LinePartUnique : Type 0
LinePartUnique = UniqueAnswer line_part.Kinds.ps line_part.Kinds.r line_part.Reads.Pre line_part.Reads.Post

abbrev pub NameLineUnique : Type 0
NameLineUnique = UniqueBytes name_line.Kinds.ps name_line.Kinds.r name_line.Reads.Pre name_line.Reads.Post (λ κs u. u.now)

abbrev pub FirstSameUnique : Type 0
FirstSameUnique = UniqueAnswer first_same.Kinds.ps first_same.Kinds.r first_same.Reads.Pre first_same.Reads.Post

abbrev pub KeyUnique : Type 0
KeyUnique = UniqueAnswer key.Kinds.ps key.Kinds.r key.Reads.Pre key.Reads.Post

abbrev pub RepeatsUnique : Type 0
RepeatsUnique = UniqueAnswer repeats.Kinds.ps repeats.Kinds.r repeats.Reads.Pre repeats.Reads.Post

abbrev pub IndexUnique : Type 0
IndexUnique = Unique index.Kinds.ps index.Kinds.r index.Reads.Pre index.Reads.Post (λ κs x. x.1.0.now ∷ [])

abbrev pub NewListedUnique : Type 0
NewListedUnique = UniqueAnswer new_listed.Kinds.ps new_listed.Kinds.r new_listed.Reads.Pre new_listed.Reads.Post

abbrev pub ByStartsUnique : Type 0
ByStartsUnique = UniqueAnswer by_starts.Kinds.ps by_starts.Kinds.r by_starts.Reads.Pre by_starts.Reads.Post

abbrev pub CountListedUnique : Type 0
CountListedUnique = UniqueAnswer count_listed.Kinds.ps count_listed.Kinds.r count_listed.Reads.Pre count_listed.Reads.Post

abbrev pub FindListedUnique : Type 0
FindListedUnique = UniqueAnswer find_listed.Kinds.ps find_listed.Kinds.r find_listed.Reads.Pre find_listed.Reads.Post

abbrev pub SpellListedUnique : Type 0
SpellListedUnique = UniqueBytes spell_listed.Kinds.ps spell_listed.Kinds.r spell_listed.Reads.Pre spell_listed.Reads.Post (λ κs u. u.now)

abbrev pub NewNamesUnique : Type 0
NewNamesUnique = UniqueAnswer new_names.Kinds.ps new_names.Kinds.r new_names.Reads.Pre new_names.Reads.Post

abbrev pub ListedUnique : Type 0
ListedUnique = UniqueBytes listed.Kinds.ps listed.Kinds.r listed.Reads.Pre listed.Reads.Post (λ κs u. u.now)

abbrev pub IntoListedUnique : Type 0
IntoListedUnique = UniqueAnswer into_listed.Kinds.ps into_listed.Kinds.r into_listed.Reads.Pre into_listed.Reads.Post

abbrev pub CountNamesUnique : Type 0
CountNamesUnique = UniqueAnswer count_names.Kinds.ps count_names.Kinds.r count_names.Reads.Pre count_names.Reads.Post

abbrev pub FindUnique : Type 0
FindUnique = UniqueAnswer find.Kinds.ps find.Kinds.r find.Reads.Pre find.Reads.Post

abbrev pub LinkUnique : Type 0
LinkUnique = Unique link.Kinds.ps link.Kinds.r link.Reads.Pre link.Reads.Post (λ κs x. x.1.0.now ∷ [])

abbrev pub NewInitialsUnique : Type 0
NewInitialsUnique = UniqueAnswer new_initials.Kinds.ps new_initials.Kinds.r new_initials.Reads.Pre new_initials.Reads.Post

abbrev pub FindInitialUnique : Type 0
FindInitialUnique = UniqueAnswer find_initial.Kinds.ps find_initial.Kinds.r find_initial.Reads.Pre find_initial.Reads.Post

abbrev pub SpellUnique : Type 0
SpellUnique = UniqueBytes spell.Kinds.ps spell.Kinds.r spell.Reads.Pre spell.Reads.Post (λ κs u. u.now)

-- TOKENS.
abbrev pub WhiteSpaceUnique : Type 0
WhiteSpaceUnique = UniqueAnswer white_space.Kinds.ps white_space.Kinds.r white_space.Reads.Pre white_space.Reads.Post

abbrev pub SkipSpaceUnique : Type 0
SkipSpaceUnique = UniqueAnswer skip_space.Kinds.ps skip_space.Kinds.r skip_space.Reads.Pre skip_space.Reads.Post

abbrev pub RunEndUnique : Type 0
RunEndUnique = UniqueAnswer run_end.Kinds.ps run_end.Kinds.r run_end.Reads.Pre run_end.Reads.Post

abbrev pub TakeUnique : Type 0
TakeUnique = UniqueAnswer take_token.Kinds.ps take_token.Kinds.r take_token.Reads.Pre take_token.Reads.Post

-- PIECES OF XML TEXT.
abbrev pub MarkupUnique : Type 0
MarkupUnique = UniqueAnswer markup.Kinds.ps markup.Kinds.r markup.Reads.Pre markup.Reads.Post

abbrev pub RefuseUnique : Type 0
RefuseUnique = UniqueAnswer refuse.Kinds.ps refuse.Kinds.r refuse.Reads.Pre refuse.Reads.Post

abbrev pub ByteUnique : Type 0
ByteUnique = UniqueAnswer byte.Kinds.ps byte.Kinds.r byte.Reads.Pre byte.Reads.Post

abbrev pub SayUnique : Type 0
SayUnique = UniqueAnswer say.Kinds.ps say.Kinds.r say.Reads.Pre say.Reads.Post

abbrev pub SoonerUnique : Type 0
SoonerUnique = UniqueAnswer sooner.Kinds.ps sooner.Kinds.r sooner.Reads.Pre sooner.Reads.Post

abbrev pub RunPieceUnique : Type 0
RunPieceUnique = UniqueAnswer run_piece.Kinds.ps run_piece.Kinds.r run_piece.Reads.Pre run_piece.Reads.Post

abbrev pub EndTagUnique : Type 0
EndTagUnique = UniqueAnswer end_tag.Kinds.ps end_tag.Kinds.r end_tag.Reads.Pre end_tag.Reads.Post

abbrev pub TakePieceUnique : Type 0
TakePieceUnique = UniqueAnswer take_piece.Kinds.ps take_piece.Kinds.r take_piece.Reads.Pre take_piece.Reads.Post

abbrev pub RootPieceUnique : Type 0
RootPieceUnique = UniqueAnswer root_piece.Kinds.ps root_piece.Kinds.r root_piece.Reads.Pre root_piece.Reads.Post

abbrev pub FinishUnique : Type 0
FinishUnique = UniqueAnswer finish.Kinds.ps finish.Kinds.r finish.Reads.Pre finish.Reads.Post

abbrev pub LeadUnique : Type 0
LeadUnique = UniqueAnswer lead.Kinds.ps lead.Kinds.r lead.Reads.Pre lead.Reads.Post

-- WHAT COMES NEXT IN A TEXT.
abbrev pub SameWordUnique : Type 0
SameWordUnique = UniqueAnswer same_word.Kinds.ps same_word.Kinds.r same_word.Reads.Pre same_word.Reads.Post

abbrev pub AxisOfUnique : Type 0
AxisOfUnique = UniqueAnswer axis_of.Kinds.ps axis_of.Kinds.r axis_of.Reads.Pre axis_of.Reads.Post

abbrev pub MarkUnique : Type 0
MarkUnique = UniqueAnswer mark.Kinds.ps mark.Kinds.r mark.Reads.Pre mark.Reads.Post

abbrev pub WordAheadUnique : Type 0
WordAheadUnique = UniqueAnswer word_ahead.Kinds.ps word_ahead.Kinds.r word_ahead.Reads.Pre word_ahead.Reads.Post

abbrev pub JoinedUnique : Type 0
JoinedUnique = UniqueAnswer joined.Kinds.ps joined.Kinds.r joined.Reads.Pre joined.Reads.Post

abbrev pub PathLeadUnique : Type 0
PathLeadUnique = UniqueAnswer path_lead.Kinds.ps path_lead.Kinds.r path_lead.Reads.Pre path_lead.Reads.Post

abbrev pub OpeningUnique : Type 0
OpeningUnique = UniqueAnswer opening.Kinds.ps opening.Kinds.r opening.Reads.Pre opening.Reads.Post

abbrev pub JoinsAheadUnique : Type 0
JoinsAheadUnique = UniqueAnswer joins_ahead.Kinds.ps joins_ahead.Kinds.r joins_ahead.Reads.Pre joins_ahead.Reads.Post

abbrev pub AxisAheadUnique : Type 0
AxisAheadUnique = UniqueAnswer axis_ahead.Kinds.ps axis_ahead.Kinds.r axis_ahead.Reads.Pre axis_ahead.Reads.Post

abbrev pub TestCallUnique : Type 0
TestCallUnique = UniqueAnswer test_call.Kinds.ps test_call.Kinds.r test_call.Reads.Pre test_call.Reads.Post

-- READING.
abbrev pub PutItemUnique : Type 0
PutItemUnique = Unique put-slot.Kinds.ps put-slot.Kinds.r put-slot.Reads.Pre put-slot.Reads.Post (λ κs x. x.0.now ∷ [])

abbrev pub PutDeepUnique : Type 0
PutDeepUnique = Unique put_deep.Kinds.ps put_deep.Kinds.r put_deep.Reads.Pre put_deep.Reads.Post (λ κs x. x.0.now ∷ [])

abbrev pub ItemOfPathUnique : Type 0
ItemOfPathUnique = UniqueAnswer item_of_path.Kinds.ps item_of_path.Kinds.r item_of_path.Reads.Pre item_of_path.Reads.Post

abbrev pub ItemOfStepUnique : Type 0
ItemOfStepUnique = UniqueAnswer item_of_step.Kinds.ps item_of_step.Kinds.r item_of_step.Reads.Pre item_of_step.Reads.Post

abbrev pub GroupUnique : Type 0
GroupUnique = Unique group.Kinds.ps group.Kinds.r group.Reads.Pre group.Reads.Post (λ κs x. x.0.now ∷ [])

abbrev pub StepHeadUnique : Type 0
StepHeadUnique = UniqueAnswer step_head.Kinds.ps step_head.Kinds.r step_head.Reads.Pre step_head.Reads.Post

abbrev pub ReadPathsUnique : Type 0
ReadPathsUnique = UniqueAnswer read_paths.Kinds.ps read_paths.Kinds.r read_paths.Reads.Pre read_paths.Reads.Post

-- What a text that is refused, or has more items than there is room for, leaves in the slice is not said.
abbrev pub ReadPathsLeft : Type 0
ReadPathsLeft =
    Unique read_paths.Kinds.ps read_paths.Kinds.r
    (λ κs a. IsRead a.1.1.1.0 (look_of a.1.0) a.0.now (length a.1.1.0.now)) read_paths.Reads.Post
    (λ κs x. x.1.1.0.now ∷ [])

-- SHAPES.
abbrev pub JoinedHeightUnique : Type 0
JoinedHeightUnique = UniqueAnswer joined_height.Kinds.ps joined_height.Kinds.r joined_height.Reads.Pre joined_height.Reads.Post

abbrev pub OwnDepthUnique : Type 0
OwnDepthUnique = UniqueAnswer own_depth.Kinds.ps own_depth.Kinds.r own_depth.Reads.Pre own_depth.Reads.Post

abbrev pub RunOfUnique : Type 0
RunOfUnique = UniqueAnswer run_of.Kinds.ps run_of.Kinds.r run_of.Reads.Pre run_of.Reads.Post

abbrev pub StepsUnique : Type 0
StepsUnique = UniqueAnswer steps.Kinds.ps steps.Kinds.r steps.Reads.Pre steps.Reads.Post

abbrev pub MeasureUnique : Type 0
MeasureUnique = UniqueAnswer measure.Kinds.ps measure.Kinds.r measure.Reads.Pre measure.Reads.Post

-- BYTES.
abbrev pub PutByteUnique : Type 0
PutByteUnique = Unique put_byte.Kinds.ps put_byte.Kinds.r put_byte.Reads.Pre put_byte.Reads.Post (λ κs x. x.0.now ∷ [])

abbrev pub PutUnique : Type 0
PutUnique = Unique put.Kinds.ps put.Kinds.r put.Reads.Pre put.Reads.Post (λ κs x. x.0.now ∷ [])

abbrev pub PutSlashUnique : Type 0
PutSlashUnique = Unique put_slash.Kinds.ps put_slash.Kinds.r put_slash.Reads.Pre put_slash.Reads.Post (λ κs x. x.0.now ∷ [])

abbrev pub PutBarUnique : Type 0
PutBarUnique = Unique put_bar.Kinds.ps put_bar.Kinds.r put_bar.Reads.Pre put_bar.Reads.Post (λ κs x. x.0.now ∷ [])

abbrev pub PutOpenUnique : Type 0
PutOpenUnique = Unique put_open.Kinds.ps put_open.Kinds.r put_open.Reads.Pre put_open.Reads.Post (λ κs x. x.0.now ∷ [])

abbrev pub PutOrUnique : Type 0
PutOrUnique = Unique put_or.Kinds.ps put_or.Kinds.r put_or.Reads.Pre put_or.Reads.Post (λ κs x. x.0.now ∷ [])

abbrev pub PutAndUnique : Type 0
PutAndUnique = Unique put_and.Kinds.ps put_and.Kinds.r put_and.Reads.Pre put_and.Reads.Post (λ κs x. x.0.now ∷ [])

abbrev pub PutNotUnique : Type 0
PutNotUnique = Unique put_not.Kinds.ps put_not.Kinds.r put_not.Reads.Pre put_not.Reads.Post (λ κs x. x.0.now ∷ [])

abbrev pub PutAlongUnique : Type 0
PutAlongUnique = Unique put_along.Kinds.ps put_along.Kinds.r (λ κs a. IsAxis a.1.1.0) put_along.Reads.Post (λ κs x. x.0.now ∷ [])

abbrev pub PutListedHeadUnique : Type 0
PutListedHeadUnique =
    Unique put_listed_head.Kinds.ps put_listed_head.Kinds.r (λ κs a. IsAxis a.1.1.1.0.axis × IsTest a.1.1.1.0.test) put_listed_head.Reads.Post
    (λ κs x. x.1.0.now ∷ [])

abbrev pub PutHeadUnique : Type 0
PutHeadUnique =
    Unique put_head.Kinds.ps put_head.Kinds.r (λ κs a. IsAxis a.1.1.1.0.axis × IsTest a.1.1.1.0.test) put_head.Reads.Post
    (λ κs x. x.1.0.now ∷ [])

abbrev pub DeepUnique : Type 0
DeepUnique = UniqueAnswer deep.Kinds.ps deep.Kinds.r deep.Reads.Pre deep.Reads.Post

abbrev pub FirstUnknownUnique : Type 0
FirstUnknownUnique = UniqueAnswer first_unknown.Kinds.ps first_unknown.Kinds.r first_unknown.Reads.Pre first_unknown.Reads.Post

abbrev pub PutListedPathsUnique : Type 0
PutListedPathsUnique = Unique put_listed_paths.Kinds.ps put_listed_paths.Kinds.r put_listed_paths.Reads.Pre put_listed_paths.Reads.Post (λ κs x. x.1.1.0.now ∷ [])

abbrev pub PutPathsUnique : Type 0
PutPathsUnique = Unique put_paths.Kinds.ps put_paths.Kinds.r put_paths.Reads.Pre put_paths.Reads.Post (λ κs x. x.1.1.0.now ∷ [])

-- LINES.
abbrev pub LineEndUnique : Type 0
LineEndUnique = UniqueAnswer line_end.Kinds.ps line_end.Kinds.r line_end.Reads.Pre line_end.Reads.Post

abbrev pub LineStartUnique : Type 0
LineStartUnique = UniqueAnswer line_start.Kinds.ps line_start.Kinds.r line_start.Reads.Pre line_start.Reads.Post

abbrev pub PutRefusalUnique : Type 0
PutRefusalUnique = Unique put_refusal.Kinds.ps put_refusal.Kinds.r put_refusal.Reads.Pre put_refusal.Reads.Post (λ κs x. x.0.now ∷ [])

abbrev pub PutResultUnique : Type 0
PutResultUnique = Unique put_result.Kinds.ps put_result.Kinds.r put_result.Reads.Pre put_result.Reads.Post (λ κs x. x.0.now ∷ [])

-- ANSWERS IN NUMBERS.
abbrev pub NumberOfUnique : Type 0
NumberOfUnique = UniqueAnswer number_of.Kinds.ps number_of.Kinds.r number_of.Reads.Pre number_of.Reads.Post

abbrev pub PlaceOfUnique : Type 0
PlaceOfUnique = UniqueAnswer place_of.Kinds.ps place_of.Kinds.r place_of.Reads.Pre place_of.Reads.Post

abbrev pub CodeUnique : Type 0
CodeUnique = UniqueAnswer told-code.Kinds.ps told-code.Kinds.r told-code.Reads.Pre told-code.Reads.Post

-- THE UNION OF VIEWS, AND THE REPORTS ON TWO QUERIES AND ON THEIR TEXTS.
abbrev pub ComposeUnionUnique : Type 0
ComposeUnionUnique = Unique compose_union.Kinds.ps compose_union.Kinds.r compose_union.Reads.Pre compose_union.Reads.Post (λ κs x. x.1.1.1.1.0.now ∷ [])

abbrev pub ReportQueriesUnique : Type 0
ReportQueriesUnique = Unique report_queries.Kinds.ps report_queries.Kinds.r report_queries.Reads.Pre report_queries.Reads.Post (λ κs x. x.1.1.1.0.now ∷ [])

abbrev pub ReportTextsUnique : Type 0
ReportTextsUnique = Unique report_texts.Kinds.ps report_texts.Kinds.r report_texts.Reads.Pre report_texts.Reads.Post (λ κs x. x.1.1.1.0.now ∷ [])

-- RUNNING A WHOLE DOCUMENT, AND SHOWING WHAT IS KEPT OF ONE.
abbrev pub RunWholeUnique : Type 0
RunWholeUnique = Unique run_whole.Kinds.ps run_whole.Kinds.r run_whole.Reads.Pre run_whole.Reads.Post (λ κs x. x.1.1.1.0.now ∷ x.1.1.1.1.0.now ∷ [])

abbrev pub RunWithinUnique : Type 0
RunWithinUnique =
    (room : ℕ) (fits : Fits w64 room)
    → Unique (run_within.Kinds.ps room fits) (run_within.Kinds.r room fits) (run_within.Reads.Pre room fits) (run_within.Reads.Post room fits) (λ κs x. x.1.1.1.0.now ∷ [])

abbrev pub ShowRowsUnique : Type 0
ShowRowsUnique = Unique show_rows.Kinds.ps show_rows.Kinds.r show_rows.Reads.Pre show_rows.Reads.Post (λ κs x. x.1.1.1.1.1.1.1.0.now ∷ [])

-- TABLES.
abbrev pub IsOverUnique : Type 0
IsOverUnique = UniqueAnswer is_over.Kinds.ps is_over.Kinds.r is_over.Reads.Pre is_over.Reads.Post

abbrev pub TableFaultUnique : Type 0
TableFaultUnique = UniqueAnswer table_fault.Kinds.ps table_fault.Kinds.r table_fault.Reads.Pre table_fault.Reads.Post

abbrev pub MarksFaultUnique : Type 0
MarksFaultUnique = UniqueAnswer marks_fault.Kinds.ps marks_fault.Kinds.r marks_fault.Reads.Pre marks_fault.Reads.Post

abbrev pub CountUnique : Type 0
CountUnique = UniqueAnswer count.Kinds.ps count.Kinds.r count.Reads.Pre count.Reads.Post

-- CUTS.
abbrev pub RowStandsUnique : Type 0
RowStandsUnique = UniqueAnswer row_stands.Kinds.ps row_stands.Kinds.r row_stands.Reads.Pre row_stands.Reads.Post

abbrev pub AllStandUnique : Type 0
AllStandUnique = UniqueAnswer all_stand.Kinds.ps all_stand.Kinds.r all_stand.Reads.Pre all_stand.Reads.Post

-- SETS.
abbrev pub FillUnique : Type 0
FillUnique = Unique fill.Kinds.ps fill.Kinds.r fill.Reads.Pre fill.Reads.Post (λ κs x. x.0.now ∷ [])

abbrev pub CopyUnique : Type 0
CopyUnique = Unique copy.Kinds.ps copy.Kinds.r copy.Reads.Pre copy.Reads.Post (λ κs x. x.1.0.now ∷ [])

abbrev pub KeepUnique : Type 0
KeepUnique =
    Unique keep.Kinds.ps keep.Kinds.r (λ κs a. let n = length a.1.0.now in IsSet n a.0.now × IsSet n a.1.0.now) keep.Reads.Post
    (λ κs x. x.1.0.now ∷ [])

abbrev pub AddUnique : Type 0
AddUnique =
    Unique add.Kinds.ps add.Kinds.r (λ κs a. let n = length a.1.0.now in IsSet n a.0.now × IsSet n a.1.0.now) add.Reads.Post
    (λ κs x. x.1.0.now ∷ [])

abbrev pub FlipUnique : Type 0
FlipUnique = Unique flip.Kinds.ps flip.Kinds.r (λ κs a. IsSet (length a.0.now) a.0.now) flip.Reads.Post (λ κs x. x.0.now ∷ [])

abbrev pub KeepSecondUnique : Type 0
KeepSecondUnique =
    Unique keep_second.Kinds.ps keep_second.Kinds.r
    (λ κs a. IsSet a.1.0 (take a.1.0 a.0.now) × IsSet a.1.0 (take a.1.0 (drop a.1.0 a.0.now))) keep_second.Reads.Post
    (λ κs x. x.0.now ∷ [])

abbrev pub AddSecondUnique : Type 0
AddSecondUnique =
    Unique add_second.Kinds.ps add_second.Kinds.r
    (λ κs a. IsSet a.1.0 (take a.1.0 a.0.now) × IsSet a.1.0 (take a.1.0 (drop a.1.0 a.0.now))) add_second.Reads.Post
    (λ κs x. x.0.now ∷ [])

abbrev pub KeepMetUnique : Type 0
KeepMetUnique =
    Unique keep_met.Kinds.ps keep_met.Kinds.r (λ κs a. IsTest a.1.0 × IsSet (length a.1.1.0.now) a.1.1.0.now) keep_met.Reads.Post
    (λ κs x. x.1.1.0.now ∷ [])

-- AXES.
abbrev pub ChildrenUnique : Type 0
ChildrenUnique = Unique children.Kinds.ps children.Kinds.r (λ κs a. IsSet (length a.1.0.now) a.1.0.now) children.Reads.Post (λ κs x. x.1.0.now ∷ [])

abbrev pub ParentsUnique : Type 0
ParentsUnique = Unique parents.Kinds.ps parents.Kinds.r (λ κs a. IsSet (length a.1.0.now) a.1.0.now) parents.Reads.Post (λ κs x. x.1.0.now ∷ [])

abbrev pub BelowUnique : Type 0
BelowUnique = Unique below.Kinds.ps below.Kinds.r (λ κs a. IsSet (length a.1.0.now) a.1.0.now) below.Reads.Post (λ κs x. x.1.0.now ∷ [])

abbrev pub AboveUnique : Type 0
AboveUnique = Unique above.Kinds.ps above.Kinds.r (λ κs a. IsSet (length a.1.0.now) a.1.0.now) above.Reads.Post (λ κs x. x.1.0.now ∷ [])

abbrev pub DescendantsUnique : Type 0
DescendantsUnique = Unique descendants.Kinds.ps descendants.Kinds.r (λ κs a. IsSet (length a.1.0.now) a.1.0.now) descendants.Reads.Post (λ κs x. x.1.0.now ∷ [])

abbrev pub AncestorsUnique : Type 0
AncestorsUnique = Unique ancestors.Kinds.ps ancestors.Kinds.r (λ κs a. IsSet (length a.1.0.now) a.1.0.now) ancestors.Reads.Post (λ κs x. x.1.0.now ∷ [])

abbrev pub FollowingSiblingsUnique : Type 0
FollowingSiblingsUnique = Unique following_siblings.Kinds.ps following_siblings.Kinds.r (λ κs a. IsSet (length a.1.0.now) a.1.0.now) following_siblings.Reads.Post (λ κs x. x.1.0.now ∷ [])

abbrev pub PrecedingSiblingsUnique : Type 0
PrecedingSiblingsUnique = Unique preceding_siblings.Kinds.ps preceding_siblings.Kinds.r (λ κs a. IsSet (length a.1.0.now) a.1.0.now) preceding_siblings.Reads.Post (λ κs x. x.1.0.now ∷ [])

abbrev pub FollowingUnique : Type 0
FollowingUnique = Unique following.Kinds.ps following.Kinds.r (λ κs a. IsSet (length a.1.0.now) a.1.0.now) following.Reads.Post (λ κs x. x.1.0.now ∷ [])

abbrev pub PrecedingUnique : Type 0
PrecedingUnique = Unique preceding.Kinds.ps preceding.Kinds.r (λ κs a. IsSet (length a.1.0.now) a.1.0.now) preceding.Reads.Post (λ κs x. x.1.0.now ∷ [])

abbrev pub AlongUnique : Type 0
AlongUnique =
    Unique along.Kinds.ps along.Kinds.r (λ κs a. IsAxis a.1.0 × IsSet (length a.1.1.0.now) a.1.1.0.now) along.Reads.Post
    (λ κs x. x.1.1.0.now ∷ [])

-- KEEPING.
abbrev pub RestrictUnique : Type 0
RestrictUnique =
    Unique restrict.Kinds.ps restrict.Kinds.r (λ κs a. IsTest a.1.1.0 × IsSet (length a.1.1.1.0.now) a.1.1.1.0.now) restrict.Reads.Post
    (λ κs x. x.1.1.1.0.now ∷ [])

abbrev pub SpreadUnique : Type 0
SpreadUnique =
    Unique spread.Kinds.ps spread.Kinds.r (λ κs a. IsSet (length a.0.now) a.1.1.1.0.now) spread.Reads.Post
    (λ κs x. x.1.1.1.0.now ∷ x.1.1.1.1.0.now ∷ [])

abbrev pub KeepQueryUnique : Type 0
KeepQueryUnique =
    Unique keep_query.Kinds.ps keep_query.Kinds.r keep_query.Reads.Pre keep_query.Reads.Post (λ κs x. x.1.1.1.1.0.now ∷ x.1.1.1.1.1.0.now ∷ [])

-- STEPS IN ITEMS.
abbrev pub PastStepsUnique : Type 0
PastStepsUnique = UniqueAnswer past_steps.Kinds.ps past_steps.Kinds.r past_steps.Reads.Pre past_steps.Reads.Post

abbrev pub LookUnique : Type 0
LookUnique = UniqueAnswer look.Kinds.ps look.Kinds.r look.Reads.Pre look.Reads.Post

abbrev pub LookFirstUnique : Type 0
LookFirstUnique = UniqueAnswer look_first.Kinds.ps look_first.Kinds.r look_first.Reads.Pre look_first.Reads.Post

abbrev pub StepAtUnique : Type 0
StepAtUnique = UniqueAnswer step_at.Kinds.ps step_at.Kinds.r step_at.Reads.Pre step_at.Reads.Post

abbrev pub PathAtUnique : Type 0
PathAtUnique = UniqueAnswer path_at.Kinds.ps path_at.Kinds.r path_at.Reads.Pre path_at.Reads.Post

-- NODE BY NODE.
abbrev pub AxisLeadsUnique : Type 0
AxisLeadsUnique = UniqueAnswer axis_leads.Kinds.ps axis_leads.Kinds.r (λ κs a. IsAxis a.1.0) axis_leads.Reads.Post

abbrev pub SpreadKinUnique : Type 0
SpreadKinUnique =
    Unique spread_kin.Kinds.ps spread_kin.Kinds.r (λ κs a. IsSet (length a.0.now) a.1.1.1.0.now) spread_kin.Reads.Post
    (λ κs x. x.1.1.1.0.now ∷ [])

abbrev pub JudgeUnique : Type 0
JudgeUnique = UniqueAnswer judge.Kinds.ps judge.Kinds.r judge.Reads.Pre judge.Reads.Post

abbrev pub CandidateUnique : Type 0
CandidateUnique =
    UniqueAnswer candidate.Kinds.ps candidate.Kinds.r (λ κs a. IsAxis a.1.1.1.0 × IsTest a.1.1.1.1.0) candidate.Reads.Post

abbrev pub MarkKeptUnique : Type 0
MarkKeptUnique = Unique mark_kept.Kinds.ps mark_kept.Kinds.r mark_kept.Reads.Pre mark_kept.Reads.Post (λ κs x. x.1.1.1.1.0.now ∷ [])

-- REVERSES.
abbrev pub OwesUnique : Type 0
OwesUnique = UniqueAnswer owes.Kinds.ps owes.Kinds.r owes.Reads.Pre owes.Reads.Post

abbrev pub SkipUnique : Type 0
SkipUnique = UniqueAnswer skip.Kinds.ps skip.Kinds.r skip.Reads.Pre skip.Reads.Post

abbrev pub CountPathsUnique : Type 0
CountPathsUnique = UniqueAnswer count_paths.Kinds.ps count_paths.Kinds.r count_paths.Reads.Pre count_paths.Reads.Post

abbrev pub PutSelectedUnique : Type 0
PutSelectedUnique = Unique put_selected.Kinds.ps put_selected.Kinds.r put_selected.Reads.Pre put_selected.Reads.Post (λ κs x. x.1.1.0.now ∷ [])

abbrev pub SelectedSizeUnique : Type 0
SelectedSizeUnique = UniqueAnswer selected_size.Kinds.ps selected_size.Kinds.r selected_size.Reads.Pre selected_size.Reads.Post

-- COMPOSING.
abbrev pub MarkQueryUnique : Type 0
MarkQueryUnique = Unique mark_query.Kinds.ps mark_query.Kinds.r mark_query.Reads.Pre mark_query.Reads.Post (λ κs x. x.1.0.now ∷ [])

abbrev pub PutVisibleUnique : Type 0
PutVisibleUnique = Unique put_visible.Kinds.ps put_visible.Kinds.r put_visible.Reads.Pre put_visible.Reads.Post (λ κs x. x.0.now ∷ [])

abbrev pub PutLastUnique : Type 0
PutLastUnique = Unique put_last.Kinds.ps put_last.Kinds.r put_last.Reads.Pre put_last.Reads.Post (λ κs x. x.0.now ∷ [])

abbrev pub CountGuardsUnique : Type 0
CountGuardsUnique = UniqueAnswer count_guards.Kinds.ps count_guards.Kinds.r count_guards.Reads.Pre count_guards.Reads.Post

abbrev pub GuardStepsUnique : Type 0
GuardStepsUnique = Unique guard_steps.Kinds.ps guard_steps.Kinds.r guard_steps.Reads.Pre guard_steps.Reads.Post (λ κs x. x.1.0.now ∷ [])

abbrev pub PutComposedUnique : Type 0
PutComposedUnique = Unique put_composed.Kinds.ps put_composed.Kinds.r put_composed.Reads.Pre put_composed.Reads.Post (λ κs x. x.1.1.1.0.now ∷ [])

abbrev pub ComposedSizeUnique : Type 0
ComposedSizeUnique = UniqueAnswer composed_size.Kinds.ps composed_size.Kinds.r composed_size.Reads.Pre composed_size.Reads.Post

abbrev pub ComposeByUnique : Type 0
ComposeByUnique = Unique compose_by.Kinds.ps compose_by.Kinds.r compose_by.Reads.Pre compose_by.Reads.Post (λ κs x. x.1.1.0.now ∷ [])

-- LINES OF XML TEXT.
abbrev pub NarrowUnique : Type 0
NarrowUnique = UniqueAnswer narrow.Kinds.ps narrow.Kinds.r narrow.Reads.Pre narrow.Reads.Post

abbrev pub FindNameUnique : Type 0
FindNameUnique = UniqueAnswer find_name.Kinds.ps find_name.Kinds.r find_name.Reads.Pre find_name.Reads.Post

abbrev pub FirstUnnamedUnique : Type 0
FirstUnnamedUnique = UniqueAnswer first_unnamed.Kinds.ps first_unnamed.Kinds.r (λ κs a. IsLooked a.0 a.1.1.0) first_unnamed.Reads.Post

abbrev pub KindOfUnique : Type 0
KindOfUnique = UniqueAnswer kind_of.Kinds.ps kind_of.Kinds.r kind_of.Reads.Pre kind_of.Reads.Post

abbrev pub AnswerUnique : Type 0
AnswerUnique = UniqueAnswer answer.Kinds.ps answer.Kinds.r (λ κs a. IsJudged a.0) answer.Reads.Post

abbrev pub FillListedUnique : Type 0
FillListedUnique =
    Unique fill_listed.Kinds.ps fill_listed.Kinds.r fill_listed.Reads.Pre fill_listed.Reads.Post
    (λ κs x. x.1.1.0.now ∷ x.1.1.1.0.now ∷ x.1.1.1.1.0.now ∷ x.1.1.1.1.1.0.now ∷ [])

-- XML TEXT AGAINST COLUMNS.
abbrev pub SaysUnique : Type 0
SaysUnique = UniqueAnswer says.Kinds.ps says.Kinds.r says.Reads.Pre says.Reads.Post

abbrev pub KindIsUnique : Type 0
KindIsUnique = UniqueAnswer kind_is.Kinds.ps kind_is.Kinds.r kind_is.Reads.Pre kind_is.Reads.Post

abbrev pub BeginsLineUnique : Type 0
BeginsLineUnique = UniqueAnswer begins_line.Kinds.ps begins_line.Kinds.r begins_line.Reads.Pre begins_line.Reads.Post

abbrev pub OutcomeUnique : Type 0
OutcomeUnique = UniqueAnswer outcome.Kinds.ps outcome.Kinds.r outcome.Reads.Pre outcome.Reads.Post

abbrev pub ReadsAsUnique : Type 0
ReadsAsUnique = UniqueAnswer reads_as.Kinds.ps reads_as.Kinds.r reads_as.Reads.Pre reads_as.Reads.Post

-- THE KEPT PART PUT AS XML.
abbrev pub PutTextUnique : Type 0
PutTextUnique = Unique put_text.Kinds.ps put_text.Kinds.r put_text.Reads.Pre put_text.Reads.Post (λ κs x. x.0.now ∷ [])

abbrev pub NewGivenUnique : Type 0
NewGivenUnique = UniqueAnswer new_given.Kinds.ps new_given.Kinds.r new_given.Reads.Pre new_given.Reads.Post

abbrev pub NewMarkedUnique : Type 0
NewMarkedUnique = UniqueAnswer new_marked.Kinds.ps new_marked.Kinds.r new_marked.Reads.Pre new_marked.Reads.Post

abbrev pub CountGivenUnique : Type 0
CountGivenUnique = UniqueAnswer count_given.Kinds.ps count_given.Kinds.r count_given.Reads.Pre count_given.Reads.Post

abbrev pub CountMarkedUnique : Type 0
CountMarkedUnique = UniqueAnswer count_marked.Kinds.ps count_marked.Kinds.r count_marked.Reads.Pre count_marked.Reads.Post

abbrev pub TextOfUnique : Type 0
TextOfUnique = UniqueBytes text_of.Kinds.ps text_of.Kinds.r text_of.Reads.Pre text_of.Reads.Post (λ κs u. u.now)

abbrev pub MarkOfGivenUnique : Type 0
MarkOfGivenUnique = UniqueAnswer mark_of_given.Kinds.ps mark_of_given.Kinds.r mark_of_given.Reads.Pre mark_of_given.Reads.Post

abbrev pub MarkOfUnique : Type 0
MarkOfUnique = UniqueAnswer mark_of.Kinds.ps mark_of.Kinds.r mark_of.Reads.Pre mark_of.Reads.Post

abbrev pub LineOfUnique : Type 0
LineOfUnique = UniqueAnswer line_of.Kinds.ps line_of.Kinds.r line_of.Reads.Pre line_of.Reads.Post

abbrev pub CloseGivenUnique : Type 0
CloseGivenUnique = Unique close_given.Kinds.ps close_given.Kinds.r close_given.Reads.Pre close_given.Reads.Post (λ κs x. x.1.0.now ∷ [])

abbrev pub CloseUnique : Type 0
CloseUnique = Unique close.Kinds.ps close.Kinds.r close.Reads.Pre close.Reads.Post (λ κs x. x.1.0.now ∷ [])

abbrev pub GivenUnique : Type 0
GivenUnique = UniqueRead MarkedText given_of.Kinds.ps given_of.Kinds.r given_of.Reads.Pre given_of.Reads.Post (λ κs u. u.now)

abbrev pub JudgedUnique : Type 0
JudgedUnique = UniqueAnswer judged_given.Kinds.ps judged_given.Kinds.r judged_given.Reads.Pre judged_given.Reads.Post

abbrev pub StartAtUnique : Type 0
StartAtUnique = Unique start_at.Kinds.ps start_at.Kinds.r start_at.Reads.Pre start_at.Reads.Post (λ κs x. x.1.1.0.now ∷ [])

abbrev pub PutNodeUnique : Type 0
PutNodeUnique = Unique put_node.Kinds.ps put_node.Kinds.r put_node.Reads.Pre put_node.Reads.Post (λ κs x. x.1.0.now ∷ [])

abbrev pub PutKeptUnique : Type 0
PutKeptUnique = Unique put_kept.Kinds.ps put_kept.Kinds.r put_kept.Reads.Pre put_kept.Reads.Post (λ κs x. x.1.0.now ∷ [])

abbrev pub WriteKeptUnique : Type 0
WriteKeptUnique = Unique write_kept.Kinds.ps write_kept.Kinds.r write_kept.Reads.Pre write_kept.Reads.Post (λ κs x. x.1.0.now ∷ [])

-- THE FILE.
abbrev pub ElementMarkedUnique : Type 0
ElementMarkedUnique = UniqueAnswer element_marked.Kinds.ps element_marked.Kinds.r element_marked.Reads.Pre element_marked.Reads.Post

abbrev pub FileUnique : Type 0
FileUnique = Unique file.Kinds.ps file.Kinds.r file.Reads.Pre file.Reads.Post (λ κs x. x.1.0.now ∷ [])

abbrev pub JudgeListedUnique : Type 0
JudgeListedUnique =
    Unique judge_listed.Kinds.ps judge_listed.Kinds.r judge_listed.Reads.Pre judge_listed.Reads.Post (λ κs x. x.1.1.1.1.1.1.1.0.now ∷ [])
