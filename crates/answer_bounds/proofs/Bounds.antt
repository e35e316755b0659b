-- Every answer of every entry point is small: the first line of 01's table bounds all that is lent, and by that each place and each value is below 2^32. Line by line of the answer. Assumes nothing.
use Prim.Native.Nat.{ℕ, zero, suc, ◌+◌, ◌*◌, ◌≤◌, ◌<◌}
use native.Mathlib.Omega.{arith}
use native.Mathlib.Nat.{mul-le-mul}
use borrow.Author.Tests.{ltb-false}
use mathlib.Core.Path.{◌≡◌, refl, subst}
use mathlib.Core.Bool.{Bool, true, false, not, ◌||◌}
use mathlib.Core.List.{List}
use mathlib.Core.Option.{Option, none, some}
use lib.Dec.{eqb, ltb}
use lib.ListN.{length}
use Rattle.paper.specs.Tools.{when, first_from}
use Rattle.paper.specs.Limits.{text_limit, list_limit, item_limit, node_limit, bracket_limit}
use Rattle.paper.specs.Query.{Query}
use Rattle.paper.specs.Names.{names_fault, names_of, number_of}
use Rattle.paper.specs.Items.{decode}
use Rattle.paper.specs.Measures.{size, nesting, height}
use Rattle.paper.specs.Printing.{printed}
use Rattle.paper.specs.Document.{Table, nodes, good_node, table_fault, good_mark, marks_fault}
use Rattle.paper.specs.Selection.{kept}
use Rattle.paper.specs.Reading.{Got, got, refused, read_text}
use Rattle.paper.specs.Composition.{composed}
use Rattle.paper.specs.Answers.{Answer, value, line, line_query, line_got, too_long, is_newer, no_version, any_name, read_answer, unknown_from, print_answer, compose_answer, scratch_of, marked_count, run_answer, extract_answer}
use Rattle.paper.specs.Room.{measure_answer, height_answer, path_count, paths_answer, scratch_answer}
use Rattle.paper.proofs.Tests.{none-some, some_inj}
use Rattle.paper.proofs.Refusing.{or_none}
use Rattle.paper.proofs.Sizes.{size_decoded, height_size}
use Rattle.paper.proofs.Extracting.{rank_le}
use Rattle.paper.proofs.Lending.{Wrong, all_inside, bytes_few, paths_size}
use Rattle.answer_bounds.specs.Bounds.{Small}
use Rattle.query_grammar.proofs.Seeing.{chosen}
use Rattle.answer_bounds.proofs.NameBounds.{fault_within, name_short}
use Rattle.answer_bounds.proofs.PrintBounds.{printed_short, unknown_within}
use Rattle.answer_bounds.proofs.ComposeBounds.{nesting_size, composed_small}
use Rattle.answer_bounds.proofs.ReadBounds.{Bounded, text_bounded}

-- A line is small if its place is and the later lines are, which may know that it does not hold.
pub small_line : (number : ℕ) (o : Option ℕ) (later : Answer) → ((place : ℕ) → o ≡ some place → place < 4294967296) → Small later → Small (line number o later)
small_line number none later h l = l
small_line number (some place) later h l = h place refl

pub small_when : (number place : ℕ) (b : Bool) (later : Answer) → place < 4294967296 → (b ≡ false → Small later) → Small (line number (when b place) later)
small_when number place true later h l = h
small_when number place false later h l = l refl

small_query : (number place : ℕ) (o : Option Query) (later : Query → Answer) → place < 4294967296 → ((q : Query) → o ≡ some q → Small (later q)) → Small (line_query number place o later)
small_query number place none later h l = h
small_query number place (some q) later h l = l q refl

small_got : (text : List ℕ) (r : Got Query) (later : Query → Answer) → length text ≤ text_limit → Bounded text r → ((q : Query) → size q ≤ 2 * suc (length text) → Small (later q)) → Small (line_got r later)
small_got text (got q left) later few h l = l q h
small_got text (refused number place) later few h l = omega arith

-- The first line of two lists: the later ones may know that neither is too long.
small_lists : (xs ys : List ℕ) (most limit : ℕ) (later : Answer) → (length xs ≤ most → length ys ≤ limit → Small later) → Small (line 1 (when (too_long xs most || too_long ys limit) 0) later)
small_lists xs ys most limit later l =
    small_when 1 0 (too_long xs most || too_long ys limit) later (omega arith)
    (λ h. let short = or_none (too_long xs most) (too_long ys limit) h in l (ltb-false most (length xs) short.0) (ltb-false limit (length ys) short.1))

-- The last line: a number is answered, or refused for want of room.
pub small_room : (n : ℕ) (b : Bool) → n < 4294967296 → Small (line 10 (when b n) (value n))
small_room n b h = small_when 10 n b (value n) h (λ e. h)

-- What a search finds is below the number searched.
first_below_lem : (left at : ℕ) (test : ℕ → Bool) (place : ℕ) → first_from left at test ≡ some place → place < at + left
first_below_lem zero at test place e = none-some e
first_below_lem (suc left) at test place e =
    chosen (test at) e (λ c f. subst (λ p. p < at + suc left) (some_inj f) (omega arith)) (λ c f. omega (arith, first_below_lem left (suc at) test place f))

-- A fault of a table or of marks is a node, or 0.
pub table_within : (t : Table) (place : ℕ) → table_fault t ≡ some place → place ≤ nodes t
unfolding table_fault
table_within t place e =
    chosen (eqb (nodes t) 0) e (λ c f. subst (λ p. p ≤ nodes t) (some_inj f) (omega arith)) (λ c f. omega (arith, first_below_lem (nodes t) 0 (λ i. not (good_node t i)) place f))

pub marks_within : (t : Table) (marks : List ℕ) (place : ℕ) → marks_fault t marks ≡ some place → place ≤ nodes t
unfolding marks_fault
marks_within t marks place e = omega (arith, first_below_lem (nodes t) 0 (λ i. not (good_mark t marks i)) place e)

-- EXTRACT.
pub extract_small : (t : Table) (marks : List ℕ) (parent_room kind_room : ℕ) → Small (extract_answer t marks parent_room kind_room)
unfolding extract_answer
extract_small t marks parent_room kind_room =
    let many = ltb node_limit (nodes t) in
    let kinds = not (eqb (length t.kinds) (nodes t)) in
    let given = not (eqb (length marks) (nodes t)) in
    let rooms = not (eqb parent_room kind_room) in
    let count = marked_count t marks in
    small_when 1 0 (many || kinds || given || rooms) _ (omega arith)
    (λ h.
    let few : nodes t ≤ node_limit = ltb-false node_limit (nodes t) (or_none many kinds (or_none (many || kinds) given (or_none (many || kinds || given) rooms h).0).0).0 in
    let counted : count < 4294967296 = omega (arith, rank_le marks (nodes t)) in
    small_line 7 (table_fault t) _ (λ p e. omega (arith, table_within t p e))
    (small_line 8 (marks_fault t marks) _ (λ p e. omega (arith, marks_within t marks p e))
    (small_room count (ltb parent_room count) counted)))

-- RUN.
pub run_small : (query : List ℕ) (t : Table) (given : List ℕ) (marks_room scratch_room : ℕ) → Small (run_answer query t given marks_room scratch_room)
unfolding run_answer
run_small query t given marks_room scratch_room =
    let long = too_long query item_limit in
    let many = ltb node_limit (nodes t) in
    let kinds = not (eqb (length t.kinds) (nodes t)) in
    let marks = not (eqb (length given) (nodes t)) in
    let rooms = not (eqb marks_room (nodes t)) in
    small_when 1 0 (long || many || kinds || marks || rooms) _ (omega arith)
    (λ h.
    let two = or_none long many (or_none (long || many) kinds (or_none (long || many || kinds) marks (or_none (long || many || kinds || marks) rooms h).0).0).0 in
    let items : length query ≤ item_limit = ltb-false item_limit (length query) two.0 in
    let few : nodes t ≤ node_limit = ltb-false node_limit (nodes t) two.1 in
    small_query 6 0 (decode query) _ (omega arith)
    (λ q d.
    let tall : height q + 1 ≤ 4097 = omega (arith, height_size q, size_decoded query q d) in
    let twice : nodes t * 2 ≤ node_limit * 2 = omega arith in
    let needed : scratch_of t q ≤ 33562624 = mul-le-mul twice tall in
    small_line 7 (table_fault t) _ (λ p e. omega (arith, table_within t p e))
    (small_line 8 (marks_fault t given) _ (λ p e. omega (arith, marks_within t given p e))
    (small_when 10 (scratch_of t q) (ltb scratch_room (scratch_of t q)) _ (omega arith) (λ e. omega (arith, rank_le (kept t given q) (nodes t)))))))

-- COMPOSE.
pub compose_small : (outer inner : List ℕ) (room : ℕ) → Small (compose_answer outer inner room)
unfolding compose_answer
compose_small outer inner room =
    small_lists outer inner item_limit item_limit _
    (λ lo li.
    small_query 6 0 (decode outer) _ (omega arith)
    (λ o d.
    small_query 6 1 (decode inner) _ (omega arith)
    (λ i f.
    let q = composed o i in
    let few : size q < 4294967296 = composed_small o i (omega (arith, size_decoded outer o d)) (omega (arith, size_decoded inner i f)) in
    small_when 9 (nesting q) (ltb bracket_limit (nesting q)) _ (omega (arith, nesting_size q))
    (λ e. small_room (size q) (ltb room (size q) || ltb item_limit (size q)) few))))

-- PRINT.
pub print_small : (brief : Bool) (query list : List ℕ) (room : ℕ) → Small (print_answer brief query list room)
unfolding print_answer
print_small brief query list room =
    small_lists query list item_limit list_limit _
    (λ items bytes.
    small_line 2 (names_fault list) _ (λ p e. omega (arith, fault_within list p e))
    (small_query 6 0 (decode query) _ (omega arith)
    (λ q d.
    let names = names_of list in
    let needed = length (printed brief names q) in
    let few : needed < 4294967296 = omega (arith, printed_short names (λ v. omega (arith, name_short list v)) brief q, size_decoded query q d) in
    small_line 5 (unknown_from (length names) 0 query) _ (λ p e. omega (arith, unknown_within (length names) 0 query p e))
    (small_room needed (ltb room needed) few))))

-- READ.
pub read_small : (text : List ℕ) (version : ℕ) (list : List ℕ) (room : ℕ) → Small (read_answer text version list room)
unfolding read_answer
read_small text version list room =
    let newer = is_newer version in
    small_when 1 0 (too_long text text_limit || too_long list list_limit || no_version version) _ (omega arith)
    (λ h.
    let lists = (or_none (too_long text text_limit || too_long list list_limit) (no_version version) h).0 in
    let few = ltb-false text_limit (length text) (or_none (too_long text text_limit) (too_long list list_limit) lists).0 in
    let bytes = ltb-false list_limit (length list) (or_none (too_long text text_limit) (too_long list list_limit) lists).1 in
    let look = number_of (names_of list) in
    small_line 2 (names_fault list) _ (λ p e. omega (arith, fault_within list p e))
    (small_got text (read_text newer any_name text) _ few (text_bounded newer any_name text)
    (λ any a.
    small_got text (read_text newer look text) _ few (text_bounded newer look text)
    (λ q b.
    let sized : size q < 4294967296 = omega arith in
    small_room (size q) (ltb room (size q) || ltb item_limit (size q)) sized))))

-- HEIGHT AND PATHS.
measure_small : (measure : Query → ℕ) (query : List ℕ) → ((q : Query) → measure q ≤ size q) → Small (measure_answer measure query)
unfolding measure_answer
measure_small measure query low =
    small_when 1 0 (too_long query item_limit) _ (omega arith)
    (λ h.
    let few : length query ≤ item_limit = ltb-false item_limit (length query) h in
    small_query 6 0 (decode query) _ (omega arith) (λ q d. omega (arith, low q, size_decoded query q d)))

pub height_small : (query : List ℕ) → Small (height_answer query)
height_small query = measure_small height query height_size

pub paths_small : (query : List ℕ) → Small (paths_answer query)
paths_small query = measure_small path_count query paths_size

-- SCRATCH.
pub scratch_small : (count outer_height outer_paths inner_height inner_paths : ℕ) → Small (scratch_answer count outer_height outer_paths inner_height inner_paths)
unfolding scratch_answer
scratch_small count outer_height outer_paths inner_height inner_paths =
    small_when 1 0 (Wrong count outer_height outer_paths inner_height inner_paths) _ (omega arith)
    (λ h. omega (arith, bytes_few count outer_height outer_paths inner_height inner_paths (all_inside count outer_height outer_paths inner_height inner_paths h)))
