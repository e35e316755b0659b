-- Facts on Bool: `and_true`, `true_and`, `or_true`, `decide`, `agree`, `found-Some`, `none-some`.
pub mod Tests
-- The fields of an item: `path-at`, `step-at`, `path_found`, `step_found`.
pub mod Fields
-- `decode_encode`.
pub mod Decoding
-- `encode_decode`.
pub mod Encoding
-- Searching below a number, in a list, in a column: `some_intro`, `some-elim`, `some_same`, `first_none`, `column_at`.
pub mod Searches
-- The laws of the axes, and what a new axis touches: `converse`, `same_turned`, `of_number`, `no_axis`, `no_axis_found`.
pub mod Axes
-- A table with no fault, going up and down in it: `tree`, `over_up`, `over-cases`, `climb`, `over_row`, `closed`.
pub mod Trees
-- What a run marks: `marked_kept`, `keeps_intro`, `keeps-elim`, `kept_good`.
pub mod Keeping
-- The ways in which a step is told in either form: `by_head`, `by_later`.
pub mod Abbreviating
-- Size, height and nesting by items and pieces: `size_items`, `height_size`, `nesting_open`.
pub mod Sizes
-- New numbers and what is written by them: `rank_less`, `rank-back`, `pick_at`, `write_next`, `over_last`, `extracted_good`, `extracted_whole`.
pub mod Extracting
-- Answers line by line: `line_value`, `when_none`, `refused_keeps`.
pub mod Refusing
-- What an accepted call writes, and that it stands at the start: `read_gives`, `compose_gives`, `print_gives`.
pub mod Giving
-- How `tokens_from` goes on: `blank`, `stands`, `passed`.
pub mod Lexing
-- Equal lists of bytes: `same_equal`, `not_same`, `Part-same`, `part_differs`.
pub mod Same
-- Lines of a list and numbers of names: `first-line`, `bad_name` .. `bad_repeat`, `number_found`, `number_none`.
pub mod Lines
-- Scratch told before composing: `Wrong`, `all_inside`, `bytes_few`, `paths_size`, `let_all_pass`.
pub mod Lending
-- A cut and the marks it stands for: `child-behind`, `Standing`, `rank_row`, `cut_extracted`, `marks_good`, `cut_good`, `yes_rows`, `rows_yes`.
pub mod Cutting
