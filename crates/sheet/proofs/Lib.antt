-- `line_whole`, `first_more`, `names_bytes`, `reach_more`, `reach_most`; of a list that was judged, `names_count`, `name_long`.
pub mod Growing
