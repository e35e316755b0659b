-- A text put byte by byte: `text_none`, `text_more`, `text_done`, `text_room`; the count of `]`: `no_square`, `first_square`, `next_square`.
pub mod Texts
