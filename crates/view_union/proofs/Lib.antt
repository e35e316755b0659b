-- Lines of the views: `said`, `said_first`, `views_are`.
pub mod Viewing
-- The union as it grows: `Gathering`, `join_none`, `join_some`, `join_over`, `turn`.
pub mod Unions
-- The lines of the union as the code goes by them: `view_unread`, `query_refused`, `union_over`, `to_compose`.
pub mod Answering
