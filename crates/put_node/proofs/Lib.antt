-- Choices by a kind and by places: `same_top`, `other_top`, `text_inner`, `element_inner`, `text-piece` .. `element_squares`; a node put: `node_put`.
pub mod Placing
