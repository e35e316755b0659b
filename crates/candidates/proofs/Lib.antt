-- Where a step leads at all, and the best candidate below a bound, of which there is one: `self_alone`, `parent_alone`, `best_none`, `best_here`, `only`, `best_unique`.
pub mod Leading
