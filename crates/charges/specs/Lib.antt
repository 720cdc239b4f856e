pub mod Kinds
pub mod Capped
pub mod Count
pub mod Sum
pub mod Worst
pub mod Ranked
pub mod CappedLaws
pub mod RankedLaws
