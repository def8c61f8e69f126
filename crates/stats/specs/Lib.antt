pub mod Stats
pub mod StatsLaws
pub mod StatsRange
