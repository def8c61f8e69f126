pub mod Feeds
pub mod Names
