pub mod RangeLaws
pub mod RateLaws
