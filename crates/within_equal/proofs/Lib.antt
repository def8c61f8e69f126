pub mod RateLaws
pub mod EqualTheorems
pub mod Unread
pub mod Promise
