pub mod Firsts
pub mod RowSearch
pub mod FirstsLaws
