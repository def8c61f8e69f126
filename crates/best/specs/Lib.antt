pub mod Around
pub mod AroundLaws
pub mod CellTables
pub mod First
pub mod Lex
pub mod LexLaws
