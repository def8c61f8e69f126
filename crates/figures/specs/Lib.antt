pub mod Figures
pub mod FiguresLaws
pub mod Gate
