pub mod OtherLaws
pub mod Pair
pub mod PairLaws
