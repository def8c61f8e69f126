pub mod ExactTheorems
