pub mod ExactVerdict
