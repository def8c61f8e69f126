pub mod DecideTheorems
