pub mod VerdictTheorems
