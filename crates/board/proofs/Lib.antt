pub mod HitsLaws
