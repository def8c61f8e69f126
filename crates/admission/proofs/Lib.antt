pub mod DomainLaws
