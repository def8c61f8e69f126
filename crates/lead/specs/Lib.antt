pub mod Lead
pub mod PeakLaws
pub mod LeadLaws
