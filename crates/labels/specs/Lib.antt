pub mod LabelsLaws
