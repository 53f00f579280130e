pub mod SignatureRules
pub mod SpecificationRules
pub mod StructureRules
pub mod UnitRules
