pub mod DeclarationRules
pub mod DeclarationViews
pub mod FunctionRules
pub mod FunctionViews
