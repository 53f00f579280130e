pub mod ExpressionRules
pub mod ExpressionSequences
pub mod ExpressionViews
