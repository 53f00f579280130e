use Rattle.std.proofs.Common.{[], None, subst, sym}
use Rattle.sml_tree.specs.TypeViews.{ty_of}
use Rattle.sml_core_rules.specs.Types.{read_ty}
use Rattle.sml_types.specs.Answered.{IsAnswer}
use Rattle.sml_types.specs.Meant.{meant}
use Rattle.sml_types.specs.Sides.{IsSideOf}
use Rattle.sml_types.proofs.TyViews.{none_replaced}
use Rattle.sml_scopes.proofs.Finding.{scopes-tell}
use Rattle.sml_core.proofs.context.Context.written.Goals as goal

pub returns-clause-answer : goal.returns-clause-answer
returns-clause-answer c = λ C vs means scoped spelled.
    subst (λ t. IsAnswer (λ w. meant w.value) c.written_type.result (read_ty C vs t)) (none_replaced (ty_of c.args.ty.now))
    (c.written_type.ensures.answer C [] vs (scopes-tell c.args.self.now.scopes C means) (λ x o e. subst (IsSideOf C None) (sym e) tt) (c.written_type.ensures.stays vs scoped) spelled)
