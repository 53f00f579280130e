-- Each phrase that is refused is refused with a code of its line of the table.
use Rattle.std.specs.Prelude.{[]}
use mathlib.Core.Path.{refl}
use Rattle.sml_core_rules.specs.States.{Scope}
use Rattle.sml_core_rules.specs.Types.{read_ty}
use Rattle.sml_core_rules.specs.Patterns.{read_pat}
use Rattle.sml_core_rules.specs.Expressions.{read_types, read_datatypes, read_exceptions, read_opened, read_exp, read_dec}
use Rattle.sml_module_rules.specs.Matching.{ascribe, apply_functor}
use Rattle.sml_module_rules.specs.Signatures.{read_sig}
use Rattle.sml_module_rules.specs.Structures.{read_str}
use Rattle.sml_refusals.specs.Codes.{type_code, binding_code, copy_code, exception_code, opened_code, pattern_code, core_code, signature_code, matching_code, structure_code, RefusalsHaveCodes}
use Rattle.sml_refusals.proofs.Refusing.{or-right, code-of, refusal}
use Rattle.sml_refusals.proofs.CodesOfTypes.{codes-ty, codes-opened, codes-exceptions}
use Rattle.sml_refusals.proofs.CodesOfPatterns.{codes-pat}
use Rattle.sml_refusals.proofs.CodesOfCore.{codes-types, codes-made, codes-exp, codes-dec}
use Rattle.sml_refusals.proofs.CodesOfSignatures.{codes-sig}
use Rattle.sml_refusals.proofs.CodesOfModules.{codes-ascribed, codes-applied, codes-str, top-refusal}

pub refusals-have-codes : (P : Type 0) {N : Type 0} (scope : Scope N) → RefusalsHaveCodes P scope
refusals-have-codes P scope = record {
  types = λ C vs u f e. code-of type_code (read_ty C vs u) (codes-ty type_code (λ c h. h) C vs u) f e;
  type_bindings = λ p C bs s f a. refusal binding_code scope (read_types scope p C bs) (codes-types binding_code (λ c h. h) scope p C bs) s f a;
  datatypes = λ p C ds s f a. refusal binding_code scope (read_datatypes scope p C ds) (codes-made binding_code (λ c h. h) scope p C ds) s f a;
  exceptions = λ C vs bs f e.
      code-of exception_code (read_exceptions scope C vs [] bs) (codes-exceptions exception_code (λ c h. or-right (copy_code c) _ h) scope refl refl C vs [] bs) f e;
  opened = λ C E ss f e. code-of opened_code (read_opened scope C E ss) (codes-opened opened_code scope refl C E ss) f e;
  patterns = λ is_rec C vs bs q s f a. refusal pattern_code scope (read_pat scope is_rec C vs bs q) (codes-pat pattern_code (λ c h. h) scope is_rec C vs bs q) s f a;
  expressions = λ C vs e s f a. refusal core_code scope (read_exp scope C vs e) (codes-exp core_code (λ c h. h) scope C vs e) s f a;
  declarations = λ C vs d s f a. refusal core_code scope (read_dec scope C vs d) (codes-dec core_code (λ c h. h) scope C vs d) s f a;
  signatures = λ G C e s f a. refusal signature_code scope (read_sig scope G C e) (codes-sig signature_code (λ c h. h) scope G C e) s f a;
  matching = λ p E k S s f a. refusal matching_code scope (ascribe scope p E k S) (codes-ascribed matching_code (λ c h. h) scope p E k S) s f a;
  applications = λ p F E s f a. refusal matching_code scope (apply_functor scope p F E) (codes-applied matching_code (λ c h. h) scope p F E) s f a;
  structures = λ B C e s f a. refusal structure_code scope (read_str scope B C e) (codes-str structure_code (λ c h. h) scope B C e) s f a;
  top = λ p B d f h. top-refusal scope B p d f h;
}
