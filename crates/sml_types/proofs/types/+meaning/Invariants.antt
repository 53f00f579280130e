use Rattle.std.proofs.Common.{◌≡◌, ◌++◌, ◌<◌, List, [], length, map, take}
use Rattle.std.specs.List.{AllByRecursion}
use Rattle.sml_tree.specs.Trees.{Id}
use Rattle.sml_tree.specs.TypeViews.{ty_field_of, ty_fields_of, ty_of, tys_of}
use Rattle.sml_tree.specs.Withtype.{all_replaced, field_replaced, replaced}
use Rattle.sml_objects.specs.Initial.{Name}
use Rattle.sml_objects.specs.Maps.{Map}
use Rattle.sml_objects.specs.Objects.{MlType}
use Rattle.sml_rules.specs.Answers.{accepted}
use Rattle.sml_core_rules.specs.Types.{read_fields, read_tys}
use Rattle.sml_types.specs.Meant.{all_meant, meant}
use Rattle.sml_types.specs.Reads.{Supposing}
use Rattle.sml_types.specs.Rows.{AreRanked, fields_of}
use Rattle.sml_types.specs.Sides.{IsAcceptedAs, answers_of, asked_in_all, asked_in_fields}
use Rattle.sml_types.proofs.types.+meaning.Given as goal

abbrev pub invariant-row_type-loop-field : goal.invariant-row_type-loop-field
invariant-row_type-loop-field g l = record {
  ranked : AreRanked l.row.entries;
  kept : (vs : Map (MlType Name)) → g.V.TypeVariables.says l.variables vs → g.V.TypeVariables.says l.initial.variables vs;
  stays : (vs : Map (MlType Name)) → g.V.TypeVariables.stays l.initial.variables vs → g.V.TypeVariables.stays l.variables vs;
  answer : Supposing (g.S.Scope.says_structure l.scope) (g.S.Scope.says_type l.scope) (g.S.Scope.says_side l.scope) (g.V.TypeVariables.says l.variables)
      (λ C bs vs. read_fields C vs [] (ty_fields_of (map (λ f. field_replaced bs (ty_field_of f)) (take l.field-index l.fields))) ≡ accepted (fields_of (λ w. meant w.value) l.row.entries));
  noted : Supposing (g.S.Scope.says_structure l.scope) (g.S.Scope.says_type l.scope) (g.S.Scope.says_side l.scope) (g.V.TypeVariables.says l.variables)
      (λ C bs vs. bs ≡ [] → (xs : List Id) → g.V.TypeVariables.notes l.initial.variables vs xs → g.V.TypeVariables.notes l.variables vs (xs ++ asked_in_fields C vs (ty_fields_of (map (λ f. field_replaced bs (ty_field_of f)) (take l.field-index l.fields)))));
}

abbrev pub invariant-types_of-loop-ty : goal.invariant-types_of-loop-ty
invariant-types_of-loop-ty g l = record {
  kept : (vs : Map (MlType Name)) → g.V.TypeVariables.says l.variables vs → g.V.TypeVariables.says l.initial.variables vs;
  stays : (vs : Map (MlType Name)) → g.V.TypeVariables.stays l.initial.variables vs → g.V.TypeVariables.stays l.variables vs;
  answer : Supposing (g.S.Scope.says_structure l.scope) (g.S.Scope.says_type l.scope) (g.S.Scope.says_side l.scope) (g.V.TypeVariables.says l.variables)
      (λ C bs vs. read_tys C vs (tys_of (map (λ t. replaced bs (ty_of t)) (take l.ty-index l.tys))) ≡ accepted (all_meant l.types.items));
  noted : Supposing (g.S.Scope.says_structure l.scope) (g.S.Scope.says_type l.scope) (g.S.Scope.says_side l.scope) (g.V.TypeVariables.says l.variables)
      (λ C bs vs. bs ≡ [] → (xs : List Id) → g.V.TypeVariables.notes l.initial.variables vs xs → g.V.TypeVariables.notes l.variables vs (xs ++ asked_in_all C vs (tys_of (map (λ t. replaced bs (ty_of t)) (take l.ty-index l.tys)))));
}

abbrev pub invariant-used_arguments-loop-number : goal.invariant-used_arguments-loop-number
invariant-used_arguments-loop-number g l = record {
  size : length l.types.items ≡ length l.tys;
  kept : (vs : Map (MlType Name)) → g.V.TypeVariables.says l.variables vs → g.V.TypeVariables.says l.initial.variables vs;
  stays : (vs : Map (MlType Name)) → g.V.TypeVariables.stays l.initial.variables vs → g.V.TypeVariables.stays l.variables vs;
  answer : Supposing (g.S.Scope.says_structure l.scope) (g.S.Scope.says_type l.scope) (g.S.Scope.says_side l.scope) (g.V.TypeVariables.says l.variables)
      (λ C bs vs. AllByRecursion (λ k. k < length (answers_of C vs (all_replaced bs (tys_of (map ty_of l.tys)))) → IsAcceptedAs (answers_of C vs (all_replaced bs (tys_of (map ty_of l.tys)))) (map (λ w. meant w.value) l.types.items) k) (take l.number-index l.used));
}
