-- Trees without their places.
use Rattle.sml_tree.specs.Trees.{Ty, Tys, Spec, constructor, product, arrow_to, bracket_ty, no_ty, and_ty, type_spec, val_spec}

unfoldable mutual
  pub forget_ty : {P : Type 0} → Ty P → Ty (Unit {0})
  forget_ty (constructor p c) = constructor tt c
  forget_ty (product ts) = product (forget_tys ts)
  forget_ty (arrow_to a b) = arrow_to (forget_ty a) (forget_ty b)
  forget_ty (bracket_ty a) = bracket_ty (forget_ty a)

  pub forget_tys : {P : Type 0} → Tys P → Tys (Unit {0})
  forget_tys no_ty = no_ty
  forget_tys (and_ty t ts) = and_ty (forget_ty t) (forget_tys ts)

unfoldable pub forget : {P : Type 0} → Spec P → Spec (Unit {0})
forget (type_spec p t) = type_spec tt t
forget (val_spec p x t) = val_spec tt x (forget_ty t)
