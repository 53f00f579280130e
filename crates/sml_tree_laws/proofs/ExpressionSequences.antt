-- Sequences of atomic expressions.
use Rattle.std.specs.Prelude.{List, [], ◌∷◌, Option, Some, None, get_or}
use Rattle.sml_lex.specs.declared.fault.Place.{Place}
use Rattle.sml_tree.specs.Trees.{Id}
use Rattle.sml_tree.specs.Names.{Name}
use Rattle.sml_tree.specs.Types.{Tys, no_ty, and_ty}
use Rattle.sml_tree.specs.Expressions.{Exp, Exps, typed, no_exp, and_exp}
use Rattle.sml_rules.specs.Every.{Every}
use Rattle.sml_fixity.specs.declared.sequences.Step.{Step}
use Rattle.sml_fixity.specs.declared.sequences.Step.TheVariants.{Push, Apply, Combine}
use Rattle.sml_fixity.specs.Shapes.{Shape, tree, headed}
use Rattle.sml_bare_exps.specs.ExpressionSequences as E
use Rattle.sml_tree_laws.proofs.Sits.{TysSit, ExpSits, ExpsSit}
use Rattle.sml_tree_laws.proofs.Phrases.{every_get_or, every_set}

module _ (R V : Id → Type 0) where
  exps_listed : (es : Exps Place) → ExpsSit R V es → Every (λ e. ExpSits R V e) (E.list_of_exps es)
  exps_listed no_exp h = tt
  exps_listed (and_exp e es) h = (h.0, exps_listed es h.1)

  record ExpsBuilt (b : E.Building) : Type 0 where
    pub atoms_sit : Every (λ e. ExpSits R V e) b.atoms
    pub stack_sits : Every (λ e. ExpSits R V e) b.stack

  exps_applied : (es : List (Exp Place)) → Every (λ e. ExpSits R V e) es → Every (λ e. ExpSits R V e) (E.applied es)
  exps_applied [] h = tt
  exps_applied (x ∷ []) h = h
  exps_applied (x ∷ f ∷ es) h = ((h.1.0, h.0), h.1.1)

  exps_combined : (f : Name Place) (es : List (Exp Place)) → Every (λ e. ExpSits R V e) es → Every (λ e. ExpSits R V e) (E.combined f es)
  exps_combined f [] h = tt
  exps_combined f (b ∷ []) h = h
  exps_combined f (b ∷ a ∷ es) h = ((tt, (h.1.0, (h.0, tt))), h.1.1)

  after_sits : (s : Step) (b : E.Building) → ExpsBuilt b → ExpsBuilt (E.after s b)
  after_sits (Push i) b h = record {
    atoms_sit = every_set (λ e. ExpSits R V e) b.atoms i E.no_operand h.atoms_sit tt;
    stack_sits = (every_get_or (λ e. ExpSits R V e) b.atoms i E.no_operand h.atoms_sit tt, h.stack_sits);
  }
  after_sits Apply b h = record { atoms_sit = h.atoms_sit; stack_sits = exps_applied b.stack h.stack_sits }
  after_sits (Combine i) b h = record {
    atoms_sit = every_set (λ e. ExpSits R V e) b.atoms i E.no_operand h.atoms_sit tt;
    stack_sits = exps_combined (E.operator_of (get_or b.atoms i E.no_operand)) b.stack h.stack_sits;
  }

  exps_joined : (e : Exp Place) (es : List (Exp Place)) → ExpSits R V e → Every (λ e. ExpSits R V e) es → ExpSits R V (E.joined e es)
  exps_joined e [] h k = h
  exps_joined e (f ∷ es) h k = exps_joined _ es (k.0, h) k.1

  all_of_sits : (es : List (Exp Place)) → Every (λ e. ExpSits R V e) es → ExpSits R V (E.all_of es)
  all_of_sits [] h = tt
  all_of_sits (e ∷ es) h = exps_joined e es h.0 h.1

  exp_steps_sit : (ss : List Step) (b : E.Building) → ExpsBuilt b → ExpSits R V (E.exp_of_steps ss b)
  exp_steps_sit [] b h = all_of_sits b.stack h.stack_sits
  exp_steps_sit (s ∷ ss) b h = exp_steps_sit ss (E.after s b) (after_sits s b h)

  exp_typed_by : (p : Place) (e : Exp Place) (ts : Tys Place) → ExpSits R V e → TysSit V ts → ExpSits R V (E.typed_by p e ts)
  exp_typed_by p e no_ty h k = h
  exp_typed_by p e (and_ty t ts) h k = exp_typed_by p (typed p e t) ts (h, k.0) k.1

  exp_shaped : (s : Option Shape) (es : Exps Place) → ExpsSit R V es → ExpSits R V (E.shaped s es)
  exp_shaped None es h = every_get_or (λ e. ExpSits R V e) (E.list_of_exps es) 0 E.no_operand (exps_listed es h) tt
  exp_shaped (Some (tree steps)) es h = exp_steps_sit steps (E.starting (E.list_of_exps es)) (record { atoms_sit = exps_listed es h; stack_sits = tt })
  exp_shaped (Some (headed how)) es h = tt

  pub sequence_exp_sits : (s : Option Shape) (es : Exps Place) (ts : Tys Place) → ExpsSit R V es → TysSit V ts → ExpSits R V (E.sequence_exp s es ts)
  sequence_exp_sits s es ts h k = exp_typed_by (E.exp_place (E.shaped s es)) (E.shaped s es) ts (exp_shaped s es h) k
