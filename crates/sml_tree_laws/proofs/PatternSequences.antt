-- Sequences of atomic patterns.
use Rattle.std.specs.Prelude.{List, [], ◌∷◌, Option, Some, None, drop, if◌then◌else◌, Bool, true, false}
use Rattle.sml_lex.specs.declared.fault.Place.{Place}
use Rattle.sml_tree.specs.Trees.{Id}
use Rattle.sml_tree.specs.Types.{Tys, no_ty, and_ty}
use Rattle.sml_tree.specs.Patterns.{Pat, Pats, wildcard, pat_constant, pat_name, pat_row, pat_tuple, pat_bracket, pat_apply, pat_typed, pat_as, no_pat, and_pat}
use Rattle.sml_rules.specs.Every.{Every}
use Rattle.sml_fixity.specs.declared.sequences.Step.{Step}
use Rattle.sml_fixity.specs.declared.sequences.Step.TheVariants.{Push, Apply, Combine}
use Rattle.sml_fixity.specs.Shapes.{Shape, tree, headed}
use Rattle.sml_pat_sequences.specs.PatternSequences as Q
use Rattle.sml_tree_laws.proofs.Sits.{TysSit, PatSits, PatsSit}
use Rattle.sml_tree_laws.proofs.Phrases.{every_get_or, every_set, every_drop}

module _ (V : Id → Type 0) where
  pats_listed : (qs : Pats Place) → PatsSit V qs → Every (λ q. PatSits V q) (Q.list_of_pats qs)
  pats_listed no_pat h = tt
  pats_listed (and_pat q qs) h = (h.0, pats_listed qs h.1)

  applied_sits : (f q : Pat Place) → PatSits V f → PatSits V q → PatSits V (Q.applied f q)
  applied_sits (pat_name p c) q h k = k
  applied_sits (wildcard p) q h k = (h, (k, tt))
  applied_sits (pat_constant p c) q h k = (h, (k, tt))
  applied_sits (pat_row p fs b) q h k = (h, (k, tt))
  applied_sits (pat_tuple p qs) q h k = (h, (k, tt))
  applied_sits (pat_bracket p r) q h k = (h, (k, tt))
  applied_sits (pat_apply p x r) q h k = (h, (k, tt))
  applied_sits (pat_typed p r t) q h k = (h, (k, tt))
  applied_sits (pat_as p x t r) q h k = (h, (k, tt))

  record PatsBuilt (b : Q.Building) : Type 0 where
    pub atoms_sit : Every (λ q. PatSits V q) b.atoms
    pub stack_sits : Every (λ q. PatSits V q) b.stack

  step_sits : (s : Step) (b : Q.Building) → PatsBuilt b → PatsBuilt (Q.step s b)
  step_sits (Push i) b h = record {
    atoms_sit = every_set (λ q. PatSits V q) b.atoms i Q.no_operand h.atoms_sit tt;
    stack_sits = (every_get_or (λ q. PatSits V q) b.atoms i Q.no_operand h.atoms_sit tt, h.stack_sits);
  }
  step_sits Apply b h = record {
    atoms_sit = h.atoms_sit;
    stack_sits = (
      applied_sits (Q.operand 1 b) (Q.operand 0 b) (every_get_or (λ q. PatSits V q) b.stack 1 Q.no_operand h.stack_sits tt) (every_get_or (λ q. PatSits V q) b.stack 0 Q.no_operand h.stack_sits tt),
      every_drop (λ q. PatSits V q) 2 b.stack h.stack_sits,
    );
  }
  step_sits (Combine i) b h = record {
    atoms_sit = every_set (λ q. PatSits V q) b.atoms i Q.no_operand h.atoms_sit tt;
    stack_sits = (
      (every_get_or (λ q. PatSits V q) b.stack 1 Q.no_operand h.stack_sits tt, (every_get_or (λ q. PatSits V q) b.stack 0 Q.no_operand h.stack_sits tt, tt)),
      every_drop (λ q. PatSits V q) 2 b.stack h.stack_sits,
    );
  }

  pats_joined : (q : Pat Place) (qs : List (Pat Place)) → PatSits V q → Every (λ q. PatSits V q) qs → PatSits V (Q.joined q qs)
  pats_joined q [] h k = h
  pats_joined q (r ∷ rs) h k = pats_joined (Q.paired r q) rs (k.0, (h, tt)) k.1

  steps_sit : (ss : List Step) (b : Q.Building) → PatsBuilt b → PatSits V (Q.pat_of_steps ss b)
  steps_sit [] b h = pats_joined (Q.operand 0 b) (drop 1 b.stack) (every_get_or (λ q. PatSits V q) b.stack 0 Q.no_operand h.stack_sits tt) (every_drop (λ q. PatSits V q) 1 b.stack h.stack_sits)
  steps_sit (s ∷ ss) b h = steps_sit ss (Q.step s b) (step_sits s b h)

  pat_typed_by : (p : Place) (q : Pat Place) (ts : Tys Place) → PatSits V q → TysSit V ts → PatSits V (Q.typed_by p q ts)
  pat_typed_by p q no_ty h k = h
  pat_typed_by p q (and_ty t ts) h k = pat_typed_by p (pat_typed p q t) ts (h, k.0) k.1

  pat_shaped : (s : Option Shape) (qs : Pats Place) → PatsSit V qs → PatSits V (Q.shaped s qs)
  pat_shaped None qs h = tt
  pat_shaped (Some (tree steps)) qs h = steps_sit steps (record { atoms = Q.list_of_pats qs; stack = [] }) (record { atoms_sit = pats_listed qs h; stack_sits = tt })
  pat_shaped (Some (headed how)) qs h = tt

  pub sequence_pat_sits : (s : Option Shape) (qs : Pats Place) (ts : Tys Place) → PatsSit V qs → TysSit V ts → PatSits V (Q.sequence_pat s qs ts)
  sequence_pat_sits s qs ts h k = pat_typed_by (Q.pat_place (Q.shaped s qs)) (Q.shaped s qs) ts (pat_shaped s qs h) k

  pub round_sequence_sits : (s : Option Shape) (q : Pat Place) (qs : Pats Place) (ts : Tys Place) → PatSits V q → PatsSit V qs → TysSit V ts → PatSits V (Q.round_sequence s q qs ts)
  round_sequence_sits s q qs ts h k l = go (Q.begins s)
    where
      go : (b : Bool) → PatSits V (if b then Q.sequence_pat s (and_pat q qs) ts else q)
      go true = sequence_pat_sits s (and_pat q qs) ts (h, k) l
      go false = h
