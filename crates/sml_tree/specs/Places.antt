-- The places that stand in a tree: those that a fault can name.
use Rattle.std.specs.Prelude.{List, [], ◌∷◌, ◌++◌}
use Rattle.sml_tree.specs.Trees.{Exp, Exps, Ty, Tys, Spec, CoreDec, Dec, number, name, tuple, bracket, function, no_exp, and_exp, constructor, product, arrow_to, bracket_ty, no_ty, and_ty, type_spec, val_spec, val_dec, type_dec, core, sealed, other}

abbrev mutual
  pub exp_places : {P : Type 0} → Exp P → List P
  exp_places number = []
  exp_places (name p x) = p ∷ []
  exp_places (tuple es) = exps_places es
  exp_places (bracket e) = exp_places e
  exp_places (function x e) = exp_places e

  pub exps_places : {P : Type 0} → Exps P → List P
  exps_places no_exp = []
  exps_places (and_exp e es) = exp_places e ++ exps_places es

abbrev mutual
  pub ty_places : {P : Type 0} → Ty P → List P
  ty_places (constructor p c) = p ∷ []
  ty_places (product ts) = tys_places ts
  ty_places (arrow_to t u) = ty_places t ++ ty_places u
  ty_places (bracket_ty t) = ty_places t

  pub tys_places : {P : Type 0} → Tys P → List P
  tys_places no_ty = []
  tys_places (and_ty t ts) = ty_places t ++ tys_places ts

abbrev pub spec_places : {P : Type 0} → Spec P → List P
spec_places (type_spec p t) = p ∷ []
spec_places (val_spec p x t) = p ∷ ty_places t

abbrev pub specs_places : {P : Type 0} → List (Spec P) → List P
specs_places [] = []
specs_places (s ∷ ss) = spec_places s ++ specs_places ss

abbrev pub core_places : {P : Type 0} → CoreDec P → List P
core_places (val_dec p x e) = p ∷ exp_places e
core_places (type_dec p t u) = p ∷ ty_places u

abbrev pub cores_places : {P : Type 0} → List (CoreDec P) → List P
cores_places [] = []
cores_places (d ∷ ds) = core_places d ++ cores_places ds

abbrev pub dec_places : {P : Type 0} → Dec P → List P
dec_places (core d) = core_places d
dec_places (sealed s p specs decs) = p ∷ specs_places specs ++ cores_places decs
dec_places (other p) = p ∷ []
