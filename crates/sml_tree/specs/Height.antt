-- Heights: each phrase is one higher than its highest part, brackets included. Lists add nothing by their length.
use Rattle.std.specs.Prelude.{ℕ, suc, ◌-◌, ◌^◌, min, max, List, [], ◌∷◌}
use Rattle.sml_tree.specs.Trees.{Exp, Exps, Ty, Tys, Spec, CoreDec, Dec, number, name, tuple, bracket, function, no_exp, and_exp, constructor, product, arrow_to, bracket_ty, no_ty, and_ty, type_spec, val_spec, val_dec, type_dec, core, sealed, other}

abbrev mutual
  pub exp_height : {P : Type 0} → Exp P → ℕ
  exp_height number = 1
  exp_height (name p x) = 1
  exp_height (tuple es) = suc (exps_height es)
  exp_height (bracket e) = suc (exp_height e)
  -- the pattern, a variable, has height 1, and no expression is lower
  exp_height (function x e) = suc (exp_height e)

  pub exps_height : {P : Type 0} → Exps P → ℕ
  exps_height no_exp = 0
  exps_height (and_exp e es) = max (exp_height e) (exps_height es)

abbrev mutual
  pub ty_height : {P : Type 0} → Ty P → ℕ
  ty_height (constructor p x) = 1
  ty_height (product ts) = suc (tys_height ts)
  ty_height (arrow_to t u) = suc (max (ty_height t) (ty_height u))
  ty_height (bracket_ty t) = suc (ty_height t)

  pub tys_height : {P : Type 0} → Tys P → ℕ
  tys_height no_ty = 0
  tys_height (and_ty t ts) = max (ty_height t) (tys_height ts)

abbrev pub spec_height : {P : Type 0} → Spec P → ℕ
spec_height (type_spec p t) = 1
spec_height (val_spec p x t) = suc (ty_height t)

abbrev pub core_height : {P : Type 0} → CoreDec P → ℕ
core_height (val_dec p x e) = suc (exp_height e)
core_height (type_dec p t u) = suc (ty_height u)

abbrev pub specs_height : {P : Type 0} → List (Spec P) → ℕ
specs_height [] = 0
specs_height (s ∷ ss) = max (spec_height s) (specs_height ss)

abbrev pub decs_height : {P : Type 0} → List (CoreDec P) → ℕ
decs_height [] = 0
decs_height (d ∷ ds) = max (core_height d) (decs_height ds)

-- a sealed structure holds `e :> S`, which holds `struct .. end` and `sig .. end`
abbrev pub dec_height : {P : Type 0} → Dec P → ℕ
dec_height (core d) = core_height d
dec_height (sealed s p specs decs) = suc (suc (max (suc (specs_height specs)) (suc (decs_height decs))))
dec_height (other p) = 1

-- counts stop at the greatest number of 32 bits
abbrev pub counted : ℕ → ℕ
counted n = min n (2 ^ 32 - 1)
