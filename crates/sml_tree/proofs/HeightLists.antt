-- Heights of lists of phrases, one phrase after another.
use Rattle.std.proofs.Common.{◌≡◌, ℕ, ◌+◌, ◌<◌, List, [], ◌∷◌, ◌++◌, map, take, length, get_or, max, refl, arith}
use Rattle.sml_lex.specs.declared.fault.Place.{Place}
use Rattle.sml_tree.specs.Types as T
use Rattle.sml_tree.specs.Patterns as P
use Rattle.sml_tree.specs.Expressions as E
use Rattle.sml_tree.specs.Signatures as S
use Rattle.sml_tree.specs.Structures as R
use Rattle.sml_tree.specs.Height.{counted}
use Rattle.sml_tree.specs.Heights.{highest, ty_height, tys_height, ty_field_height, ty_fields_height, pat_height, pats_height, pat_field_height, pat_fields_height, exp_height, exps_height, field_height, fields_height, rule_height, rules_height, dec_height, decs_height, bind_height, binds_height, spec_height, specs_height, str_desc_height, str_descs_height, str_dec_height, str_decs_height, str_bind_height, str_binds_height, typ_bind_height, con_bind_height, dat_bind_height, exn_bind_height, val_desc_height, sig_bind_height, fun_bind_height}
use Rattle.sml_tree.specs.TypeViews.{ty_of, tys_of, ty_field_of, ty_fields_of}
use Rattle.sml_tree.specs.PatternViews.{pat_of, pats_of, pat_field_of, pat_fields_of}
use Rattle.sml_tree.specs.BindingViews.{typ_bind_of, con_bind_of, dat_bind_of}
use Rattle.sml_tree.specs.ExpressionViews.{exp_of, exps_of, field_of, fields_of, rule_of, rules_of, dec_of, decs_of, bind_of, binds_of, exn_bind_of}
use Rattle.sml_tree.specs.SignatureViews.{spec_of, specs_of, str_desc_of, str_descs_of, val_desc_of}
use Rattle.sml_tree.specs.StructureViews.{str_dec_of, str_decs_of, str_bind_of, str_binds_of, sig_bind_of, fun_bind_of}
use Rattle.sml_tree.proofs.Lists.{higher}

-- the higher of two counts
pub of_two : (a b h m n : ℕ) → a ≡ counted m → b ≡ counted n → h ≡ max a b → h ≡ counted (max m n)
of_two a b h m n e f g = omega (arith, e, f, g)

-- What a loop over a list of phrases keeps: `most` is the greatest height so far, and `h` is that of the phrase at `i`.
abbrev pub Goes_on : {A B : Type 0} → (A → B) → (B → ℕ) → (List B → ℕ) → Type 0
Goes_on {A = A} f height heights = (xs : List A) (i : ℕ) (x : A) (h most new : ℕ) → i < length xs → x ≡ get_or xs i x → h ≡ counted (height (f x)) → most ≡ counted (heights (map f (take i xs))) → new ≡ max h most → new ≡ counted (heights (map f (take (i + 1) xs)))

highest-push : {B : Type 0} (height : B → ℕ) (ys : List B) (y : B) → highest height (ys ++ y ∷ []) ≡ max (height y) (highest height ys)
highest-push height [] y = refl
highest-push height (z ∷ ys) y = let h = highest-push height ys y in omega (arith, h)

tys-push : (ys : List (T.Ty Place)) (y : T.Ty Place) → tys_height (tys_of (ys ++ y ∷ [])) ≡ max (ty_height y) (tys_height (tys_of ys))
tys-push [] y = refl
tys-push (z ∷ ys) y = let h = tys-push ys y in omega (arith, h)

pub tys_on : Goes_on ty_of ty_height (λ ys. tys_height (tys_of ys))
tys_on = higher ty_of ty_height (λ ys. tys_height (tys_of ys)) (λ ys y. tys-push ys y)

ty_fields-push : (ys : List (T.TyField Place)) (y : T.TyField Place) → ty_fields_height (ty_fields_of (ys ++ y ∷ [])) ≡ max (ty_field_height y) (ty_fields_height (ty_fields_of ys))
ty_fields-push [] y = refl
ty_fields-push (z ∷ ys) y = let h = ty_fields-push ys y in omega (arith, h)

pub ty_fields_on : Goes_on ty_field_of ty_field_height (λ ys. ty_fields_height (ty_fields_of ys))
ty_fields_on = higher ty_field_of ty_field_height (λ ys. ty_fields_height (ty_fields_of ys)) (λ ys y. ty_fields-push ys y)

pats-push : (ys : List (P.Pat Place)) (y : P.Pat Place) → pats_height (pats_of (ys ++ y ∷ [])) ≡ max (pat_height y) (pats_height (pats_of ys))
pats-push [] y = refl
pats-push (z ∷ ys) y = let h = pats-push ys y in omega (arith, h)

pub pats_on : Goes_on pat_of pat_height (λ ys. pats_height (pats_of ys))
pats_on = higher pat_of pat_height (λ ys. pats_height (pats_of ys)) (λ ys y. pats-push ys y)

pat_fields-push : (ys : List (P.PatField Place)) (y : P.PatField Place) → pat_fields_height (pat_fields_of (ys ++ y ∷ [])) ≡ max (pat_field_height y) (pat_fields_height (pat_fields_of ys))
pat_fields-push [] y = refl
pat_fields-push (z ∷ ys) y = let h = pat_fields-push ys y in omega (arith, h)

pub pat_fields_on : Goes_on pat_field_of pat_field_height (λ ys. pat_fields_height (pat_fields_of ys))
pat_fields_on = higher pat_field_of pat_field_height (λ ys. pat_fields_height (pat_fields_of ys)) (λ ys y. pat_fields-push ys y)

exps-push : (ys : List (E.Exp Place)) (y : E.Exp Place) → exps_height (exps_of (ys ++ y ∷ [])) ≡ max (exp_height y) (exps_height (exps_of ys))
exps-push [] y = refl
exps-push (z ∷ ys) y = let h = exps-push ys y in omega (arith, h)

pub exps_on : Goes_on exp_of exp_height (λ ys. exps_height (exps_of ys))
exps_on = higher exp_of exp_height (λ ys. exps_height (exps_of ys)) (λ ys y. exps-push ys y)

fields-push : (ys : List (E.Field Place)) (y : E.Field Place) → fields_height (fields_of (ys ++ y ∷ [])) ≡ max (field_height y) (fields_height (fields_of ys))
fields-push [] y = refl
fields-push (z ∷ ys) y = let h = fields-push ys y in omega (arith, h)

pub fields_on : Goes_on field_of field_height (λ ys. fields_height (fields_of ys))
fields_on = higher field_of field_height (λ ys. fields_height (fields_of ys)) (λ ys y. fields-push ys y)

rules-push : (ys : List (E.Rule Place)) (y : E.Rule Place) → rules_height (rules_of (ys ++ y ∷ [])) ≡ max (rule_height y) (rules_height (rules_of ys))
rules-push [] y = refl
rules-push (z ∷ ys) y = let h = rules-push ys y in omega (arith, h)

pub rules_on : Goes_on rule_of rule_height (λ ys. rules_height (rules_of ys))
rules_on = higher rule_of rule_height (λ ys. rules_height (rules_of ys)) (λ ys y. rules-push ys y)

decs-push : (ys : List (E.Dec Place)) (y : E.Dec Place) → decs_height (decs_of (ys ++ y ∷ [])) ≡ max (dec_height y) (decs_height (decs_of ys))
decs-push [] y = refl
decs-push (z ∷ ys) y = let h = decs-push ys y in omega (arith, h)

pub decs_on : Goes_on dec_of dec_height (λ ys. decs_height (decs_of ys))
decs_on = higher dec_of dec_height (λ ys. decs_height (decs_of ys)) (λ ys y. decs-push ys y)

binds-push : (ys : List (E.ValBind Place)) (y : E.ValBind Place) → binds_height (binds_of (ys ++ y ∷ [])) ≡ max (bind_height y) (binds_height (binds_of ys))
binds-push [] y = refl
binds-push (z ∷ ys) y = let h = binds-push ys y in omega (arith, h)

pub binds_on : Goes_on bind_of bind_height (λ ys. binds_height (binds_of ys))
binds_on = higher bind_of bind_height (λ ys. binds_height (binds_of ys)) (λ ys y. binds-push ys y)

specs-push : (ys : List (S.Spec Place)) (y : S.Spec Place) → specs_height (specs_of (ys ++ y ∷ [])) ≡ max (spec_height y) (specs_height (specs_of ys))
specs-push [] y = refl
specs-push (z ∷ ys) y = let h = specs-push ys y in omega (arith, h)

pub specs_on : Goes_on spec_of spec_height (λ ys. specs_height (specs_of ys))
specs_on = higher spec_of spec_height (λ ys. specs_height (specs_of ys)) (λ ys y. specs-push ys y)

str_descs-push : (ys : List (S.StrDesc Place)) (y : S.StrDesc Place) → str_descs_height (str_descs_of (ys ++ y ∷ [])) ≡ max (str_desc_height y) (str_descs_height (str_descs_of ys))
str_descs-push [] y = refl
str_descs-push (z ∷ ys) y = let h = str_descs-push ys y in omega (arith, h)

pub str_descs_on : Goes_on str_desc_of str_desc_height (λ ys. str_descs_height (str_descs_of ys))
str_descs_on = higher str_desc_of str_desc_height (λ ys. str_descs_height (str_descs_of ys)) (λ ys y. str_descs-push ys y)

str_decs-push : (ys : List (R.StrDec Place)) (y : R.StrDec Place) → str_decs_height (str_decs_of (ys ++ y ∷ [])) ≡ max (str_dec_height y) (str_decs_height (str_decs_of ys))
str_decs-push [] y = refl
str_decs-push (z ∷ ys) y = let h = str_decs-push ys y in omega (arith, h)

pub str_decs_on : Goes_on str_dec_of str_dec_height (λ ys. str_decs_height (str_decs_of ys))
str_decs_on = higher str_dec_of str_dec_height (λ ys. str_decs_height (str_decs_of ys)) (λ ys y. str_decs-push ys y)

str_binds-push : (ys : List (R.StrBind Place)) (y : R.StrBind Place) → str_binds_height (str_binds_of (ys ++ y ∷ [])) ≡ max (str_bind_height y) (str_binds_height (str_binds_of ys))
str_binds-push [] y = refl
str_binds-push (z ∷ ys) y = let h = str_binds-push ys y in omega (arith, h)

pub str_binds_on : Goes_on str_bind_of str_bind_height (λ ys. str_binds_height (str_binds_of ys))
str_binds_on = higher str_bind_of str_bind_height (λ ys. str_binds_height (str_binds_of ys)) (λ ys y. str_binds-push ys y)

pub typ_binds_on : Goes_on typ_bind_of typ_bind_height (highest typ_bind_height)
typ_binds_on = higher typ_bind_of typ_bind_height (highest typ_bind_height) (highest-push typ_bind_height)

pub con_binds_on : Goes_on con_bind_of con_bind_height (highest con_bind_height)
con_binds_on = higher con_bind_of con_bind_height (highest con_bind_height) (highest-push con_bind_height)

pub dat_binds_on : Goes_on dat_bind_of dat_bind_height (highest dat_bind_height)
dat_binds_on = higher dat_bind_of dat_bind_height (highest dat_bind_height) (highest-push dat_bind_height)

pub exn_binds_on : Goes_on exn_bind_of exn_bind_height (highest exn_bind_height)
exn_binds_on = higher exn_bind_of exn_bind_height (highest exn_bind_height) (highest-push exn_bind_height)

pub val_descs_on : Goes_on val_desc_of val_desc_height (highest val_desc_height)
val_descs_on = higher val_desc_of val_desc_height (highest val_desc_height) (highest-push val_desc_height)

pub sig_binds_on : Goes_on sig_bind_of sig_bind_height (highest sig_bind_height)
sig_binds_on = higher sig_bind_of sig_bind_height (highest sig_bind_height) (highest-push sig_bind_height)

pub fun_binds_on : Goes_on fun_bind_of fun_bind_height (highest fun_bind_height)
fun_binds_on = higher fun_bind_of fun_bind_height (highest fun_bind_height) (highest-push fun_bind_height)
