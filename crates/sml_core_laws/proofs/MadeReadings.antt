-- What is read of type expressions speaks of what was made.
use Rattle.std.specs.Prelude.{◌<◌, ℕ, List, []}
use Rattle.std.specs.List.Sorted.{IsStrictlySortedBy}
use mathlib.Core.Path.{sym, subst}
use Rattle.sml_tree.specs.Types.{Ty, Tys, TyFields, ty_variable, ty_row, ty_tuple, ty_constructor, ty_misapplied, ty_arrow, ty_bracket, no_ty, and_ty, ty_field, no_ty_field, and_ty_field}
use Rattle.sml_objects.specs.Maps.{Map}
use Rattle.sml_objects.specs.Names.{Naming}
use Rattle.sml_objects.specs.Objects.{MlType, MlTypes, Head, bound, free}
use Rattle.sml_objects.specs.Types.{argument}
use Rattle.sml_core_rules.specs.Objects.{Env}
use Rattle.sml_core_rules.specs.Rules.{Means, MeanAll, MeanFields}
use Rattle.sml_core_rules.specs.Types.{Fields, put_field}
use Rattle.sml_core_laws.specs.Made.{Speaks, AllSpeak, IsHeadIn, IsEnvIn}
use Rattle.sml_core_laws.proofs.MadeShapes.{IsShape, Rise, put-rises, row-speaks}
use Rattle.sml_core_laws.proofs.MadeTypes.{replaced-speaks, argument-speaks, Each, each-lookup, each-field}
use Rattle.sml_core_laws.proofs.MadeEnvs.{type-found}

module _ {N : Type 0} (naming : Naming N) (S : Head N → ℕ → Type 0) (shape : IsShape naming S) (names : List N) (B V : ℕ → Type 0) where
  abbrev Good : MlType N → Type 0
  Good t = Speaks B V (IsHeadIn S names) t

  abbrev AllGood : MlTypes N → Type 0
  AllGood ts = AllSpeak B V (IsHeadIn S names) ts

  abbrev FieldsGood : Fields (MlType N) → Type 0
  FieldsGood fs = Each Good fs × Rise fs

  module _ {P : Type 0} (made : ℕ) (C : Env N) (inside : IsEnvIn S made names C) (vs : Map (MlType N)) (given : Each Good vs) where
    mutual
      unfolding Speaks Means IsStrictlySortedBy

      pub ty-speaks : (u : Ty P) (t : MlType N) → Means C vs u t → Good t
      ty-speaks (ty_variable p x) t h = each-lookup Good x vs t given h
      ty-speaks (ty_row p fs) t (us, h, e) =
          let f = fields-good [] fs us (tt, tt) h in subst Good (sym e) (row-speaks B V (IsHeadIn S names) us (λ ls r. (tt, shape.rows ls r)) f.0 f.1)
      ty-speaks (ty_tuple p us) t (ts, h, e) = subst Good (sym e) ((tt, shape.tuples ts), tys-speak us ts h)
      ty-speaks (ty_constructor p us c) t (ts, s, h, f, k, e) =
          subst Good (sym e)
          (replaced-speaks (argument ts) free _ _ B V (IsHeadIn S names) (IsHeadIn S names) s.function.body (type-found S made names C c.id s inside f).0
          (λ j l. argument-speaks B V (IsHeadIn S names) (bound j) ts j (subst (λ n. j < n) k l) (tys-speak us ts h)) (λ v l. absurd l) (λ h k q. q))
      ty-speaks (ty_misapplied p us c) t h = absurd h
      ty-speaks (ty_arrow p u v) t (a, b, h, k, e) = subst Good (sym e) ((tt, shape.arrows), (ty-speaks u a h, (ty-speaks v b k, tt)))
      ty-speaks (ty_bracket p u) t h = ty-speaks u t h

      tys-speak : (us : Tys P) (ts : MlTypes N) → MeanAll C vs us ts → AllGood ts
      tys-speak no_ty ts h = subst AllGood (sym h) tt
      tys-speak (and_ty u us) ts (t, rest, h, k, e) = subst AllGood (sym e) (ty-speaks u t h, tys-speak us rest k)

      fields-good : (fs : Fields (MlType N)) (es : TyFields P) (us : Fields (MlType N)) → FieldsGood fs → MeanFields C vs fs es us → FieldsGood us
      fields-good fs no_ty_field us m h = subst FieldsGood (sym h) m
      fields-good fs (and_ty_field (ty_field l u) es) us m (t, h, k) =
          fields-good (put_field l.id t fs) es us (each-field Good l.id t fs (ty-speaks u t h) m.0, put-rises l.id t fs m.1) k
