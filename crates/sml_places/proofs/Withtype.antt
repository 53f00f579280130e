-- The datatypes before `withtype` with other places.
use Rattle.std.specs.Prelude.{◌≡◌, nat_eq, suc, Bool, true, false, List, [], ◌∷◌, length, map, Option, Some, None, if◌then◌else◌}
use Rattle.std.specs.Option.{option_map}
use Rattle.std.specs.Str.{bytes_eq}
use Rattle.std.proofs.lemmas.List.{length-map}
use mathlib.Core.Path.{refl, ap, ◌∙◌}
use Rattle.sml_tree.specs.Trees.{Id}
use Rattle.sml_tree.specs.Names.{Name, LongName}
use Rattle.sml_tree.specs.Types.{Ty, Tys, TyFields, ty_variable, ty_row, ty_tuple, ty_constructor, ty_misapplied, ty_arrow, ty_bracket, no_ty, and_ty, ty_field, no_ty_field, and_ty_field}
use Rattle.sml_tree.specs.Expressions.{TypBind, ConBind, DatBind}
use Rattle.sml_tree.specs.Withtype.{first_ty, other_tys, argument, either, unlisted, instance, instances, field_instances, count_tys, bound, binding, applied, replaced, all_replaced, fields_replaced, con_replaced, dat_replaced}
use Rattle.sml_places.specs.Places.{place_name, place_long, place_names, place_ty, place_tys, place_ty_fields, place_optional, place_typ_bind, place_con_bind, place_dat_bind}

-- one of two things, each with other places
one-placed : {X Y : Type 0} (g : X → Y) (b : Bool) (x y : X) → (if b then g x else g y) ≡ g (if b then x else y)
one-placed g true x y = refl
one-placed g false x y = refl

module _ {P Q : Type 0} (f : P → Q) where
  first-placed : (ts : Tys P) → first_ty (place_tys f ts) ≡ place_optional f (first_ty ts)
  unfolding place_tys
  first-placed no_ty = refl
  first-placed (and_ty t ts) = refl

  others-placed : (ts : Tys P) → other_tys (place_tys f ts) ≡ place_tys f (other_tys ts)
  unfolding place_tys
  others-placed no_ty = refl
  others-placed (and_ty t ts) = refl

  argument-placed : (v : Id) (xs : List (Name P)) (ts : Tys P) → argument v (place_names f xs) (place_tys f ts) ≡ place_optional f (argument v xs ts)
  argument-placed v [] ts = refl
  argument-placed v (x ∷ xs) ts =
      (λ i. if bytes_eq v x.id then first-placed ts i else argument v (place_names f xs) (others-placed ts i))
      ∙ ((λ i. if bytes_eq v x.id then place_optional f (first_ty ts) else argument-placed v xs (other_tys ts) i)
      ∙ one-placed (place_optional f) (bytes_eq v x.id) (first_ty ts) (argument v xs (other_tys ts)))

  either-placed : (t : Ty P) (u : Option (Ty P)) → either (place_ty f t) (place_optional f u) ≡ place_ty f (either t u)
  either-placed t None = refl
  either-placed t (Some u) = refl

  mutual
    unfolding place_ty place_tys place_ty_fields

    instance-placed : (xs : List (Name P)) (ts : Tys P) (t : Ty P) → instance (place_names f xs) (place_tys f ts) (place_ty f t) ≡ place_ty f (instance xs ts t)
    instance-placed xs ts (ty_variable p v) =
        (λ i. either (ty_variable (f p) unlisted) (argument-placed v xs ts i)) ∙ either-placed (ty_variable p unlisted) (argument v xs ts)
    instance-placed xs ts (ty_row p fs) = ap (ty_row (f p)) (fields-placed xs ts fs)
    instance-placed xs ts (ty_tuple p us) = ap (ty_tuple (f p)) (instances-placed xs ts us)
    instance-placed xs ts (ty_constructor p us c) = λ i. ty_constructor (f p) (instances-placed xs ts us i) (place_long f c)
    instance-placed xs ts (ty_misapplied p us c) = λ i. ty_misapplied (f p) (instances-placed xs ts us i) (place_long f c)
    instance-placed xs ts (ty_arrow p t u) = λ i. ty_arrow (f p) (instance-placed xs ts t i) (instance-placed xs ts u i)
    instance-placed xs ts (ty_bracket p t) = ap (ty_bracket (f p)) (instance-placed xs ts t)

    instances-placed : (xs : List (Name P)) (ts us : Tys P) → instances (place_names f xs) (place_tys f ts) (place_tys f us) ≡ place_tys f (instances xs ts us)
    instances-placed xs ts no_ty = refl
    instances-placed xs ts (and_ty u us) = λ i. and_ty (instance-placed xs ts u i) (instances-placed xs ts us i)

    fields-placed : (xs : List (Name P)) (ts : Tys P) (fs : TyFields P) → field_instances (place_names f xs) (place_tys f ts) (place_ty_fields f fs) ≡ place_ty_fields f (field_instances xs ts fs)
    fields-placed xs ts no_ty_field = refl
    fields-placed xs ts (and_ty_field (ty_field l u) fs) = λ i. and_ty_field (ty_field (place_name f l) (instance-placed xs ts u i)) (fields-placed xs ts fs i)

  count-placed : (ts : Tys P) → count_tys (place_tys f ts) ≡ count_tys ts
  unfolding place_tys
  count-placed no_ty = refl
  count-placed (and_ty t ts) = ap suc (count-placed ts)

  bound-placed : (c : Id) (bs : List (TypBind P)) → bound c (map (place_typ_bind f) bs) ≡ option_map (place_typ_bind f) (bound c bs)
  bound-placed c [] = refl
  bound-placed c (b ∷ bs) =
      (λ i. if bytes_eq c b.name.id then Some (place_typ_bind f b) else bound-placed c bs i)
      ∙ one-placed (option_map (place_typ_bind f)) (bytes_eq c b.name.id) (Some b) (bound c bs)

  binding-placed : (path : List Id) (c : Id) (bs : List (TypBind P)) → binding path c (map (place_typ_bind f) bs) ≡ option_map (place_typ_bind f) (binding path c bs)
  binding-placed [] c bs = bound-placed c bs
  binding-placed (s ∷ path) c bs = refl

  applied-placed : (p : P) (ts : Tys P) (c : LongName P) (b : Option (TypBind P)) → applied (f p) (place_tys f ts) (place_long f c) (option_map (place_typ_bind f) b) ≡ place_ty f (applied p ts c b)
  unfolding place_ty
  applied-placed p ts c None = refl
  applied-placed p ts c (Some b) =
      (λ i.
      if nat_eq (length-map b.variables (place_name f) i) (count-placed ts i) then instance-placed b.variables ts b.ty i else ty_misapplied (f p) (place_tys f ts) (place_long f c))
      ∙ one-placed (place_ty f) (nat_eq (length b.variables) (count_tys ts)) (instance b.variables ts b.ty) (ty_misapplied p ts c)

  mutual
    unfolding place_ty place_tys place_ty_fields

    replaced-placed : (bs : List (TypBind P)) (t : Ty P) → replaced (map (place_typ_bind f) bs) (place_ty f t) ≡ place_ty f (replaced bs t)
    replaced-placed bs (ty_variable p v) = refl
    replaced-placed bs (ty_row p fs) = ap (ty_row (f p)) (fields-replaced-placed bs fs)
    replaced-placed bs (ty_tuple p us) = ap (ty_tuple (f p)) (all-replaced-placed bs us)
    replaced-placed bs (ty_constructor p us c) =
        (λ i. applied (f p) (all-replaced-placed bs us i) (place_long f c) (binding-placed c.id.path c.id.last bs i))
        ∙ applied-placed p (all_replaced bs us) c (binding c.id.path c.id.last bs)
    replaced-placed bs (ty_misapplied p us c) = λ i. ty_misapplied (f p) (all-replaced-placed bs us i) (place_long f c)
    replaced-placed bs (ty_arrow p t u) = λ i. ty_arrow (f p) (replaced-placed bs t i) (replaced-placed bs u i)
    replaced-placed bs (ty_bracket p t) = ap (ty_bracket (f p)) (replaced-placed bs t)

    all-replaced-placed : (bs : List (TypBind P)) (us : Tys P) → all_replaced (map (place_typ_bind f) bs) (place_tys f us) ≡ place_tys f (all_replaced bs us)
    all-replaced-placed bs no_ty = refl
    all-replaced-placed bs (and_ty u us) = λ i. and_ty (replaced-placed bs u i) (all-replaced-placed bs us i)

    fields-replaced-placed : (bs : List (TypBind P)) (fs : TyFields P) → fields_replaced (map (place_typ_bind f) bs) (place_ty_fields f fs) ≡ place_ty_fields f (fields_replaced bs fs)
    fields-replaced-placed bs no_ty_field = refl
    fields-replaced-placed bs (and_ty_field (ty_field l u) fs) = λ i. and_ty_field (ty_field (place_name f l) (replaced-placed bs u i)) (fields-replaced-placed bs fs i)

  optional-placed : (bs : List (TypBind P)) (t : Option (Ty P)) → option_map (replaced (map (place_typ_bind f) bs)) (place_optional f t) ≡ place_optional f (option_map (replaced bs) t)
  optional-placed bs None = refl
  optional-placed bs (Some t) = ap Some (replaced-placed bs t)

  constructors-placed : (bs : List (TypBind P)) (cs : List (ConBind P)) → map (con_replaced (map (place_typ_bind f) bs)) (map (place_con_bind f) cs) ≡ map (place_con_bind f) (map (con_replaced bs) cs)
  constructors-placed bs [] = refl
  constructors-placed bs (c ∷ cs) = λ i. record { name = place_name f c.name; argument = optional-placed bs c.argument i } ∷ constructors-placed bs cs i

  pub datatypes-placed : (bs : List (TypBind P)) (ds : List (DatBind P)) → map (dat_replaced (map (place_typ_bind f) bs)) (map (place_dat_bind f) ds) ≡ map (place_dat_bind f) (map (dat_replaced bs) ds)
  datatypes-placed bs [] = refl
  datatypes-placed bs (d ∷ ds) = λ i.
      record { variables = place_names f d.variables; name = place_name f d.name; constructors = constructors-placed bs d.constructors i } ∷ datatypes-placed bs ds i
