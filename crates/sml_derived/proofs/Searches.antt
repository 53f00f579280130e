-- Looking for a variable or a type constructor in a list, from its front on.
use Rattle.std.proofs.Common.{◌≡◌, ℕ, zero, suc, ◌+◌, ◌<◌, ◌≤◌, List, [], ◌∷◌, map, drop, length, get_or, refl, ap, sym, ◌∙◌, Bool, true, false, Option, Some, None, if◌then◌else◌, nat_eq, arith}
use Rattle.std.proofs.lemmas.List.{drop_all}
use Rattle.std.specs.Str.{bytes_eq}
use Rattle.sml_lex.specs.declared.fault.Place.{Place}
use Rattle.sml_tree.specs.Trees.{Id}
use Rattle.sml_tree.specs.Views.{ident_of}
use Rattle.sml_tree.specs.Types as T
use Rattle.sml_tree.specs.TypeViews.{names_of, ty_of, tys_of, ty_fields_of, ty_field_of}
use Rattle.sml_tree.specs.Names as N
use Rattle.sml_tree.specs.Expressions as E
use Rattle.sml_tree.specs.BindingViews.{typ_bind_of}
use Rattle.sml_tree.specs.declared.names.Name.{Name}
use Rattle.sml_tree.specs.declared.types.Ty.{Ty}
use Rattle.sml_tree.specs.declared.types.TyField.{TyField}
use Rattle.sml_tree.specs.declared.expressions.TypBind.{TypBind}
use Rattle.sml_tree.proofs.Lists.{opened}
use Rattle.sml_tree.specs.Withtype.{applied, count_tys, argument, first_ty, other_tys, bound, instance, instances, field_instance, field_instances, replaced, all_replaced, field_replaced, fields_replaced}

pub bound_found : (c : Id) (bs : List TypBind) (i : ℕ) (b : TypBind) (same : Bool) → i < length bs → b ≡ get_or bs i b → same ≡ bytes_eq c (ident_of b.name.ident) → same ≡ true
    → bound c (map typ_bind_of (drop i bs)) ≡ Some (typ_bind_of b)
bound_found c bs i b same within e made found =
    ap (λ ys. bound c (map typ_bind_of ys)) (opened bs i b within e)
    ∙ ap (λ t. if t then Some (typ_bind_of b) else bound c (map typ_bind_of (drop (i + 1) bs))) (sym made ∙ found)

pub bound_next : (c : Id) (bs : List TypBind) (i : ℕ) (b : TypBind) (same : Bool) → i < length bs → b ≡ get_or bs i b → same ≡ bytes_eq c (ident_of b.name.ident) → same ≡ false
    → bound c (map typ_bind_of (drop i bs)) ≡ bound c (map typ_bind_of (drop (i + 1) bs))
bound_next c bs i b same within e made other =
    ap (λ ys. bound c (map typ_bind_of ys)) (opened bs i b within e)
    ∙ ap (λ t. if t then Some (typ_bind_of b) else bound c (map typ_bind_of (drop (i + 1) bs))) (sym made ∙ other)

pub bound_nowhere : (c : Id) (bs : List TypBind) (i : ℕ) → length bs ≤ i → bound c (map typ_bind_of (drop i bs)) ≡ None
bound_nowhere c bs i over = ap (λ ys. bound c (map typ_bind_of ys)) (drop_all i bs over)

others_of : (ts : List Ty) (i : ℕ) → other_tys (tys_of (map ty_of (drop i ts))) ≡ tys_of (map ty_of (drop (suc i) ts))
others_of [] zero = refl
others_of (t ∷ ts) zero = refl
others_of [] (suc i) = refl
others_of (t ∷ ts) (suc i) = others_of ts i

-- the argument in the place of a variable, looked for from the i-th on
abbrev pub argument_from : Id → List Name → List Ty → ℕ → Option (T.Ty Place)
argument_from v xs ts i = argument v (names_of (drop i xs)) (tys_of (map ty_of (drop i ts)))

pub argument_found : (v : Id) (xs : List Name) (ts : List Ty) (i : ℕ) (x : Name) (same : Bool) → i < length xs → x ≡ get_or xs i x → same ≡ bytes_eq v (ident_of x.ident) → same ≡ true
    → argument_from v xs ts i ≡ first_ty (tys_of (map ty_of (drop i ts)))
argument_found v xs ts i x same within e made found =
    ap (λ ys. argument v (names_of ys) (tys_of (map ty_of (drop i ts)))) (opened xs i x within e)
    ∙ ap (λ t. if t then first_ty (tys_of (map ty_of (drop i ts))) else argument v (names_of (drop (i + 1) xs)) (other_tys (tys_of (map ty_of (drop i ts))))) (sym made ∙ found)

pub argument_next : (v : Id) (xs : List Name) (ts : List Ty) (i : ℕ) (x : Name) (same : Bool) → i < length xs → x ≡ get_or xs i x → same ≡ bytes_eq v (ident_of x.ident) → same ≡ false
    → argument_from v xs ts i ≡ argument_from v xs ts (i + 1)
argument_next v xs ts i x same within e made other =
    ap (λ ys. argument v (names_of ys) (tys_of (map ty_of (drop i ts)))) (opened xs i x within e)
    ∙ ap (λ t. if t then first_ty (tys_of (map ty_of (drop i ts))) else argument v (names_of (drop (i + 1) xs)) (other_tys (tys_of (map ty_of (drop i ts))))) (sym made ∙ other)
    ∙ ap (argument v (names_of (drop (i + 1) xs))) (others_of ts i ∙ ap (λ j. tys_of (map ty_of (drop j ts))) (let a : suc i ≡ i + 1 = omega arith in a))

pub argument_nowhere : (v : Id) (xs : List Name) (ts : List Ty) (i : ℕ) → length xs ≤ i → argument_from v xs ts i ≡ None
argument_nowhere v xs ts i over = ap (λ ys. argument v (names_of ys) (tys_of (map ty_of (drop i ts)))) (drop_all i xs over)

pub ty_at : (ts : List Ty) (i : ℕ) (t : Ty) → i < length ts → t ≡ get_or ts i t → first_ty (tys_of (map ty_of (drop i ts))) ≡ Some (ty_of t)
ty_at ts i t within e = ap (λ us. first_ty (tys_of (map ty_of us))) (opened ts i t within e)

pub no_ty_at : (ts : List Ty) (i : ℕ) → length ts ≤ i → first_ty (tys_of (map ty_of (drop i ts))) ≡ None
no_ty_at ts i over = ap (λ us. first_ty (tys_of (map ty_of us))) (drop_all i ts over)

pub count_is_length : (ts : List Ty) → count_tys (tys_of (map ty_of ts)) ≡ length ts
count_is_length [] = refl
count_is_length (t ∷ ts) = ap suc (count_is_length ts)

-- from the binding of a type constructor, by its number of arguments

pub rightly_applied : (p : Place) (ts : T.Tys Place) (c : N.LongName Place) (b : E.TypBind Place) (same : Bool) → same ≡ nat_eq (length b.variables) (count_tys ts) → same ≡ true
    → applied p ts c (Some b) ≡ instance b.variables ts b.ty
rightly_applied p ts c b same made found = ap (λ t. if t then instance b.variables ts b.ty else T.ty_misapplied p ts c) (sym made ∙ found)

pub wrongly_applied : (p : Place) (ts : T.Tys Place) (c : N.LongName Place) (b : E.TypBind Place) (same : Bool) → same ≡ nat_eq (length b.variables) (count_tys ts) → same ≡ false
    → applied p ts c (Some b) ≡ T.ty_misapplied p ts c
wrongly_applied p ts c b same made other = ap (λ t. if t then instance b.variables ts b.ty else T.ty_misapplied p ts c) (sym made ∙ other)

-- lists of types, each changed

pub instances-map : (xs : List (N.Name Place)) (ts : T.Tys Place) (us : List Ty) → tys_of (map (λ u. instance xs ts (ty_of u)) us) ≡ instances xs ts (tys_of (map ty_of us))
instances-map xs ts [] = refl
instances-map xs ts (u ∷ us) = ap (T.and_ty (instance xs ts (ty_of u))) (instances-map xs ts us)

pub field_instances-map : (xs : List (N.Name Place)) (ts : T.Tys Place) (fs : List TyField) → ty_fields_of (map (λ f. field_instance xs ts (ty_field_of f)) fs) ≡ field_instances xs ts (ty_fields_of (map ty_field_of fs))
field_instances-map xs ts [] = refl
field_instances-map xs ts (f ∷ fs) = ap (T.and_ty_field (field_instance xs ts (ty_field_of f))) (field_instances-map xs ts fs)

pub replaced-map : (bs : List (E.TypBind Place)) (us : List Ty) → tys_of (map (λ u. replaced bs (ty_of u)) us) ≡ all_replaced bs (tys_of (map ty_of us))
replaced-map bs [] = refl
replaced-map bs (u ∷ us) = ap (T.and_ty (replaced bs (ty_of u))) (replaced-map bs us)

pub fields_replaced-map : (bs : List (E.TypBind Place)) (fs : List TyField) → ty_fields_of (map (λ f. field_replaced bs (ty_field_of f)) fs) ≡ fields_replaced bs (ty_fields_of (map ty_field_of fs))
fields_replaced-map bs [] = refl
fields_replaced-map bs (f ∷ fs) = ap (T.and_ty_field (field_replaced bs (ty_field_of f))) (fields_replaced-map bs fs)
