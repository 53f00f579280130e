-- What a long identifier of a value finds, by what stands at the end of its path.
use Rattle.std.proofs.Common.{◌≡◌, List, [], Option, Some, None, Ok, Err, ℕ, Bool, true, false, not, ◌&&◌, codes, refl, ap, sym, ◌∙◌}
use Rattle.std.specs.Borrow.{Bor}
use Rattle.std.specs.Option.{option_map}
use Rattle.std.specs.Ordering.{is_eq}
use Rattle.std.specs.Str.{bytes_eq}
use Rattle.std.specs.declared.cmp.Ordering.{Ordering}
use Rattle.std.specs.declared.cmp.Ordering.TheVariants.{Less, Equal, Greater}
use Rattle.std.proofs.lemmas.Map.Text.{is_eq-slice_cmp}
use Rattle.sml_lex.specs.declared.fault.Place.{Place}
use Rattle.sml_tree.specs.Trees.{Id, LongId}
use Rattle.sml_objects.specs.Initial.{Name}
use Rattle.sml_objects.specs.Maps.{by_order, lookup, order_of}
use Rattle.sml_rules.specs.Lookups.{Found, found, no_path, entry}
use Rattle.sml_core_rules.specs.Closing.{found_constructs}
use Rattle.sml_core_rules.specs.Lookups.{find_at, is_same, value_at}
use Rattle.sml_core_rules.specs.Values.{constructs}
use Rattle.sml_core_rules.specs.Objects as O
use Rattle.sml_bases.specs.Views.{status_of, value_of}
use Rattle.sml_bases.specs.declared.objects.Value.{Value}
use Rattle.sml_types.specs.Answered.{LeadsTo, TellsOf, env_at}
use Rattle.sml_types.specs.declared.fault.CoreFault.{CoreFault}
use Rattle.sml_types.specs.declared.fault.CoreFault.TheVariants.{Memory, Fault}
use Rattle.sml_types.proofs.Paths.{by-env, then-entry}
use Rattle.sml_scopes.specs.CodeScopes.{structure_in, type_in}
use Rattle.sml_scopes.specs.Found.{Finds}
use Rattle.sml_scopes.specs.Means.{Means}
use Rattle.sml_scopes.specs.declared.scopes.Scopes.{Scopes}

-- scopes tell of the environment that they mean
pub scopes-tell : (s : Scopes) (C : O.Env Name) → Means s C → TellsOf (λ x o. o ≡ structure_in s x) (λ x o. o ≡ type_in s x) C
scopes-tell s C m = record {
  structures_are = λ x o e. e ∙ m.structures_are x;
  types_are = λ x o e. e ∙ m.types_are x;
}

value-short : (C : O.Env Name) (x : LongId) → x.path ≡ [] → value_at C x ≡ entry (lookup x.last (O.values C))
unfolding value_at find_at
value-short C x e = ap (λ path. find_at (λ E. lookup x.last (O.values E)) [] path C) e

value-long : (C E : O.Env Name) (x : LongId) → env_at C x.path ≡ found E → value_at C x ≡ entry (lookup x.last (O.values E))
unfolding value_at
value-long C E x h = by-env (λ E. lookup x.last (O.values E)) [] x.path C ∙ ap (then-entry (λ E. lookup x.last (O.values E))) h

value-nowhere : (C : O.Env Name) (x : LongId) (s : List Id) → env_at C x.path ≡ no_path s → value_at C x ≡ no_path s
unfolding value_at
value-nowhere C x s h = by-env (λ E. lookup x.last (O.values E)) [] x.path C ∙ ap (then-entry (λ E. lookup x.last (O.values E))) h

finds-entry : (p : Place) (r : Option (Bor Value)) (f : Found (O.Value Name)) → f ≡ entry (option_map (λ v. value_of v.now) r) → Finds p (Ok r) f
finds-entry p None f e = e
finds-entry p (Some v) f e = e

pub finds-short : (C : O.Env Name) (p : Place) (x : LongId) (r : Option (Bor Value)) → x.path ≡ [] → option_map (λ v. value_of v.now) r ≡ lookup x.last (O.values C) → Finds p (Ok r) (value_at C x)
finds-short C p x r e h = finds-entry p r (value_at C x) (value-short C x e ∙ ap entry (sym h))

pub finds-long : (C E : O.Env Name) (p : Place) (x : LongId) (r : Option (Bor Value)) → env_at C x.path ≡ found E → option_map (λ v. value_of v.now) r ≡ lookup x.last (O.values E) → Finds p (Ok r) (value_at C x)
finds-long C E p x r e h = finds-entry p r (value_at C x) (value-long C E x e ∙ ap entry (sym h))

pub finds-nowhere : (C : O.Env Name) (p : Place) (x : LongId) (f : CoreFault) → LeadsTo C p x.path (Err f) → Finds p (Err f) (value_at C x)
finds-nowhere C p x Memory h = tt
finds-nowhere C p x (Fault g) (s, h, k) = (s, value-nowhere C x s h, k)

same-by : (o : Ordering) → by_order o false true false ≡ is_eq o
same-by Less = refl
same-by Equal = refl
same-by Greater = refl

-- a constructor that isn't `ref`
pub found-value : (x : Id) (f : Found (O.Value Name)) (v : Value) (is r : Bool) (left right : List ℕ) → f ≡ found (value_of v) → is ≡ constructs (status_of v.status) → is ≡ true
    → r ≡ not (bytes_eq left right) → left ≡ x → right ≡ codes "ref" → r ≡ found_constructs x f
found-value x f v is r left right e k t h l q =
    h
    ∙ (λ i. not (bytes_eq (l i) (q i)))
    ∙ ap not (sym (same-by (order_of x (codes "ref")) ∙ is_eq-slice_cmp x (codes "ref")))
    ∙ ap (λ b. b && not (is_same x (codes "ref"))) (sym (sym k ∙ t))
    ∙ ap (found_constructs x) (sym e)
