-- Variables, labels and constructors that are numbered in order.
use Rattle.std.proofs.Common.{◌≡◌, ◌++◌, ◌∷◌, ◌+◌, ℕ, zero, suc, Bool, false, List, [], length, decimal, replicate, refl, ap, sym, ◌∙◌, arith, Vec, Global}
use Rattle.std.proofs.lemmas.List.{length-map, map-append}
use Rattle.std.specs.BTreeMap.{insert_entry}
use Rattle.std.specs.declared.rc.Rc.{Rc}
use Rattle.sml_tree.specs.Trees.{Id}
use Rattle.sml_objects.specs.Labels.{numbers}
use Rattle.sml_tree.specs.Views.{ident_of}
use Rattle.sml_objects.specs.Maps.{Map, join, order_of, put}
use Rattle.sml_objects.specs.Views.{entries_of, scheme_of, schemes_of}
use Rattle.sml_objects.specs.declared.objects.Scheme.{Scheme}
use Rattle.sml_objects.proofs.EnvViews.{entries-put}
use Rattle.sml_objects.proofs.Joins.{join-push}
use Rattle.sml_bases.specs.Views.{value_of}
use Rattle.sml_bases.specs.declared.objects.Status.TheVariants.{Constructor}
use Rattle.sml_bases.specs.declared.objects.Value as P
use Rattle.sml_objects.specs.Objects as O
use Rattle.sml_objects.specs.Objects.{types_of, labels_of}
use Rattle.sml_objects.specs.Initial.{Name}
use Rattle.sml_core_rules.specs.Objects.{Value, constructor}
use Rattle.sml_core_rules.specs.Datatypes.{constructors_from, name_function, types_from}

-- so many bound variables from k on
abbrev pub bound_from : ℕ → ℕ → List (O.MlType Name)
bound_from k zero = []
bound_from k (suc n) = O.bound k ∷ bound_from (suc k) n

pub bound-push : (k n j : ℕ) → j ≡ k + n → bound_from k n ++ (O.bound j ∷ []) ≡ bound_from k (suc n)
bound-push k zero j e = ap (λ i. O.bound i ∷ []) (omega (arith, e))
bound-push k (suc n) j e = ap (λ l. O.bound k ∷ l) (bound-push (suc k) n j (omega (arith, e)))

pub bound-types : (k n : ℕ) → types_of (bound_from k n) ≡ types_from O.bound k n
bound-types k zero = refl
bound-types k (suc n) = ap (O.and_type (O.bound k)) (bound-types (suc k) n)

pub tuple-labels : (k : ℕ) (ts : List (O.MlType Name)) → numbers k (length ts) ≡ labels_of k (types_of ts)
tuple-labels k [] = refl
tuple-labels k (t ∷ ts) = ap (λ l. decimal k ∷ l) (tuple-labels (suc k) ts)

-- a constructor more
pub constructor-push : (k n j : ℕ) (cs : Map (O.Scheme Name)) (x : Id) (s : O.Scheme Name) → j ≡ k + length cs
    → constructors_from k n (cs ++ ((x, s) ∷ [])) ≡ constructors_from k n cs ++ ((x, record { scheme = s; status = constructor j n }) ∷ [])
constructor-push k n j [] x s e = ap (λ i. ((x, record { scheme = s; status = constructor i n }) ∷ [])) (omega (arith, e))
constructor-push k n j (c ∷ cs) x s e =
    ap (λ l. (c.0, record { scheme = c.1; status = constructor k n }) ∷ l) (constructor-push (suc k) n j cs x s (omega (arith, e)))

-- the scheme of these variables and this body, which is a name alone
pub named-scheme : (m : Name) (k : ℕ) (flags : List Bool) (body : O.MlType Name) → flags ≡ replicate k false
    → body ≡ O.app (O.name m) (types_of (bound_from 0 k)) → ◌≡◌ {A = O.Scheme Name} (record { variables = flags; body = body }) (name_function m k)
named-scheme m k flags body f b = λ i. record { variables = f i; body = (b ∙ ap (O.app (O.name m)) (bound-types 0 k)) i }

abbrev Key : Type 0
Key = Rc (Vec ℕ Global) Global

-- a constructor more, put among values
pub constructors-next : (n : ℕ) (before : Map (Value Name)) (old new : List (Key × P.Value)) (ys zs : List (Key × Rc Scheme Global)) (k x : Key) (s t : Rc Scheme Global) (number : ℕ)
    → new ≡ insert_entry (λ x y. order_of (ident_of x) (ident_of y)) old k (record { scheme = s; status = Constructor number n }) → zs ≡ ys ++ ((x, t) ∷ []) → ident_of k ≡ ident_of x
    → scheme_of s.value ≡ scheme_of t.value → number ≡ length ys
    → entries_of value_of old ≡ join before (constructors_from 0 n (schemes_of ys)) → entries_of value_of new ≡ join before (constructors_from 0 n (schemes_of zs))
constructors-next n before old new ys zs k x s t number inserted yielded key same at h =
    let count : number ≡ 0 + length (schemes_of ys) = omega (arith, at, length-map {B = Id × O.Scheme Name} ys (λ e. (ident_of e.0, scheme_of e.1.value))) in
    let push : constructors_from 0 n (schemes_of zs) ≡ constructors_from 0 n (schemes_of ys) ++ ((ident_of x, record { scheme = scheme_of t.value; status = constructor number n }) ∷ []) =
    ap (λ l. constructors_from 0 n (schemes_of l)) yielded
    ∙ ap (constructors_from 0 n) (map-append (λ (e : Key × Rc Scheme Global). (ident_of e.0, scheme_of e.1.value)) ys ((x, t) ∷ []))
    ∙ constructor-push 0 n number (schemes_of ys) (ident_of x) (scheme_of t.value) count in
    ap (entries_of value_of) inserted
    ∙ entries-put value_of old k (record { scheme = s; status = Constructor number n })
    ∙ (λ i. put (key i) (record { scheme = same i; status = constructor number n }) (h i))
    ∙ sym (join-push before (constructors_from 0 n (schemes_of ys)) (ident_of x) (record { scheme = scheme_of t.value; status = constructor number n }))
    ∙ ap (join before) (sym push)
