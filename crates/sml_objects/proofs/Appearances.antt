-- The order of appearance, part by part.
use Rattle.std.proofs.Common.{◌≡◌, ℕ, cond, List, [], ◌∷◌, ◌++◌, map, refl, ap, ◌∙◌, sym, Vec, Global, append_assoc}
use Rattle.std.proofs.lemmas.List.{map-append}
use Rattle.std.specs.List.{list_any}
use Rattle.std.specs.Bool.{if◌then◌else◌}
use Rattle.std.specs.declared.rc.Rc.{Rc}
use Rattle.sml_tree.specs.Trees.{Id}
use Rattle.sml_objects.specs.Maps.{Map}
use Rattle.sml_objects.specs.Objects as O
use Rattle.sml_objects.specs.Initial.{Name, naming}
use Rattle.sml_objects.specs.Appearance.{stands, firsts_after, appear_type, appear_types, appear_map, appear_env, appear_structures}
use Rattle.sml_objects.specs.Objects.{types_of}
use Rattle.sml_objects.specs.Views.{type_of, name_of, structures_of, schemes_of, entries_of, env_of}
use Rattle.sml_objects.specs.declared.labels.Labels.{Labels}
use Rattle.sml_objects.specs.declared.objects.TyName.{TyName}
use Rattle.sml_objects.specs.declared.objects.MlType.{MlType, Bound, Free}
use Rattle.sml_objects.specs.declared.objects.MlType.TheViews as V
use Rattle.sml_objects.specs.declared.objects.Env.{Env}
use Rattle.sml_objects.specs.declared.objects.Env.TheOpen.{Env-F}
use Rattle.sml_objects.proofs.EnvViews.{parts}
use Rattle.sml_objects.proofs.NameTests.{eq, inserted}
use Rattle.sml_objects.proofs.TypeViews.{parts_of, type_of-bound, type_of-free, type_of-row, type_of-arrow, type_of-name}

pub firsts-append : (seen ms ns : List Name) → firsts_after naming seen (ms ++ ns) ≡ firsts_after naming (firsts_after naming seen ms) ns
unfolding firsts_after
firsts-append seen [] ns = refl
firsts-append seen (m ∷ ms) ns = firsts-append (cond (stands naming m seen) seen (seen ++ m ∷ [])) ms ns

pub appear-bound : (k : ℕ) → appear_type (type_of (Bound k)) ≡ []
unfolding appear_type
appear-bound k = ap appear_type (type_of-bound k)

pub appear-free : (v : ℕ) → appear_type (type_of (Free v)) ≡ []
unfolding appear_type
appear-free v = ap appear_type (type_of-free v)

no-more : (ns : List Name) → ns ++ [] ≡ ns
no-more [] = refl
no-more (n ∷ ns) = ap (λ ms. n ∷ ms) (no-more ns)

pub appear-row : (ls : Rc Labels Global) (ts : Vec (Rc MlType Global) Global) → appear_type (type_of (V.Row ls ts)) ≡ appear_types (types_of (parts_of ts.items))
unfolding appear_type
appear-row ls ts = ap appear_type (type_of-row ls ts) ∙ no-more (appear_types (types_of (parts_of ts.items)))

pub appear-arrow : (t u : Rc MlType Global) → appear_type (type_of (V.Arrow t u)) ≡ appear_type (type_of t.value) ++ appear_type (type_of u.value)
unfolding appear_type appear_types
appear-arrow t u =
    ap appear_type (type_of-arrow t u)
    ∙ no-more (appear_type (type_of t.value) ++ (appear_type (type_of u.value) ++ []))
    ∙ ap (λ ns. appear_type (type_of t.value) ++ ns) (no-more (appear_type (type_of u.value)))

pub appear-name : (n : TyName) (ts : Vec (Rc MlType Global) Global)
    → appear_type (type_of (V.Name n ts)) ≡ appear_types (types_of (parts_of ts.items)) ++ (name_of n ∷ [])
unfolding appear_type
appear-name n ts = ap appear_type (type_of-name n ts)

types-append : (ts us : List (O.MlType Name)) → appear_types (types_of (ts ++ us)) ≡ appear_types (types_of ts) ++ appear_types (types_of us)
unfolding appear_types
types-append [] us = refl
types-append (t ∷ ts) us =
    ap (λ ns. appear_type t ++ ns) (types-append ts us) ∙ sym (append_assoc (appear_type t) (appear_types (types_of ts)) (appear_types (types_of us)))

pub types-push : (ts : List (Rc MlType Global)) (t : Rc MlType Global)
    → appear_types (types_of (parts_of (ts ++ (t ∷ [])))) ≡ appear_types (types_of (parts_of ts)) ++ appear_type (type_of t.value)
unfolding appear_types
types-push ts t =
    ap (λ l. appear_types (types_of l)) (map-append (λ t. type_of t.value) ts (t ∷ []))
    ∙ types-append (parts_of ts) (type_of t.value ∷ [])
    ∙ ap (λ ns. appear_types (types_of (parts_of ts)) ++ ns) (no-more (appear_type (type_of t.value)))

pub map-push : (m : Map (O.Scheme Name)) (x : Id) (s : O.Scheme Name) → appear_map (m ++ ((x, s) ∷ [])) ≡ appear_map m ++ appear_type s.body
unfolding appear_map
map-push [] x s = no-more (appear_type s.body)
map-push (e ∷ m) x s =
    ap (λ ns. appear_type e.1.body ++ ns) (map-push m x s) ∙ sym (append_assoc (appear_type e.1.body) (appear_map m) (appear_type s.body))

pub structures-push : (m : Map (O.Env Name)) (x : Id) (E : O.Env Name)
    → appear_structures (structures_of (m ++ ((x, E) ∷ []))) ≡ appear_structures (structures_of m) ++ appear_env E
unfolding appear_structures
structures-push [] x E = no-more (appear_env E)
structures-push (e ∷ m) x E =
    ap (λ ns. appear_env e.1 ++ ns) (structures-push m x E)
    ∙ sym (append_assoc (appear_env e.1) (appear_structures (structures_of m)) (appear_env E))

pub none : appear_types {N = Name} O.no_type ≡ []
unfolding appear_types
none = refl

-- names are collected one after the other
pub collected : (s a b xs ys zs : List Name) → a ≡ firsts_after naming s xs → b ≡ firsts_after naming a ys → zs ≡ xs ++ ys → b ≡ firsts_after naming s zs
collected s a b xs ys zs h k e =
    k ∙ ap (λ l. firsts_after naming l ys) h ∙ sym (firsts-append s xs ys) ∙ ap (firsts_after naming s) (sym e)

pub inserted-first : (n : TyName) (old new : List TyName) → new ≡ (if list_any (eq n) old then old else old ++ (n ∷ []))
    → map name_of new ≡ firsts_after naming (map name_of old) (name_of n ∷ [])
unfolding firsts_after
inserted-first n old new h = inserted n old new h

pub unchanged : (s : List Name) → s ≡ firsts_after naming s []
unfolding firsts_after
unchanged s = refl

pub map-none : appear_map {N = Name} [] ≡ []
unfolding appear_map
map-none = refl

pub structures-none : appear_structures {N = Name} O.no_structure ≡ []
unfolding appear_structures
structures-none = refl

pub appear-parts : (e : Env-F Env)
    → appear_env (parts e)
    ≡ (appear_structures (structures_of (entries_of (λ s. env_of s.value) e.structures.entries)) ++ appear_map (schemes_of e.types.entries)) ++ appear_map (schemes_of e.values.entries)
unfolding appear_env
appear-parts e =
    sym (append_assoc (appear_structures (structures_of (entries_of (λ s. env_of s.value) e.structures.entries))) (appear_map (schemes_of e.types.entries)) (appear_map (schemes_of e.values.entries)))
