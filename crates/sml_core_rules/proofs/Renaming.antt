-- The laws of renaming.
use Rattle.std.proofs.Common.{◌≡◌, List, [], ◌∷◌, ◌++◌, map, refl, ap}
use Rattle.sml_objects.specs.Maps.{Map}
use Rattle.sml_objects.specs.Objects.{Scheme, rename_scheme}
use Rattle.sml_objects.proofs.Renaming.{scheme_laws, parts-image}
use Rattle.sml_core_rules.specs.Objects.{Value, TyStr, Maps, Structures, Env, Sig, FunSig, Basis, maps, no_structure, and_structure, replaced, replace, replace_structures, rename_value, rename_ty_str, rename_env, rename_sig, rename_fun_sig, rename_basis, names_map, names_in, names_structures, names_scheme, names_ty_str, names_env, names_sig, names_fun_sig, names_basis}
use Rattle.sml_core_rules.specs.Statements.{ObjectsObeyLaws}

-- what fixes every name

pub list-id : {N : Type 0} (ns : List N) → map (λ n. n) ns ≡ ns
list-id [] = refl
list-id (n ∷ ns) = ap (λ ms. n ∷ ms) (list-id ns)

-- a map whose things each stay as they are
pub replaced-id : {X : Type 0} (f : X → X) → ((x : X) → f x ≡ x) → (m : Map X) → replaced f m ≡ m
replaced-id f h [] = refl
replaced-id f h (e ∷ es) = λ i. (e.0, h e.1 i) ∷ replaced-id f h es i

mutual
  unfolding replace replace_structures

  replace-id : {T V : Type 0} (f : T → T) (g : V → V) → ((t : T) → f t ≡ t) → ((v : V) → g v ≡ v) → (E : Maps T V) → replace f g E ≡ E
  replace-id f g h k (maps ss ts vs) = λ i. maps (structures-id f g h k ss i) (replaced-id f h ts i) (replaced-id g k vs i)

  structures-id : {T V : Type 0} (f : T → T) (g : V → V) → ((t : T) → f t ≡ t) → ((v : V) → g v ≡ v) → (ss : Structures T V) → replace_structures f g ss ≡ ss
  structures-id f g h k no_structure = refl
  structures-id f g h k (and_structure s E ss) = λ i. and_structure s (replace-id f g h k E i) (structures-id f g h k ss i)

value-id : {N : Type 0} (v : Value N) → rename_value (λ n. n) v ≡ v
value-id v = λ i. record { scheme = scheme_laws.identity v.scheme i; status = v.status }

ty-str-id : {N : Type 0} (t : TyStr N) → rename_ty_str (λ n. n) t ≡ t
ty-str-id t = λ i. record { function = scheme_laws.identity t.function i; constructors = replaced-id (rename_scheme (λ n. n)) scheme_laws.identity t.constructors i }

pub env-id : {N : Type 0} (E : Env N) → rename_env (λ n. n) E ≡ E
env-id E = replace-id (rename_ty_str (λ n. n)) (rename_value (λ n. n)) ty-str-id value-id E

sig-id : {N : Type 0} (S : Sig N) → rename_sig (λ n. n) S ≡ S
sig-id S = λ i. record { names = list-id S.names i; body = env-id S.body i }

fun-sig-id : {N : Type 0} (F : FunSig N) → rename_fun_sig (λ n. n) F ≡ F
fun-sig-id F = λ i. record { argument = sig-id F.argument i; result = sig-id F.result i }

pub basis-id : {N : Type 0} (B : Basis N) → rename_basis (λ n. n) B ≡ B
basis-id B = λ i. record {
  names = list-id B.names i;
  functors = replaced-id (rename_fun_sig (λ n. n)) fun-sig-id B.functors i;
  signatures = replaced-id (rename_sig (λ n. n)) sig-id B.signatures i;
  body = env-id B.body i;
}

-- one after the other

replaced-both : {X Y Z : Type 0} (f : X → Y) (g : Y → Z) (k : X → Z) → ((x : X) → g (f x) ≡ k x) → (m : Map X) → replaced g (replaced f m) ≡ replaced k m
replaced-both f g k h [] = refl
replaced-both f g k h (e ∷ es) = λ i. (e.0, h e.1 i) ∷ replaced-both f g k h es i

list-both : {A B C : Type 0} (f : A → B) (g : B → C) (ns : List A) → map g (map f ns) ≡ map (λ n. g (f n)) ns
list-both f g [] = refl
list-both f g (n ∷ ns) = ap (λ ms. g (f n) ∷ ms) (list-both f g ns)

module _ {T U V W X Y : Type 0} (f : T → U) (g : V → W) (f' : U → X) (g' : W → Y) (k : T → X) (l : V → Y)
    (h : (t : T) → f' (f t) ≡ k t) (h' : (v : V) → g' (g v) ≡ l v) where
  mutual
    unfolding replace replace_structures

    replace-both : (E : Maps T V) → replace f' g' (replace f g E) ≡ replace k l E
    replace-both (maps ss ts vs) = λ i. maps (structures-both ss i) (replaced-both f f' k h ts i) (replaced-both g g' l h' vs i)

    structures-both : (ss : Structures T V) → replace_structures f' g' (replace_structures f g ss) ≡ replace_structures k l ss
    structures-both no_structure = refl
    structures-both (and_structure s E ss) = λ i. and_structure s (replace-both E i) (structures-both ss i)

module _ {N : Type 0} (f g : N → N) where
  scheme-both : (σ : Scheme N) → rename_scheme g (rename_scheme f σ) ≡ rename_scheme (λ n. g (f n)) σ
  scheme-both σ = scheme_laws.composition f g σ

  value-both : (v : Value N) → rename_value g (rename_value f v) ≡ rename_value (λ n. g (f n)) v
  value-both v = λ i. record { scheme = scheme-both v.scheme i; status = v.status }

  ty-str-both : (t : TyStr N) → rename_ty_str g (rename_ty_str f t) ≡ rename_ty_str (λ n. g (f n)) t
  ty-str-both t = λ i. record {
    function = scheme-both t.function i;
    constructors = replaced-both (rename_scheme f) (rename_scheme g) (rename_scheme (λ n. g (f n))) scheme-both t.constructors i;
  }

  env-both : (E : Env N) → rename_env g (rename_env f E) ≡ rename_env (λ n. g (f n)) E
  env-both E =
      replace-both (rename_ty_str f) (rename_value f) (rename_ty_str g) (rename_value g) (rename_ty_str (λ n. g (f n))) (rename_value (λ n. g (f n))) ty-str-both value-both E

  sig-both : (S : Sig N) → rename_sig g (rename_sig f S) ≡ rename_sig (λ n. g (f n)) S
  sig-both S = λ i. record { names = list-both f g S.names i; body = env-both S.body i }

  fun-sig-both : (F : FunSig N) → rename_fun_sig g (rename_fun_sig f F) ≡ rename_fun_sig (λ n. g (f n)) F
  fun-sig-both F = λ i. record { argument = sig-both F.argument i; result = sig-both F.result i }

  basis-both : (B : Basis N) → rename_basis g (rename_basis f B) ≡ rename_basis (λ n. g (f n)) B
  basis-both B = λ i. record {
    names = list-both f g B.names i;
    functors = replaced-both (rename_fun_sig f) (rename_fun_sig g) (rename_fun_sig (λ n. g (f n))) fun-sig-both B.functors i;
    signatures = replaced-both (rename_sig f) (rename_sig g) (rename_sig (λ n. g (f n))) sig-both B.signatures i;
    body = env-both B.body i;
  }

-- the names of what is renamed

module _ {N : Type 0} (f : N → N) where
  image-map : {X : Type 0} (r : X → X) (names : X → List N) → ((x : X) → names (r x) ≡ map f (names x)) → (m : Map X) → names_map names (replaced r m) ≡ map f (names_map names m)
  image-map r names h [] = refl
  image-map r names h (e ∷ es) = parts-image f (names e.1) (names_map names es) (names (r e.1)) (names_map names (replaced r es)) (h e.1) (image-map r names h es)

  module _ {T V : Type 0} (r : T → T) (q : V → V) (ns : T → List N) (ms : V → List N)
      (h : (t : T) → ns (r t) ≡ map f (ns t)) (k : (v : V) → ms (q v) ≡ map f (ms v)) where
    mutual
      unfolding replace replace_structures names_in names_structures

      image-in : (E : Maps T V) → names_in ns ms (replace r q E) ≡ map f (names_in ns ms E)
      image-in (maps ss ts vs) =
          parts-image f (names_structures ns ms ss) (names_map ns ts ++ names_map ms vs) _ _ (image-structures ss)
          (parts-image f (names_map ns ts) (names_map ms vs) _ _ (image-map r ns h ts) (image-map q ms k vs))

      image-structures : (ss : Structures T V) → names_structures ns ms (replace_structures r q ss) ≡ map f (names_structures ns ms ss)
      image-structures no_structure = refl
      image-structures (and_structure s E ss) = parts-image f (names_in ns ms E) (names_structures ns ms ss) _ _ (image-in E) (image-structures ss)

  scheme-image : (σ : Scheme N) → names_scheme (rename_scheme f σ) ≡ map f (names_scheme σ)
  scheme-image σ = scheme_laws.image f σ

  ty-str-image : (t : TyStr N) → names_ty_str (rename_ty_str f t) ≡ map f (names_ty_str t)
  ty-str-image t =
      parts-image f (names_scheme t.function) (names_map names_scheme t.constructors) _ _ (scheme-image t.function)
      (image-map (rename_scheme f) names_scheme scheme-image t.constructors)

  env-image : (E : Env N) → names_env (rename_env f E) ≡ map f (names_env E)
  env-image E = image-in (rename_ty_str f) (rename_value f) names_ty_str (λ v. names_scheme v.scheme) ty-str-image (λ v. scheme-image v.scheme) E

  sig-image : (S : Sig N) → names_sig (rename_sig f S) ≡ map f (names_sig S)
  sig-image S = parts-image f S.names (names_env S.body) _ _ refl (env-image S.body)

  fun-sig-image : (F : FunSig N) → names_fun_sig (rename_fun_sig f F) ≡ map f (names_fun_sig F)
  fun-sig-image F = parts-image f (names_sig F.argument) (names_sig F.result) _ _ (sig-image F.argument) (sig-image F.result)

  basis-image : (B : Basis N) → names_basis (rename_basis f B) ≡ map f (names_basis B)
  basis-image B =
      parts-image f B.names _ _ _ refl
      (parts-image f (names_map names_fun_sig B.functors) _ _ _ (image-map (rename_fun_sig f) names_fun_sig fun-sig-image B.functors)
      (parts-image f (names_map names_sig B.signatures) (names_env B.body) _ _ (image-map (rename_sig f) names_sig sig-image B.signatures) (env-image B.body)))

pub objects-obey : {N : Type 0} → ObjectsObeyLaws N
objects-obey = record {
  environments = record { identity = env-id; composition = env-both; image = env-image };
  bases = record { identity = basis-id; composition = basis-both; image = basis-image };
}
