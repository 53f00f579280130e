-- Renamings that agree on the names of a basis do the same to it.
use Rattle.std.proofs.Common.{◌≡◌, List, [], ◌∷◌, ◌++◌, map, refl, inl, inr}
use Rattle.sml_objects.specs.Appearance.{Stands}
use Rattle.sml_objects.specs.Maps.{Map}
use Rattle.sml_objects.specs.Objects.{Scheme, rename_scheme}
use Rattle.sml_objects.proofs.StandingObjects.{type-stands}
use Rattle.sml_core_rules.specs.Objects.{Env, Maps, Structures, Value, TyStr, Sig, FunSig, Basis, maps, no_structure, and_structure, replaced, replace, replace_structures, rename_value, rename_ty_str, rename_env, rename_sig, rename_fun_sig, rename_basis, names_map, names_in, names_structures, names_scheme, names_ty_str, names_env, names_sig, names_fun_sig, names_basis}
use Rattle.sml_text_rules.proofs.Appearances.{Agree, on-left, on-right, scheme-agrees}

module _ {N : Type 0} (f g : N → N) where
  list-agrees : (ns : List N) → Agree f g ns → map f ns ≡ map g ns
  unfolding Stands
  list-agrees [] a = refl
  list-agrees (n ∷ ns) a = λ i. a n (inl refl) i ∷ list-agrees ns (λ m s. a m (inr s)) i

  map-agrees : {X : Type 0} (r q : X → X) (names : X → List N) → ((x : X) → Agree f g (names x) → r x ≡ q x)
      → (m : Map X) → Agree f g (names_map names m) → replaced r m ≡ replaced q m
  map-agrees r q names h [] a = refl
  map-agrees r q names h (e ∷ m) a =
      λ i. (e.0, h e.1 (on-left f g (names e.1) (names_map names m) a) i) ∷ map-agrees r q names h m (on-right f g (names e.1) (names_map names m) a) i

  module _ {T V : Type 0} (r r' : T → T) (q q' : V → V) (ns : T → List N) (ms : V → List N)
      (h : (t : T) → Agree f g (ns t) → r t ≡ r' t) (k : (v : V) → Agree f g (ms v) → q v ≡ q' v) where
    mutual
      unfolding replace replace_structures names_in names_structures

      in-agrees : (E : Maps T V) → Agree f g (names_in ns ms E) → replace r q E ≡ replace r' q' E
      in-agrees (maps ss ts vs) a =
          let b : Agree f g (names_map ns ts ++ names_map ms vs) = on-right f g (names_structures ns ms ss) (names_map ns ts ++ names_map ms vs) a in
          λ i. maps (structures-agree ss (on-left f g (names_structures ns ms ss) (names_map ns ts ++ names_map ms vs) a) i)
          (map-agrees r r' ns h ts (on-left f g (names_map ns ts) (names_map ms vs) b) i)
          (map-agrees q q' ms k vs (on-right f g (names_map ns ts) (names_map ms vs) b) i)

      structures-agree : (ss : Structures T V) → Agree f g (names_structures ns ms ss) → replace_structures r q ss ≡ replace_structures r' q' ss
      structures-agree no_structure a = refl
      structures-agree (and_structure s E ss) a =
          λ i. and_structure s (in-agrees E (on-left f g (names_in ns ms E) (names_structures ns ms ss) a) i)
          (structures-agree ss (on-right f g (names_in ns ms E) (names_structures ns ms ss) a) i)

  scheme-agree : (σ : Scheme N) → Agree f g (names_scheme σ) → rename_scheme f σ ≡ rename_scheme g σ
  scheme-agree σ a = scheme-agrees f g σ (λ n s. a n (type-stands n σ.body s))

  value-agrees : (v : Value N) → Agree f g (names_scheme v.scheme) → rename_value f v ≡ rename_value g v
  value-agrees v a = λ i. record { scheme = scheme-agree v.scheme a i; status = v.status }

  ty-str-agrees : (t : TyStr N) → Agree f g (names_ty_str t) → rename_ty_str f t ≡ rename_ty_str g t
  ty-str-agrees t a =
      let cs : List N = names_map names_scheme t.constructors in
      λ i. record {
        function = scheme-agree t.function (on-left f g (names_scheme t.function) cs a) i;
        constructors = map-agrees (rename_scheme f) (rename_scheme g) names_scheme scheme-agree t.constructors (on-right f g (names_scheme t.function) cs a) i;
      }

  env-agrees : (E : Env N) → Agree f g (names_env E) → rename_env f E ≡ rename_env g E
  env-agrees E a =
      in-agrees (rename_ty_str f) (rename_ty_str g) (rename_value f) (rename_value g) names_ty_str (λ v. names_scheme v.scheme) ty-str-agrees value-agrees E a

  sig-agrees : (S : Sig N) → Agree f g (names_sig S) → rename_sig f S ≡ rename_sig g S
  sig-agrees S a =
      λ i. record { names = list-agrees S.names (on-left f g S.names (names_env S.body) a) i; body = env-agrees S.body (on-right f g S.names (names_env S.body) a) i }

  fun-sig-agrees : (F : FunSig N) → Agree f g (names_fun_sig F) → rename_fun_sig f F ≡ rename_fun_sig g F
  fun-sig-agrees F a = λ i. record {
    argument = sig-agrees F.argument (on-left f g (names_sig F.argument) (names_sig F.result) a) i;
    result = sig-agrees F.result (on-right f g (names_sig F.argument) (names_sig F.result) a) i;
  }

  pub basis-agrees : (B : Basis N) → Agree f g (names_basis B) → rename_basis f B ≡ rename_basis g B
  basis-agrees B a =
      let fs : List N = names_map names_fun_sig B.functors in
      let gs : List N = names_map names_sig B.signatures in
      let b : Agree f g (fs ++ (gs ++ names_env B.body)) = on-right f g B.names (fs ++ (gs ++ names_env B.body)) a in
      let c : Agree f g (gs ++ names_env B.body) = on-right f g fs (gs ++ names_env B.body) b in
      λ i. record {
        names = list-agrees B.names (on-left f g B.names (fs ++ (gs ++ names_env B.body)) a) i;
        functors = map-agrees (rename_fun_sig f) (rename_fun_sig g) names_fun_sig fun-sig-agrees B.functors (on-left f g fs (gs ++ names_env B.body) b) i;
        signatures = map-agrees (rename_sig f) (rename_sig g) names_sig sig-agrees B.signatures (on-left f g gs (names_env B.body) c) i;
        body = env-agrees B.body (on-right f g gs (names_env B.body) c) i;
      }
