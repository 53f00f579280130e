-- The types that are meant by what is written, variant by variant, and arguments of type functions that aren't used.
use Rattle.std.proofs.Common.{inl, inr, ◌⊎◌, ◌≡◌, ◌<◌, ℕ, zero, suc, ◌+◌, List, [], ◌∷◌, ◌++◌, length, map, take, get_or, cond, nat_eq, refl, ap, ◌∙◌, sym, subst, arith, Vec, Global, Result, Ok, Err, IfOk}
use Rattle.std.proofs.lemmas.Bool.Decides.{nat_tests}
use Rattle.std.proofs.lemmas.Grind.{take_at_read}
use Rattle.std.proofs.lemmas.List.{map-append}
use Rattle.std.specs.declared.rc.Rc.{Rc}
use Rattle.sml_objects.specs.Objects as O
use Rattle.sml_objects.specs.Initial.{Name}
use Rattle.sml_objects.specs.Objects.{types_of}
use Rattle.sml_objects.specs.Types.{applied, argument, argument_or, replace_type, replace_types}
use Rattle.sml_objects.specs.Views.{label_list, name_of, row_of, scheme_of, type_of}
use Rattle.sml_objects.specs.declared.labels.Labels.{Labels}
use Rattle.sml_objects.specs.declared.objects.TyName.{TyName}
use Rattle.sml_objects.specs.declared.objects.MlType.{MlType}
use Rattle.sml_objects.specs.declared.objects.Scheme.{Scheme}
use Rattle.sml_objects.proofs.EnvViews.{map-map}
use Rattle.sml_type_maps.specs.Counted.{uses_in, uses_in_all}
use Rattle.sml_types.specs.Meant.{all_meant, meant, meant_layer}
use Rattle.sml_types.specs.declared.written.Written.{Written, Made}
use Rattle.sml_types.specs.declared.written.Written.TheViews as V
use Rattle.sml_types.specs.declared.written.Written.TheOpen as F
use Rattle.sml_types.specs.declared.written.Written.TheFolds.{fold-roll-Written}
use Rattle.sml_types.specs.declared.written.Written.TheVariants.{rolls-Made, rolls-Row, rolls-Arrow, rolls-Name, rolls-Applied, rolls-Side}

-- the types that are meant, in a list
abbrev pub meanings : List (Rc Written Global) → List (O.MlType Name)
meanings ws = map (λ w. meant w.value) ws

pub meant-made : (t : Rc MlType Global) → meant (Made t) ≡ type_of t.value
meant-made t = ap meant (sym (rolls-Made t)) ∙ fold-roll-Written (O.MlType Name) meant_layer (F.Made t)

pub meant-row : (ls : Rc Labels Global) (ws : Vec (Rc Written Global) Global) → meant (V.Row ls ws) ≡ row_of (label_list ls.value) (meanings ws.items)
meant-row ls ws =
    ap meant (sym (rolls-Row ls ws))
    ∙ fold-roll-Written (O.MlType Name) meant_layer (F.Row ls ws)
    ∙ ap (row_of (label_list ls.value)) (map-map _ _ ws.items)

pub meant-arrow : (w v : Rc Written Global) → meant (V.Arrow w v) ≡ O.arrow_of (meant w.value) (meant v.value)
meant-arrow w v = ap meant (sym (rolls-Arrow w v)) ∙ fold-roll-Written (O.MlType Name) meant_layer (F.Arrow w v)

pub meant-name : (n : TyName) (ws : Vec (Rc Written Global) Global) → meant (V.Name n ws) ≡ O.app (O.name (name_of n)) (all_meant ws.items)
meant-name n ws =
    ap meant (sym (rolls-Name n ws))
    ∙ fold-roll-Written (O.MlType Name) meant_layer (F.Name n ws)
    ∙ ap (λ us. O.app (O.name (name_of n)) (types_of us)) (map-map _ _ ws.items)

pub meant-applied : (s : Rc Scheme Global) (ws : Vec (Rc Written Global) Global) → meant (V.Applied s ws) ≡ applied (scheme_of s.value) (all_meant ws.items)
meant-applied s ws =
    ap meant (sym (rolls-Applied s ws))
    ∙ fold-roll-Written (O.MlType Name) meant_layer (F.Applied s ws)
    ∙ ap (λ us. applied (scheme_of s.value) (types_of us)) (map-map _ _ ws.items)

pub meant-side : (w : Rc Written Global) (ws : Vec (Rc Written Global) Global) → meant (V.Side w ws) ≡ replace_type (argument (all_meant ws.items)) O.free (meant w.value)
meant-side w ws =
    ap meant (sym (rolls-Side w ws))
    ∙ fold-roll-Written (O.MlType Name) meant_layer (F.Side w ws)
    ∙ ap (λ us. replace_type (argument (types_of us)) O.free (meant w.value)) (map-map _ _ ws.items)

-- a list of what stands for the first ones, and for the next
pub map-next : {A B : Type 0} (f : A → B) (old new : List B) (b : B) (xs : List A) (x : A) (n : ℕ) → new ≡ old ++ (b ∷ []) → n < length xs → x ≡ get_or xs n x
    → b ≡ f x → old ≡ map f (take n xs) → new ≡ map f (take (n + 1) xs)
map-next f old new b xs x n more l at same before =
    let taken : take (n + 1) xs ≡ take n xs ++ (x ∷ []) = (take_at_read xs n x l).1 ∙ ap (λ y. take n xs ++ (y ∷ [])) (sym at) in
    more ∙ (λ i. before i ++ (same i ∷ [])) ∙ sym (ap (map f) taken ∙ map-append f (take n xs) (x ∷ []))

-- Types that are the same but where a variable isn't used, by how often each is.
unfoldable pub AreAlike : (ℕ → ℕ) → List (O.MlType Name) → List (O.MlType Name) → Type 0
AreAlike f [] [] = Unit {0}
AreAlike f [] (u ∷ us) = ⊥
AreAlike f (t ∷ ts) [] = ⊥
AreAlike f (t ∷ ts) (u ∷ us) = ((f 0 ≡ 0) ⊎ (t ≡ u)) × AreAlike (λ k. f (suc k)) ts us

pub none-alike : (f : ℕ → ℕ) (ts : List (O.MlType Name)) → ts ≡ [] → AreAlike f ts []
unfolding AreAlike
none-alike f ts none = subst (λ l. AreAlike f l []) (sym none) tt

pub alike-push : (f : ℕ → ℕ) (ts us : List (O.MlType Name)) (t u : O.MlType Name) → AreAlike f ts us → (f (length us) ≡ 0) ⊎ (t ≡ u)
    → AreAlike f (ts ++ (t ∷ [])) (us ++ (u ∷ []))
unfolding AreAlike
alike-push f [] [] t u h e = (e, tt)
alike-push f [] (v ∷ us) t u h e = absurd h
alike-push f (s ∷ ts) [] t u h e = absurd h
alike-push f (s ∷ ts) (v ∷ us) t u h e = (h.0, alike-push (λ k. f (suc k)) ts us t u h.1 e)

fewer-uses : (f g : ℕ → ℕ) (ts us : List (O.MlType Name)) → ((k : ℕ) → f k ≡ 0 → g k ≡ 0) → AreAlike f ts us → AreAlike g ts us
unfolding AreAlike
fewer-uses f g [] [] h a = tt
fewer-uses f g [] (u ∷ us) h a = absurd a
fewer-uses f g (t ∷ ts) [] h a = absurd a
fewer-uses f g (t ∷ ts) (u ∷ us) h a = (
  elim a.0 [ inl e ↦ inl (h 0 e) | inr e ↦ inr e ],
  fewer-uses (λ k. f (suc k)) (λ k. g (suc k)) ts us (λ k. h (suc k)) a.1,
)

argument-alike : (d : O.MlType Name) (f : ℕ → ℕ) (j : ℕ) (ts us : List (O.MlType Name)) → AreAlike f ts us → (f j ≡ 0 → ⊥)
    → argument_or d (types_of ts) j ≡ argument_or d (types_of us) j
unfolding AreAlike
argument-alike d f j [] [] a h = refl
argument-alike d f j [] (u ∷ us) a h = absurd a
argument-alike d f j (t ∷ ts) [] a h = absurd a
argument-alike d f zero (t ∷ ts) (u ∷ us) a h = elim a.0 [ inl e ↦ absurd (h e) | inr e ↦ e ]
argument-alike d f (suc j) (t ∷ ts) (u ∷ us) a h = argument-alike d (λ k. f (suc k)) j ts us a.1 h

pub itself-used : (j : ℕ) → ◌≡◌ {A = ℕ} (cond (nat_eq j j) 1 0) 0 → ⊥
itself-used j h = grind (arith, nat_tests)

module _ (ts us : List (O.MlType Name)) where
  mutual
    unfolding replace_type replace_types uses_in uses_in_all

    -- what a type function gives, where those that differ aren't used in its body
    pub applied-alike : (t : O.MlType Name) → AreAlike (uses_in t) ts us
        → replace_type (argument (types_of ts)) O.free t ≡ replace_type (argument (types_of us)) O.free t
    applied-alike (O.bound j) a = argument-alike (O.bound j) (uses_in {N = Name} (O.bound j)) j ts us a (itself-used j)
    applied-alike (O.free v) a = refl
    applied-alike (O.app h vs) a = ap (O.app h) (all-applied-alike vs a)

    all-applied-alike : (vs : O.MlTypes Name) → AreAlike (uses_in_all vs) ts us
        → replace_types (argument (types_of ts)) O.free vs ≡ replace_types (argument (types_of us)) O.free vs
    all-applied-alike O.no_type a = refl
    all-applied-alike (O.and_type v vs) a =
        let one = fewer-uses (uses_in_all (O.and_type v vs)) (uses_in v) ts us (λ k e. omega (arith, e)) a in
        let others = fewer-uses (uses_in_all (O.and_type v vs)) (uses_in_all vs) ts us (λ k e. omega (arith, e)) a in
        λ i. O.and_type (applied-alike v one i) (all-applied-alike vs others i)

-- something that is shared
pub shared-meant : {E : Type 0} (r : Result (Rc Written Global) E) (w : Written) (t : O.MlType Name) → meant w ≡ t → IfOk r (λ v. v.value ≡ w) → IfOk r (λ v. meant v.value ≡ t)
shared-meant (Ok v) w t e h = ap meant h ∙ e
shared-meant (Err x) w t e h = h
