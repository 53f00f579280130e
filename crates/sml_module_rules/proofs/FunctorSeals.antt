-- Sealed bodies of functors can't be seen.
use Rattle.std.specs.Prelude.{◌≡◌, Bool, true, false, List, [], ◌∷◌, map, Option, Some}
use mathlib.Core.Path.{refl, sym, ap, subst, ◌∙◌}
use Rattle.sml_tree.specs.Names.{LongName}
use Rattle.sml_tree.specs.Structures.{StrExp, FunBind}
use Rattle.sml_objects.specs.Objects.{Outside, app, row, no_type}
use Rattle.sml_layers.specs.declared.variable.Variable.{Variable}
use Rattle.sml_rules.specs.Answers.{Answer, refused, accepted}
use Rattle.sml_rules.proofs.Sound.{accepted_same, not_refused}
use Rattle.sml_core_rules.specs.Objects.{Env, Sig, Basis, empty, extend, replace, replace_structures}
use Rattle.sml_core_rules.specs.Expressions.{read_dec, read_opened, at_first}
use Rattle.sml_core_rules.specs.States.{Scope, State}
use Rattle.sml_core_rules.specs.Scripts.{Script, give, look, ◌>>=◌, IsAnswer}
use Rattle.sml_core_rules.proofs.Accepted.{given, bind-accepted, bind-joined}
use Rattle.sml_core_rules.proofs.Agree.{Settled}
use Rattle.sml_core_rules.proofs.Along.{become-list}
use Rattle.sml_core_rules.proofs.Plain.{IsPlain, plain-bind, Fixed, agree-plain}
use Rattle.sml_module_rules.specs.Signatures.{read_sig}
use Rattle.sml_module_rules.specs.Structures.{Added, read_str, read_strs, read_strdec, read_functor, of_functor, one_structure, basis_with_types, IsAlone, AreAlone}
use Rattle.sml_module_rules.specs.Programs.{Behind, SealedFunctor, FunctorPair, kept_functor, sealed_functor, opened_functor, sealed, opened, functor_of, functor_group}
use Rattle.sml_module_rules.proofs.Agree.{basis-kept}
use Rattle.sml_module_rules.proofs.Earlier.{earlier}
use Rattle.sml_module_rules.proofs.Grown.{IsWhole}
use Rattle.sml_module_rules.proofs.Groups.{Among, AreAlike, same-unjudged, groups-agree}
use Rattle.sml_module_rules.proofs.Parts.{is_whole, unjudged_parts, SameMark, SameParts, part-agrees}
use Rattle.sml_module_rules.proofs.PlainSignatures.{plain-sig, plain-look}
use Rattle.sml_module_rules.proofs.Programs.{HasInitials}
use Rattle.sml_module_rules.proofs.Seals.{added, fresh, plain-fresh, sealed-read, alone-accepted}
use Rattle.sml_module_rules.proofs.Settled.{env-settled}

-- the sealed body, in which the argument is opened or not
abbrev body_of : {P : Type 0} → Bool → SealedFunctor P → Behind P → StrExp P
body_of false b e = sealed e b.result
body_of true b e = opened b.argument (sealed e b.result)

abbrev bind_of : {P : Type 0} → Bool → SealedFunctor P → Behind P → FunBind P
bind_of o b e = record { name = b.name; argument = b.argument; signature = b.signature; body = body_of o b e }

-- what the body sees

abbrev inner : {P N : Type 0} → Basis N → SealedFunctor P → Sig N → Env N
inner B b S = extend B.body (one_structure b.argument.id S.body)

abbrev argument_of : {P : Type 0} → SealedFunctor P → List (LongName P)
argument_of b = record { place = b.argument.place; id = record { path = []; last = b.argument.id } } ∷ []

abbrev with_opened : {P N : Type 0} → Env N → Answer P (Env N) → Answer P (Env N)
with_opened C (refused f) = refused f
with_opened C (accepted E) = accepted (extend C (extend empty E))

abbrev seen : {P N : Type 0} → Bool → Scope N → Basis N → SealedFunctor P → Sig N → Answer P (Env N)
seen false scope B b S = accepted (inner B b S)
seen true scope B b S = with_opened (inner B b S) (read_opened scope (inner B b S) empty (argument_of b))

-- the functor that its signatures with new names give
abbrev fresh_functor : {P N : Type 0} → Bool → Scope N → Basis N → SealedFunctor P → Script P N (Sig N × Env N)
fresh_functor o scope B b = read_sig scope B.signatures B.body b.signature >>= λ S. look (seen o scope B b S) >>= λ C. fresh scope B C b.result >>= λ R. give (S, R.body)

plain-functor : {P N : Type 0} (o : Bool) (scope : Scope N) (B : Basis N) (b : SealedFunctor P) → IsPlain (fresh_functor o scope B b)
unfolding IsPlain
plain-functor {P} {N} o scope B b =
    plain-bind _ _ (plain-sig scope B.signatures B.body b.signature) (λ S. plain-bind _ _ (plain-look N (seen o scope B b S)) (λ C. plain-bind _ _ (plain-fresh P scope B C b.result) (λ R. tt)))

-- what a pair of argument and body is as a basis
abbrev basis_of : {P N : Type 0} → SealedFunctor P → Sig N × Env N → Basis N
basis_of b F = of_functor b.name.id (record { argument = F.0; result = record { names = []; body = F.1 } })

module _ {P N : Type 0} (scope : Scope N) (B : Basis N) where
  look-accepted : {X : Type 0} (o : Answer P X) (s : State P N) (r : X × State P N) → IsAnswer scope (look o) s (accepted r) → (o ≡ accepted r.0) × (r.1 ≡ s)
  unfolding IsAnswer
  look-accepted (refused f) s r h = absurd (not_refused h)
  look-accepted (accepted x) s r h = (ap accepted (sym (ap (λ q. q.0) (accepted_same h))), ap (λ q. q.1) (accepted_same h))

  -- an accepted body is the sealed structure, read where it sees this
  body-read : (o : Bool) (b : SealedFunctor P) (e : Behind P) (S : Sig N) (s : State P N) (r : Env N × State P N) → IsAnswer scope (read_str scope B (inner B b S) (body_of o b e)) s (accepted r)
      → (C : Env N) × (seen o scope B b S ≡ accepted C) × (t : State P N) × (t.names ≡ s.names) × IsAnswer scope (read_str scope B C (sealed e b.result)) t (accepted r)
  unfolding read_str read_strs read_strdec read_dec IsAnswer ◌>>=◌
  body-read false b e S s r h = (inner B b S, refl, s, refl, h)
  body-read true b e S s r h =
      let C = inner B b S in
      let x = bind-accepted scope (look (read_opened scope C empty (argument_of b)) >>= λ E. give (extend empty E)) (λ E. read_str scope B (extend C E) (sealed e b.result)) _ r h in
      let y = bind-accepted scope (look (read_opened scope C empty (argument_of b))) (λ E. give (extend empty E)) _ x.0 x.1 in
      let z = look-accepted (read_opened scope C empty (argument_of b)) _ y.0 y.1 in
      let w = accepted_same y.2 in (
        extend C x.0.0,
        ap (with_opened C) z.0 ∙ sym (ap (λ q. accepted (extend C q.0)) w),
        x.0.1,
        ap (λ q. q.1.names) w ∙ ap (λ t. t.names) z.1,
        x.2,
      )

  -- a functor with a sealed body is what its signatures with new names give
  functor-read : (o : Bool) (b : SealedFunctor P) (e : Behind P) (ns : List N) (A : Added P N) → IsAlone scope ns (read_functor scope B (bind_of o b e)) (accepted (Some A))
      → (r : (Sig N × Env N) × State P N) × IsAnswer scope (fresh_functor o scope B b) (at_first ns) (accepted r) × (A.basis ≡ basis_of b r.0)
  unfolding IsAnswer replace replace_structures
  functor-read o b e ns A h =
      let a = alone-accepted scope (read_functor scope B (bind_of o b e)) ns A h in
      let g = bind-accepted scope (read_sig scope B.signatures B.body b.signature) _ (at_first ns) a.0 a.1 in
      let S = g.0.0 in
      let q = bind-accepted scope (read_str scope B (inner B b S) (body_of o b e)) _ g.0.1 a.0 g.2 in
      let x = body-read o b e S g.0.1 q.0 q.1 in
      let C = x.0 in
      let s = sealed-read scope B C b.result g.0.1.names e x.2 (λ n k. subst (Outside n) x.3 k) q.0 x.4 in
      let z = earlier scope (fresh scope B C b.result) (plain-fresh P scope B C b.result) g.0.1 s.0 s.1 s.2 s.3 in
      let F : Sig N × Env N = (S, s.2.0.body) in
      let sees : IsAnswer scope (look (seen o scope B b S)) g.0.1 (accepted (C, g.0.1)) = subst (λ o. IsAnswer scope (look o) g.0.1 (accepted (C, g.0.1))) (sym x.1) refl in
      let last : IsAnswer scope (fresh scope B C b.result >>= λ R. give (S, R.body)) g.0.1 (accepted (F, z.0)) =
      bind-joined scope (fresh scope B C b.result) (λ R. give (S, R.body)) g.0.1 (s.2.0, z.0) (accepted (F, z.0)) z.1 refl in
      let second = bind-joined scope (look (seen o scope B b S)) (λ C. fresh scope B C b.result >>= λ R. give (S, R.body)) g.0.1 (C, g.0.1) (accepted (F, z.0)) sees last in
      let whole =
      bind-joined scope (read_sig scope B.signatures B.body b.signature) (λ S. look (seen o scope B b S) >>= λ C. fresh scope B C b.result >>= λ R. give (S, R.body)) (at_first ns) g.0 (accepted (F, z.0)) g.1 second in
      let same : a.0.0 ≡ basis_of b F = given scope _ q.0.1 a.0 q.2 ∙ ap (λ E. basis_of b (S, E)) s.4 in
      ((F, z.0), whole, a.2 (basis_of b F) (λ σ. ap (basis_with_types σ) same ∙ ap (λ E. basis_of b (S, E)) (env-settled σ s.2.0.body s.5)))

-- parts of answers
abbrev pair_or_none : {P N : Type 0} → Answer P (Sig N × Env N) → Sig N × Env N
pair_or_none (refused f) = (record { names = []; body = empty }, empty)
pair_or_none (accepted F) = F

module _ {P N : Type 0} (scope : Scope N) (far : (x : Variable) → ¬ ((scope.names.attributes (scope.variable x)).maker ≡ scope.unit)) (B : Basis N) (whole : IsWhole B)
    (initials : HasInitials scope B) where
  sealed-alike : (o : Bool) (b : SealedFunctor P) (e f : Behind P) → AreAlike {P = P} scope far B.names (read_functor scope B (bind_of o b e)) (read_functor scope B (bind_of o b f))
  sealed-alike o b e f ns inside A C h k =
      let a = functor-read scope B o b e ns A h in
      let c = functor-read scope B o b f ns C k in
      let t : State P N = at_first ns in
      let π = agree-plain (λ M. Sig M × Env M) scope far (fresh_functor o scope B b) (plain-functor o scope B b) ns fixed t t (λ n o. o) (λ n o. o) (accepted a.0) (accepted c.0) a.1 c.1 in
      let here : SameMark {P = P} scope ns (accepted (Some (added (basis_of b a.0.0)))) (accepted (Some (added (basis_of b c.0.0)))) =
      λ i. ((π i).0, (π i).1, (π i).2, accepted (Some (added (basis_of b (pair_or_none (π i).3))))) in
      subst (λ A. SameMark {P = P} scope ns (accepted (Some (added A))) (accepted (Some (added C.basis)))) (sym a.2)
      (subst (λ C. SameMark {P = P} scope ns (accepted (Some (added (basis_of b a.0.0)))) (accepted (Some (added C)))) (sym c.2) here)
    where
      fixed : Fixed (λ M. Sig M × Env M) scope far ns (fresh_functor o scope B b)
      fixed = record {
        script = λ r u v. let C = basis-kept scope r u ns (become-list r ns ns v) B (λ n m. inside n (whole n m)) in λ i. fresh_functor o (u i) (C i) b;
        initials = λ j. inside (scope.names.initial j) (initials j);
      }

  functor_part : (SealedFunctor P → Behind P) → FunctorPair P → Script P N (Basis N)
  functor_part side b = read_functor scope B (functor_of side b)

  functors-alike : (b : FunctorPair P) → AreAlike {P = P} scope far B.names (functor_part (λ b. b.first) b) (functor_part (λ b. b.second) b)
  unfolding functor_part
  functors-alike (sealed_functor b) = sealed-alike false b b.first b.second
  functors-alike (opened_functor b) = sealed-alike true b b.first b.second
  functors-alike (kept_functor b) = λ ns inside A C h k.
      same-unjudged scope far ns (accepted (Some A)) (accepted (Some C)) (part-agrees {P = P} scope far (read_functor scope B b) ns (settled ns inside) (accepted (Some A)) (accepted (Some C)) h k)
    where
      settled : (ns : List N) → Among B.names ns → Settled {P = P} Basis scope far (read_functor scope B b) (at_first ns)
      settled ns inside = record {
        script = λ r u v. let C = basis-kept scope r u ns (become-list r ns ns v) B (λ n m. inside n (whole n m)) in λ i. read_functor (u i) (C i) b;
        state = λ r u v. let l = become-list r ns ns v in λ i. at_first (l i);
        initials = λ j. inside (scope.names.initial j) (initials j);
        met = ((λ v. app (row []) no_type), tt);
      }

  group-parts : (side : SealedFunctor P → Behind P) (bs : List (FunctorPair P)) → map (read_functor scope B) (functor_group side bs) ≡ map (functor_part side) bs
  unfolding functor_part
  group-parts side [] = refl
  group-parts side (b ∷ bs) = ap (λ ks. functor_part side b ∷ ks) (group-parts side bs)

  pub functors-agree : (bs : List (FunctorPair P)) (o q : Answer P (List (Option (Added P N)))) → AreAlone scope B.names (map (read_functor scope B) (functor_group (λ b. b.first) bs)) o
      → AreAlone scope B.names (map (read_functor scope B) (functor_group (λ b. b.second) bs)) q → is_whole o ≡ true → is_whole q ≡ true → SameParts scope B.names (unjudged_parts o) (unjudged_parts q)
  unfolding functor_part
  functors-agree bs o q a b w z =
      groups-agree scope far (functor_part (λ b. b.first)) (functor_part (λ b. b.second)) B.names initials
      (λ r u v. let C = basis-kept scope r u B.names (become-list r B.names B.names v) B whole in λ i b. read_functor (u i) (C i) (functor_of (λ b. b.first) b))
      functors-alike bs B.names (λ n s. s) o q (subst (λ ks. AreAlone scope B.names ks o) (group-parts (λ b. b.first) bs) a)
      (subst (λ ks. AreAlone scope B.names ks q) (group-parts (λ b. b.second) bs) b) w z
