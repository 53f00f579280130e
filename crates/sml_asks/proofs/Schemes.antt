-- The types that types stand for, and their schemes, as steps.
use Rattle.std.proofs.Common.{◌≡◌, ◌↔◌, ◌⊎◌, ◌<◌, ◌≤◌, ◌+◌, ◌^◌, ℕ, Bool, true, false, Option, Some, None, Result, Ok, Err, Global, List, [], ◌∷◌, length, inl, inr, sym, ◌∙◌, ap, subst, refl}
use Rattle.std.specs.Prelude.{IfOk, IfSome, IfNone, option_map}
use Rattle.std.specs.List.{AllByRecursion}
use Rattle.std.specs.declared.rc.Rc.{Rc}
use Rattle.sml_lex.specs.declared.fault.Place.{Place}
use Rattle.sml_objects.specs.Initial.{Name, naming}
use Rattle.sml_objects.specs.Objects.{MlType, Scheme}
use Rattle.sml_objects.specs.Sizes.{type_size}
use Rattle.sml_objects.specs.Types.{assign, variables_after}
use Rattle.sml_objects.specs.Views.{type_of, scheme_of}
use Rattle.sml_objects.specs.declared.fates.Fate.{Fate}
use Rattle.sml_objects.specs.declared.fates.Fate.TheVariants.{Bind, Keep, Default}
use Rattle.sml_objects.specs.declared.objects.MlType as P
use Rattle.sml_objects.specs.declared.objects.Scheme as Q
use Rattle.sml_graph.specs.declared.demand.Halt.{Halt}
use Rattle.sml_graph.specs.declared.demand.Halt.TheVariants as H
use Rattle.sml_layers.specs.declared.layer.Layer.TheVariants.{Finiteness}
use Rattle.sml_layers.specs.Worlds.{Assignment, finite}
use Rattle.sml_graph.specs.Asked.{Asked, IsOf, IsSchemeOf, Permits, count}
use Rattle.sml_graph.specs.Interned.{IsOver, IsBodyOver}
use Rattle.sml_schemes.specs.Left as L
use Rattle.sml_schemes.specs.Fixed as F
use Rattle.sml_schemes.specs.Schemes as S
use Rattle.sml_solve.specs.Calls.{Keeps}
use Rattle.sml_core_rules.proofs.Schemes.{scheme-size, variables-left}
use Rattle.sml_core_rules.specs.Scopes.{run_scope}
use Rattle.sml_core_rules.specs.Solutions as C
use Rattle.sml_core_rules.specs.States.{State}
use Rattle.sml_asks.specs.Solvers.{SolverIs}
use Rattle.sml_asks.specs.Closings.{IsReadingUpTo, IsSchemeUpTo, AreContext, FlagsAreContexts, ReadingsHaveSchemes, AsksReading, AsksScheme}
use Rattle.sml_asks.proofs.Leaving.{left-same, reading-same, flexible-same, int-same, equality-same, permits}
use Rattle.sml_asks.proofs.Closing.{kept-stays}
use Rattle.sml_asks.proofs.Fates.{readings-large}

-- readings

reading-found : (new : Asked) (t : MlType Name) (limit : ℕ) (unit next : ℕ) (s : State Place Name) → SolverIs unit next new s → (found : Option (Rc P.MlType Global))
    → IfSome found (λ r. L.IsReading new t (type_of r.value)) → IfSome found (λ r. type_size (type_of r.value) ≤ limit)
    → IfNone found ((r : MlType Name) → L.IsReading new t r → limit < type_size r)
    → IsReadingUpTo unit s t limit (option_map (λ r. type_of r.value) found)
reading-found new t limit unit next s is (Some r) reads within none = ((reading-same unit next new s is t (type_of r.value)).1 reads, within)
reading-found new t limit unit next s is None reads within none = λ r h. none r ((reading-same unit next new s is t r).0 h)

pub reading-after : (old mid new : Asked) (t : MlType Name) (limit low : ℕ) (made : Result (Unit {0}) Halt) (result : Result (Option (Rc P.MlType Global)) Halt)
    → (IsOf old t → (made ≡ Ok tt) × (mid ≡ old)) → (limit + 1 < 2 ^ 32 → low ≡ limit) → IfOk result (λ found. IfSome found (λ r. L.IsReading new t (type_of r.value)))
    → IfOk result (λ found. IfSome found (λ r. type_size (type_of r.value) ≤ low))
    → IfOk result (λ found. IfNone found ((r : MlType Name) → L.IsReading new t r → low < type_size r)) → Keeps mid new result H.Spent
    → IfOk result (λ found. AsksReading old t limit (option_map (λ r. type_of r.value) found) new)
unfolding AsksReading
reading-after old mid new t limit low made (Err h) same lower reads within none c = tt
reading-after old mid new t limit low made (Ok found) same lower reads within none c = λ unit next s is over small.
    let e : mid ≡ old = (same (subst (λ n. IsOver n t) (sym is.unknowns) over)).1 in
    let is' : SolverIs unit next new s = kept-stays unit next old mid new s is e c.same c.count c.returns.unit c.returns.kept in (
      reading-found new t limit unit next s is' found reads (subst (λ n. IfSome found (λ r. type_size (type_of r.value) ≤ n)) (lower small) within)
          (subst (λ n. IfNone found ((r : MlType Name) → L.IsReading new t r → n < type_size r)) (lower small) none),
      is',
    )

-- schemes

module _ (new : Asked) (unit next first : ℕ) (s : State Place Name) (is : SolverIs unit next new s) (x : Bool) (flags more : List Bool) (context : AreContext unit s first x flags)
    (same : (v : ℕ) → v < s.made → F.IsMarked more v ↔ F.IsMarked flags v) where
  marked : x ≡ false → (v : ℕ) → C.IsLeft (run_scope unit) s v → C.IsFixed (run_scope unit) s first [] v ↔ F.IsMarked more v
  marked e v left = (λ f. (same v left.0).1 ((context e v left).1 f), λ m. (context e v left).0 ((same v left.0).0 m))

  keeps-there : (b : Bool) → x ≡ b → (v : ℕ) → C.IsLeft (run_scope unit) s v → (x ≡ true) ⊎ C.IsFixed (run_scope unit) s first [] v ⊎ C.IsFlexible (run_scope unit) s v
      → (x ≡ true) ⊎ F.IsMarked more v ⊎ L.IsFlexible new v
  keeps-there true e v left h = inl e
  keeps-there false e v left (inl h) = inl h
  keeps-there false e v left (inr (inl h)) = inr (inl ((marked e v left).0 h))
  keeps-there false e v left (inr (inr h)) = inr (inr ((flexible-same unit next new s is v).0 h))

  keeps-back : (b : Bool) → x ≡ b → (v : ℕ) → C.IsLeft (run_scope unit) s v → (x ≡ true) ⊎ F.IsMarked more v ⊎ L.IsFlexible new v
      → (x ≡ true) ⊎ C.IsFixed (run_scope unit) s first [] v ⊎ C.IsFlexible (run_scope unit) s v
  keeps-back true e v left h = inl e
  keeps-back false e v left (inl h) = inl h
  keeps-back false e v left (inr (inl h)) = inr (inl ((marked e v left).1 h))
  keeps-back false e v left (inr (inr h)) = inr (inr ((flexible-same unit next new s is v).1 h))

  fate-same : (v : ℕ) → C.IsLeft (run_scope unit) s v → (f : Fate) → C.IsFateOf (run_scope unit) s first x v f ↔ S.IsFateOf new more x v f
  fate-same v left (Bind e) = (
    λ (i, q, m, f, a). (
      (λ k. i ((int-same unit next new s is v).1 k)),
      q,
      (λ k. m ((marked q v left).1 k)),
      (λ k. f ((flexible-same unit next new s is v).1 k)),
      ((λ k. (equality-same unit next new s is v).0 (a.0 k)), λ k. a.1 ((equality-same unit next new s is v).1 k)),
    ),
    λ (i, q, m, f, a). (
      (λ k. i ((int-same unit next new s is v).0 k)),
      q,
      (λ k. m ((marked q v left).0 k)),
      (λ k. f ((flexible-same unit next new s is v).0 k)),
      ((λ k. (equality-same unit next new s is v).1 (a.0 k)), λ k. a.1 ((equality-same unit next new s is v).0 k)),
    ),
  )
  fate-same v left Keep = (
    λ h. ((λ k. h.0 ((int-same unit next new s is v).1 k)), keeps-there x refl v left h.1),
    λ h. ((λ k. h.0 ((int-same unit next new s is v).0 k)), keeps-back x refl v left h.1),
  )
  fate-same v left Default = int-same unit next new s is v

  left-fates : (fate : ℕ → Fate) → ((v : ℕ) → L.IsLeft new v → S.IsFateOf new more x v (fate v)) → (vs : List ℕ) → AllByRecursion (C.IsLeft (run_scope unit) s) vs
      → AllByRecursion (λ v. C.IsFateOf (run_scope unit) s first x v (fate v)) vs
  left-fates fate fates [] left = tt
  left-fates fate fates (v ∷ vs) left = ((fate-same v left.0 (fate v)).1 (fates v ((left-same unit next new s is v).0 left.0)), left-fates fate fates vs left.1)

  scheme-there : (t : MlType Name) (θ : Scheme Name) → S.IsScheme new more x t θ → C.IsScheme (run_scope unit) s first x t θ
  unfolding C.IsScheme C.StandsFor naming
  scheme-there t θ h =
      let stands : C.StandsFor (run_scope unit) s t h.reading = (reading-same unit next new s is t h.reading).1 h.reads in
      (h.reading, stands, h.closed.fate, left-fates h.closed.fate h.closed.fates (variables_after [] h.reading) (variables-left (run_scope unit) s [] h.reading tt stands.0), h.closed.scheme)

  scheme-found : (t : MlType Name) (limit : ℕ) (found : Option Q.Scheme) → IfSome found (λ θ. S.IsScheme new more x t (scheme_of θ)) → IfSome found (λ θ. IsSchemeOf new (scheme_of θ))
      → IfSome found (λ θ. type_size (scheme_of θ).body ≤ limit) → IfNone found ((θ : Scheme Name) → S.IsScheme new more x t θ → limit < type_size θ.body)
      → IfNone found ((σ : Assignment Name finite) → Permits Finiteness new σ → limit < type_size (assign σ t))
      → IsSchemeUpTo unit s first x t limit (option_map scheme_of found)
  scheme-found t limit (Some θ) reads known within none all-large =
      (scheme-there t (scheme_of θ) reads, within, subst (λ n. IsBodyOver (length (scheme_of θ).variables) n (scheme_of θ).body) is.unknowns known)
  scheme-found t limit None reads known within none all-large = (schemes-large, large, λ σ h. all-large σ (permits unit next new s is Finiteness σ h))
    where
      large : (r : MlType Name) → C.StandsFor (run_scope unit) s t r → limit < type_size r
      large r h = readings-large new more x t limit none r ((reading-same unit next new s is t r).0 h)

      schemes-large : (θ : Scheme Name) → C.IsScheme (run_scope unit) s first x t θ → limit < type_size θ.body
      schemes-large θ h =
          let z : (r : MlType Name) × C.StandsFor (run_scope unit) s t r × (type_size θ.body ≡ type_size r) = scheme-size (run_scope unit) s first x t θ h in
          subst (λ n. limit < n) (sym z.2) (large z.0 z.1)

pub scheme-after : (old mid new : Asked) (t : MlType Name) (flags more : List Bool) (x : Bool) (limit low : ℕ) (made : Result (Unit {0}) Halt) (result : Result (Option Q.Scheme) Halt)
    → (IsOf old t → (made ≡ Ok tt) × (mid ≡ old)) → (limit + 1 < 2 ^ 32 → low ≡ limit) → ((v : ℕ) → v < count mid → F.IsMarked more v ↔ F.IsMarked flags v)
    → IfOk result (λ found. IfSome found (λ θ. S.IsScheme new more x t (scheme_of θ))) → IfOk result (λ found. IfSome found (λ θ. IsSchemeOf new (scheme_of θ)))
    → IfOk result (λ found. IfSome found (λ θ. type_size (scheme_of θ).body ≤ low))
    → IfOk result (λ found. IfNone found ((θ : Scheme Name) → S.IsScheme new more x t θ → low < type_size θ.body))
    → IfOk result (λ found. IfNone found ((σ : Assignment Name finite) → Permits Finiteness new σ → low < type_size (assign σ t))) → Keeps mid new result H.Spent
    → IfOk result (λ found. AsksScheme old t flags x limit (option_map scheme_of found) new)
unfolding AsksScheme
scheme-after old mid new t flags more x limit low made (Err h) same lower marks reads known within none large c = tt
scheme-after old mid new t flags more x limit low made (Ok found) same lower marks reads known within none large c = λ unit next first s is over context small.
    let e : mid ≡ old = (same (subst (λ n. IsOver n t) (sym is.unknowns) over)).1 in
    let is' : SolverIs unit next new s = kept-stays unit next old mid new s is e c.same c.count c.returns.unit c.returns.kept in
    let marks' : (v : ℕ) → v < s.made → F.IsMarked more v ↔ F.IsMarked flags v = λ v k. marks v (subst (λ n. v < n) (sym (ap count e ∙ is.unknowns)) k) in
    let q = scheme-found new unit next first s is' x flags more context marks' t limit found reads known
    (subst (λ n. IfSome found (λ θ. type_size (scheme_of θ).body ≤ n)) (lower small) within)
    (subst (λ n. IfNone found ((θ : Scheme Name) → S.IsScheme new more x t θ → n < type_size θ.body)) (lower small) none)
    (subst (λ n. IfNone found ((σ : Assignment Name finite) → Permits Finiteness new σ → n < type_size (assign σ t))) (lower small) large) in
    (q, is')

-- what follows of states alone

pub flags-are-contexts : FlagsAreContexts
flags-are-contexts unit s first x flags f e v left = (f.fixes v left.0, f.all v left.0 left.1)

pub readings-have-schemes : ReadingsHaveSchemes
unfolding C.IsScheme C.StandsFor
readings-have-schemes unit s first x t r σ stands = (
  λ (q, reads, fate, fates, e). (q, (reads.0, λ τ h. reads.1 τ h ∙ stands.1 τ h), fate, fates, e),
  λ (q, reads, fate, fates, e). (q, (reads.0, λ τ h. reads.1 τ h ∙ sym (stands.1 τ h)), fate, fates, e),
)
