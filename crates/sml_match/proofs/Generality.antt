-- A scheme is general where types were found for its variables, and where none were it isn't.
use Rattle.std.proofs.Common.{◌≡◌, ℕ, zero, suc, ◌<◌, ◌≤◌, ◌+◌, Bool, true, false, List, [], ◌∷◌, ◌++◌, length, map, take, get_or, Option, Some, None, refl, sym, ap, subst, ◌∙◌, arith}
use Rattle.std.proofs.lemmas.List.{map-append, take_all, take_more}
use Rattle.sml_objects.specs.Equality.{is_ref, admits_by, has_equality}
use Rattle.sml_objects.specs.Initial.{Name, initial, naming}
use Rattle.sml_objects.specs.Names.{int}
use Rattle.sml_objects.specs.Objects.{MlType, Scheme, named}
use Rattle.sml_objects.specs.Types.{instance_from}
use Rattle.sml_objects.specs.Views.{scheme_of}
use Rattle.sml_objects.specs.declared.objects.Scheme as P
use Rattle.sml_core_rules.specs.Values.{has_unknown}
use Rattle.sml_graph.specs.Interned.{IsBodyOver}
use Rattle.sml_type_maps.specs.Functions.{by_attributes}
use Rattle.sml_module_rules.specs.Matching.{AdmitSo, IsGeneral}
use Rattle.sml_match.specs.declared.general.VariableImage.{VariableImage}
use Rattle.sml_match.specs.General.{stood, IsGiven, Fits, Admits, AreAdmitted, AreKnown, equalities, MakeOne, Becomes}

abbrev Types : Type 0
Types = ℕ → MlType Name

-- before the search no variable stands for a type

abbrev pub fresh : Bool → VariableImage
fresh e = record { equality = e; image = None }

fresh-next : (es : List Bool) (i : ℕ) (d : Bool) → i < length es → map fresh (take (i + 1) es) ≡ map fresh (take i es) ++ fresh (get_or es i d) ∷ []
fresh-next es i d l = ap (map fresh) (take_more es i d l) ∙ map-append fresh (take i es) (get_or es i d ∷ [])

pub fresh-pushed : (es : List Bool) (i : ℕ) (d : Bool) (old new : List VariableImage) → i < length es → old ≡ map fresh (take i es) → new ≡ old ++ fresh (get_or es i d) ∷ [] → new ≡ map fresh (take (i + 1) es)
fresh-pushed es i d old new l h e = e ∙ ap (λ vs. vs ++ fresh (get_or es i d) ∷ []) h ∙ sym (fresh-next es i d l)

fresh-known : (es : List Bool) → AreKnown (map fresh es)
fresh-known [] = tt
fresh-known (e ∷ es) = (tt, fresh-known es)

fresh-admitted : (ds es : List Bool) → AreAdmitted ds (map fresh es)
fresh-admitted ds [] = tt
fresh-admitted ds (e ∷ es) = (tt, fresh-admitted ds es)

fresh-fits : (es : List Bool) (k : ℕ) (f : Types) → Fits (map fresh es) k f
fresh-fits [] k f = tt
fresh-fits (e ∷ es) k f = (tt, fresh-fits es (suc k) f)

fresh-equalities : (es : List Bool) → equalities (map fresh es) ≡ es
fresh-equalities [] = refl
fresh-equalities (e ∷ es) = ap (λ ds. e ∷ ds) (fresh-equalities es)

fresh-length : (es : List Bool) → length (map fresh es) ≡ length es
fresh-length [] = refl
fresh-length (e ∷ es) = ap suc (fresh-length es)

-- types for all variables: `int` where nothing was found

abbrev one : Option (MlType Name) → MlType Name
one None = named (initial int)
one (Some u) = instance_from 0 u

abbrev given : List VariableImage → Types
given [] i = named (initial int)
given (v ∷ vs) zero = one (stood v)
given (v ∷ vs) (suc i) = given vs i

int-admits : (es : List Bool) → admits_by (is_ref naming) (by_attributes es) (has_equality naming) (named (initial int)) ≡ true
unfolding admits_by naming
int-admits es = refl

one-given : (o : Option (MlType Name)) (t : MlType Name) → t ≡ one o → IsGiven o t
one-given None t e = tt
one-given (Some u) t e = e

one-admits : (es : List Bool) (b : Bool) (o : Option (MlType Name)) (t : MlType Name) → t ≡ one o → Admits es b o → b ≡ true → admits_by (is_ref naming) (by_attributes es) (has_equality naming) t ≡ true
one-admits es b None t e a is = ap (λ t. admits_by (is_ref naming) (by_attributes es) (has_equality naming) t) e ∙ int-admits es
one-admits es b (Some u) t e a is = ap (λ t. admits_by (is_ref naming) (by_attributes es) (has_equality naming) t) e ∙ a is

first : (v : VariableImage) (vs : List VariableImage) (k : ℕ) (f : Types) → ((i : ℕ) → f (k + i) ≡ given (v ∷ vs) i) → f k ≡ one (stood v)
first v vs k f h = let z : k ≡ k + 0 = omega arith in ap f z ∙ h 0

rest : (v : VariableImage) (vs : List VariableImage) (k : ℕ) (f : Types) → ((i : ℕ) → f (k + i) ≡ given (v ∷ vs) i) → (i : ℕ) → f (suc k + i) ≡ given vs i
rest v vs k f h i = let z : suc k + i ≡ k + suc i = omega arith in ap f z ∙ h (suc i)

all-fit : (vs : List VariableImage) (k : ℕ) (f : Types) → ((i : ℕ) → f (k + i) ≡ given vs i) → Fits vs k f
all-fit [] k f h = tt
all-fit (v ∷ vs) k f h = (one-given (stood v) (f k) (first v vs k f h), all-fit vs (suc k) f (rest v vs k f h))

all-admit : (es : List Bool) (vs : List VariableImage) (k : ℕ) (f : Types) → ((i : ℕ) → f (k + i) ≡ given vs i) → AreAdmitted es vs → AdmitSo naming es (equalities vs) k f
all-admit es [] k f h a = tt
all-admit es (v ∷ vs) k f h a = (one-admits es v.equality (stood v) (f k) (first v vs k f h) a.0, all-admit es vs (suc k) f (rest v vs k f h) a.1)

module _ (es ds : List Bool) (old new : List VariableImage) (start : old ≡ map fresh ds) (t u : MlType Name) (b : Bool) (h : Becomes es old (MakeOne t u) b new) where
  same : equalities old ≡ ds
  same = ap equalities start ∙ fresh-equalities ds

  fits : (f : Types) → Fits old 0 f
  fits f = subst (λ vs. Fits vs 0 f) (sym start) (fresh-fits ds 0 f)

  pub general-yes : b ≡ true → IsGeneral naming (record { variables = ds; body = t }) (record { variables = es; body = u })
  general-yes is =
      let f = given new in
      let now : (i : ℕ) → f (0 + i) ≡ given new i = λ i. let z : 0 + i ≡ i = omega arith in ap f z in
      let a = h.admitted (subst (AreAdmitted es) (sym start) (fresh-admitted es ds)) is in
      (f, subst (λ ds. AdmitSo naming es ds 0 f) (h.same ∙ same) (all-admit es new 0 f now a), ((h.yes is f).0 (all-fit new 0 f now)).1)

  pub general-no : b ≡ false → IsGeneral naming (record { variables = ds; body = t }) (record { variables = es; body = u }) → ⊥
  general-no is g = h.no is g.0 (subst (λ ds. AdmitSo naming es ds 0 g.0) (sym same) g.1) (fits g.0) g.2

pub fresh-all : (es ds : List Bool) (i : ℕ) (old : List VariableImage) → old ≡ map fresh (take i es) → length es ≤ i → es ≡ ds → old ≡ map fresh ds
fresh-all es ds i old h l e = h ∙ ap (map fresh) (take_all i es l ∙ e)

-- the search, from no types on
pub searched : (es ds ls : List Bool) (old new : List VariableImage) (t u x y : MlType Name) (b : Bool) → ls ≡ es → old ≡ map fresh ds → x ≡ t → y ≡ u → IsBodyOver (length ds) 0 t → has_unknown u ≡ false
    → (AreKnown old → IsBodyOver (length old) 0 x → has_unknown y ≡ false → Becomes ls old (MakeOne x y) b new) → Becomes es old (MakeOne t u) b new
searched es ds ls old new t u x y b e s p q o n f =
    subst (λ es. Becomes es old (MakeOne t u) b new) e
    (subst (λ t. Becomes ls old (MakeOne t u) b new) p
    (subst (λ u. Becomes ls old (MakeOne x u) b new) q
    (f (subst AreKnown (sym s) (fresh-known ds)) (subst (λ t. IsBodyOver (length old) 0 t) (sym p) (subst (λ n. IsBodyOver n 0 t) (sym (ap length s ∙ fresh-length ds)) o)) (subst (λ u. has_unknown u ≡ false) (sym q) n))))

-- what is told of two schemes where one has no unknown and the other no variable of others
abbrev Told : (Scheme Name → Scheme Name → Type 0) → Scheme Name → Scheme Name → Type 0
Told A σ τ = has_unknown τ.body ≡ false → IsBodyOver (length σ.variables) 0 σ.body → A σ τ

pub told-as : (A : Scheme Name → Scheme Name → Type 0) (a b c d : P.Scheme) → a ≡ c → b ≡ d → Told A (scheme_of a) (scheme_of b) → Told A (scheme_of c) (scheme_of d)
told-as A a b c d e g h = subst (λ a. Told A (scheme_of a) (scheme_of d)) e (subst (λ b. Told A (scheme_of a) (scheme_of b)) g h)
