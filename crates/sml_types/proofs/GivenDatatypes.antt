-- Answers to bindings of datatypes.
use Rattle.std.proofs.Common.{◌≡◌, ◌++◌, ℕ, List, Option, None, Some, slice_get, [], ◌∷◌, length, map, Result, Ok, Err, refl, ap, sym, subst, ◌∙◌, arith, Vec, Global}
use Rattle.std.proofs.lemmas.List.{length-map}
use Rattle.std.specs.Result.{IsErrAnd}
use Rattle.std.specs.declared.rc.Rc.{Rc}
use Rattle.sml_lex.specs.declared.fault.Place.{Place}
use Rattle.sml_tree.specs.BindingViews.{dat_bind_of}
use Rattle.sml_tree.specs.TypeViews as seen
use Rattle.sml_tree.specs.declared.expressions.ConBind.{ConBind}
use Rattle.sml_tree.specs.declared.expressions.DatBind.{DatBind}
use Rattle.sml_objects.specs.Initial.{Name}
use Rattle.sml_objects.specs.Objects.{MlType}
use Rattle.sml_bases.specs.declared.objects.Env as P
use Rattle.sml_rules.specs.Answers.{Answer, accepted}
use Rattle.sml_core_rules.specs.Datatypes.{Arguments}
use Rattle.sml_equality.specs.declared.runs.Run.{Run}
use Rattle.sml_types.specs.Answered.{IsAnswer}
use Rattle.sml_types.specs.DatatypeAnswers.{DatatypesAnswer, first_place}
use Rattle.sml_types.specs.Datatypes.{HaveAll, SmallAnswer, all_with_idents, argument_sizes, constructor_size, constructor_sizes, meant_argument, with_idents}
use Rattle.sml_types.specs.declared.fault.CoreFault.{CoreFault}
use Rattle.sml_types.specs.declared.fault.CoreFault.TheVariants as R
use Rattle.sml_types.specs.declared.written.Written.{Written}

abbrev Group : Type 0
Group = Vec (Option (Rc Written Global)) Global

-- sizes, by what stands after the constructors' identifiers
sizes-named : (k : ℕ) (cs : List ConBind) (ts : List (Option (MlType Name))) → length ts ≡ length cs
    → map (constructor_size k) ts ≡ map (λ c. constructor_size k c.1) (with_idents cs ts)
sizes-named k [] [] e = refl
sizes-named k [] (t ∷ ts) e = absurd (omega (arith, e))
sizes-named k (c ∷ cs) [] e = absurd (omega (arith, e))
sizes-named k (c ∷ cs) (t ∷ ts) e = ap (λ l. constructor_size k t ∷ l) (sizes-named k cs ts (omega (arith, e)))

pub sizes-given : (ds : List DatBind) (gs : List Group) → HaveAll ds gs → constructor_sizes ds gs ≡ argument_sizes (map dat_bind_of ds) (all_with_idents ds gs)
sizes-given [] [] h = refl
sizes-given [] (g ∷ gs) h = absurd h
sizes-given (d ∷ ds) [] h = absurd h
sizes-given (d ∷ ds) (g ∷ gs) h =
    let n : ℕ = length d.variables.items in
    let same : n ≡ length (dat_bind_of d).variables = sym (length-map d.variables.items seen.name_of) in
    (λ i. (sizes-named n d.constructors.items (map meant_argument g.items) (length-map g.items meant_argument ∙ h.0) ∙ ap (λ k. map (λ c. constructor_size k c.1) (with_idents d.constructors.items (map meant_argument g.items))) same) i
    ++ sizes-given ds gs h.1 i)

-- an answer through `?`
pub given-through : (r : Result P.Env CoreFault) (e : CoreFault) (p : Place) (run : Run) (ds : List DatBind) (ns : List Name) (a : Answer Place (List (Arguments Name)))
    → IsErrAnd r (λ k. k ≡ e) → DatatypesAnswer (Err e) p run ds ns a → DatatypesAnswer r p run ds ns a
given-through (Ok y) e p run ds ns a is h = absurd is
given-through (Err f) e p run ds ns a is h = subst (λ k. DatatypesAnswer (Err k) p run ds ns a) (sym is) h

module _ (p : Place) (run : Run) (ds : List DatBind) (ns : List Name) where
  -- an argument is refused
  pub given-refused : {X : Type 0} (f : X → List (Arguments Name)) (e : CoreFault) (a : Answer Place (List (Arguments Name))) → IsAnswer f (Err e) a → DatatypesAnswer (Err e) p run ds ns a
  given-refused f R.Memory a h = tt
  given-refused f (R.Fault g) a h = subst (DatatypesAnswer (Err (R.Fault g)) p run ds ns) (sym h) refl

  -- a type is too large
  pub given-large : (e : CoreFault) (gs : List (Arguments Name)) (a : Answer Place (List (Arguments Name))) → a ≡ accepted gs
      → SmallAnswer (Err e) p (argument_sizes (map dat_bind_of ds) gs) → DatatypesAnswer (Err e) p run ds ns a
  given-large R.Memory gs a is h = tt
  given-large (R.Fault g) gs a is h = subst (DatatypesAnswer (Err (R.Fault g)) p run ds ns) (sym is) h

-- the place of the first binding
same-bind : (d b : DatBind) → ◌≡◌ {A = Option DatBind} (Some d) (Some b) → d ≡ b
same-bind d b e = cc

pub first-some : (ds : List DatBind) (d : DatBind) → Some d ≡ slice_get ds 0 → first_place ds ≡ d.name.place
first-some [] d e = cc
first-some (b ∷ ds) d e = ap (λ (d : DatBind). d.name.place) (sym (same-bind d b e))

pub first-none : (ds : List DatBind) → None ≡ slice_get ds 0 → first_place ds ≡ record { line = 1; column = 1 }
first-none [] e = refl
first-none (b ∷ ds) e = cc
