-- How large the types of constructors are.
use Rattle.std.proofs.Common.{◌≡◌, ◌<◌, ◌≤◌, ◌+◌, ℕ, zero, suc, List, Option, [], ◌∷◌, ◌++◌, min, take, get_or, length, map, nat_lt, not, Result, Ok, Err, refl, ap, sym, subst, ◌∙◌, arith, Vec, Global}
use Rattle.std.proofs.lemmas.List.{append-nil, append_assoc, length-take-le}
use Rattle.std.specs.Result.{IsErrAnd}
use Rattle.std.specs.List.{AllByRecursion}
use Rattle.std.specs.declared.rc.Rc.{Rc}
use Rattle.sml_lex.specs.Faults.{fault_of}
use Rattle.sml_lex.specs.declared.fault.Code.TheVariants.{E7}
use Rattle.sml_lex.specs.declared.fault.Place.{Place}
use Rattle.sml_tree.specs.declared.expressions.DatBind.{DatBind}
use Rattle.sml_rules.specs.Answers.{fault}
use Rattle.sml_core_rules.specs.Answers.{check}
use Rattle.sml_types.specs.Answered.{IsAnswer}
use Rattle.sml_types.specs.Datatypes.{SmallAnswer, constructor_size, constructor_sizes, meant_argument}
use Rattle.sml_types.specs.declared.fault.CoreFault.{CoreFault}
use Rattle.sml_types.specs.declared.fault.CoreFault.TheVariants as R
use Rattle.sml_types.specs.declared.written.Written.{Written}
use Rattle.sml_types.proofs.Taken.{taken-next}
use Rattle.sml_types.proofs.TypeSizes.{size-exceeds}

abbrev pub AllFit : List ℕ → Type 0
AllFit ks = AllByRecursion (λ k. k ≤ 10000) ks

pub fit-both : (xs ys : List ℕ) → AllFit xs → AllFit ys → AllFit (xs ++ ys)
fit-both [] ys h k = k
fit-both (x ∷ xs) ys h k = (h.0, fit-both xs ys h.1 k)

fit-front : (xs ys : List ℕ) → AllFit (xs ++ ys) → AllFit xs
fit-front [] ys h = tt
fit-front (x ∷ xs) ys h = (h.0, fit-front xs ys h.1)

fit-back : (xs ys : List ℕ) → AllFit (xs ++ ys) → AllFit ys
fit-back [] ys h = h
fit-back (x ∷ xs) ys h = fit-back xs ys h.1

-- an answer through `?`
pub small-through : (r : Result (Unit {0}) CoreFault) (e : CoreFault) (p : Place) (ks : List ℕ) → IsErrAnd r (λ k. k ≡ e) → SmallAnswer (Err e) p ks → SmallAnswer r p ks
small-through (Ok y) e p ks is h = absurd is
small-through (Err f) e p ks is h = subst (λ k. SmallAnswer (Err k) p ks) (sym is) h

-- one of the sizes is too large, or some of a part of them
pub too-large : (p : Place) (before after ks : List ℕ) (k : ℕ) (e : CoreFault) → ks ≡ before ++ k ∷ after
    → IsAnswer {X = Unit {0}} (λ _. tt) (Err e) (check (not (nat_lt 10000 k)) (fault E7 p)) → SmallAnswer (Err e) p ks
too-large p before after ks k R.Memory is h = tt
too-large p before after ks k (R.Fault f) is h =
    let x = size-exceeds 10000 k (fault E7 p) (fault_of f) h in
    ((λ fit. x.0 (fit-back before (k ∷ after) (subst AllFit is fit)).0), x.1)

pub part-large : (p : Place) (ks part : List ℕ) (e : CoreFault) → (AllFit ks → AllFit part) → SmallAnswer (Err e) p part → SmallAnswer (Err e) p ks
part-large p ks part R.Memory h k = tt
part-large p ks part (R.Fault f) h k = ((λ fit. k.0 (h fit)), k.1)

abbrev Group : Type 0
Group = Vec (Option (Rc Written Global)) Global

-- those of one datatype
abbrev pub sizes : DatBind → Group → List ℕ
sizes d g = map (constructor_size (length d.variables.items)) (map meant_argument g.items)

pub fit-at : (ds : List DatBind) (gs : List Group) (i : ℕ) (d : DatBind) (g : Group) → i < length ds → i < length gs → d ≡ get_or ds i d → g ≡ get_or gs i g
    → AllFit (constructor_sizes ds gs) → AllFit (sizes d g)
fit-at [] gs i d g l r e f h = absurd (omega (arith, l))
fit-at (b ∷ ds) [] i d g l r e f h = absurd (omega (arith, r))
fit-at (b ∷ ds) (c ∷ gs) zero d g l r e f h = subst AllFit (λ j. sizes (sym e j) (sym f j)) (fit-front (sizes b c) (constructor_sizes ds gs) h)
fit-at (b ∷ ds) (c ∷ gs) (suc i) d g l r e f h = fit-at ds gs i d g (omega (arith, l)) (omega (arith, r)) e f (fit-back (sizes b c) (constructor_sizes ds gs) h)

sizes-push : (ds : List DatBind) (gs : List Group) (d : DatBind) (g : Group) → length ds ≡ length gs
    → constructor_sizes (ds ++ d ∷ []) (gs ++ g ∷ []) ≡ constructor_sizes ds gs ++ sizes d g
sizes-push [] [] d g e = append-nil (sizes d g)
sizes-push [] (c ∷ gs) d g e = absurd (omega (arith, e))
sizes-push (b ∷ ds) [] d g e = absurd (omega (arith, e))
sizes-push (b ∷ ds) (c ∷ gs) d g e = ap (λ l. sizes b c ++ l) (sizes-push ds gs d g (omega (arith, e))) ∙ sym (append_assoc (sizes b c) (constructor_sizes ds gs) (sizes d g))

pub sizes-next : (ds : List DatBind) (gs : List Group) (i : ℕ) (d : DatBind) (g : Group) → i < length ds → i < length gs → d ≡ get_or ds i d → g ≡ get_or gs i g
    → constructor_sizes (take (i + 1) ds) (take (i + 1) gs) ≡ constructor_sizes (take i ds) (take i gs) ++ sizes d g
sizes-next ds gs i d g l r e f =
    (λ j. constructor_sizes (taken-next ds i d d l e j) (taken-next gs i g g r f j))
    ∙ sizes-push (take i ds) (take i gs) d g (length-take-le i ds (omega (arith, l)) ∙ sym (length-take-le i gs (omega (arith, r))))

pub sizes-all : (ds : List DatBind) (gs : List Group) (n : ℕ) → n ≡ min (length ds) (length gs) → constructor_sizes (take n ds) (take n gs) ≡ constructor_sizes ds gs
sizes-all [] gs zero e = refl
sizes-all [] gs (suc n) e = refl
sizes-all (d ∷ ds) [] zero e = refl
sizes-all (d ∷ ds) [] (suc n) e = refl
sizes-all (d ∷ ds) (g ∷ gs) zero e = absurd (omega (arith, e))
sizes-all (d ∷ ds) (g ∷ gs) (suc n) e = ap (λ l. sizes d g ++ l) (sizes-all ds gs n (omega (arith, e)))
