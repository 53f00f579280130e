-- One outcome after others.
use Rattle.std.proofs.Common.{◌≡◌, ℕ, List, [], ◌∷◌, ◌++◌, Option, Some, None, map, refl, sym, ap, ◌∙◌, subst, append-nil}
use Rattle.std.proofs.lemmas.List.{map-append}
use Rattle.std.specs.List.{cons_option}
use Rattle.sml_reach.specs.declared.fitted.Fit as F
use Rattle.sml_reach.specs.declared.reach.Misfit.{Misfit}
use Rattle.sml_reach.specs.declared.reach.Outcome as P
use Rattle.sml_reach.specs.declared.reach.Outcome.TheVariants as V
use Rattle.sml_reach.specs.declared.reach.Gathered.{Gathered}
use Rattle.sml_reach.specs.Fits.{Fit, Fitted, fit_of, fitted_of}
use Rattle.sml_reach.specs.Reach.{Outcome, declares, idle, stands, fails, misfit_in, misfits_in, fits_before, declarations_in, outcome_of}
use Rattle.sml_reach.specs.CodeGathered.{AreDeclared, AreGathered}

pub same_first : {A : Type 0} {x y : A} {xs ys : List A} → x ∷ xs ≡ y ∷ ys → x ≡ y
same_first e = cc

pub same_rest : {A : Type 0} {x y : A} {xs ys : List A} → x ∷ xs ≡ y ∷ ys → xs ≡ ys
same_rest e = cc

no_last : {A : Type 0} (xs : List A) (x : A) → [] ≡ xs ++ x ∷ [] → ⊥
no_last [] x e = cc
no_last (y ∷ xs) x e = cc

-- a declaration begins

begins_kept : (os : List Outcome) (t : ℕ) → fits_before (os ++ declares t ∷ []) ≡ fits_before os
begins_kept [] t = refl
begins_kept (declares u ∷ os) t = refl
begins_kept (idle ∷ os) t = begins_kept os t
begins_kept (stands f ∷ os) t = ap (λ fs. f ∷ fs) (begins_kept os t)
begins_kept (fails m ∷ os) t = begins_kept os t

declared : (os : List Outcome) (t : ℕ) → declarations_in (os ++ declares t ∷ []) ≡ declarations_in os ++ record { begun = t; fits = [] } ∷ []
declared [] t = refl
declared (declares u ∷ os) t = λ i. record { begun = u; fits = begins_kept os t i } ∷ declared os t i
declared (idle ∷ os) t = declared os t
declared (stands f ∷ os) t = declared os t
declared (fails m ∷ os) t = declared os t

-- a sequence stands for something

stood_none : (os : List Outcome) (f : Fit) → declarations_in os ≡ [] → declarations_in (os ++ stands f ∷ []) ≡ []
stood_none [] f e = refl
stood_none (declares u ∷ os) f e = cc
stood_none (idle ∷ os) f e = stood_none os f e
stood_none (stands g ∷ os) f e = stood_none os f e
stood_none (fails m ∷ os) f e = stood_none os f e

stood_last : (os : List Outcome) (f : Fit) → declarations_in os ≡ [] → fits_before (os ++ stands f ∷ []) ≡ fits_before os ++ f ∷ []
stood_last [] f e = refl
stood_last (declares u ∷ os) f e = cc
stood_last (idle ∷ os) f e = stood_last os f e
stood_last (stands g ∷ os) f e = ap (λ fs. g ∷ fs) (stood_last os f e)
stood_last (fails m ∷ os) f e = stood_last os f e

stood_kept : (os : List Outcome) (f : Fit) (ds : List Fitted) (d : Fitted) → declarations_in os ≡ ds ++ d ∷ [] → fits_before (os ++ stands f ∷ []) ≡ fits_before os
stood_kept [] f ds d e = absurd (no_last ds d e)
stood_kept (declares u ∷ os) f ds d e = refl
stood_kept (idle ∷ os) f ds d e = stood_kept os f ds d e
stood_kept (stands g ∷ os) f ds d e = ap (λ fs. g ∷ fs) (stood_kept os f ds d e)
stood_kept (fails m ∷ os) f ds d e = stood_kept os f ds d e

stood : (os : List Outcome) (f : Fit) (ds : List Fitted) (b : ℕ) (fs : List Fit) → declarations_in os ≡ ds ++ record { begun = b; fits = fs } ∷ []
    → declarations_in (os ++ stands f ∷ []) ≡ ds ++ record { begun = b; fits = fs ++ f ∷ [] } ∷ []
stood [] f ds b fs e = absurd (no_last ds _ e)
stood (declares u ∷ os) f [] b fs e =
    let first = same_first e in
    let none = same_rest e in
    λ i. record { begun = ap (λ (d : Fitted). d.begun) first i; fits = (stood_last os f none ∙ ap (λ (d : Fitted). d.fits ++ f ∷ []) first) i } ∷ stood_none os f none i
stood (declares u ∷ os) f (d ∷ ds) b fs e =
    let rest = same_rest e in
    λ i. (ap (λ gs. record { begun = u; fits = gs }) (stood_kept os f ds _ rest) ∙ same_first e) i ∷ stood os f ds b fs rest i
stood (idle ∷ os) f ds b fs e = stood os f ds b fs e
stood (stands g ∷ os) f ds b fs e = stood os f ds b fs e
stood (fails m ∷ os) f ds b fs e = stood os f ds b fs e

-- nothing stands there

abbrev Quiet : Outcome → Type 0
Quiet idle = Unit {0}
Quiet (fails m) = Unit {0}
Quiet _ = ⊥

quiet_fits : (os : List Outcome) (o : Outcome) → Quiet o → fits_before (os ++ o ∷ []) ≡ fits_before os
quiet_fits [] idle q = refl
quiet_fits [] (fails m) q = refl
quiet_fits [] (declares t) q = absurd q
quiet_fits [] (stands f) q = absurd q
quiet_fits (declares u ∷ os) o q = refl
quiet_fits (idle ∷ os) o q = quiet_fits os o q
quiet_fits (stands g ∷ os) o q = ap (λ fs. g ∷ fs) (quiet_fits os o q)
quiet_fits (fails m ∷ os) o q = quiet_fits os o q

quiet : (os : List Outcome) (o : Outcome) → Quiet o → declarations_in (os ++ o ∷ []) ≡ declarations_in os
quiet [] idle q = refl
quiet [] (fails m) q = refl
quiet [] (declares t) q = absurd q
quiet [] (stands f) q = absurd q
quiet (declares u ∷ os) o q = λ i. record { begun = u; fits = quiet_fits os o q i } ∷ quiet os o q i
quiet (idle ∷ os) o q = quiet os o q
quiet (stands g ∷ os) o q = quiet os o q
quiet (fails m ∷ os) o q = quiet os o q

-- the faults

misfits_more : (os : List Outcome) (o : Outcome) → misfits_in (os ++ o ∷ []) ≡ misfits_in os ++ cons_option (misfit_in o) []
misfits_more [] o = refl
misfits_more (declares t ∷ os) o = misfits_more os o
misfits_more (idle ∷ os) o = misfits_more os o
misfits_more (stands f ∷ os) o = misfits_more os o
misfits_more (fails m ∷ os) o = ap (λ ms. m ∷ ms) (misfits_more os o)

no_misfit : (os : List Outcome) (o : Outcome) → misfit_in o ≡ None → misfits_in (os ++ o ∷ []) ≡ misfits_in os
no_misfit os o e = misfits_more os o ∙ ap (λ m. misfits_in os ++ cons_option m []) e ∙ append-nil (misfits_in os)

-- what was gathered

stands_on : (os : List Outcome) (f : Fit) (ds : List Fitted) (begun : Option ℕ) (fs : List Fit) → AreDeclared ds begun fs (declarations_in os) → AreDeclared ds begun (fs ++ f ∷ []) (declarations_in (os ++ stands f ∷ []))
stands_on os f ds None fs h = (h.0, stood_none os f h.1)
stands_on os f ds (Some b) fs h = stood os f ds b fs h

pub stands_gathered : (os : List Outcome) (g : Gathered) (fit : F.Fit) (fits : List F.Fit) (o : P.Outcome) → o ≡ V.Stands fit → fits ≡ g.fits.items ++ fit ∷ [] → AreGathered g os
    → AreDeclared (map fitted_of g.declarations.items) g.begun (map fit_of fits) (declarations_in (os ++ outcome_of o ∷ [])) × (g.misfits.items ≡ misfits_in (os ++ outcome_of o ∷ []))
stands_gathered os g fit fits o e f h =
    let ds = map fitted_of g.declarations.items in
    let all : map fit_of fits ≡ map fit_of g.fits.items ++ fit_of fit ∷ [] = ap (map fit_of) f ∙ map-append fit_of g.fits.items (fit ∷ []) in
    subst (λ o. AreDeclared ds g.begun (map fit_of fits) (declarations_in (os ++ outcome_of o ∷ [])) × (g.misfits.items ≡ misfits_in (os ++ outcome_of o ∷ []))) (sym e)
    (subst (λ fs. AreDeclared ds g.begun fs (declarations_in (os ++ stands (fit_of fit) ∷ []))) (sym all) (stands_on os (fit_of fit) ds g.begun (map fit_of g.fits.items) h.0), h.1 ∙ sym (no_misfit os (stands (fit_of fit)) refl))

pub idle_gathered : (os : List Outcome) (g : Gathered) (o : P.Outcome) → o ≡ V.Idle → AreGathered g os
    → AreDeclared (map fitted_of g.declarations.items) g.begun (map fit_of g.fits.items) (declarations_in (os ++ outcome_of o ∷ [])) × (g.misfits.items ≡ misfits_in (os ++ outcome_of o ∷ []))
idle_gathered os g o e h =
    let ds = map fitted_of g.declarations.items in
    let fs = map fit_of g.fits.items in
    subst (λ o. AreDeclared ds g.begun fs (declarations_in (os ++ outcome_of o ∷ [])) × (g.misfits.items ≡ misfits_in (os ++ outcome_of o ∷ []))) (sym e)
    (subst (AreDeclared ds g.begun fs) (sym (quiet os idle tt)) h.0, h.1 ∙ sym (no_misfit os idle refl))

pub fails_gathered : (os : List Outcome) (g : Gathered) (m : Misfit) (misfits : List Misfit) (o : P.Outcome) → o ≡ V.Fails m → misfits ≡ g.misfits.items ++ m ∷ [] → AreGathered g os
    → AreDeclared (map fitted_of g.declarations.items) g.begun (map fit_of g.fits.items) (declarations_in (os ++ outcome_of o ∷ [])) × (misfits ≡ misfits_in (os ++ outcome_of o ∷ []))
fails_gathered os g m misfits o e f h =
    let ds = map fitted_of g.declarations.items in
    let fs = map fit_of g.fits.items in
    subst (λ o. AreDeclared ds g.begun fs (declarations_in (os ++ outcome_of o ∷ [])) × (misfits ≡ misfits_in (os ++ outcome_of o ∷ []))) (sym e)
    (subst (AreDeclared ds g.begun fs) (sym (quiet os (fails m) tt)) h.0, f ∙ ap (λ ms. ms ++ m ∷ []) h.1 ∙ sym (misfits_more os (fails m)))

-- a declaration begins after those that have ended

pub begun_gathered : (os : List Outcome) (t : ℕ) (ds : List Fitted) (fits : List F.Fit) (misfits : List Misfit) → ds ≡ declarations_in os → fits ≡ [] → misfits ≡ misfits_in os
    → (declarations_in (os ++ declares t ∷ []) ≡ ds ++ record { begun = t; fits = map fit_of fits } ∷ []) × (misfits ≡ misfits_in (os ++ declares t ∷ []))
begun_gathered os t ds fits misfits e none m =
    (declared os t ∙ ap (λ xs. xs ++ record { begun = t; fits = [] } ∷ []) (sym e) ∙ ap (λ fs. ds ++ record { begun = t; fits = map fit_of fs } ∷ []) (sym none), m ∙ sym (no_misfit os (declares t) refl))
