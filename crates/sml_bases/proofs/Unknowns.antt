-- Types without unknowns, variant by variant.
use Rattle.std.proofs.Common.{◌≡◌, ℕ, Bool, true, false, not, ◌||◌, List, [], ◌∷◌, ◌++◌, refl, ap, ◌∙◌, Vec, Global}
use Rattle.std.proofs.lemmas.List.{map-append}
use Rattle.std.specs.declared.rc.Rc.{Rc}
use Rattle.sml_objects.specs.Objects as O
use Rattle.sml_objects.specs.Initial.{Name}
use Rattle.sml_objects.specs.Objects.{types_of}
use Rattle.sml_objects.specs.Views.{type_of}
use Rattle.sml_objects.specs.declared.labels.Labels.{Labels}
use Rattle.sml_objects.specs.declared.objects.TyName.{TyName}
use Rattle.sml_objects.specs.declared.objects.MlType.{MlType, Bound, Free}
use Rattle.sml_objects.specs.declared.objects.MlType.TheViews as V
use Rattle.sml_objects.proofs.TypeViews.{parts_of, type_of-bound, type_of-free, type_of-row, type_of-arrow, type_of-name}
use Rattle.sml_core_rules.specs.Values.{has_unknown, have_unknown}

pub unknown-bound : (k : ℕ) → has_unknown (type_of (Bound k)) ≡ false
unfolding has_unknown
unknown-bound k = ap has_unknown (type_of-bound k)

pub unknown-free : (v : ℕ) → has_unknown (type_of (Free v)) ≡ true
unfolding has_unknown
unknown-free v = ap has_unknown (type_of-free v)

pub unknown-row : (ls : Rc Labels Global) (ts : Vec (Rc MlType Global) Global) → has_unknown (type_of (V.Row ls ts)) ≡ have_unknown (types_of (parts_of ts.items))
unfolding has_unknown
unknown-row ls ts = ap has_unknown (type_of-row ls ts)

or-none : (a b : Bool) → (a || (b || false)) ≡ (a || b)
or-none true b = refl
or-none false true = refl
or-none false false = refl

pub unknown-arrow : (t u : Rc MlType Global) → has_unknown (type_of (V.Arrow t u)) ≡ has_unknown (type_of t.value) || has_unknown (type_of u.value)
unfolding has_unknown have_unknown
unknown-arrow t u = ap has_unknown (type_of-arrow t u) ∙ or-none (has_unknown (type_of t.value)) (has_unknown (type_of u.value))

pub unknown-name : (n : TyName) (ts : Vec (Rc MlType Global) Global) → has_unknown (type_of (V.Name n ts)) ≡ have_unknown (types_of (parts_of ts.items))
unfolding has_unknown
unknown-name n ts = ap has_unknown (type_of-name n ts)

pub unknown-none : have_unknown {N = Name} O.no_type ≡ false
unfolding have_unknown
unknown-none = refl

unknown-append : (ts us : List (O.MlType Name)) → have_unknown (types_of (ts ++ us)) ≡ have_unknown (types_of ts) || have_unknown (types_of us)
unfolding have_unknown
unknown-append [] us = refl
unknown-append (t ∷ ts) us =
    elim (has_unknown t) as (λ b. (b || have_unknown (types_of (ts ++ us))) ≡ ((b || have_unknown (types_of ts)) || have_unknown (types_of us))) [
      | true ↦ refl
      | false ↦ unknown-append ts us
    ]

-- a part after those without unknowns
pub unknown-after : (ts us : List (Rc MlType Global)) (t : Rc MlType Global) → have_unknown (types_of (parts_of ts)) ≡ false
    → have_unknown (types_of (parts_of (ts ++ (t ∷ us)))) ≡ has_unknown (type_of t.value) || have_unknown (types_of (parts_of us))
unfolding have_unknown
unknown-after ts us t h =
    ap (λ l. have_unknown (types_of l)) (map-append (λ t. type_of t.value) ts (t ∷ us))
    ∙ unknown-append (parts_of ts) (parts_of (t ∷ us))
    ∙ ap (λ b. b || (has_unknown (type_of t.value) || have_unknown (types_of (parts_of us)))) h

pub some-unknown : (a b : Bool) → false ≡ not a → false ≡ not (a || b)
some-unknown true b h = refl
some-unknown false b h = cc

pub no-unknown : (a : Bool) → true ≡ not a → a ≡ false
no-unknown true h = h
no-unknown false h = refl

pub an-unknown : (a : Bool) → false ≡ not a → a ≡ true
an-unknown true h = refl
an-unknown false h = h
