-- Equality, variant by variant.
use Rattle.std.proofs.Common.{◌≡◌, ℕ, true, false, ◌&&◌, ◌||◌, List, [], ◌∷◌, ◌++◌, refl, ap, ◌∙◌, Vec, Global}
use Rattle.std.proofs.lemmas.List.{map-append}
use Rattle.std.specs.declared.rc.Rc.{Rc}
use Rattle.sml_objects.specs.Names as N
use Rattle.sml_objects.specs.Objects as O
use Rattle.sml_objects.specs.Initial.{Name, initial, made, naming, attributes_of}
use Rattle.sml_objects.specs.Equality.{admits, all_admit, is_ref, is_reference_name, admits_by, all_admit_by}
use Rattle.sml_objects.specs.Objects.{types_of}
use Rattle.sml_objects.specs.Views.{type_of, name_of}
use Rattle.sml_objects.specs.declared.labels.Labels.{Labels}
use Rattle.sml_objects.specs.declared.objects.TyName.{TyName}
use Rattle.sml_objects.specs.declared.objects.MlType.{MlType, Bound, Free}
use Rattle.sml_objects.specs.declared.objects.MlType.TheViews as V
use Rattle.sml_objects.proofs.TypeViews.{parts_of, type_of-bound, type_of-free, type_of-row, type_of-arrow, type_of-name}

is_ref-other : (n : Name) → ¬ (initial N.ref ≡ n) → is_ref naming n ≡ false
unfolding naming
is_ref-other n h = elim (naming.same (initial N.ref) n) as (λ d. (elim d [ yes _ ↦ true | no _ ↦ false ]) ≡ false) [ yes e ↦ absurd (h e) | no _ ↦ refl ]

pub is_ref-name : (n : Name) → is_ref naming n ≡ is_reference_name n
unfolding naming
is_ref-name (made u n a q) = is_ref-other (made u n a q) (λ e. cc)
is_ref-name (initial N.ref) =
    elim (naming.same (initial N.ref) (initial N.ref)) as (λ d. (elim d [ yes _ ↦ true | no _ ↦ false ]) ≡ true) [ yes e ↦ refl | no h ↦ absurd (h refl) ]
is_ref-name (initial N.int) = is_ref-other (initial N.int) (λ e. cc)
is_ref-name (initial N.word) = is_ref-other (initial N.word) (λ e. cc)
is_ref-name (initial N.char) = is_ref-other (initial N.char) (λ e. cc)
is_ref-name (initial N.string) = is_ref-other (initial N.string) (λ e. cc)
is_ref-name (initial N.bool) = is_ref-other (initial N.bool) (λ e. cc)
is_ref-name (initial N.exn) = is_ref-other (initial N.exn) (λ e. cc)
is_ref-name (initial N.real) = is_ref-other (initial N.real) (λ e. cc)
is_ref-name (initial N.list) = is_ref-other (initial N.list) (λ e. cc)

pub admits-bound : (k : ℕ) → admits naming (type_of (Bound k)) ≡ false
unfolding admits_by
admits-bound k = ap (admits naming) (type_of-bound k)

pub admits-free : (v : ℕ) → admits naming (type_of (Free v)) ≡ false
unfolding admits_by
admits-free v = ap (admits naming) (type_of-free v)

pub admits-row : (ls : Rc Labels Global) (ts : Vec (Rc MlType Global) Global) → admits naming (type_of (V.Row ls ts)) ≡ all_admit naming (types_of (parts_of ts.items))
unfolding admits_by
admits-row ls ts = ap (admits naming) (type_of-row ls ts)

pub admits-arrow : (t u : Rc MlType Global) → admits naming (type_of (V.Arrow t u)) ≡ false
unfolding admits_by
admits-arrow t u = ap (admits naming) (type_of-arrow t u)

pub admits-name : (n : TyName) (ts : Vec (Rc MlType Global) Global)
    → admits naming (type_of (V.Name n ts)) ≡ is_reference_name (name_of n) || ((attributes_of (name_of n)).equality && all_admit naming (types_of (parts_of ts.items)))
unfolding admits_by naming
admits-name n ts =
    ap (admits naming) (type_of-name n ts)
    ∙ ap (λ b. b || ((attributes_of (name_of n)).equality && all_admit naming (types_of (parts_of ts.items)))) (is_ref-name (name_of n))

pub all_admit-none : all_admit naming O.no_type ≡ true
unfolding all_admit_by
all_admit-none = refl

all_admit-append : (ts us : List (O.MlType Name))
    → all_admit naming (types_of (ts ++ us)) ≡ all_admit naming (types_of ts) && all_admit naming (types_of us)
unfolding all_admit_by
all_admit-append [] us = refl
all_admit-append (t ∷ ts) us =
    elim (admits naming t) as (λ b. (b && all_admit naming (types_of (ts ++ us))) ≡ ((b && all_admit naming (types_of ts)) && all_admit naming (types_of us))) [
      | true ↦ all_admit-append ts us
      | false ↦ refl
    ]

-- a part after those that admit equality
pub all_admit-after : (ts us : List (Rc MlType Global)) (t : Rc MlType Global) → all_admit naming (types_of (parts_of ts)) ≡ true
    → all_admit naming (types_of (parts_of (ts ++ (t ∷ us)))) ≡ admits naming (type_of t.value) && all_admit naming (types_of (parts_of us))
unfolding all_admit_by
all_admit-after ts us t h =
    ap (λ l. all_admit naming (types_of l)) (map-append (λ t. type_of t.value) ts (t ∷ us))
    ∙ all_admit-append (parts_of ts) (parts_of (t ∷ us))
    ∙ ap (λ b. b && (admits naming (type_of t.value) && all_admit naming (types_of (parts_of us)))) h
