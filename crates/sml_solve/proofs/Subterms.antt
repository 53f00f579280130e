-- The types that demands speak of, with their parts.
use Rattle.std.proofs.Common.{◌≡◌, Option, Some, None, List, [], ◌∷◌, ◌++◌, map, refl, ap, sym, subst, ◌∙◌, inl, inr}
use Rattle.sml_tree.specs.Trees.{Id}
use Rattle.sml_objects.specs.Initial.{Name}
use Rattle.sml_objects.specs.Objects.{MlType, MlTypes, Head, bound, free, app, no_type, and_type, types_of}
use Rattle.sml_graph.specs.Asked.{Demand, equal, has_fields, asks}
use Rattle.sml_solve.specs.Clashes.{IsOneOf}
use Rattle.sml_solve.proofs.Members.{in-left, in-right, in-either, gather, in-gather, gathered}

abbrev pub Ty : Type 0
Ty = MlType Name

abbrev pub listed : MlTypes Name → List Ty
listed no_type = []
listed (and_type t ts) = t ∷ listed ts

pub types-listed : (ts : MlTypes Name) → types_of (listed ts) ≡ ts
types-listed no_type = refl
types-listed (and_type t ts) = ap (and_type t) (types-listed ts)

pub listed-types : (ts : List Ty) → listed (types_of ts) ≡ ts
listed-types [] = refl
listed-types (t ∷ ts) = ap (λ us. t ∷ us) (listed-types ts)

abbrev mutual
  pub subterms : Ty → List Ty
  subterms (bound k) = bound k ∷ []
  subterms (free v) = free v ∷ []
  subterms (app h ts) = app h ts ∷ subterms_all ts

  pub subterms_all : MlTypes Name → List Ty
  subterms_all no_type = []
  subterms_all (and_type t ts) = subterms t ++ subterms_all ts

pub subterm-self : (t : Ty) → IsOneOf t (subterms t)
subterm-self (bound k) = inl refl
subterm-self (free v) = inl refl
subterm-self (app h ts) = inl refl

part-listed : (p : Ty) (ts : MlTypes Name) → IsOneOf p (listed ts) → IsOneOf p (subterms_all ts)
part-listed p no_type h = absurd h
part-listed p (and_type t ts) (inl e) = in-left p (subterms t) (subterms_all ts) (subst (λ q. IsOneOf q (subterms t)) (sym e) (subterm-self t))
part-listed p (and_type t ts) (inr h) = in-right p (subterms t) (subterms_all ts) (part-listed p ts h)

app-parts : (h k : Head Name) (us vs : MlTypes Name) → app h us ≡ app k vs → us ≡ vs
app-parts h k us vs e = cc

mutual
  pub subterm-part : (h : Head Name) (us : MlTypes Name) (p : Ty) → IsOneOf p (listed us) → (t : Ty) → IsOneOf (app h us) (subterms t) → IsOneOf p (subterms t)
  subterm-part h us p i (bound k) (inl e) = cc
  subterm-part h us p i (bound k) (inr n) = absurd n
  subterm-part h us p i (free v) (inl e) = cc
  subterm-part h us p i (free v) (inr n) = absurd n
  subterm-part h us p i (app k vs) (inl e) = inr (part-listed p vs (subst (λ ws. IsOneOf p (listed ws)) (app-parts h k us vs e) i))
  subterm-part h us p i (app k vs) (inr n) = inr (subterms-part h us p i vs n)

  subterms-part : (h : Head Name) (us : MlTypes Name) (p : Ty) → IsOneOf p (listed us) → (ts : MlTypes Name) → IsOneOf (app h us) (subterms_all ts) → IsOneOf p (subterms_all ts)
  subterms-part h us p i no_type n = absurd n
  subterms-part h us p i (and_type t ts) n =
      elim (in-either (app h us) (subterms t) (subterms_all ts) n) [
        | inl m ↦ in-left p (subterms t) (subterms_all ts) (subterm-part h us p i t m)
        | inr m ↦ in-right p (subterms t) (subterms_all ts) (subterms-part h us p i ts m)
      ]

-- the types of a demand

abbrev pub field_types : List (Id × Ty) → List Ty
field_types fs = map (λ f. f.1) fs

abbrev pub types_in : Demand → List Ty
types_in (equal t v) = t ∷ v ∷ []
types_in (has_fields t fs) = t ∷ field_types fs
types_in (asks a t) = []

abbrev pub demand_terms : Demand → List Ty
demand_terms d = gather subterms (types_in d)

-- all types that the demands speak of
abbrev pub terms : List Demand → List Ty
terms ds = gather demand_terms ds

pub term-in : (ds : List Demand) (d : Demand) (t : Ty) → IsOneOf d ds → IsOneOf t (types_in d) → IsOneOf t (terms ds)
term-in ds d t i j = in-gather demand_terms d ds t i (in-gather subterms t (types_in d) t j (subterm-self t))

pub term-part : (ds : List Demand) (h : Head Name) (us : MlTypes Name) (p : Ty) → IsOneOf (app h us) (terms ds) → IsOneOf p (listed us) → IsOneOf p (terms ds)
term-part ds h us p i j =
    let a = gathered demand_terms ds (app h us) i in
    let b = gathered subterms (types_in a.0) (app h us) a.2 in
    in-gather demand_terms a.0 ds p a.1 (in-gather subterms b.0 (types_in a.0) p b.1 (subterm-part h us p j b.0 b.2))

-- the head of a type and its parts

abbrev pub Headed : Type 0
Headed = Option (Head Name × List Ty)

abbrev pub headed : Ty → Headed
headed (bound k) = None
headed (free v) = None
headed (app h ts) = Some (h, listed ts)

pub headed-is : (t : Ty) (h : Head Name) (ts : List Ty) → headed t ≡ Some (h, ts) → t ≡ app h (types_of ts)
headed-is (bound k) h ts e = cc
headed-is (free v) h ts e = cc
headed-is (app k us) h ts e =
    let f : (k, listed us) ≡ (h, ts) = cc in
    let g : k ≡ h = ap (λ (p : Head Name × List Ty). p.0) f in
    let m : listed us ≡ ts = ap (λ (p : Head Name × List Ty). p.1) f in
    ap (app k) (sym (types-listed us) ∙ ap types_of m) ∙ ap (λ x. app x (types_of ts)) g

pub headed-part : (ds : List Demand) (t p : Ty) (h : Head Name) (ts : List Ty) → IsOneOf t (terms ds) → headed t ≡ Some (h, ts) → IsOneOf p ts → IsOneOf p (terms ds)
headed-part ds t p h ts i e j =
    term-part ds h (types_of ts) p (subst (λ x. IsOneOf x (terms ds)) (headed-is t h ts e) i) (subst (IsOneOf p) (sym (listed-types ts)) j)
