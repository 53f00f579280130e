-- Classes of types that demands make equal.
use Rattle.std.proofs.Common.{◌≡◌, ℕ, suc, ◌<◌, Option, Some, None, List, [], ◌∷◌, ◌++◌, length, map, ap, sym, subst, inl, inr, arith}
use Rattle.std.proofs.Math.Decide.{ℕ_discrete}
use Rattle.sml_tree.specs.Trees.{Id}
use Rattle.sml_objects.specs.Maps.{lookup}
use Rattle.sml_objects.specs.Objects.{arrow, row, name}
use Rattle.sml_objects.specs.Labels.{with_labels}
use Rattle.sml_graph.specs.Asked.{Demand, equal, has_fields, asks}
use Rattle.sml_solve.specs.Clashes.{IsOneOf, part_at}
use Rattle.sml_solve.proofs.Members.{gather, in-gather, gathered, in-map}
use Rattle.sml_solve.proofs.Discerning.{same_id, same_head}
use Rattle.sml_solve.proofs.Subterms.{Ty, terms, term-in, Headed, headed}

abbrev pub Pair : Type 0
Pair = Ty × Ty

-- some of a list, where something holds
abbrev pub when : {P : Type 0} → Dec P → List Pair → List Pair
when (yes p) xs = xs
when (no p) xs = []

pub when-in : {P : Type 0} (d : Dec P) (x : Pair) (xs : List Pair) → IsOneOf x (when d xs) → P × IsOneOf x xs
when-in (yes p) x xs h = (p, h)
when-in (no p) x xs h = absurd h

pub in-when : {P : Type 0} (d : Dec P) (x : Pair) (xs : List Pair) → P → IsOneOf x xs → IsOneOf x (when d xs)
in-when (yes p) x xs q h = h
in-when (no p) x xs q h = absurd (p q)

abbrev pub zipped : List Ty → List Ty → List Pair
zipped [] us = []
zipped (t ∷ ts) [] = []
zipped (t ∷ ts) (u ∷ us) = (t, u) ∷ zipped ts us

pub zipped-at : (p : Pair) (ts us : List Ty) → IsOneOf p (zipped ts us) → (i : ℕ) × (i < length ts) × (i < length us) × (p.0 ≡ part_at ts i) × (p.1 ≡ part_at us i) × IsOneOf p.0 ts × IsOneOf p.1 us
zipped-at p [] us h = absurd h
zipped-at p (t ∷ ts) [] h = absurd h
zipped-at p (t ∷ ts) (u ∷ us) (inl e) =
    (0, omega arith, omega arith, ap (λ (q : Pair). q.0) e, ap (λ (q : Pair). q.1) e, inl (ap (λ (q : Pair). q.0) e), inl (ap (λ (q : Pair). q.1) e))
zipped-at p (t ∷ ts) (u ∷ us) (inr h) =
    let r = zipped-at p ts us h in
    let a = r.1 in
    let b = r.2 in
    (suc r.0, omega (arith, a), omega (arith, b), r.3, r.4, inr r.5, inr r.6)

-- the parts of two types under one head
abbrev pub pairs_under : Headed → Headed → List Pair
pairs_under None b = []
pairs_under (Some a) None = []
pairs_under (Some a) (Some b) = when (same_head a.0 b.0) (zipped a.1 b.1)

-- a field that is asked of a row: the row, the label and the field's type
abbrev pub Field : Type 0
Field = Ty × Id × Ty

abbrev pub fields_in : Demand → List Field
fields_in (equal t v) = []
fields_in (has_fields r fs) = map (λ f. (r, f.0, f.1)) fs
fields_in (asks a t) = []

abbrev pub asked_fields : List Demand → List Field
asked_fields ds = gather fields_in ds

field-listed : (r : Ty) (fs : List (Id × Ty)) (x : Field) → IsOneOf x (map (λ f. (r, f.0, f.1)) fs) → (x.0 ≡ r) × IsOneOf (x.1, x.2) fs × IsOneOf x.2 (map (λ f. f.1) fs)
field-listed r [] x h = absurd h
field-listed r (f ∷ fs) x (inl e) =
    let a : x.0 ≡ r = ap (λ (q : Field). q.0) e in
    let b : (x.1, x.2) ≡ f = ap (λ (q : Field). (q.1, q.2)) e in
    (a, inl b, inl (ap (λ (q : Field). q.2) e))
field-listed r (f ∷ fs) x (inr h) = let k = field-listed r fs x h in (k.0, inr k.1, inr k.2)

-- an asked field, with the demand that asks for it
pub record Source (ds : List Demand) (x : Field) : Type 0 where
  pub fields : List (Id × Ty)
  pub demand : IsOneOf (has_fields x.0 fields) ds
  pub among : IsOneOf (x.1, x.2) fields
  pub row_in : IsOneOf x.0 (terms ds)
  pub field_in : IsOneOf x.2 (terms ds)

source-in : (ds : List Demand) (d : Demand) (x : Field) → IsOneOf d ds → IsOneOf x (fields_in d) → Source ds x
source-in ds (equal t v) x i h = absurd h
source-in ds (has_fields r fs) x i h =
    let k = field-listed r fs x h in
    record {
      fields = fs;
      demand = subst (λ q. IsOneOf (has_fields q fs) ds) (sym k.0) i;
      among = k.1;
      row_in = term-in ds (has_fields r fs) x.0 i (inl k.0);
      field_in = term-in ds (has_fields r fs) x.2 i (inr k.2);
    }
source-in ds (asks a t) x i h = absurd h

pub source : (ds : List Demand) (x : Field) → IsOneOf x (asked_fields ds) → Source ds x
source ds x h = let a = gathered fields_in ds x h in source-in ds a.0 x a.1 a.2

pub asked-field : (ds : List Demand) (r : Ty) (fs : List (Id × Ty)) (f : Id × Ty) → IsOneOf (has_fields r fs) ds → IsOneOf f fs → IsOneOf (r, f.0, f.1) (asked_fields ds)
asked-field ds r fs f i j = in-gather fields_in (has_fields r fs) ds (r, f.0, f.1) i (in-map (λ (g : Id × Ty). (r, g.0, g.1)) f fs j)

-- a field with the part of a row that has its label
abbrev pub field_pair : Ty → Option Ty → List Pair
field_pair t None = []
field_pair t (Some u) = (t, u) ∷ []

abbrev pub row_pairs : Field → Headed → List Pair
row_pairs f None = []
row_pairs f (Some (arrow, ts)) = []
row_pairs f (Some (row ls, ts)) = field_pair f.2 (lookup f.1 (with_labels ls ts))
row_pairs f (Some (name n, ts)) = []

abbrev pub given_pairs : Demand → List Pair
given_pairs (equal t v) = (t, v) ∷ []
given_pairs (has_fields r fs) = []
given_pairs (asks a t) = []

-- the class of each type
abbrev pub Classes : Type 0
Classes = Ty → ℕ

abbrev pub together : Classes → Ty → Ty → List Pair → List Pair
together c t u xs = when (ℕ_discrete (c t) (c u)) xs

abbrev pub component_needs : List Ty → Classes → List Pair
component_needs ts c = gather (λ t. gather (λ u. together c t u (pairs_under (headed t) (headed u))) ts) ts

abbrev pub row_needs : List Field → List Ty → Classes → List Pair
row_needs fs ts c = gather (λ f. gather (λ u. together c f.0 u (row_pairs f (headed u))) ts) fs

abbrev pub field_needs : List Field → Classes → List Pair
field_needs fs c = gather (λ f. gather (λ g. together c f.0 g.0 (when (same_id f.1 g.1) ((f.2, g.2) ∷ []))) fs) fs

-- the pairs of types that are to be in one class
abbrev pub needs : List Demand → Classes → List Pair
needs ds c = gather given_pairs ds ++ (component_needs (terms ds) c ++ (row_needs (asked_fields ds) (terms ds) c ++ field_needs (asked_fields ds) c))
