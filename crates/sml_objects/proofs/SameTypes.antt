-- Equal types, variant by variant.
use Rattle.std.proofs.Common.{◌≡◌, ℕ, ◌<◌, length, get_or, List, [], ◌∷◌, refl, ap, ◌∙◌, sym, Vec, Global}
use Rattle.std.proofs.lemmas.List.{get_or-map}
use Rattle.std.specs.declared.rc.Rc.{Rc}
use Rattle.sml_tree.specs.Trees.{Id}
use Rattle.sml_objects.specs.Objects as O
use Rattle.sml_objects.specs.Initial.{Name}
use Rattle.sml_objects.specs.Objects.{types_of}
use Rattle.sml_objects.specs.Views.{type_of, label_list, row_of, name_of}
use Rattle.sml_objects.specs.declared.labels.Labels.{Labels}
use Rattle.sml_objects.specs.declared.objects.TyName.{TyName}
use Rattle.sml_objects.specs.declared.objects.MlType.{MlType, Bound, Free}
use Rattle.sml_objects.specs.declared.objects.MlType.TheViews as V
use Rattle.sml_objects.specs.declared.objects.MlType.TheViews.{out-MlType, roll-MlType, roll-out-MlType}
use Rattle.sml_objects.specs.declared.objects.MlType.TheOpen as F
use Rattle.sml_objects.specs.declared.objects.MlType.TheVariants.{rolls-Bound, rolls-Free, rolls-Row, rolls-Arrow, rolls-Name}
use Rattle.sml_objects.proofs.TypeViews.{parts_of, type_of-bound, type_of-free, type_of-row, type_of-arrow, type_of-name}

abbrev Types : Type 0
Types = Vec (Rc MlType Global) Global

abbrev parts : O.MlType Name → O.MlTypes Name
parts (O.bound k) = O.no_type
parts (O.free v) = O.no_type
parts (O.app h ts) = ts

abbrev first : O.MlTypes Name → O.MlType Name
first O.no_type = O.bound 0
first (O.and_type t ts) = t

abbrev rest : O.MlTypes Name → O.MlTypes Name
rest O.no_type = O.no_type
rest (O.and_type t ts) = ts

abbrev listed : O.MlTypes Name → List (O.MlType Name)
listed O.no_type = []
listed (O.and_type t ts) = t ∷ listed ts

listed-types : (ts : List (O.MlType Name)) → listed (types_of ts) ≡ ts
listed-types [] = refl
listed-types (t ∷ ts) = ap (λ us. t ∷ us) (listed-types ts)

same-parts : (t u : O.MlType Name) (ts us : List (O.MlType Name)) → parts t ≡ types_of ts → parts u ≡ types_of us → t ≡ u → ts ≡ us
same-parts t u ts us h k e = sym (listed-types ts) ∙ ap listed (sym h ∙ ap parts e ∙ k) ∙ listed-types us

pub same-row : (ls ms : Rc Labels Global) (ts us : Types) → label_list ls.value ≡ label_list ms.value → parts_of ts.items ≡ parts_of us.items
    → type_of (V.Row ls ts) ≡ type_of (V.Row ms us)
same-row ls ms ts us k h = type_of-row ls ts ∙ (λ i. row_of (k i) (h i)) ∙ sym (type_of-row ms us)

pub parts-row : (ls ms : Rc Labels Global) (ts us : Types) → type_of (V.Row ls ts) ≡ type_of (V.Row ms us) → parts_of ts.items ≡ parts_of us.items
parts-row ls ms ts us e = same-parts _ _ _ _ (ap parts (type_of-row ls ts)) (ap parts (type_of-row ms us)) e

abbrev head_labels : O.MlType Name → List Id
head_labels (O.app (O.row ls) ts) = ls
head_labels t = []

pub labels-row : (ls ms : Rc Labels Global) (ts us : Types) → type_of (V.Row ls ts) ≡ type_of (V.Row ms us) → label_list ls.value ≡ label_list ms.value
labels-row ls ms ts us e = ap head_labels (sym (type_of-row ls ts) ∙ e ∙ type_of-row ms us)

pub same-arrow : (t u v w : Rc MlType Global) → type_of t.value ≡ type_of v.value → type_of u.value ≡ type_of w.value → type_of (V.Arrow t u) ≡ type_of (V.Arrow v w)
same-arrow t u v w h k = type_of-arrow t u ∙ (λ i. O.arrow_of (h i) (k i)) ∙ sym (type_of-arrow v w)

pub from-arrow : (t u v w : Rc MlType Global) → type_of (V.Arrow t u) ≡ type_of (V.Arrow v w) → type_of t.value ≡ type_of v.value
from-arrow t u v w e = ap (λ t. first (parts t)) (sym (type_of-arrow t u) ∙ e ∙ type_of-arrow v w)

pub to-arrow : (t u v w : Rc MlType Global) → type_of (V.Arrow t u) ≡ type_of (V.Arrow v w) → type_of u.value ≡ type_of w.value
to-arrow t u v w e = ap (λ t. first (rest (parts t))) (sym (type_of-arrow t u) ∙ e ∙ type_of-arrow v w)

pub same-name : (m n : TyName) (ts us : Types) → name_of m ≡ name_of n → parts_of ts.items ≡ parts_of us.items → type_of (V.Name m ts) ≡ type_of (V.Name n us)
same-name m n ts us h k = type_of-name m ts ∙ (λ i. O.app (O.name (h i)) (types_of (k i))) ∙ sym (type_of-name n us)

pub parts-name : (m n : TyName) (ts us : Types) → type_of (V.Name m ts) ≡ type_of (V.Name n us) → parts_of ts.items ≡ parts_of us.items
parts-name m n ts us e = same-parts _ _ _ _ (ap parts (type_of-name m ts)) (ap parts (type_of-name n us)) e

abbrev head_name : Name → O.MlType Name → Name
head_name n (O.app (O.name m) ts) = m
head_name n t = n

pub head-name : (m n : TyName) (ts us : Types) → type_of (V.Name m ts) ≡ type_of (V.Name n us) → name_of m ≡ name_of n
head-name m n ts us e = ap (head_name (name_of m)) (sym (type_of-name m ts) ∙ e ∙ type_of-name n us)

-- the variants, told apart
abbrev pub kind : O.MlType Name → ℕ
kind (O.bound k) = 0
kind (O.free v) = 1
kind (O.app O.arrow ts) = 2
kind (O.app (O.row ls) ts) = 3
kind (O.app (O.name n) ts) = 4

pub kind-bound : (k : ℕ) → kind (type_of (Bound k)) ≡ 0
kind-bound k = ap kind (type_of-bound k)

pub kind-free : (v : ℕ) → kind (type_of (Free v)) ≡ 1
kind-free v = ap kind (type_of-free v)

pub kind-arrow : (t u : Rc MlType Global) → kind (type_of (V.Arrow t u)) ≡ 2
kind-arrow t u = ap kind (type_of-arrow t u)

pub kind-row : (ls : Rc Labels Global) (ts : Types) → kind (type_of (V.Row ls ts)) ≡ 3
kind-row ls ts = ap kind (type_of-row ls ts)

pub kind-name : (n : TyName) (ts : Types) → kind (type_of (V.Name n ts)) ≡ 4
kind-name n ts = ap kind (type_of-name n ts)

-- equal parts have equal items
pub part-at : (i : ℕ) (ts us : List (Rc MlType Global)) (t u : Rc MlType Global) → t ≡ get_or ts i t → u ≡ get_or us i u → i < length ts → i < length us
    → parts_of ts ≡ parts_of us → type_of t.value ≡ type_of u.value
part-at i ts us t u h k n m e =
    let see : Rc MlType Global → O.MlType Name = λ t. type_of t.value in
    ap see h ∙ sym (get_or-map see ts i t (see t) n) ∙ ap (λ l. get_or l i (see t)) e ∙ get_or-map see us i u (see t) m ∙ sym (ap see k)

-- the variants of a type
pub cases : {P : Type 0} (ty : MlType) → ((k : ℕ) → ty ≡ Bound k → P) → ((v : ℕ) → ty ≡ Free v → P) → ((ls : Rc Labels Global) (ts : Types) → ty ≡ V.Row ls ts → P)
    → ((t u : Rc MlType Global) → ty ≡ V.Arrow t u → P) → ((n : TyName) (ts : Types) → ty ≡ V.Name n ts → P) → P
cases {P} ty b f r a n = go (out-MlType ty) (roll-out-MlType ty)
  where
    go : (l : F.MlType-F MlType) → roll-MlType l ≡ ty → P
    go (F.Bound k) e = b k (sym e ∙ rolls-Bound k)
    go (F.Free v) e = f v (sym e ∙ rolls-Free v)
    go (F.Row ls ts) e = r ls ts (sym e ∙ rolls-Row ls ts)
    go (F.Arrow t u) e = a t u (sym e ∙ rolls-Arrow t u)
    go (F.Name m ts) e = n m ts (sym e ∙ rolls-Name m ts)

other : {j k : ℕ} (ty v : MlType) → kind (type_of ty) ≡ j → ty ≡ v → kind (type_of v) ≡ k → ¬ (k ≡ j) → ⊥
other ty v h e g n = n (sym g ∙ ap (λ t. kind (type_of t)) (sym e) ∙ h)

pub only-free : (ty : MlType) → kind (type_of ty) ≡ 1 → ((v : ℕ) → ty ≡ Free v → ⊥) → ⊥
only-free ty h f =
    cases ty (λ k e. other ty _ h e (kind-bound k) (λ g. cc)) f (λ ls ts e. other ty _ h e (kind-row ls ts) (λ g. cc))
    (λ t u e. other ty _ h e (kind-arrow t u) (λ g. cc)) (λ n ts e. other ty _ h e (kind-name n ts) (λ g. cc))

pub only-arrow : (ty : MlType) → kind (type_of ty) ≡ 2 → ((t u : Rc MlType Global) → ty ≡ V.Arrow t u → ⊥) → ⊥
only-arrow ty h a =
    cases ty (λ k e. other ty _ h e (kind-bound k) (λ g. cc)) (λ v e. other ty _ h e (kind-free v) (λ g. cc)) (λ ls ts e. other ty _ h e (kind-row ls ts) (λ g. cc))
    a (λ n ts e. other ty _ h e (kind-name n ts) (λ g. cc))

pub only-row : (ty : MlType) → kind (type_of ty) ≡ 3 → ((ls : Rc Labels Global) (ts : Types) → ty ≡ V.Row ls ts → ⊥) → ⊥
only-row ty h r =
    cases ty (λ k e. other ty _ h e (kind-bound k) (λ g. cc)) (λ v e. other ty _ h e (kind-free v) (λ g. cc)) r
    (λ t u e. other ty _ h e (kind-arrow t u) (λ g. cc)) (λ n ts e. other ty _ h e (kind-name n ts) (λ g. cc))

pub only-name : (ty : MlType) → kind (type_of ty) ≡ 4 → ((n : TyName) (ts : Types) → ty ≡ V.Name n ts → ⊥) → ⊥
only-name ty h n =
    cases ty (λ k e. other ty _ h e (kind-bound k) (λ g. cc)) (λ v e. other ty _ h e (kind-free v) (λ g. cc)) (λ ls ts e. other ty _ h e (kind-row ls ts) (λ g. cc))
    (λ t u e. other ty _ h e (kind-arrow t u) (λ g. cc)) n
