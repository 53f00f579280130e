-- Tests of which some were made and others are left.
use Rattle.std.proofs.Common.{◌≡◌, ℕ, ◌+◌, ◌<◌, List, [], ◌∷◌, ◌++◌, Bool, true, false, ◌&&◌, ◌||◌, Result, Ok, Err, IfOk, OnOk, Vec, Global, drop, get_or, length, refl, ap, sym, ◌∙◌}
use Rattle.std.proofs.lemmas.List.{drop_more}
use Rattle.std.specs.List.{list_all}
use Rattle.std.specs.declared.rc.Rc.{Rc}
use Rattle.sml_lex.specs.declared.fault.Memory.{Memory}
use Rattle.sml_objects.specs.Equality.{is_reference_name, admits_by, all_admit_by}
use Rattle.sml_objects.specs.Objects.{types_of}
use Rattle.sml_objects.specs.Views.{type_of, name_of}
use Rattle.sml_objects.specs.declared.labels.Labels.{Labels}
use Rattle.sml_objects.specs.declared.objects.TyName.{TyName}
use Rattle.sml_objects.specs.declared.objects.MlType.{MlType}
use Rattle.sml_objects.specs.declared.objects.MlType.TheViews as V
use Rattle.sml_objects.proofs.TypeViews.{parts_of, type_of-row, type_of-name}
use Rattle.sml_equality.specs.declared.runs.Run.{Run}
use Rattle.sml_equality.specs.Runs.{admits_in, type_admits}

both : (a b c : Bool) → ((a && b) && c) ≡ (a && (b && c))
both true b c = refl
both false b c = refl

always : (a : Bool) → (a && true) ≡ a
always true = refl
always false = refl

never : (a : Bool) → (a && false) ≡ false
never true = refl
never false = refl

-- what is left from an element on
from_here : {A : Type 0} (test : List A → Bool) (all : List A) (i : ℕ) (d x : A) (own : Bool) → ((rest : List A) → test (x ∷ rest) ≡ (own && test rest)) → i < length all → get_or all i d ≡ x → test (drop i all) ≡ (own && test (drop (i + 1) all))
from_here test all i d x own split within here = ap test (drop_more all i d within ∙ ap (λ y. y ∷ drop (i + 1) all) here) ∙ split (drop (i + 1) all)

pub one_more : {A : Type 0} (test : (ℕ → Bool) → List A → Bool) (all : List A) (i : ℕ) (d x : A) (own now next whole : (ℕ → Bool) → Bool)
    → ((kept : ℕ → Bool) (rest : List A) → test kept (x ∷ rest) ≡ (own kept && test kept rest)) → i < length all → get_or all i d ≡ x
    → ((kept : ℕ → Bool) → (now kept && test kept (drop i all)) ≡ whole kept) → ((kept : ℕ → Bool) → (next kept && true) ≡ (now kept && own kept))
    → (kept : ℕ → Bool) → (next kept && test kept (drop (i + 1) all)) ≡ whole kept
one_more test all i d x own now next whole split within here left step kept =
    ap (λ b. b && test kept (drop (i + 1) all)) (sym (always (next kept)) ∙ step kept)
    ∙ both (now kept) (own kept) (test kept (drop (i + 1) all))
    ∙ ap (λ b. now kept && b) (sym (from_here (test kept) all i d x (own kept) (split kept) within here))
    ∙ left kept

pub none_more : {A : Type 0} (test : (ℕ → Bool) → List A → Bool) (all : List A) (i : ℕ) (d x : A) (own now next whole : (ℕ → Bool) → Bool)
    → ((kept : ℕ → Bool) (rest : List A) → test kept (x ∷ rest) ≡ (own kept && test kept rest)) → i < length all → get_or all i d ≡ x
    → ((kept : ℕ → Bool) → (now kept && test kept (drop i all)) ≡ whole kept) → ((kept : ℕ → Bool) → (next kept && false) ≡ (now kept && own kept))
    → (kept : ℕ → Bool) → (next kept && false) ≡ whole kept
none_more test all i d x own now next whole split within here left step kept =
    never (next kept)
    ∙ sym (
    sym (left kept)
    ∙ ap (λ b. now kept && b) (from_here (test kept) all i d x (own kept) (split kept) within here)
    ∙ sym (both (now kept) (own kept) (test kept (drop (i + 1) all)))
    ∙ ap (λ b. b && test kept (drop (i + 1) all)) (sym (step kept) ∙ never (next kept)))

pub all_end : (kept : ℕ → Bool) (ks ls : List ℕ) (k : ℕ) → ls ≡ ks ++ k ∷ [] → list_all kept ls ≡ (list_all kept ks && kept k)
all_end kept ks ls k e = ap (list_all kept) e ∙ ends ks where
  ends : (ks : List ℕ) → list_all kept (ks ++ k ∷ []) ≡ (list_all kept ks && kept k)
  ends [] = always (kept k)
  ends (j ∷ ks) = ap (λ b. kept j && b) (ends ks) ∙ sym (both (kept j) (list_all kept ks) (kept k))

pub same_answer : {P Q : Bool → Type 0} (r : Result Bool Memory) → ((b : Bool) → P b → Q b) → IfOk r P → IfOk r Q
same_answer (Ok b) f p = f b p
same_answer (Err e) f p = tt

module _ (r : Run) (kept : ℕ → Bool) where
  pub row_admits : (ls : Rc Labels Global) (ts : Vec (Rc MlType Global) Global) → type_admits r kept (type_of (V.Row ls ts)) ≡ all_admit_by is_reference_name (λ _. true) (admits_in r kept) (types_of (parts_of ts.items))
  unfolding admits_by
  row_admits ls ts = ap (type_admits r kept) (type_of-row ls ts)

  pub name_admits : (n : TyName) (ts : Vec (Rc MlType Global) Global)
      → type_admits r kept (type_of (V.Name n ts)) ≡ (is_reference_name (name_of n) || (admits_in r kept (name_of n) && all_admit_by is_reference_name (λ _. true) (admits_in r kept) (types_of (parts_of ts.items))))
  unfolding admits_by
  name_admits n ts = ap (type_admits r kept) (type_of-name n ts)

  -- a name that isn't `ref`, of which is known whether it admits equality
  pub applied : (u : MlType) (n : TyName) (ts : Vec (Rc MlType Global) Global) (b : Bool) → u ≡ V.Name n ts → is_reference_name (name_of n) ≡ false → admits_in r kept (name_of n) ≡ b
      → type_admits r kept (type_of u) ≡ (b && all_admit_by is_reference_name (λ _. true) (admits_in r kept) (types_of (parts_of ts.items)))
  applied u n ts b e f g =
      ap (λ v. type_admits r kept (type_of v)) e ∙ name_admits n ts
      ∙ ap (λ x. x || (admits_in r kept (name_of n) && all_admit_by is_reference_name (λ _. true) (admits_in r kept) (types_of (parts_of ts.items)))) f
      ∙ ap (λ x. x && all_admit_by is_reference_name (λ _. true) (admits_in r kept) (types_of (parts_of ts.items))) g

pub then_both : (a b c d x y : Bool) → d ≡ (a && b) → x ≡ (d && c) → y ≡ (b && c) → x ≡ (a && y)
then_both a b c d x y e f g = f ∙ ap (λ z. z && c) e ∙ both a b c ∙ ap (λ z. a && z) (sym g)

pub still_ok : {P Q : Type 0} (r : Result Unit Memory) → (P → Q) → OnOk r P → OnOk r Q
still_ok (Ok u) f p = f p
still_ok (Err e) f p = tt
