-- Identifiers are kept under their bytes.
use Rattle.std.proofs.Common.{◌≡◌, ℕ, zero, suc, List, [], ◌∷◌, Bool, true, false, cond, Some, None, Result, Ok, Err, Vec, refl, sym, ◌∙◌, subst}
use Rattle.std.specs.Prelude.{OnOk, OnErr}
use Rattle.std.specs.Global.{Global}
use Rattle.std.specs.Map.{lookup}
use Rattle.std.specs.Str.{bytes_eq}
use Rattle.std.specs.declared.rc.Rc.{Rc}
use Rattle.std.proofs.lemmas.Bool.{cond-true, cond-false}
use Rattle.std.proofs.lemmas.Map.Entries.{place_from_lookup}
use Rattle.std.proofs.lemmas.Slice.Eq.{bytes_eq-Decides}
use Rattle.indexmap.specs.IndexMap.{insert_entry}
use Rattle.sml_tree.specs.Views.{ident_of}
use Rattle.sml_reach.specs.Idents.{IsShared}

abbrev Entry : Type 0
Entry = Vec ℕ Global × Rc (Vec ℕ Global) Global

pub found : (es : List Entry) (text : List ℕ) (v : Rc (Vec ℕ Global) Global) → IsShared es → Some v ≡ lookup (λ (k : Vec ℕ Global). bytes_eq text k.items) es → ident_of v ≡ text
found es text v h e =
    let p = place_from_lookup (λ (k : Vec ℕ Global). bytes_eq text k.items) es v (sym e) in
    h p.0 (p.1, v) p.2 ∙ sym ((bytes_eq-Decides text p.1.items).0 p.3)

none_some : {A : Type 0} {x : A} → None ≡ Some x → ⊥
none_some e = cc

same_entry : {x y : Entry} → Some x ≡ Some y → x ≡ y
same_entry e = cc

onto : (e : Entry) (es : List Entry) → ident_of e.1 ≡ e.0.items → IsShared es → IsShared (e ∷ es)
onto e es h t zero x g = subst (λ (y : Entry). ident_of y.1 ≡ y.0.items) (same_entry g) h
onto e es h t (suc k) x g = t k x g

inserted : (eq : Vec ℕ Global → Vec ℕ Global → Bool) (same : (x y : Vec ℕ Global) → eq x y ≡ true → x.items ≡ y.items) (es : List Entry) (k : Vec ℕ Global) (v : Rc (Vec ℕ Global) Global) → ident_of v ≡ k.items → IsShared es → IsShared (insert_entry eq es k v)
inserted eq same [] k v h t = onto (k, v) [] h t
inserted eq same (e ∷ es) k v h t = by_test (eq k e.0) refl (inserted eq same es k v h (λ n. t (suc n)))
  where
    by_test : (b : Bool) → eq k e.0 ≡ b → IsShared (insert_entry eq es k v) → IsShared (cond (eq k e.0) ((e.0, v) ∷ es) (e ∷ insert_entry eq es k v))
    by_test true q s = subst IsShared (sym (cond-true _ _ _ q)) (onto (e.0, v) es (h ∙ same k e.0 q) (λ n. t (suc n)))
    by_test false q s = subst IsShared (sym (cond-false _ _ _ q)) (onto e (insert_entry eq es k v) (t 0 e refl) s)

pub after_insert : {A E : Type 0} (r : Result A E) (eq : Vec ℕ Global → Vec ℕ Global → Bool) (same : (x y : Vec ℕ Global) → eq x y ≡ true → x.items ≡ y.items) (old new : List Entry) (k : Vec ℕ Global) (v : Rc (Vec ℕ Global) Global) → OnOk r (new ≡ insert_entry eq old k v) → OnErr r (new ≡ old) → ident_of v ≡ k.items → IsShared old → IsShared new
after_insert (Ok x) eq same old new k v e f h t = subst IsShared (sym e) (inserted eq same old k v h t)
after_insert (Err x) eq same old new k v e f h t = subst IsShared (sym f) t
