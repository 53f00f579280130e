-- Names that lists of specifications bind, one specification after the other.
use Rattle.std.proofs.Common.{◌≡◌, ℕ, zero, suc, ◌+◌, ◌^◌, ◌<◌, List, [], ◌∷◌, ◌++◌, map, take, length, get_or, Option, Some, None, Vec, Global, refl, sym, ap, ◌∙◌, arith}
use Rattle.std.proofs.lemmas.List.{length-map, take_more}
use Rattle.std.specs.Option.{option_map}
use Rattle.std.specs.Vec.{vec_len}
use Rattle.sml_lex.specs.declared.fault.Place.{Place}
use Rattle.std.specs.declared.rc.Rc.{Rc}
use Rattle.sml_tree.specs.Trees.{Id}
use Rattle.sml_tree.specs.Views.{ident_of}
use Rattle.sml_tree.specs.declared.signatures.StrDesc.{StrDesc, out-StrDesc, fold_out-StrDesc}
use Rattle.sml_tree.specs.declared.signatures.SigExp.TheOpen as SO
use Rattle.sml_tree.specs.declared.signatures.SigExp.TheVariants as SV
use Rattle.sml_tree.specs.declared.signatures.SigExp.TheFolds.{fold-roll-SigExp}
use Rattle.sml_tree.specs.Signatures as S
use Rattle.sml_tree.specs.SignatureViews.{sig_of, sig_layer, spec_layer, str_desc_layer, str_desc_of}
use Rattle.sml_tree.proofs.Lists.{map_more}
use Rattle.sml_objects.specs.Initial.{Name}
use Rattle.sml_objects.specs.Views.{name_of}
use Rattle.sml_core_rules.specs.Objects as O
use Rattle.sml_bases.specs.Views.{sig_of as bound_sig}
use Rattle.sml_bases.specs.declared.objects.Sig.{Sig}
use Rattle.sml_bases.specs.Entries.{capped}
use Rattle.sml_sigs.specs.Counts.{names_in, plus, sig_binds, str_desc_binds}

plus-assoc : (a b c : Option ℕ) → plus a (plus b c) ≡ plus (plus a b) c
plus-assoc None b c = refl
plus-assoc (Some a) None c = refl
plus-assoc (Some a) (Some b) None = refl
plus-assoc (Some a) (Some b) (Some c) = let e : a + (b + c) ≡ (a + b) + c = omega arith in ap Some e

plus-zero : (a : Option ℕ) → plus a (Some 0) ≡ plus (Some 0) a
plus-zero None = refl
plus-zero (Some a) = let e : a + 0 ≡ 0 + a = omega arith in ap Some e

plus-none : (a : Option ℕ) → plus a None ≡ None
plus-none None = refl
plus-none (Some a) = refl

plus-capped : (a b : Option ℕ) (m n new : ℕ) → Some m ≡ option_map capped a → Some n ≡ option_map capped b → new ≡ capped (m + n) → Some new ≡ option_map capped (plus a b)
plus-capped None b m n new h k e = cc
plus-capped (Some a) None m n new h k e = cc
plus-capped (Some a) (Some b) m n new h k e =
    let p : m ≡ capped a = cc in
    let q : n ≡ capped b = cc in
    let r : new ≡ capped (a + b) = omega (arith, p, q, e) in
    ap Some r

never : (o : Option ℕ) → None ≡ option_map capped o → o ≡ None
never None h = refl
never (Some n) h = cc

-- so many in a list
pub listed : {A B : Type 0} (f : A → B) (v : Vec A Global) (n : ℕ) → n ≡ vec_len v → n < 2 ^ 64 → Some n ≡ option_map capped (Some (length (map f v.items)))
listed f v n e h =
    let l = v.ok.0 in
    let m = length-map v.items f in
    let r : n ≡ capped (length (map f v.items)) = omega (arith, e, h, l, m) in
    ap Some r

module _ {A B : Type 0} (f : A → B) (binds : B → Option ℕ) (bind : List B → Option ℕ) (none : bind [] ≡ Some 0) (more : (y : B) (ys : List B) → bind (y ∷ ys) ≡ plus (binds y) (bind ys)) where
  bind-push : (ys : List B) (y : B) → bind (ys ++ y ∷ []) ≡ plus (bind ys) (binds y)
  bind-push [] y = more y [] ∙ ap (plus (binds y)) none ∙ plus-zero (binds y) ∙ ap (λ o. plus o (binds y)) (sym none)
  bind-push (z ∷ ys) y =
      more z (ys ++ y ∷ []) ∙ ap (plus (binds z)) (bind-push ys y) ∙ plus-assoc (binds z) (bind ys) (binds y) ∙ ap (λ o. plus o (binds y)) (sym (more z ys))

  -- one more
  pub binds-on : (xs : List A) (i : ℕ) (x : A) (n count new : ℕ) → i < length xs → x ≡ get_or xs i x → Some n ≡ option_map capped (binds (f x)) → Some count ≡ option_map capped (bind (map f (take i xs)))
      → new ≡ capped (count + n) → Some new ≡ option_map capped (bind (map f (take (i + 1) xs)))
  binds-on xs i x n count new within e g m h =
      plus-capped (bind (map f (take i xs))) (binds (f x)) count n new m g h
      ∙ ap (option_map capped)
      (sym (ap (λ ys. bind (map f ys)) (take_more xs i x within ∙ ap (λ y. take i xs ++ y ∷ []) (sym e))
      ∙ ap bind (map_more f (take i xs) x) ∙ bind-push (map f (take i xs)) (f x)))

  none-at : (xs : List A) (i : ℕ) (x : A) → i < length xs → x ≡ get_or xs i x → binds (f x) ≡ None → bind (map f xs) ≡ None
  none-at [] i x within e h = absurd (omega (arith, within))
  none-at (y ∷ ys) zero x within e h = more (f y) (map f ys) ∙ ap (λ o. plus o (bind (map f ys))) (ap (λ z. binds (f z)) (sym e) ∙ h)
  none-at (y ∷ ys) (suc i) x within e h =
      more (f y) (map f ys) ∙ ap (plus (binds (f y))) (none-at ys i x (omega (arith, within)) e h) ∙ plus-none (binds (f y))

  -- no number
  pub binds-none : (xs : List A) (i : ℕ) (x : A) → i < length xs → x ≡ get_or xs i x → None ≡ option_map capped (binds (f x)) → None ≡ option_map capped (bind (map f xs))
  binds-none xs i x within e h = ap (option_map capped) (sym (none-at xs i x within e (never (binds (f x)) h)))

pub desc-binds : (of_name : Id → ℕ) (x : StrDesc) → str_desc_binds of_name (str_desc_of x) ≡ sig_binds of_name (sig_of (out-StrDesc x).signature)
desc-binds of_name x = ap (str_desc_binds of_name) (fold_out-StrDesc (S.SigExp Place) (S.Spec Place) (S.StrDesc Place) sig_layer spec_layer str_desc_layer x)

pub named-sig : (p : Place) (x : Rc (Vec ℕ Global) Global) → sig_of (SV.Identifier p x) ≡ S.sig_name p (ident_of x)
named-sig p x =
    ap sig_of (sym (SV.rolls-Identifier p x)) ∙ fold-roll-SigExp (S.SigExp Place) (S.Spec Place) (S.StrDesc Place) sig_layer spec_layer str_desc_layer (SO.Identifier p x)

-- so many in a signature that is found
pub in-signature : (s : Sig) (o : Option (O.Sig Name)) (n : ℕ) → Some (bound_sig s) ≡ o → n ≡ vec_len s.names → n < 2 ^ 64 → Some n ≡ option_map capped (Some (names_in o))
in-signature s o n q e h = listed name_of s.names n e h ∙ ap (λ p. option_map capped (Some (names_in p))) q
