-- What maps of schemes become, entry by entry.
use Rattle.std.proofs.Common.{◌≡◌, ◌++◌, ◌∷◌, ℕ, false, List, [], Option, Some, None, refl, ap, sym, subst, ◌∙◌, Vec, Global}
use Rattle.std.proofs.lemmas.Bool.{true≢false}
use Rattle.std.proofs.lemmas.List.{map-append}
use Rattle.std.specs.Option.{is_some}
use Rattle.std.specs.declared.rc.Rc.{Rc}
use Rattle.sml_tree.specs.Views.{ident_of}
use Rattle.sml_objects.specs.Objects as O
use Rattle.sml_objects.specs.Initial.{Name}
use Rattle.sml_objects.specs.Views.{scheme_of, schemes_of}
use Rattle.sml_objects.specs.declared.objects.Scheme.{Scheme}
use Rattle.sml_type_maps.specs.Mapped.{scheme_or, seen_scheme}
use Rattle.sml_type_maps.specs.Orders.{AreOrdered, IsOrdered, scheme_by, schemes_by}

abbrev Key : Type 0
Key = Rc (Vec ℕ Global) Global

abbrev Entries : Type 0
Entries = List (Key × Rc Scheme Global)

pub ordered-split : (ys : Entries) (x : Key) (w : Rc Scheme Global) → AreOrdered (schemes_of (ys ++ ((x, w) ∷ []))) → AreOrdered (schemes_of ys) × IsOrdered (scheme_of w.value)
ordered-split [] x w h = (tt, h.0)
ordered-split (y ∷ ys) x w h =
    let r = ordered-split ys x w h.1 in
    ((h.0, r.0), r.1)

pub unchanged : (o : Option (Rc Scheme Global)) (s : O.Scheme Name) → false ≡ is_some o → scheme_or s (seen_scheme o) ≡ s
unchanged None s h = refl
unchanged (Some t) s h = absurd (true≢false (sym h))

module _ (b f : ℕ → O.MlType Name) (n : Name → O.MlTypes Name → O.MlType Name) where
  -- one entry more that stays
  pub stays-next : (ys zs : Entries) (x : Key) (w : Rc Scheme Global) → zs ≡ ys ++ ((x, w) ∷ [])
      → schemes_by b f n (schemes_of ys) ≡ schemes_of ys → scheme_by b f n (scheme_of w.value) ≡ scheme_of w.value
      → schemes_by b f n (schemes_of zs) ≡ schemes_of zs
  stays-next ys zs x w more same this =
      let push : schemes_of zs ≡ schemes_of ys ++ ((ident_of x, scheme_of w.value) ∷ []) =
      ap schemes_of more ∙ map-append (λ (e : Key × Rc Scheme Global). (ident_of e.0, scheme_of e.1.value)) ys ((x, w) ∷ []) in
      ap (schemes_by b f n) push
      ∙ map-append (λ e. (e.0, scheme_by b f n e.1)) (schemes_of ys) ((ident_of x, scheme_of w.value) ∷ [])
      ∙ (λ i. same i ++ ((ident_of x, this i) ∷ []))
      ∙ sym push

  -- one that didn't change
  pub stays-at : (o : Option (Rc Scheme Global)) (s w : Scheme) → s ≡ w → IsOrdered (scheme_of w)
      → (IsOrdered (scheme_of s) → scheme_or (scheme_of s) (seen_scheme o) ≡ scheme_by b f n (scheme_of s)) → false ≡ is_some o
      → scheme_by b f n (scheme_of w) ≡ scheme_of w
  stays-at o s w e h k m =
      subst (λ x. scheme_by b f n (scheme_of x) ≡ scheme_of x) e (sym (k (subst (λ x. IsOrdered (scheme_of x)) (sym e) h)) ∙ unchanged o (scheme_of s) m)
