-- Maps of entries that become others, one entry after the other.
use Rattle.std.proofs.Common.{◌≡◌, ◌++◌, ◌∷◌, ℕ, List, [], ap, sym, ◌∙◌, Vec, Global}
use Rattle.std.proofs.lemmas.List.{map-append}
use Rattle.std.specs.declared.rc.Rc.{Rc}
use Rattle.sml_tree.specs.Views.{ident_of}
use Rattle.sml_objects.specs.Views.{entries_of}
use Rattle.sml_core_rules.specs.Objects.{replaced}
use Rattle.sml_envs.specs.Mapped.{Each}

abbrev Key : Type 0
Key = Rc (Vec ℕ Global) Global

module _ {A X : Type 0} (see : A → X) where
  pub each-split : (P : X → Type 0) (ys : List (Key × A)) (x : Key) (w : A) → Each P (entries_of see (ys ++ ((x, w) ∷ []))) → Each P (entries_of see ys) × P (see w)
  each-split P [] x w h = (tt, h.0)
  each-split P (y ∷ ys) x w h =
      let r = each-split P ys x w h.1 in
      ((h.0, r.0), r.1)

  -- one entry more that stays
  pub stays-next : (h : X → X) (ys zs : List (Key × A)) (x : Key) (w : A) → zs ≡ ys ++ ((x, w) ∷ [])
      → replaced h (entries_of see ys) ≡ entries_of see ys → h (see w) ≡ see w → replaced h (entries_of see zs) ≡ entries_of see zs
  stays-next h ys zs x w more same this =
      let push : entries_of see zs ≡ entries_of see ys ++ ((ident_of x, see w) ∷ []) =
      ap (entries_of see) more ∙ map-append (λ (e : Key × A). (ident_of e.0, see e.1)) ys ((x, w) ∷ []) in
      ap (replaced h) push
      ∙ map-append (λ e. (e.0, h e.1)) (entries_of see ys) ((ident_of x, see w) ∷ [])
      ∙ (λ i. same i ++ ((ident_of x, this i) ∷ []))
      ∙ sym push
