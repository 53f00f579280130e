-- Datatypes that are put one after the other are those of the definition.
use Rattle.std.proofs.Common.{◌≡◌, ◌++◌, ◌∷◌, ◌+◌, ◌<◌, ℕ, zero, suc, Bool, List, Option, [], min, take, get_or, length, map, refl, ap, sym, ◌∙◌, arith, Vec, Global}
use Rattle.std.proofs.lemmas.List.{length-take-le}
use Rattle.std.specs.declared.rc.Rc.{Rc}
use Rattle.sml_lex.specs.declared.fault.Place.{Place}
use Rattle.sml_tree.specs.BindingViews.{dat_bind_of}
use Rattle.sml_tree.specs.Expressions as meant
use Rattle.sml_tree.specs.declared.expressions.DatBind.{DatBind}
use Rattle.sml_objects.specs.Initial.{Name}
use Rattle.sml_objects.specs.Views.{name_of}
use Rattle.sml_objects.specs.declared.objects.MlType.{MlType}
use Rattle.sml_objects.specs.declared.objects.TyName.{TyName}
use Rattle.sml_core_rules.specs.Datatypes.{Arguments, datatype_env, datatype_envs}
use Rattle.sml_core_rules.specs.Objects.{extend}
use Rattle.sml_equality.specs.declared.runs.Run.{Run}
use Rattle.sml_types.proofs.Taken.{taken-next}
use Rattle.sml_types.specs.Losses.{losing, losing_arguments, losing_datatypes}

abbrev Group : Type 0
Group = Vec (Option (Rc MlType Global)) Global

abbrev Row : Type 0
Row = meant.DatBind Place × (Name × Arguments Name)

module _ (r : Run) (lost : List Bool) where
  abbrev pub row : DatBind → TyName → Group → Row
  row d n g = (dat_bind_of d, (losing r lost (name_of n), losing_arguments r lost d.constructors.items g.items))

  abbrev pub rows : List DatBind → List TyName → List Group → List Row
  rows [] ns gs = []
  rows (d ∷ ds) [] gs = []
  rows (d ∷ ds) (n ∷ ns) [] = []
  rows (d ∷ ds) (n ∷ ns) (g ∷ gs) = row d n g ∷ rows ds ns gs

  pub rows-meant : (ds : List DatBind) (ns : List TyName) (gs : List Group)
      → datatype_envs (map (λ x. x.0) (rows ds ns gs)) (map (λ x. x.1) (rows ds ns gs)) ≡ datatype_envs (map dat_bind_of ds) (losing_datatypes r lost ds ns gs)
  rows-meant [] ns gs = refl
  rows-meant (d ∷ ds) [] gs = refl
  rows-meant (d ∷ ds) (n ∷ ns) [] = refl
  rows-meant (d ∷ ds) (n ∷ ns) (g ∷ gs) =
      ap (extend (datatype_env (dat_bind_of d) (losing r lost (name_of n)) (losing_arguments r lost d.constructors.items g.items))) (rows-meant ds ns gs)

  rows-push : (ds : List DatBind) (ns : List TyName) (gs : List Group) (d : DatBind) (n : TyName) (g : Group) → length ds ≡ length ns → length ds ≡ length gs
      → rows (ds ++ (d ∷ [])) (ns ++ (n ∷ [])) (gs ++ (g ∷ [])) ≡ rows ds ns gs ++ (row d n g ∷ [])
  rows-push [] [] [] d n g e h = refl
  rows-push [] [] (f ∷ gs) d n g e h = absurd (omega (arith, h))
  rows-push [] (m ∷ ns) gs d n g e h = absurd (omega (arith, e))
  rows-push (c ∷ ds) [] gs d n g e h = absurd (omega (arith, e))
  rows-push (c ∷ ds) (m ∷ ns) [] d n g e h = absurd (omega (arith, h))
  rows-push (c ∷ ds) (m ∷ ns) (f ∷ gs) d n g e h = ap (λ l. row c m f ∷ l) (rows-push ds ns gs d n g (omega (arith, e)) (omega (arith, h)))

  -- as many as there are of each
  pub rows-all : (ds : List DatBind) (ns : List TyName) (gs : List Group) (k : ℕ) → k ≡ min (min (length ds) (length ns)) (length gs)
      → rows (take k ds) (take k ns) (take k gs) ≡ rows ds ns gs
  rows-all [] ns gs zero e = refl
  rows-all [] ns gs (suc k) e = refl
  rows-all (d ∷ ds) [] gs zero e = refl
  rows-all (d ∷ ds) [] gs (suc k) e = refl
  rows-all (d ∷ ds) (n ∷ ns) [] zero e = refl
  rows-all (d ∷ ds) (n ∷ ns) [] (suc k) e = refl
  rows-all (d ∷ ds) (n ∷ ns) (g ∷ gs) zero e = absurd (omega (arith, e))
  rows-all (d ∷ ds) (n ∷ ns) (g ∷ gs) (suc k) e = ap (λ l. row d n g ∷ l) (rows-all ds ns gs k (omega (arith, e)))

  -- one of each more
  module _ (ds : List DatBind) (ns : List TyName) (gs : List Group) where
    pub rows-next : (k : ℕ) (d : DatBind) (n m : TyName) (g : Group) → k < length ds → k < length ns → k < length gs
        → d ≡ get_or ds k d → n ≡ get_or ns k m → g ≡ get_or gs k g
        → rows (take (k + 1) ds) (take (k + 1) ns) (take (k + 1) gs) ≡ rows (take k ds) (take k ns) (take k gs) ++ (row d n g ∷ [])
    rows-next k d n m g a b c e f h =
        (λ i. rows (taken-next ds k d d a e i) (taken-next ns k n m b f i) (taken-next gs k g g c h i))
        ∙ rows-push (take k ds) (take k ns) (take k gs) d n g
        (length-take-le k ds (omega (arith, a)) ∙ sym (length-take-le k ns (omega (arith, b))))
        (length-take-le k ds (omega (arith, a)) ∙ sym (length-take-le k gs (omega (arith, c))))
