use Rattle.std.proofs.Common.{◌≡◌, ◌++◌, ◌∷◌, [], ℕ, false, not, None, ap, subst, sym, ◌∙◌, map, take, BTreeMap, Vec, Global}
use Rattle.std.specs.declared.rc.Rc.{Rc}
use Rattle.std.specs.Option.{is_some}
use Rattle.sml_tree.specs.BindingViews.{typ_bind_of}
use Rattle.sml_tree.specs.Views.{ident_of}
use Rattle.sml_tree.specs.Withtype.{bound, unlisted}
use Rattle.sml_objects.specs.Maps.{lookup, put}
use Rattle.sml_objects.specs.Views.{entries_of}
use Rattle.sml_objects.specs.Initial.{Name}
use Rattle.sml_objects.specs.Objects as O
use Rattle.sml_core_rules.specs.Datatypes.{listed}
use Rattle.sml_types.specs.Sides.{AppliesOwn, IsSideOf}
use Rattle.sml_types.specs.declared.sides.RightSide.{RightSide}
use Rattle.sml_types.proofs.Entries.{looked}
use Rattle.sml_types.proofs.SideArguments.{mapped-next}
use Rattle.sml_types.proofs.SideTables.{all-at, is-there, none-kept, side-put, sides-stay}
use Rattle.sml_types.proofs.datatypes.sides_of.Goals as goal
use Rattle.sml_types.proofs.datatypes.sides_of.Goals.{then-is_none+in_ok-clone+in_ok-read_side+in_ok-put_side, else-is_none}

abbrev Key : Type 0
Key = Rc (Vec ℕ Global) Global

pub loop-bind-preserved : goal.loop-bind-preserved
loop-bind-preserved g c = λ C tells spelt own x.
    let xs = c.args.withtype.now in
    let i = c.loop-bind.bind-index in
    let b = c.bind-item.result in
    let before = c.loop-bind.sides.entries in
    let found = looked (λ r. r) before b.name.ident c.get.result c.get.ensures.value in
    let has = c.loop-bind.invariant C tells spelt own in
    subst (λ bs. IsSideOf C (bound x bs) (lookup x (entries_of (λ (r : RightSide). r) c.if-is_none.sides.entries))) (sym (mapped-next typ_bind_of xs i b c.loop-bind-test.true c.bind-item.is))
    (elim c.if-is_none.branch [
      | then-is_none+in_ok-clone+in_ok-read_side+in_ok-put_side w ↦
          let r = w.in_ok-read_side.field-0 in
          let new : is_some (lookup (ident_of b.name.ident) (entries_of (λ (r : RightSide). r) before)) ≡ false = is-there (λ a. a.now) c.get.result _ found ∙ c.is_none.ensures ∙ ap not w.if-is_none.true in
          let is = w.in_ok-read_side.ensures C tells (λ y o e. none-kept C y o (e ∙ ap (λ es. lookup y (entries_of (λ (r : RightSide). r) es)) c.new-none.ensures.empty))
          (all-at (λ d. AppliesOwn C d.ty) typ_bind_of xs i b own c.loop-bind-test.true c.bind-item.is)
          (all-at (λ d. lookup unlisted (listed {N = Name} O.bound 0 d.variables) ≡ None) typ_bind_of xs i b spelt c.loop-bind-test.true c.bind-item.is) in
          subst (λ m. IsSideOf C (bound x (map typ_bind_of (take i xs) ++ typ_bind_of b ∷ [])) (lookup x m))
          (sym (ap (λ (s : BTreeMap Key RightSide). entries_of (λ (r : RightSide). r) s.entries) w.sides-is ∙ w.in_ok-put_side.ensures
          ∙ ap (λ n. put n r (entries_of (λ (r : RightSide). r) before)) (ap (λ v. v.items) w.in_ok-clone.ensures.cases)))
          (side-put C (map typ_bind_of (take i xs)) (typ_bind_of b) (entries_of (λ (r : RightSide). r) before) has r new is x)
      | else-is_none w ↦
          subst (λ m. IsSideOf C (bound x (map typ_bind_of (take i xs) ++ typ_bind_of b ∷ [])) (lookup x m))
          (sym (ap (λ (s : BTreeMap Key RightSide). entries_of (λ (r : RightSide). r) s.entries) w.sides-is))
          (sides-stay C (map typ_bind_of (take i xs)) (typ_bind_of b) (entries_of (λ (r : RightSide). r) before) has
          (is-there (λ a. a.now) c.get.result _ found ∙ c.is_none.ensures ∙ ap not w.if-is_none.false) x)
    ])
