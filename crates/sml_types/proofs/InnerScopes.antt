-- A scope with datatypes over another one tells of the environment with them.
use Rattle.std.proofs.Common.{◌≡◌, List, Option, Some, None, [], ◌∷◌, length, map, refl, ap, sym, ◌∙◌}
use Rattle.std.specs.Option.{option_map, option_or}
use Rattle.std.specs.declared.cmp.Ordering.{Ordering}
use Rattle.std.specs.declared.cmp.Ordering.TheVariants.{Less, Equal, Greater}
use Rattle.sml_tree.specs.Trees.{Id}
use Rattle.sml_lex.specs.declared.fault.Place.{Place}
use Rattle.sml_tree.specs.Expressions.{ConBind, DatBind, TypBind}
use Rattle.sml_tree.specs.Types.{Ty}
use Rattle.sml_tree.specs.Withtype.{con_replaced, dat_replaced, replaced}
use Rattle.sml_types.proofs.TyViews.{none_replaced}
use Rattle.sml_objects.specs.Initial.{Name}
use Rattle.sml_objects.specs.Maps.{Map, join, lookup, order_of, put}
use Rattle.sml_objects.proofs.Puts.{at, lookup-put}
use Rattle.sml_core_rules.specs.Datatypes.{datatype_types, name_function}
use Rattle.sml_core_rules.specs.Objects.{Env, TyStr, extend, maps, of_types}
use Rattle.sml_types.specs.Answered.{TellsOf, there_or}
use Rattle.sml_types.proofs.Extensions.{IsRising, join-put, rising-put}

-- what is found in a map over another one
abbrev IsOver : {X : Type 0} → Map X → Map X → Type 0
IsOver m n = IsRising n × ((x : Id) → lookup x (join m n) ≡ option_or (lookup x n) (lookup x m))

or-at : {X : Type 0} (o : Ordering) (v : X) (a b : Option X) → at o (Some v) (option_or a b) ≡ option_or (at o (Some v) a) b
or-at Less v a b = refl
or-at Equal v a b = refl
or-at Greater v a b = refl

over-put : {X : Type 0} (m n : Map X) (y : Id) (v : X) → IsOver m n → IsOver m (put y v n)
over-put m n y v h = (
  rising-put y v n h.0,
  λ x.
      ap (lookup x) (join-put y v m n h.0)
      ∙ lookup-put x y v (join m n)
      ∙ ap (at (order_of x y) (Some v)) (h.1 x)
      ∙ or-at (order_of x y) v (lookup x n) (lookup x m)
      ∙ ap (λ o. option_or o (lookup x m)) (sym (lookup-put x y v n)),
)

over-types : {P : Type 0} (m n : Map (TyStr Name)) (ds : List (DatBind P)) (ns : List Name) → IsOver m n → IsOver m (datatype_types n ds ns)
over-types m n [] ns h = h
over-types m n (d ∷ ds) [] h = h
over-types m n (d ∷ ds) (k ∷ ns) h =
    let t : TyStr Name = record { function = name_function k (length d.variables); constructors = [] } in
    over-types m (put d.name.id t n) ds ns (over-put m n d.name.id t h)

module _ {P : Type 0} (structure : Id → Option (Env Name) → Type 0) (type_str : Id → Option (TyStr Name) → Type 0) (ds : List (DatBind P)) (ns : List Name) where
  abbrev types-there : Map (TyStr Name)
  types-there = datatype_types [] ds ns

  pub tells-inner : (C : Env Name) → TellsOf structure type_str C → TellsOf structure (λ x o. there_or (lookup x types-there) (type_str x) o) (extend C (of_types types-there))
  tells-inner (maps ss ts vs) tells = record {
    structures_are = tells.structures_are;
    types_are = λ x o said. go x o (lookup x types-there) refl said;
  }
    where
      over : IsOver ts types-there
      over = over-types ts [] ds ns (tt, λ x. refl)

      go : (x : Id) (o q : Option (TyStr Name)) → lookup x types-there ≡ q → there_or q (type_str x) o → o ≡ lookup x (join ts types-there)
      go x o (Some t) e h = h ∙ sym (over.1 x ∙ ap (λ q. option_or q (lookup x ts)) e)
      go x o None e h = tells.types_are x o h ∙ sym (over.1 x ∙ ap (λ q. option_or q (lookup x ts)) e)

-- right sides in constructors' arguments don't change the types
pub types-replaced : {P : Type 0} (bs : List (TypBind P)) (m : Map (TyStr Name)) (ds : List (DatBind P)) (ns : List Name)
    → datatype_types m (map (dat_replaced bs) ds) ns ≡ datatype_types m ds ns
types-replaced bs m [] ns = refl
types-replaced bs m (d ∷ ds) [] = refl
types-replaced bs m (d ∷ ds) (n ∷ ns) = types-replaced bs (put d.name.id (record { function = name_function n (length d.variables); constructors = [] }) m) ds ns

-- no right sides are put in their place
con-stays : (c : ConBind Place) → con_replaced [] c ≡ c
con-stays c = on c.argument
  where
    on : (a : Option (Ty Place)) → ◌≡◌ {A = ConBind Place} (record { name = c.name; argument = option_map (replaced []) a }) (record { name = c.name; argument = a })
    on None = refl
    on (Some t) = λ i. record { name = c.name; argument = Some (none_replaced t i) }

cons-stay : (cs : List (ConBind Place)) → map (con_replaced []) cs ≡ cs
cons-stay [] = refl
cons-stay (c ∷ cs) = λ i. con-stays c i ∷ cons-stay cs i

pub binds-stay : (ds : List (DatBind Place)) → map (dat_replaced []) ds ≡ ds
binds-stay [] = refl
binds-stay (d ∷ ds) = λ i. record { variables = d.variables; name = d.name; constructors = cons-stay d.constructors i } ∷ binds-stay ds i
