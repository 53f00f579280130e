-- The types of constructors' arguments, read one after the other.
use Rattle.std.proofs.Common.{◌≡◌, List, Option, Some, [], ◌∷◌, ◌++◌, length, map, refl, ap, arith, Vec, Global}
use Rattle.std.specs.declared.rc.Rc.{Rc}
use Rattle.sml_lex.specs.Faults.{Fault}
use Rattle.sml_lex.specs.declared.fault.Place.{Place}
use Rattle.sml_tree.specs.Expressions.{ConBind, DatBind}
use Rattle.sml_tree.specs.Trees.{Id}
use Rattle.sml_tree.specs.Views.{ident_of}
use Rattle.sml_tree.specs.declared.expressions.ConBind as con
use Rattle.sml_tree.specs.declared.expressions.DatBind as dat
use Rattle.sml_objects.specs.Initial.{Name}
use Rattle.sml_objects.specs.Maps.{Map}
use Rattle.sml_objects.specs.Objects.{MlType, free}
use Rattle.sml_rules.specs.Answers.{Answer, accepted, refused}
use Rattle.sml_core_rules.specs.Answers.{give, ◌>>=◌}
use Rattle.sml_core_rules.specs.Datatypes.{Arguments, listed, read_all_arguments, read_argument, read_arguments}
use Rattle.sml_core_rules.specs.Objects.{Env}
use Rattle.sml_types.specs.Datatypes.{HaveAll, all_with_idents, meant_argument, with_idents}
use Rattle.sml_types.specs.declared.written.Written.{Written}
use Rattle.sml_tree.specs.Types.{Ty}
use Rattle.sml_core_rules.specs.Types.{read_ty}
use Rattle.sml_types.proofs.Sequences.{read-next, read-stop}

abbrev Argument : Type 0
Argument = Option (MlType Name)

abbrev named : ConBind Place → Argument → Id × Argument
named c t = (c.name.id, t)

module _ (C : Env Name) (vs : Map (MlType Name)) where
  abbrev read-one : ConBind Place → Answer Place Argument
  read-one c = read_argument C vs c.argument

  pub no-argument-read : read_arguments {P = Place} C vs [] ≡ accepted []
  unfolding read_arguments
  no-argument-read = refl

  more : (c : ConBind Place) (cs : List (ConBind Place)) → read_arguments C vs (c ∷ cs) ≡ (read-one c >>= (λ t. read_arguments C vs cs >>= (λ ts. give (named c t ∷ ts))))
  unfolding read_arguments
  more c cs = refl

  pub arguments-next : (cs : List (ConBind Place)) (c : ConBind Place) (ts : Arguments Name) (t : Argument) → read_arguments C vs cs ≡ accepted ts
      → read_argument C vs c.argument ≡ accepted t → read_arguments C vs (cs ++ c ∷ []) ≡ accepted (ts ++ (c.name.id, t) ∷ [])
  arguments-next = read-next read-one named (read_arguments C vs) no-argument-read more

  pub arguments-stop : (cs ds : List (ConBind Place)) (c : ConBind Place) (ts : Arguments Name) (f : Fault Place) → read_arguments C vs cs ≡ accepted ts
      → read_argument C vs c.argument ≡ refused f → read_arguments C vs (cs ++ c ∷ ds) ≡ refused f
  arguments-stop = read-stop read-one named (read_arguments C vs) no-argument-read more

module _ (C : Env Name) where
  abbrev read-group : DatBind Place → Answer Place (Arguments Name)
  read-group d = read_arguments C (listed free 0 d.variables) d.constructors

  pub no-group-read : read_all_arguments {P = Place} C [] ≡ accepted []
  unfolding read_all_arguments
  no-group-read = refl

  more-groups : (d : DatBind Place) (ds : List (DatBind Place)) → read_all_arguments C (d ∷ ds) ≡ (read-group d >>= (λ t. read_all_arguments C ds >>= (λ ts. give (t ∷ ts))))
  unfolding read_all_arguments
  more-groups d ds = refl

  pub groups-next : (ds : List (DatBind Place)) (d : DatBind Place) (gs : List (Arguments Name)) (g : Arguments Name) → read_all_arguments C ds ≡ accepted gs
      → read_arguments C (listed free 0 d.variables) d.constructors ≡ accepted g → read_all_arguments C (ds ++ d ∷ []) ≡ accepted (gs ++ g ∷ [])
  groups-next = read-next read-group (λ d g. g) (read_all_arguments C) no-group-read more-groups

  pub groups-stop : (ds es : List (DatBind Place)) (d : DatBind Place) (gs : List (Arguments Name)) (f : Fault Place) → read_all_arguments C ds ≡ accepted gs
      → read_arguments C (listed free 0 d.variables) d.constructors ≡ refused f → read_all_arguments C (ds ++ d ∷ es) ≡ refused f
  groups-stop = read-stop read-group (λ d g. g) (read_all_arguments C) no-group-read more-groups

pub idents-push : (cs : List con.ConBind) (ts : List Argument) (c : con.ConBind) (t : Argument) → length ts ≡ length cs
    → with_idents (cs ++ c ∷ []) (ts ++ t ∷ []) ≡ with_idents cs ts ++ (ident_of c.name.ident, t) ∷ []
idents-push [] [] c t e = refl
idents-push [] (u ∷ ts) c t e = absurd (omega (arith, e))
idents-push (d ∷ cs) [] c t e = absurd (omega (arith, e))
idents-push (d ∷ cs) (u ∷ ts) c t e = ap (λ l. (ident_of d.name.ident, u) ∷ l) (idents-push cs ts c t (omega (arith, e)))

abbrev Group : Type 0
Group = Vec (Option (Rc Written Global)) Global

pub has-push : (ds : List dat.DatBind) (gs : List Group) (d : dat.DatBind) (g : Group) → HaveAll ds gs → length g.items ≡ length d.constructors.items → HaveAll (ds ++ d ∷ []) (gs ++ g ∷ [])
has-push [] [] d g h e = (e, tt)
has-push [] (k ∷ gs) d g h e = absurd h
has-push (b ∷ ds) [] d g h e = absurd h
has-push (b ∷ ds) (k ∷ gs) d g h e = (h.0, has-push ds gs d g h.1 e)

pub groups-push : (ds : List dat.DatBind) (gs : List Group) (d : dat.DatBind) (g : Group) → length gs ≡ length ds
    → all_with_idents (ds ++ d ∷ []) (gs ++ g ∷ []) ≡ all_with_idents ds gs ++ with_idents d.constructors.items (map meant_argument g.items) ∷ []
groups-push [] [] d g e = refl
groups-push [] (h ∷ gs) d g e = absurd (omega (arith, e))
groups-push (b ∷ ds) [] d g e = absurd (omega (arith, e))
groups-push (b ∷ ds) (h ∷ gs) d g e = ap (λ l. with_idents b.constructors.items (map meant_argument h.items) ∷ l) (groups-push ds gs d g (omega (arith, e)))

-- an argument is answered as its type is
module _ (C : Env Name) (vs : Map (MlType Name)) (ty : Ty Place) where
  pub argument-accepted : (t : MlType Name) → read_ty C vs ty ≡ accepted t → read_argument C vs (Some ty) ≡ accepted (Some t)
  unfolding ◌>>=◌
  argument-accepted t e = ap (λ a. a >>= (λ t. give (Some t))) e

  pub argument-refused : (f : Fault Place) → read_ty C vs ty ≡ refused f → read_argument C vs (Some ty) ≡ refused f
  unfolding ◌>>=◌
  argument-refused f e = ap (λ a. a >>= (λ t. give (Some t))) e
