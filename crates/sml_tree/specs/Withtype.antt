-- `datatype .. withtype ..` (the Definition, appendix A): in the datatypes each type constructor that is bound after
-- `withtype` stands for its right side, all of them at once.
use Rattle.std.specs.Prelude.{ℕ, suc, nat_eq, List, [], ◌∷◌, length, map, Option, Some, None, if◌then◌else◌}
use Rattle.std.specs.Option.{option_map}
use Rattle.std.specs.Str.{bytes_eq}
use Rattle.sml_tree.specs.Trees.{Id}
use Rattle.sml_tree.specs.Names.{Name, LongName}
use Rattle.sml_tree.specs.Types.{Ty, Tys, TyField, TyFields, ty_variable, ty_row, ty_tuple, ty_constructor, ty_misapplied, ty_arrow, ty_bracket, no_ty, and_ty, ty_field, no_ty_field, and_ty_field}
use Rattle.sml_tree.specs.Expressions.{TypBind, ConBind, DatBind, Dec, datatype_dec, type_dec, sequence_dec, no_dec, and_dec}

abbrev pub first_ty : {P : Type 0} → Tys P → Option (Ty P)
first_ty no_ty = None
first_ty (and_ty t ts) = Some t

abbrev pub other_tys : {P : Type 0} → Tys P → Tys P
other_tys no_ty = no_ty
other_tys (and_ty t ts) = ts

-- the argument in the place of a variable
abbrev pub argument : {P : Type 0} → Id → List (Name P) → Tys P → Option (Ty P)
argument v [] ts = None
argument v (x ∷ xs) ts = if bytes_eq v x.id then first_ty ts else argument v xs (other_tys ts)

-- a type, or another in its place
abbrev pub either : {P : Type 0} → Ty P → Option (Ty P) → Ty P
either t None = t
either t (Some u) = u

-- the variable of no list: no source spells it
abbrev pub unlisted : Id
unlisted = []

-- A right side with arguments in the place of its variables. One that its binding doesn't list is out of scope there, whatever
-- the datatype around lists.
abbrev mutual
  pub instance : {P : Type 0} → List (Name P) → Tys P → Ty P → Ty P
  instance xs ts (ty_variable p v) = either (ty_variable p unlisted) (argument v xs ts)
  instance xs ts (ty_row p fs) = ty_row p (field_instances xs ts fs)
  instance xs ts (ty_tuple p us) = ty_tuple p (instances xs ts us)
  instance xs ts (ty_constructor p us c) = ty_constructor p (instances xs ts us) c
  instance xs ts (ty_misapplied p us c) = ty_misapplied p (instances xs ts us) c
  instance xs ts (ty_arrow p t u) = ty_arrow p (instance xs ts t) (instance xs ts u)
  instance xs ts (ty_bracket p t) = ty_bracket p (instance xs ts t)

  pub instances : {P : Type 0} → List (Name P) → Tys P → Tys P → Tys P
  instances xs ts no_ty = no_ty
  instances xs ts (and_ty u us) = and_ty (instance xs ts u) (instances xs ts us)

  pub field_instance : {P : Type 0} → List (Name P) → Tys P → TyField P → TyField P
  field_instance xs ts (ty_field l u) = ty_field l (instance xs ts u)

  pub field_instances : {P : Type 0} → List (Name P) → Tys P → TyFields P → TyFields P
  field_instances xs ts no_ty_field = no_ty_field
  field_instances xs ts (and_ty_field f fs) = and_ty_field (field_instance xs ts f) (field_instances xs ts fs)

abbrev pub count_tys : {P : Type 0} → Tys P → ℕ
count_tys no_ty = 0
count_tys (and_ty t ts) = suc (count_tys ts)

-- the binding of a type constructor, if it has one
abbrev pub bound : {P : Type 0} → Id → List (TypBind P) → Option (TypBind P)
bound c [] = None
bound c (b ∷ bs) = if bytes_eq c b.name.id then Some b else bound c bs

-- one with a path has none
abbrev pub binding : {P : Type 0} → List Id → Id → List (TypBind P) → Option (TypBind P)
binding [] c bs = bound c bs
binding (s ∷ path) c bs = None

-- a type constructor after its arguments, from its binding
abbrev pub applied : {P : Type 0} → P → Tys P → LongName P → Option (TypBind P) → Ty P
applied p ts c None = ty_constructor p ts c
applied p ts c (Some b) = if nat_eq (length b.variables) (count_tys ts) then instance b.variables ts b.ty else ty_misapplied p ts c

-- a type with right sides in the place of type constructors
abbrev mutual
  pub replaced : {P : Type 0} → List (TypBind P) → Ty P → Ty P
  replaced bs (ty_variable p v) = ty_variable p v
  replaced bs (ty_row p fs) = ty_row p (fields_replaced bs fs)
  replaced bs (ty_tuple p us) = ty_tuple p (all_replaced bs us)
  replaced bs (ty_constructor p us c) = applied p (all_replaced bs us) c (binding c.id.path c.id.last bs)
  replaced bs (ty_misapplied p us c) = ty_misapplied p (all_replaced bs us) c
  replaced bs (ty_arrow p t u) = ty_arrow p (replaced bs t) (replaced bs u)
  replaced bs (ty_bracket p t) = ty_bracket p (replaced bs t)

  pub all_replaced : {P : Type 0} → List (TypBind P) → Tys P → Tys P
  all_replaced bs no_ty = no_ty
  all_replaced bs (and_ty u us) = and_ty (replaced bs u) (all_replaced bs us)

  pub field_replaced : {P : Type 0} → List (TypBind P) → TyField P → TyField P
  field_replaced bs (ty_field l u) = ty_field l (replaced bs u)

  pub fields_replaced : {P : Type 0} → List (TypBind P) → TyFields P → TyFields P
  fields_replaced bs no_ty_field = no_ty_field
  fields_replaced bs (and_ty_field f fs) = and_ty_field (field_replaced bs f) (fields_replaced bs fs)

abbrev pub con_replaced : {P : Type 0} → List (TypBind P) → ConBind P → ConBind P
con_replaced bs c = record { name = c.name; argument = option_map (replaced bs) c.argument }

abbrev pub dat_replaced : {P : Type 0} → List (TypBind P) → DatBind P → DatBind P
dat_replaced bs d = record { variables = d.variables; name = d.name; constructors = map (con_replaced bs) d.constructors }

-- `datatype ds withtype bs`
abbrev pub withtype_of : {P : Type 0} → P → List (DatBind P) → List (TypBind P) → Dec P
withtype_of p ds bs = sequence_dec p (and_dec (datatype_dec p (map (dat_replaced bs) ds)) (and_dec (type_dec p bs) no_dec))
