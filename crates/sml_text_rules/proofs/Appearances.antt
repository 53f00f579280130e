-- The names in the lines of what is renamed, and renamings that agree on them.
use Rattle.std.proofs.Common.{◌≡◌, List, [], ◌∷◌, ◌++◌, map, refl, ap, ◌∙◌, inl}
use Rattle.std.specs.List.{flat_map}
use Rattle.sml_objects.specs.Appearance.{Stands, appear_type, appear_types}
use Rattle.sml_objects.specs.Maps.{Map}
use Rattle.sml_objects.specs.Objects.{Head, MlType, MlTypes, Scheme, arrow, row, name, bound, free, app, no_type, and_type, rename_head, rename_type, rename_types, rename_scheme, names_head}
use Rattle.sml_objects.proofs.Renaming.{parts-image}
use Rattle.sml_objects.proofs.Standing.{left, right}
use Rattle.sml_core_rules.specs.Objects.{Value, TyStr, Basis, replaced, rename_basis, names_map}
use Rattle.sml_module_rules.specs.Lines.{Component, a_structure, a_type, a_value}
use Rattle.sml_text_rules.specs.BasisLines.{BasisLine, of_env, of_signature, of_functor, basis_lines, appear_component, appear_line, appear_basis}
use Rattle.sml_text_rules.proofs.MovedPieces.{move_component}
use Rattle.sml_text_rules.proofs.MovedLines.{move_basis_line, basis-lines-moved, map-names}

-- the names of renamed lines are the renamed names

module _ {A B : Type 0} (f : A → B) where
  head-image : (h : Head A) → names_head (rename_head f h) ≡ map f (names_head h)
  head-image arrow = refl
  head-image (row ls) = refl
  head-image (name n) = refl

  mutual
    unfolding appear_type appear_types rename_type rename_types

    type-image : (t : MlType A) → appear_type (rename_type f t) ≡ map f (appear_type t)
    type-image (bound k) = refl
    type-image (free v) = refl
    type-image (app h ts) = parts-image f (appear_types ts) (names_head h) _ _ (types-image ts) (head-image h)

    types-image : (ts : MlTypes A) → appear_types (rename_types f ts) ≡ map f (appear_types ts)
    types-image no_type = refl
    types-image (and_type t ts) = parts-image f (appear_type t) (appear_types ts) _ _ (type-image t) (types-image ts)

  component-image : (c : Component (TyStr A) (Value A)) → appear_component (move_component f c) ≡ map f (appear_component c)
  unfolding rename_scheme
  component-image a_structure = refl
  component-image (a_value v) = type-image v.scheme.body
  component-image (a_type t) =
      parts-image f (appear_type t.function.body) (names_map (λ σ. appear_type σ.body) t.constructors) _ _ (type-image t.function.body)
      (map-names f (rename_scheme f) (λ σ. appear_type σ.body) (λ σ. appear_type σ.body) (λ σ. type-image σ.body) t.constructors)

  line-image : (l : BasisLine A) → appear_line (move_basis_line f l) ≡ map f (appear_line l)
  line-image (of_env l) = component-image l.1
  line-image (of_signature x) = refl
  line-image (of_functor x) = refl

  lines-image : (ls : List (BasisLine A)) → flat_map appear_line (map (move_basis_line f) ls) ≡ map f (flat_map appear_line ls)
  lines-image [] = refl
  lines-image (l ∷ ls) = parts-image f (appear_line l) (flat_map appear_line ls) _ _ (line-image l) (lines-image ls)

  pub basis-image : (D : Basis A) → appear_basis (rename_basis f D) ≡ map f (appear_basis D)
  basis-image D = ap (flat_map appear_line) (basis-lines-moved f D) ∙ lines-image (basis_lines D)

-- two maps that agree on the names

module _ {A B : Type 0} (f g : A → B) where
  abbrev pub Agree : List A → Type 0
  Agree ns = (n : A) → Stands n ns → f n ≡ g n

  pub on-left : (ms ns : List A) → Agree (ms ++ ns) → Agree ms
  on-left ms ns h n s = h n (left n ms ns s)

  pub on-right : (ms ns : List A) → Agree (ms ++ ns) → Agree ns
  on-right ms ns h n s = h n (right n ms ns s)

  head-agrees : (h : Head A) → Agree (names_head h) → rename_head f h ≡ rename_head g h
  unfolding Stands
  head-agrees arrow a = refl
  head-agrees (row ls) a = refl
  head-agrees (name n) a = ap name (a n (inl refl))

  mutual
    unfolding appear_type appear_types rename_type rename_types

    type-agrees : (t : MlType A) → Agree (appear_type t) → rename_type f t ≡ rename_type g t
    type-agrees (bound k) a = refl
    type-agrees (free v) a = refl
    type-agrees (app h ts) a =
        λ i. app (head-agrees h (on-right (appear_types ts) (names_head h) a) i) (types-agree ts (on-left (appear_types ts) (names_head h) a) i)

    types-agree : (ts : MlTypes A) → Agree (appear_types ts) → rename_types f ts ≡ rename_types g ts
    types-agree no_type a = refl
    types-agree (and_type t ts) a =
        λ i. and_type (type-agrees t (on-left (appear_type t) (appear_types ts) a) i) (types-agree ts (on-right (appear_type t) (appear_types ts) a) i)

  pub scheme-agrees : (σ : Scheme A) → Agree (appear_type σ.body) → rename_scheme f σ ≡ rename_scheme g σ
  unfolding rename_scheme
  scheme-agrees σ a = λ i. record { variables = σ.variables; body = type-agrees σ.body a i }

  constructors-agree : (cs : Map (Scheme A)) → Agree (names_map (λ σ. appear_type σ.body) cs) → replaced (rename_scheme f) cs ≡ replaced (rename_scheme g) cs
  constructors-agree [] a = refl
  constructors-agree (c ∷ cs) a =
      let names : List A = names_map (λ σ. appear_type σ.body) cs in
      λ i. (c.0, scheme-agrees c.1 (on-left (appear_type c.1.body) names a) i) ∷ constructors-agree cs (on-right (appear_type c.1.body) names a) i

  component-agrees : (c : Component (TyStr A) (Value A)) → Agree (appear_component c) → move_component f c ≡ move_component g c
  component-agrees a_structure a = refl
  component-agrees (a_value v) a = λ i. a_value (record { scheme = scheme-agrees v.scheme a i; status = v.status })
  component-agrees (a_type t) a =
      let names : List A = names_map (λ σ. appear_type σ.body) t.constructors in
      λ i. a_type (record {
        function = scheme-agrees t.function (on-left (appear_type t.function.body) names a) i;
        constructors = constructors-agree t.constructors (on-right (appear_type t.function.body) names a) i;
      })

  line-agrees : (l : BasisLine A) → Agree (appear_line l) → move_basis_line f l ≡ move_basis_line g l
  line-agrees (of_env l) a = λ i. of_env (l.0, component-agrees l.1 a i)
  line-agrees (of_signature x) a = refl
  line-agrees (of_functor x) a = refl

  pub lines-agree : (ls : List (BasisLine A)) → Agree (flat_map appear_line ls) → map (move_basis_line f) ls ≡ map (move_basis_line g) ls
  lines-agree [] a = refl
  lines-agree (l ∷ ls) a =
      λ i. line-agrees l (on-left (appear_line l) (flat_map appear_line ls) a) i ∷ lines-agree ls (on-right (appear_line l) (flat_map appear_line ls) a) i
