-- New names of datatypes, one after the other, and types with these names.
use Rattle.std.proofs.Common.{◌≡◌, ◌++◌, ◌∷◌, ◌+◌, ◌<◌, ℕ, zero, suc, true, List, [], min, take, get_or, length, map, refl, ap, sym, ◌∙◌, arith}
use Rattle.std.proofs.lemmas.List.{length-map, length-take-le, take-map}
use Rattle.sml_lex.specs.declared.fault.Place.{Place}
use Rattle.sml_tree.specs.BindingViews.{dat_bind_of}
use Rattle.sml_tree.specs.Expressions as meant
use Rattle.sml_tree.specs.TypeViews as seen
use Rattle.sml_tree.specs.declared.expressions.DatBind.{DatBind}
use Rattle.sml_objects.specs.Initial.{Name, made}
use Rattle.sml_objects.specs.Maps.{Map, put}
use Rattle.sml_core_rules.specs.Datatypes.{datatype_types, name_function}
use Rattle.sml_core_rules.specs.Objects.{TyStr}
use Rattle.sml_types.specs.Datatypes.{names_from}
use Rattle.sml_objects.specs.Views.{name_of}
use Rattle.sml_objects.specs.declared.objects.TyName.{TyName}
use Rattle.sml_types.proofs.SideArguments.{mapped-next}
use Rattle.sml_types.proofs.Taken.{taken-next}

pub names-push : (u k : ℕ) (bs : List DatBind) (b : DatBind) (j a : ℕ) → j ≡ k + length bs → a ≡ length b.variables.items
    → names_from u k (map dat_bind_of (bs ++ (b ∷ []))) ≡ names_from u k (map dat_bind_of bs) ++ (made u j a true ∷ [])
names-push u k [] b j a e f =
    let place : k ≡ j = omega (arith, e) in
    let arity : length (map seen.name_of b.variables.items) ≡ a = length-map b.variables.items seen.name_of ∙ sym f in
    λ i. made u (place i) (arity i) true ∷ []
names-push u k (c ∷ bs) b j a e f =
    ap (λ l. made u k (length (map seen.name_of c.variables.items)) true ∷ l) (names-push u (suc k) bs b j a (omega (arith, e)) f)

-- a type more
abbrev pub named : DatBind → Name → TyStr Name
named b n = record { function = name_function n (length b.variables.items); constructors = [] }

pub types-push : (m : Map (TyStr Name)) (bs : List DatBind) (ns : List Name) (b : DatBind) (n : Name) → length bs ≡ length ns
    → datatype_types m (map dat_bind_of (bs ++ (b ∷ []))) (ns ++ (n ∷ [])) ≡ put (dat_bind_of b).name.id (named b n) (datatype_types m (map dat_bind_of bs) ns)
types-push m [] [] b n e = ap (λ k. put (dat_bind_of b).name.id (record { function = name_function n k; constructors = [] }) m) (length-map b.variables.items seen.name_of)
types-push m [] (o ∷ ns) b n e = absurd (omega (arith, e))
types-push m (c ∷ bs) [] b n e = absurd (omega (arith, e))
types-push m (c ∷ bs) (o ∷ ns) b n e = types-push (put (dat_bind_of c).name.id (record { function = name_function o (length (dat_bind_of c).variables); constructors = [] }) m) bs ns b n (omega (arith, e))

types-all-meant : (m : Map (TyStr Name)) (bs : List (meant.DatBind Place)) (ns : List Name) (k : ℕ) → k ≡ min (length bs) (length ns) → datatype_types m (take k bs) (take k ns) ≡ datatype_types m bs ns
types-all-meant m [] ns zero e = refl
types-all-meant m [] ns (suc k) e = refl
types-all-meant m (b ∷ bs) [] zero e = refl
types-all-meant m (b ∷ bs) [] (suc k) e = refl
types-all-meant m (b ∷ bs) (n ∷ ns) zero e = absurd (omega (arith, e))
types-all-meant m (b ∷ bs) (n ∷ ns) (suc k) e =
    types-all-meant (put b.name.id (record { function = name_function n (length b.variables); constructors = [] }) m) bs ns k (omega (arith, e))

module _ (bs : List DatBind) (ns : List TyName) where
  -- one pair more
  pub types-next : (k : ℕ) (b : DatBind) (n : TyName) → k < length bs → k < length ns → b ≡ get_or bs k b → n ≡ get_or ns k n → (j : ℕ) → j ≡ k + 1
      → datatype_types [] (map dat_bind_of (take j bs)) (map name_of (take j ns))
      ≡ put (dat_bind_of b).name.id (named b (name_of n)) (datatype_types [] (map dat_bind_of (take k bs)) (map name_of (take k ns)))
  types-next k b n l r at is j e =
      ap (λ j. datatype_types [] (map dat_bind_of (take j bs)) (map name_of (take j ns))) e
      ∙ (λ i. datatype_types [] (map dat_bind_of (taken-next bs k b b l at i)) (mapped-next name_of ns k n r is i))
      ∙ types-push [] (take k bs) (map name_of (take k ns)) b (name_of n) same
    where
      same : length (take k bs) ≡ length (map name_of (take k ns))
      same = length-take-le k bs (omega (arith, l)) ∙ sym (length-map (take k ns) name_of ∙ length-take-le k ns (omega (arith, r)))

  -- all pairs
  pub types-all : (k : ℕ) → k ≡ min (length bs) (length ns)
      → datatype_types [] (map dat_bind_of (take k bs)) (map name_of (take k ns)) ≡ datatype_types [] (map dat_bind_of bs) (map name_of ns)
  types-all k e =
      (λ i. datatype_types [] (sym (take-map dat_bind_of k bs) i) (sym (take-map name_of k ns) i))
      ∙ types-all-meant [] (map dat_bind_of bs) (map name_of ns) k (e ∙ (λ i. min (sym (length-map bs dat_bind_of) i) (sym (length-map ns name_of) i)))
