-- Bodies of signatures: no unknown stands in them, and no overloaded identifier.
use Rattle.std.specs.Prelude.{ℕ, suc, List, [], ◌∷◌, length}
use Rattle.std.specs.declared.cmp.Ordering.{Ordering}
use Rattle.std.specs.declared.cmp.Ordering.TheVariants.{Less, Equal, Greater}
use Rattle.std.proofs.Common.{arith}
use Rattle.sml_tree.specs.Trees.{Id}
use Rattle.sml_tree.specs.Expressions.{DatBind}
use Rattle.sml_objects.specs.Appearance.{Stands}
use Rattle.sml_objects.specs.Maps.{Map, by_order, order_of}
use Rattle.sml_objects.specs.Objects.{Head, Scheme}
use Rattle.sml_core_rules.specs.Datatypes.{Arguments, constructors_from, constructor_values, datatype_env, datatype_envs}
use Rattle.sml_core_rules.specs.Objects.{Env, Structures, TyStr, Value, maps, no_structure, and_structure, structures, put_structure, join_structures, extend, empty, of_types, of_values}
use Rattle.sml_core_laws.specs.Made.{IsEnvIn}
use Rattle.sml_core_laws.proofs.MadeEnvs.{env-more, extend-in, empty-in}
use Rattle.sml_core_laws.proofs.MadeTypes.{Each, each-join}
use Rattle.sml_module_laws.specs.Made.{IsNotOverloaded, HasNoOverloaded, HaveNoOverloaded, IsBodyIn}

abbrev pub IsUsual : {N : Type 0} → Value N → Type 0
IsUsual v = IsNotOverloaded v.status

pub empty-usual : (N : Type 0) → HasNoOverloaded {N = N} empty
unfolding HasNoOverloaded
empty-usual N = (tt, tt)

module _ {N : Type 0} where
  put-usual : (s : Id) (E : Env N) (ss : Structures (TyStr N) (Value N)) → HasNoOverloaded E → HaveNoOverloaded ss → HaveNoOverloaded (put_structure s E ss)
  unfolding HasNoOverloaded
  put-usual s E no_structure e h = (e, tt)
  put-usual s E (and_structure r F ss) e h = go (order_of s r) (put-usual s E ss e h.1)
    where
      go : (o : Ordering) → HaveNoOverloaded (put_structure s E ss)
          → HaveNoOverloaded (by_order o (and_structure s E (and_structure r F ss)) (and_structure r E ss) (and_structure r F (put_structure s E ss)))
      go Less k = (e, h)
      go Equal k = (e, h.1)
      go Greater k = (h.0, k)

  pub join-usual : (ss rs : Structures (TyStr N) (Value N)) → HaveNoOverloaded ss → HaveNoOverloaded rs → HaveNoOverloaded (join_structures ss rs)
  unfolding HasNoOverloaded
  join-usual ss no_structure h k = h
  join-usual ss (and_structure r E rs) h k = join-usual (put_structure r E ss) rs (put-usual r E ss k.0 h) k.1

  pub extend-usual : (E F : Env N) → HasNoOverloaded E → HasNoOverloaded F → HasNoOverloaded (extend E F)
  unfolding HasNoOverloaded
  extend-usual (maps ss ts vs) (maps rs us ws) h k = (join-usual ss rs h.0 k.0, each-join IsUsual vs ws h.1 k.1)

  pub types-usual : (ts : Map (TyStr N)) → HasNoOverloaded (of_types ts)
  unfolding HasNoOverloaded
  types-usual ts = (tt, tt)

  pub values-usual : (vs : Map (Value N)) → Each IsUsual vs → HasNoOverloaded (of_values vs)
  unfolding HasNoOverloaded
  values-usual vs h = (tt, h)

  -- constructors

  from-usual : (k n : ℕ) (cs : Map (Scheme N)) → Each IsUsual (constructors_from k n cs)
  from-usual k n [] = tt
  from-usual k n (c ∷ cs) = (tt, from-usual (suc k) n cs)

  pub type-usual : (x : Id) (t : TyStr N) → HasNoOverloaded (maps no_structure ((x, t) ∷ []) (constructor_values t.constructors))
  unfolding HasNoOverloaded
  type-usual x t = (tt, from-usual 0 (length t.constructors) t.constructors)

  pub datatypes-usual : {P : Type 0} (ds : List (DatBind P)) (gs : List (N × Arguments N)) → HasNoOverloaded (datatype_envs ds gs)
  datatypes-usual [] gs = empty-usual N
  datatypes-usual (d ∷ ds) [] = empty-usual N
  datatypes-usual (d ∷ ds) (a ∷ gs) = extend-usual (datatype_env d a.0 a.1) (datatype_envs ds gs) (type-usual d.name.id _) (datatypes-usual ds gs)

module _ {N : Type 0} (S : Head N → ℕ → Type 0) (names : List N) where
  pub body-more : (others : List N) → ((n : N) → Stands n names → Stands n others) → (E : Env N) → IsBodyIn S names E → IsBodyIn S others E
  body-more others ns E h = (env-more S 0 names 0 others (omega arith) ns E h.0, h.1)

  pub body-env : (made : ℕ) (E : Env N) → IsBodyIn S names E → IsEnvIn S made names E
  body-env made E h = env-more S 0 names made names (omega arith) (λ n k. k) E h.0

  pub body-extend : (E F : Env N) → IsBodyIn S names E → IsBodyIn S names F → IsBodyIn S names (extend E F)
  body-extend E F h k = (extend-in S 0 names E F h.0 k.0, extend-usual E F h.1 k.1)

  pub body-empty : IsBodyIn S names empty
  body-empty = (empty-in S 0 names, empty-usual N)

  -- structures alone, with one more
  pub body-put : (x : Id) (F E : Env N) → IsBodyIn S names F → IsBodyIn S names E → IsBodyIn S names (maps (put_structure x F (structures E)) [] [])
  unfolding IsEnvIn HasNoOverloaded
  body-put x F (maps ss ts vs) f h = body-extend (maps ss [] []) (maps (and_structure x F no_structure) [] []) ((h.0.0, tt, tt), (h.1.0, tt)) (((f.0, tt), tt, tt), ((f.1, tt), tt))
