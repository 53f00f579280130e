-- Declarations that are alike, as pairs that one signature seals, up to places.
use Rattle.std.specs.Prelude.{◌≡◌, ◌⊎◌, List, [], ◌∷◌, map}
use mathlib.Core.Path.{refl, sym, ap, ◌∙◌}
use mathlib.Core.Logic.{inl, inr}
use Rattle.sml_lex.specs.declared.fault.Place.{Place}
use Rattle.sml_tree.specs.Names.{Name}
use Rattle.sml_tree.specs.Expressions.{open_dec}
use Rattle.sml_tree.specs.Structures.{StrExp, StrBinds, FunBind, TopDec, ascribed, str_let, core_dec, structure_dec, str_local, no_str_dec, and_str_dec, str_bind, no_str_bind, and_str_bind, top_str, signature_dec, functor_dec}
use Rattle.sml_tree.specs.declared.structures.Ascription.TheVariants.{Opaque}
use Rattle.sml_module_rules.specs.Programs.{Behind, StructurePair, FunctorPair, kept_structure, sealed_structure, kept_functor, sealed_functor, opened_functor, sealed, opened, structure_name, structure_body, structure_group, functor_of, functor_group, Pair, same, structures, functors, first, second, acceptance, shown}
use Rattle.sml_places.specs.Places.{place_name, place_str, place_str_dec, place_str_decs, place_str_binds, place_dec, place_sig, place_fun_bind, forget_top}
use Rattle.sml_places.specs.Likeness.{AreSealedAlike, AreBodiesAlike, AreBindingsAlike, Opens, AreOpenedAlike, AreFunctorsAlike, AreGroupsAlike}
use Rattle.sml_places.specs.Units.{Placed, Given}

abbrev forget_name : Name Place → Name (Unit {0})
forget_name x = place_name (λ p. tt) x

abbrev forget_str : StrExp Place → StrExp (Unit {0})
forget_str e = place_str (λ p. tt) e

abbrev forget_binds : StrBinds Place → StrBinds (Unit {0})
forget_binds bs = place_str_binds (λ p. tt) bs

abbrev forget_functor : FunBind Place → FunBind (Unit {0})
forget_functor b = place_fun_bind (λ p. tt) b

-- what stands behind seals

abbrev first_behind : {e g : StrExp Place} → AreSealedAlike e g → Behind Place
first_behind a = record { ascription = a.first_place; body = a.first_body }

abbrev second_behind : {e g : StrExp Place} → AreSealedAlike e g → Behind Place
second_behind a = record { ascription = a.second_place; body = a.second_body }

first-sealed : {e g : StrExp Place} (a : AreSealedAlike e g) → forget_str (sealed (first_behind a) a.first_signature) ≡ forget_str e
first-sealed a = ap (λ e. forget_str e) (sym a.first)

second-sealed : {e g : StrExp Place} (a : AreSealedAlike e g) → forget_str (sealed (second_behind a) a.first_signature) ≡ forget_str g
unfolding place_str
second-sealed a = ap (λ s. ascribed tt (forget_str a.second_body) Opaque s) a.signatures ∙ ap (λ e. forget_str e) (sym a.second)

opened-same : (x : Name Place) (e body s : StrExp Place) → Opens x.id e body → forget_str s ≡ forget_str body → forget_str (opened x s) ≡ forget_str e
unfolding place_str place_str_decs place_str_dec place_dec
opened-same x e body s h alike =
    ap (λ b. str_let tt (and_str_dec (core_dec (open_dec tt (record { place = tt; id = record { path = []; last = x.id } } ∷ []))) no_str_dec) b) alike
    ∙ ap (λ e. forget_str e) (sym h.is)

-- structures

module _ (x y : Name Place) (e g : StrExp Place) where
  MadeStructure : Type 0
  MadeStructure =
      (r : StructurePair Place) × (str_bind (forget_name (structure_name r)) (forget_str (structure_body (λ b. b.first) r)) ≡ str_bind (forget_name x) (forget_str e))
      × (str_bind (forget_name (structure_name r)) (forget_str (structure_body (λ b. b.second) r)) ≡ str_bind (forget_name y) (forget_str g))

  made-structure : x.id ≡ y.id → AreBodiesAlike e g → MadeStructure
  unfolding MadeStructure
  made-structure named (inl h) = (kept_structure x e, refl, λ i. str_bind (record { place = tt; id = named i }) (h i))
  made-structure named (inr a) =
      let first = first-sealed a in
      let second = second-sealed a in (
        sealed_structure (record { name = x; signature = a.first_signature; first = first_behind a; second = second_behind a }),
        λ i. str_bind (forget_name x) (first i),
        λ i. str_bind (record { place = tt; id = named i }) (second i),
      )

MadeStructures : StrBinds Place → StrBinds Place → Type 0
MadeStructures bs cs =
    (rs : List (StructurePair Place)) × (forget_binds (structure_group (λ b. b.first) rs) ≡ forget_binds bs) × (forget_binds (structure_group (λ b. b.second) rs) ≡ forget_binds cs)

made-structures : (bs cs : StrBinds Place) → AreBindingsAlike bs cs → MadeStructures bs cs
unfolding place_str_binds MadeStructure MadeStructures
made-structures no_str_bind no_str_bind h = ([], refl, refl)
made-structures no_str_bind (and_str_bind c cs) h = absurd h
made-structures (and_str_bind (str_bind x e) bs) no_str_bind h = absurd h
made-structures (and_str_bind (str_bind x e) bs) (and_str_bind (str_bind y g) cs) h =
    let r = made-structure x y e g h.0 h.1 in
    let rs = made-structures bs cs h.2 in (r.0 ∷ rs.0, λ i. and_str_bind (r.1 i) (rs.1 i), λ i. and_str_bind (r.2 i) (rs.2 i))

-- functors

module _ (b c : FunBind Place) where
  MadeFunctor : Type 0
  MadeFunctor = (r : FunctorPair Place) × (forget_functor (functor_of (λ b. b.first) r) ≡ forget_functor b) × (forget_functor (functor_of (λ b. b.second) r) ≡ forget_functor c)

  module _ (named : b.name.id ≡ c.name.id) (argued : b.argument.id ≡ c.argument.id) (signed : place_sig {Q = Unit {0}} (λ p. tt) b.signature ≡ place_sig (λ p. tt) c.signature) where
    first-body : (e : StrExp Place) → forget_str e ≡ forget_str b.body
        → forget_functor (record { name = b.name; argument = b.argument; signature = b.signature; body = e }) ≡ forget_functor b
    first-body e body =
        λ i. record { name = forget_name b.name; argument = forget_name b.argument; signature = place_sig (λ p. tt) b.signature; body = body i }

    second-body : (e : StrExp Place) → forget_str e ≡ forget_str c.body
        → forget_functor (record { name = b.name; argument = b.argument; signature = b.signature; body = e }) ≡ forget_functor c
    second-body e body =
        λ i. record { name = record { place = tt; id = named i }; argument = record { place = tt; id = argued i }; signature = signed i; body = body i }

    made-functor : AreBodiesAlike b.body c.body ⊎ AreOpenedAlike b.argument.id b.body c.body → MadeFunctor
    unfolding MadeFunctor
    made-functor (inl (inl h)) = (kept_functor b, refl, second-body b.body h)
    made-functor (inl (inr a)) = (
      sealed_functor (record { name = b.name; argument = b.argument; signature = b.signature; result = a.first_signature; first = first_behind a; second = second_behind a }),
      first-body (sealed (first_behind a) a.first_signature) (first-sealed a),
      second-body (sealed (second_behind a) a.first_signature) (second-sealed a),
    )
    made-functor (inr h) =
        let a = h.alike in
        let s = sealed (first_behind a) a.first_signature in
        let t = sealed (second_behind a) a.first_signature in (
          opened_functor (record { name = b.name; argument = b.argument; signature = b.signature; result = a.first_signature; first = first_behind a; second = second_behind a }),
          first-body (opened b.argument s) (opened-same b.argument b.body h.first_body s h.first (first-sealed a)),
          second-body (opened b.argument t) (opened-same b.argument c.body h.second_body t h.second (second-sealed a)),
        )

MadeFunctors : List (FunBind Place) → List (FunBind Place) → Type 0
MadeFunctors bs cs =
    (rs : List (FunctorPair Place)) × (map forget_functor (functor_group (λ b. b.first) rs) ≡ map forget_functor bs)
    × (map forget_functor (functor_group (λ b. b.second) rs) ≡ map forget_functor cs)

made-functors : (bs cs : List (FunBind Place)) → AreFunctorsAlike bs cs → MadeFunctors bs cs
unfolding MadeFunctor MadeFunctors
made-functors [] [] h = ([], refl, refl)
made-functors [] (c ∷ cs) h = absurd h
made-functors (b ∷ bs) [] h = absurd h
made-functors (b ∷ bs) (c ∷ cs) h =
    let r = made-functor b c h.0.0 h.0.1 h.0.2 h.0.3 in
    let rs = made-functors bs cs h.1 in (r.0 ∷ rs.0, λ i. r.1 i ∷ rs.1 i, λ i. r.2 i ∷ rs.2 i)

-- A declaration is that of one side of a pair: the same, or, where the sides differ, the same but for places.
abbrev pub IsSide : (Pair Place → Placed) → Pair Place → Placed → Type 0
IsSide side (same p d) x = side (same p d) ≡ x
IsSide side (structures p q bs) x = forget_top (side (structures p q bs)).1 ≡ forget_top x.1
IsSide side (functors p q bs) x = forget_top (side (functors p q bs)).1 ≡ forget_top x.1

-- a pair for two declarations that differ
pub record Made (x y : Placed) : Type 0 where
  pub pair : Pair Place
  pub is_first : IsSide first pair x
  pub is_second : IsSide second pair y
  pub is_shown : (o : Given) → shown pair o ≡ acceptance o

pub made : (p q : Place) (d e : TopDec Place) → AreGroupsAlike d e → Made (p, d) (q, e)
unfolding place_str_dec MadeStructures MadeFunctors
made p q (top_str (core_dec d)) e h = absurd h
made p q (top_str (str_local a ds es)) e h = absurd h
made p q (signature_dec a bs) e h = absurd h
made p q (top_str (structure_dec a bs)) (top_str (core_dec e)) h = absurd h
made p q (top_str (structure_dec a bs)) (top_str (str_local b ds es)) h = absurd h
made p q (top_str (structure_dec a bs)) (signature_dec b cs) h = absurd h
made p q (top_str (structure_dec a bs)) (functor_dec b cs) h = absurd h
made p q (functor_dec a bs) (top_str e) h = absurd h
made p q (functor_dec a bs) (signature_dec b cs) h = absurd h
made p q (top_str (structure_dec a bs)) (top_str (structure_dec b cs)) h =
    let r = made-structures bs cs h in
    record {
      pair = structures (record { declaration = p; bindings = a }) (record { declaration = q; bindings = b }) r.0;
      is_first = λ i. top_str (structure_dec tt (r.1 i));
      is_second = λ i. top_str (structure_dec tt (r.2 i));
      is_shown = λ o. refl;
    }
made p q (functor_dec a bs) (functor_dec b cs) h =
    let r = made-functors bs cs h in
    record {
      pair = functors (record { declaration = p; bindings = a }) (record { declaration = q; bindings = b }) r.0;
      is_first = λ i. functor_dec tt (r.1 i);
      is_second = λ i. functor_dec tt (r.2 i);
      is_shown = λ o. refl;
    }
