-- The parts of top-level declarations are read to what was made: structures, signatures and functors.
use Rattle.std.specs.Prelude.{ℕ, List, [], ◌∷◌, map}
use Rattle.sml_tree.specs.Names.{Name}
use Rattle.sml_tree.specs.Structures.{StrExp, StrDec, StrBinds, SigBind, FunBind, TopDec, core_dec, structure_dec, str_local, str_bind, no_str_bind, and_str_bind, top_str, signature_dec, functor_dec}
use Rattle.sml_objects.specs.Maps.{Map, put}
use Rattle.sml_objects.specs.Objects.{Head}
use Rattle.sml_core_rules.specs.Objects.{Sig, Basis, extend}
use Rattle.sml_core_rules.specs.Scripts.{Script}
use Rattle.sml_core_rules.specs.States.{Scope, State, no_window}
use Rattle.sml_core_laws.proofs.MadeTypes.{each-put}
use Rattle.sml_core_laws.proofs.MadeScripts.{EnvAt, env-up}
use Rattle.sml_module_rules.specs.Structures.{one_structure, read_signatures, read_structure, structure_parts, read_functor, read_inside, str_parts, parts}
use Rattle.sml_module_laws.specs.Made.{IsBodyIn, AreSignaturesIn, IsScopeIn, IsContextAt, IsAddedAt}
use Rattle.sml_module_laws.proofs.Bodies.{body-more}
use Rattle.sml_module_laws.proofs.Steps.{Goes, first, gives}
use Rattle.sml_module_laws.proofs.Described.{SigAt}
use Rattle.sml_module_laws.proofs.Signatures.{signatures-up, sig-goes}
use Rattle.sml_module_laws.proofs.Structures.{Reaches, grown-later, context-up, scope-up, in-extend, at-body, at-empty, at-one, then, rests, goes, str-reaches, strdec-reaches}

module _ {P N : Type 0} (S : Head N → ℕ → Type 0) (scope : Scope N) (B : Basis N) where
  -- each of them, in any state that has the basis
  abbrev PartReaches : Script P N (Basis N) → Type 0
  PartReaches k = (s : State P N) → IsScopeIn S s.names B → IsContextAt S s B.body → Reaches S scope s k (λ A t. IsAddedAt S t A)

  abbrev pub AllReach : List (Script P N (Basis N)) → Type 0
  AllReach [] = Unit {0}
  AllReach (k ∷ ks) = PartReaches k × AllReach ks

  signatures-go : (m : Map (Sig N)) (bs : List (SigBind P)) {s : State P N} → IsScopeIn S s.names B → EnvAt S B.body s → AreSignaturesIn S s.names m
      → Goes S scope no_window s (read_signatures scope B m bs) (λ m t. AreSignaturesIn S t.names m)
  unfolding read_signatures
  signatures-go m [] b c h = gives h
  signatures-go m (q ∷ bs) b c h =
      first (sig-goes B.signatures B.body q.signature b.0 c) (λ R t g k.
      signatures-go (put q.name.id R m) bs (scope-up S (grown-later g) B b) (env-up S g B.body c) (each-put (λ R. IsBodyIn S t.names R.body) q.name.id R m k (signatures-up S g m h)))

  functor-reaches : (q : FunBind P) → PartReaches (read_functor scope B q)
  functor-reaches q s b c =
      then (goes {R = SigAt S} (sig-goes B.signatures B.body q.signature b.0 c.0.0) (λ R t k. k)) (λ R t l h.
      then
      (str-reaches B (extend B.body (one_structure q.argument.id R.body)) q.body (scope-up S l B b)
      (in-extend S t B.body (one_structure q.argument.id R.body) (context-up S l B.body c) (at-one S t q.argument.id R.body (at-body S t R.body h)))) (λ E u k j.
      rests (at-empty S u, tt, ((body-more S t.names u.names k.names R.body h, j), tt))))

  functors-reach : (qs : List (FunBind P)) → AllReach (map (read_functor scope B) qs)
  functors-reach [] = tt
  functors-reach (q ∷ qs) = (functor-reaches q, functors-reach qs)

  structure-reaches : (x : Name P) (e : StrExp P) → PartReaches (read_structure scope B x e)
  structure-reaches x e s b c = then (str-reaches B B.body e b c) (λ E t l h. rests (at-one S t x.id E h, tt, tt))

  structures-reach : (bs : StrBinds P) → AllReach (structure_parts scope B bs)
  structures-reach no_str_bind = tt
  structures-reach (and_str_bind (str_bind x e) bs) = (structure-reaches x e, structures-reach bs)

  inside-reaches : (d : StrDec P) → PartReaches (read_inside scope B d)
  inside-reaches d s b c = then (strdec-reaches B B.body d b c) (λ E t l h. rests (h, tt, tt))

  declared-reach : (d : StrDec P) → AllReach (str_parts scope B d)
  declared-reach (core_dec d) = (inside-reaches (core_dec d), tt)
  declared-reach (structure_dec p bs) = structures-reach bs
  declared-reach (str_local p ds es) = (inside-reaches (str_local p ds es), tt)

  pub parts-reach : (d : TopDec P) → AllReach (parts scope B d)
  parts-reach (top_str d) = declared-reach d
  parts-reach (signature_dec p bs) =
      (λ s b c. then (goes {R = λ m t. AreSignaturesIn S t.names m} (signatures-go [] bs b c.0.0 tt) (λ m t h. h)) (λ m t l h. rests (at-empty S t, h, tt)), tt)
  parts-reach (functor_dec p qs) = functors-reach qs
