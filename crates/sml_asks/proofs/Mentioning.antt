-- What a type stands for mentions only names made so far, where it does, and so does its scheme.
use Rattle.std.proofs.Common.{◌≡◌, ℕ, zero, suc, Bool, true, false, cond, None, List, [], ◌∷◌, map, slice_index_or, sym, subst, refl}
use Rattle.sml_lex.specs.declared.fault.Place.{Place}
use Rattle.sml_objects.specs.Appearance.{Stands, stands}
use Rattle.sml_objects.specs.Fates.{close_as, substitutes, standing_for, type_or}
use Rattle.sml_objects.specs.Initial.{Name, initial, naming}
use Rattle.sml_objects.specs.Names.{int}
use Rattle.sml_objects.specs.Objects.{MlType, MlTypes, Scheme, bound, free, app, arrow, row, name, no_type, and_type, named}
use Rattle.sml_objects.specs.Types.{assign, replace_type, replace_types, variables_after, index_among}
use Rattle.sml_objects.specs.declared.fates.Fate.{Fate}
use Rattle.sml_objects.specs.declared.fates.Fate.TheVariants.{Bind, Keep, Default}
use Rattle.sml_objects.proofs.Standing.{found, was_found}
use Rattle.sml_layers.specs.declared.layer.Layer.TheVariants.{Finiteness}
use Rattle.sml_layers.specs.Demands.{Mentions, AllMention}
use Rattle.sml_layers.specs.Worlds.{Assignment, finite}
use Rattle.sml_graph.specs.Asked.{Asked}
use Rattle.sml_graph.specs.Interned.{IsOver, AreOver}
use Rattle.sml_core_rules.specs.Scopes.{run_scope}
use Rattle.sml_core_rules.specs.Solutions as C
use Rattle.sml_core_rules.specs.States.{State}
use Rattle.sml_asks.specs.Solvers.{SolverIs, IsTypeIn}
use Rattle.sml_asks.specs.Closings.{ReadingsAreTypes, SchemesMentionNames}
use Rattle.sml_asks.proofs.Giving.{given, all_given}
use Rattle.sml_asks.proofs.Holding.{all-given-hold}

-- names of assigned types

module _ (P : Name → Type 0) (τ : ℕ → MlType Name) where
  mutual
    unfolding Mentions AllMention replace_type replace_types

    assigned-mention : ((v : ℕ) → Mentions P (τ v)) → (t : MlType Name) → Mentions P t → Mentions P (assign τ t)
    assigned-mention a (bound k) m = tt
    assigned-mention a (free v) m = a v
    assigned-mention a (app h ts) m = (m.0, all-assigned-mention a ts m.1)

    all-assigned-mention : ((v : ℕ) → Mentions P (τ v)) → (ts : MlTypes Name) → AllMention P ts → AllMention P (replace_types bound τ ts)
    all-assigned-mention a no_type m = tt
    all-assigned-mention a (and_type t ts) m = (assigned-mention a t m.0, all-assigned-mention a ts m.1)

  mutual
    unfolding Mentions AllMention replace_type replace_types

    was-mentioned : (t : MlType Name) → Mentions P (assign τ t) → Mentions P t
    was-mentioned (bound k) m = tt
    was-mentioned (free v) m = tt
    was-mentioned (app h ts) m = (m.0, all-were-mentioned ts m.1)

    all-were-mentioned : (ts : MlTypes Name) → AllMention P (replace_types bound τ ts) → AllMention P ts
    all-were-mentioned no_type m = tt
    all-were-mentioned (and_type t ts) m = (was-mentioned t m.0, all-were-mentioned ts m.1)

-- names that weren't made give way to the row without fields

module _ (names : List Name) where
  keep : Name → Bool
  keep n = stands naming n names

  gives : Name → MlTypes Name → MlType Name
  gives n ts = app (row []) no_type

  named-kept : (n : Name) → Stands n names → keep n ≡ true
  unfolding keep
  named-kept n h = found naming n names h

  mutual
    unfolding given all_given Mentions AllMention keep gives

    given-mentions : (t : MlType Name) → Mentions (λ n. Stands n names) (given keep gives t)
    given-mentions (bound k) = tt
    given-mentions (free v) = tt
    given-mentions (app arrow ts) = (tt, all-given-mention ts)
    given-mentions (app (row ls) ts) = (tt, all-given-mention ts)
    given-mentions (app (name n) ts) = by_keep (stands naming n names) refl (all-given-mention ts)
      where
        by_keep : (b : Bool) → stands naming n names ≡ b → AllMention (λ n. Stands n names) (all_given keep gives ts)
            → Mentions (λ n. Stands n names) (cond b (app (name n) (all_given keep gives ts)) (app (row []) no_type))
        by_keep true e m = (was_found naming n names e, m)
        by_keep false e m = (tt, tt)

    all-given-mention : (ts : MlTypes Name) → AllMention (λ n. Stands n names) (all_given keep gives ts)
    all-given-mention no_type = tt
    all-given-mention (and_type t ts) = (given-mentions t, all-given-mention ts)

module _ (unit next : ℕ) (solver : Asked) (s : State Place Name) (is : SolverIs unit next solver s) where
  -- types of names made so far that meet the equations
  plain : Assignment Name finite
  plain v = given (keep s.names) (gives s.names) (is.met.0 v)

  mutual
    unfolding C.IsOfLeft C.AreOfLeft IsOver AreOver

    left-over : (t : MlType Name) → C.IsOfLeft (run_scope unit) s t → IsOver s.made t
    left-over (bound k) h = h
    left-over (free v) h = h.0
    left-over (app h ts) k = all-left-over ts k

    all-left-over : (ts : MlTypes Name) → C.AreOfLeft (run_scope unit) s ts → AreOver s.made ts
    all-left-over no_type h = tt
    all-left-over (and_type t ts) h = (left-over t h.0, all-left-over ts h.1)

  reading-in : (t r : MlType Name) → Mentions (λ n. Stands n s.names) t → C.StandsFor (run_scope unit) s t r → IsTypeIn s.made s.names r
  unfolding C.StandsFor plain
  reading-in t r m h =
      let met : C.Meets (run_scope unit) s Finiteness plain = all-given-hold unit next s.made s.names (keep s.names) (gives s.names) (named-kept s.names) is.demands s.demands is.same is.met.0 is.met.1 in (
        left-over r h.0,
        was-mentioned (λ n. Stands n s.names) plain r
            (subst (Mentions (λ n. Stands n s.names)) (sym (h.1 plain met)) (assigned-mention (λ n. Stands n s.names) plain (λ v. given-mentions s.names (is.met.0 v)) t m)),
      )

pub readings-are-types : ReadingsAreTypes
readings-are-types unit next solver s t r is m h = reading-in unit next solver s is t r m.1 h

-- closing adds no name but `int`

substitute-mentions : (P : Name → Type 0) → P (initial int) → (v k i : ℕ) (fs : List Fate) → Mentions P (type_or (free v) (slice_index_or (substitutes (named (initial int)) k fs) i None))
unfolding Mentions AllMention
substitute-mentions P p v k i [] = tt
substitute-mentions P p v k zero (Bind e ∷ fs) = tt
substitute-mentions P p v k zero (Keep ∷ fs) = tt
substitute-mentions P p v k zero (Default ∷ fs) = (p, tt)
substitute-mentions P p v k (suc i) (Bind e ∷ fs) = substitute-mentions P p v (suc k) i fs
substitute-mentions P p v k (suc i) (Keep ∷ fs) = substitute-mentions P p v k i fs
substitute-mentions P p v k (suc i) (Default ∷ fs) = substitute-mentions P p v k i fs

pub schemes-mention-names : SchemesMentionNames
unfolding C.IsScheme close_as naming
schemes-mention-names unit next solver s n x t θ is m (r, stands, fate, fates, e) =
    let q : IsTypeIn s.made s.names r = reading-in unit next solver s is t r m.1 stands in
    let P : Name → Type 0 = λ n. Stands n s.names in
    let fs : List Fate = map fate (variables_after [] r) in
    subst (λ (σ : Scheme Name). Mentions P σ.body) (sym e)
    (assigned-mention P (standing_for (variables_after [] r) (substitutes (named (initial int)) 0 fs))
    (λ v. substitute-mentions P (is.known.initials int) v 0 (index_among v (variables_after [] r)) fs) r q.1)
