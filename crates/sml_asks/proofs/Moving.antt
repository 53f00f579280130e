-- Types in which each name that isn't kept gives way to an initial one. It admits equality where the name did, and has an argument
-- more, so that it stands for no initial type.
use Rattle.std.proofs.Common.{◌≡◌, Bool, true, false, cond, ◌&&◌, ◌||◌, List, [], sym, ◌∙◌, ap, subst, refl}
use Rattle.sml_tree.specs.Trees.{Id}
use Rattle.sml_objects.specs.Names.{Initial, exn, list, ref}
use Rattle.sml_objects.specs.Equality.{admits, all_admit, is_ref, has_equality, admits_by, all_admit_by}
use Rattle.sml_objects.specs.Initial.{Name, initial, naming}
use Rattle.sml_objects.specs.Objects.{MlType, MlTypes, bound, free, app, arrow, row, name, no_type, and_type, named}
use Rattle.sml_layers.specs.Demands.{Mentions, AllMention}
use Rattle.sml_asks.proofs.Giving.{given, all_given}

abbrev stand_in : Name → Name
stand_in n = cond (has_equality naming n) (initial list) (initial exn)

abbrev unit_type : MlType Name
unit_type = app (row []) no_type

abbrev pub away : Name → MlTypes Name → MlType Name
away n ts = app (name (stand_in n)) (and_type unit_type ts)

abbrev moved_name : Name → Bool → MlTypes Name → MlType Name
moved_name n b ts = cond b (app (name n) ts) (away n ts)

module _ (keep : Name → Bool) where
  abbrev pub moved : MlType Name → MlType Name
  moved t = given keep away t

  abbrev all_moved : MlTypes Name → MlTypes Name
  all_moved ts = all_given keep away ts

  abbrev IsKept : Name → Type 0
  IsKept n = keep n ≡ true

  -- what a kept name admits

  mutual
    unfolding given all_given Mentions AllMention

    pub moved-mentions : (P : Name → Type 0) → ((k : Initial) → P (initial k)) → ((k : Initial) → IsKept (initial k)) → (t : MlType Name) → Mentions P t → Mentions (λ n. P n × IsKept n) (moved t)
    moved-mentions P p k (bound v) m = tt
    moved-mentions P p k (free v) m = tt
    moved-mentions P p k (app arrow ts) m = (tt, all-moved-mention P p k ts m.1)
    moved-mentions P p k (app (row ls) ts) m = (tt, all-moved-mention P p k ts m.1)
    moved-mentions P p k (app (name n) ts) m = by_keep (keep n) refl (all-moved-mention P p k ts m.1)
      where
        by_equality : (b : Bool) → P (cond b (initial list) (initial exn)) × IsKept (cond b (initial list) (initial exn))
        by_equality true = (p list, k list)
        by_equality false = (p exn, k exn)

        by_keep : (b : Bool) → keep n ≡ b → AllMention (λ n. P n × IsKept n) (all_moved ts) → Mentions (λ n. P n × IsKept n) (moved_name n b (all_moved ts))
        by_keep true e a = ((m.0, e), a)
        by_keep false e a = (by_equality (has_equality naming n), ((tt, tt), a))

    pub all-moved-mention : (P : Name → Type 0) → ((k : Initial) → P (initial k)) → ((k : Initial) → IsKept (initial k)) → (ts : MlTypes Name) → AllMention P ts → AllMention (λ n. P n × IsKept n) (all_moved ts)
    all-moved-mention P p k no_type m = tt
    all-moved-mention P p k (and_type t ts) m = (moved-mentions P p k t m.0, all-moved-mention P p k ts m.1)

  -- what is moved to an initial type, and to a row

  is_none : MlTypes Name → Bool
  is_none no_type = true
  is_none (and_type t ts) = false

  parts : MlType Name → MlTypes Name
  parts (bound k) = no_type
  parts (free v) = no_type
  parts (app h ts) = ts

  none-moved : (ts : MlTypes Name) → all_moved ts ≡ no_type → ts ≡ no_type
  unfolding all_given
  none-moved no_type e = refl
  none-moved (and_type t ts) e = cc

  pub was-named : (t : MlType Name) (n : Name) → moved t ≡ named n → t ≡ named n
  unfolding given
  was-named (bound k) n e = cc
  was-named (free v) n e = cc
  was-named (app arrow ts) n e = cc
  was-named (app (row ls) ts) n e = cc
  was-named (app (name m) ts) n e = by_keep (keep m) e
    where
      by_keep : (b : Bool) → moved_name m b (all_moved ts) ≡ named n → app (name m) ts ≡ named n
      by_keep true h = let k : all_moved ts ≡ no_type = cc in ap (app (name m)) (none-moved ts k) ∙ ap (λ h. app h no_type) (let q : name m ≡ name n = cc in q)
      by_keep false h = cc

  pub was-row : (t : MlType Name) (ls : List Id) (us : MlTypes Name) → moved t ≡ app (row ls) us → (ts : MlTypes Name) × (t ≡ app (row ls) ts)
  unfolding given
  was-row (bound k) ls us e = cc
  was-row (free v) ls us e = cc
  was-row (app arrow ts) ls us e = cc
  was-row (app (row ms) ts) ls us e = (ts, (let q : row ms ≡ row ls = cc in ap (λ h. app h ts) q))
  was-row (app (name m) ts) ls us e = by_keep (keep m) e
    where
      by_keep : (b : Bool) → moved_name m b (all_moved ts) ≡ app (row ls) us → (vs : MlTypes Name) × (app (name m) ts ≡ app (row ls) vs)
      by_keep true h = cc
      by_keep false h = cc

  -- equality

  module _ (kept : (k : Initial) → IsKept (initial k)) where
    no-ref : (n : Name) → keep n ≡ false → is_ref naming n ≡ false
    unfolding naming
    no-ref n e = go (naming.same (initial ref) n)
      where
        go : (d : Dec (initial ref ≡ n)) → elim d [ yes _ ↦ true | no _ ↦ false ] ≡ false
        go (yes p) = sym (subst IsKept p (kept ref)) ∙ e
        go (no p) = refl

    mutual
      unfolding given all_given admits_by all_admit_by naming

      pub moved-admits : (t : MlType Name) → admits naming (moved t) ≡ admits naming t
      moved-admits (bound k) = refl
      moved-admits (free v) = refl
      moved-admits (app arrow ts) = refl
      moved-admits (app (row ls) ts) = all-moved-admit ts
      moved-admits (app (name n) ts) = by_keep (keep n) refl (has_equality naming n) refl (all-moved-admit ts)
        where
          by_keep : (b : Bool) → keep n ≡ b → (q : Bool) → has_equality naming n ≡ q → all_admit naming (all_moved ts) ≡ all_admit naming ts
              → admits naming (moved_name n b (all_moved ts)) ≡ admits naming (app (name n) ts)
          by_keep true e q f a = ap (λ x. is_ref naming n || (has_equality naming n && x)) a
          by_keep false e q f a =
              let X = all_admit naming (all_moved ts) in
              let Y = all_admit naming ts in
              subst (λ r. (is_ref naming (cond r (initial list) (initial exn)) || (has_equality naming (cond r (initial list) (initial exn)) && X)) ≡ (is_ref naming n || (r && Y))) (sym f)
              (by_equality q)
            where
              by_equality : (r : Bool)
                  → (is_ref naming (cond r (initial list) (initial exn)) || (has_equality naming (cond r (initial list) (initial exn)) && all_admit naming (all_moved ts)))
                  ≡ (is_ref naming n || (r && all_admit naming ts))
              by_equality true = a ∙ ap (λ r. r || all_admit naming ts) (sym (no-ref n e))
              by_equality false = ap (λ r. r || false) (sym (no-ref n e))

      pub all-moved-admit : (ts : MlTypes Name) → all_admit naming (all_moved ts) ≡ all_admit naming ts
      all-moved-admit no_type = refl
      all-moved-admit (and_type t ts) = ap (λ x. x && all_admit naming (all_moved ts)) (moved-admits t) ∙ ap (λ x. admits naming t && x) (all-moved-admit ts)
