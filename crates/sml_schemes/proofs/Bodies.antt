-- The variables of types over some unknowns, and of the bodies of their schemes.
use Rattle.std.proofs.Common.{◌≡◌, ℕ, ◌<◌, ◌≤◌, Bool, true, false, cond, None, List, [], ◌∷◌, ◌++◌, length, get_or, sym, subst, arith, zero, suc, ◌+◌, nat_eq}
use Rattle.std.specs.Prelude.{Result, Ok, Err, IfOk}
use Rattle.std.specs.List.{AllByRecursion, list_any}
use Rattle.sml_lex.specs.declared.fault.Memory.{Memory}
use Rattle.sml_objects.specs.Names as N
use Rattle.sml_objects.specs.Initial.{Name, initial}
use Rattle.sml_objects.specs.Objects as O
use Rattle.sml_objects.specs.Types.{variables_after, variables_after_all, assign, replace_type, replace_types, index_among}
use Rattle.sml_objects.specs.Fates.{attributes, substitutes, type_or, standing_for, close_as}
use Rattle.sml_objects.specs.declared.objects.Scheme.{Scheme}
use Rattle.sml_objects.specs.declared.fates.Fate.{Fate}
use Rattle.sml_objects.specs.declared.fates.Fate.TheVariants.{Bind, Keep, Default}
use Rattle.sml_graph.specs.Interned.{IsOver, AreOver, IsBodyOver, AreBodiesOver}
use Rattle.sml_objects.specs.Views.{scheme_of}
use Rattle.sml_graph.proofs.Merging.{all-append}

-- the variables of a type over some unknowns

seen-more : (n v : ℕ) (b : Bool) (seen : List ℕ) → AllByRecursion (λ v. v < n) seen → v < n → AllByRecursion (λ v. v < n) (cond b seen (seen ++ v ∷ []))
seen-more n v true seen a h = a
seen-more n v false seen a h = all-append (λ v. v < n) seen (v ∷ []) a (h, tt)

mutual
  unfolding IsOver AreOver variables_after variables_after_all

  pub variables-known : (n : ℕ) (seen : List ℕ) (t : O.MlType Name) → AllByRecursion (λ v. v < n) seen → IsOver n t → AllByRecursion (λ v. v < n) (variables_after seen t)
  variables-known n seen (O.bound k) a o = absurd o
  variables-known n seen (O.free v) a o = seen-more n v (list_any (nat_eq v) seen) seen a o
  variables-known n seen (O.app h ts) a o = all-variables-known n seen ts a o

  all-variables-known : (n : ℕ) (seen : List ℕ) (ts : O.MlTypes Name) → AllByRecursion (λ v. v < n) seen → AreOver n ts → AllByRecursion (λ v. v < n) (variables_after_all seen ts)
  all-variables-known n seen O.no_type a o = a
  all-variables-known n seen (O.and_type t ts) a o = all-variables-known n (variables_after seen t) ts (variables-known n seen t a o.0) o.1

-- schemes speak of their own variables, and of unknowns

standing-over : (n k m : ℕ) (fs : List Fate) (p v : ℕ) → v < n → k + length (attributes fs) ≤ m → IsBodyOver m n (type_or (O.free v) (get_or (substitutes (O.named (initial N.int)) k fs) p None))
unfolding IsBodyOver AreBodiesOver
standing-over n k m [] p v h l = h
standing-over n k m (Bind e ∷ fs) zero v h l = omega (arith, l)
standing-over n k m (Keep ∷ fs) zero v h l = h
standing-over n k m (Default ∷ fs) zero v h l = tt
standing-over n k m (Bind e ∷ fs) (suc p) v h l = standing-over n (suc k) m fs p v h (omega (arith, l))
standing-over n k m (Keep ∷ fs) (suc p) v h l = standing-over n k m fs p v h l
standing-over n k m (Default ∷ fs) (suc p) v h l = standing-over n k m fs p v h l

mutual
  unfolding IsOver AreOver IsBodyOver AreBodiesOver replace_type replace_types

  assigned-over : (m n : ℕ) (f : ℕ → O.MlType Name) (t : O.MlType Name) → ((v : ℕ) → v < n → IsBodyOver m n (f v)) → IsOver n t → IsBodyOver m n (assign f t)
  assigned-over m n f (O.bound k) g o = absurd o
  assigned-over m n f (O.free v) g o = g v o
  assigned-over m n f (O.app h ts) g o = all-assigned-over m n f ts g o

  all-assigned-over : (m n : ℕ) (f : ℕ → O.MlType Name) (ts : O.MlTypes Name) → ((v : ℕ) → v < n → IsBodyOver m n (f v)) → AreOver n ts → AreBodiesOver m n (replace_types O.bound f ts)
  all-assigned-over m n f O.no_type g o = tt
  all-assigned-over m n f (O.and_type t ts) g o = (assigned-over m n f t g o.0, all-assigned-over m n f ts g o.1)

closed-over : (n : ℕ) (fs : List Fate) (t : O.MlType Name) → IsOver n t → IsBodyOver (length (close_as (O.named (initial N.int)) fs t).variables) n (close_as (O.named (initial N.int)) fs t).body
unfolding close_as
closed-over n fs t o =
    assigned-over (length (attributes fs)) n (standing_for (variables_after [] t) (substitutes (O.named (initial N.int)) 0 fs)) t (λ v h. standing-over n 0 (length (attributes fs)) fs (index_among v (variables_after [] t)) v h (omega arith)) o

pub scheme-over : (n : ℕ) (fs : List Fate) (t : O.MlType Name) (r : Result Scheme Memory) → IsOver n t → IfOk r (λ s. scheme_of s ≡ close_as (O.named (initial N.int)) fs t) → IfOk r (λ s. IsBodyOver (length (scheme_of s).variables) n (scheme_of s).body)
scheme-over n fs t (Ok s) o e = subst (λ (z : O.Scheme Name). IsBodyOver (length z.variables) n z.body) (sym e) (closed-over n fs t o)
scheme-over n fs t (Err m) o e = tt
