-- What a type function that is a name gives for its arguments.
use Rattle.std.proofs.Common.{◌≡◌, ℕ, zero, suc, ◌+◌, ◌<◌, Bool, true, false, ◌&&◌, nat_eq, cond, Option, Some, None, length, refl, sym, ◌∙◌, arith}
use Rattle.std.proofs.lemmas.Bool.Decides.{nat_tests}
use Rattle.std.proofs.lemmas.Bool.{true≢false}
use Rattle.sml_objects.specs.Initial.{Name}
use Rattle.sml_objects.specs.Objects as O
use Rattle.sml_objects.specs.Types.{applied, argument, argument_or, replace_type, replace_types}
use Rattle.sml_core_rules.specs.Types.{count_types}
use Rattle.sml_core_rules.specs.Functions.{are_parameters, name_of, named_type}

-- the types from the k-th on
abbrev from : ℕ → O.MlTypes Name → O.MlTypes Name
from zero ts = ts
from (suc k) O.no_type = O.no_type
from (suc k) (O.and_type t ts) = from k ts

from-next : (d : O.MlType Name) (k : ℕ) (ts : O.MlTypes Name) → k < count_types ts → from k ts ≡ O.and_type (argument_or d ts k) (from (suc k) ts)
from-next d k O.no_type h = absurd (omega (arith, h))
from-next d zero (O.and_type t ts) h = refl
from-next d (suc k) (O.and_type t ts) h = from-next d k ts (omega (arith, h))

from-end : (k : ℕ) (ts : O.MlTypes Name) → k ≡ count_types ts → from k ts ≡ O.no_type
from-end zero O.no_type h = refl
from-end zero (O.and_type t ts) h = absurd (omega (arith, h))
from-end (suc k) O.no_type h = refl
from-end (suc k) (O.and_type t ts) h = from-end k ts (omega (arith, h))

same-number : (j k : ℕ) → nat_eq j k ≡ true → j ≡ k
same-number j k h = grind (arith, nat_tests, h)

both : (a b : Bool) → (a && b) ≡ true → (a ≡ true) × (b ≡ true)
both true b h = (refl, h)
both false b h = absurd (true≢false (sym h))

same-some : (m n : Name) → ◌≡◌ {A = Option Name} (Some m) (Some n) → m ≡ n
same-some m n h = cc

module _ (ts : O.MlTypes Name) where
  parameters-replaced : (k : ℕ) (ps : O.MlTypes Name) → are_parameters k ps ≡ true → k + count_types ps ≡ count_types ts
      → replace_types (argument ts) O.free ps ≡ from k ts
  unfolding are_parameters replace_types replace_type
  parameters-replaced k O.no_type h e = sym (from-end k ts (omega (arith, e)))
  parameters-replaced k (O.and_type (O.bound j) ps) h e =
      let two = both (nat_eq j k) (are_parameters (suc k) ps) h in
      (λ i. O.and_type (argument ts (same-number j k two.0 i)) (parameters-replaced (suc k) ps two.1 (omega (arith, e)) i))
      ∙ sym (from-next (O.bound k) k ts (omega (arith, e)))
  parameters-replaced k (O.and_type (O.free v) ps) h e = absurd (true≢false (sym h))
  parameters-replaced k (O.and_type (O.app c us) ps) h e = absurd (true≢false (sym h))

  name-given : (k : ℕ) (t : O.MlType Name) (n : Name) → named_type k t ≡ Some n → k ≡ count_types ts → replace_type (argument ts) O.free t ≡ O.app (O.name n) ts
  unfolding replace_type replace_types
  name-given k (O.bound j) n h e = cc
  name-given k (O.free v) n h e = cc
  name-given k (O.app O.arrow us) n h e = cc
  name-given k (O.app (O.row ls) us) n h e = cc
  name-given k (O.app (O.name m) us) n h e = go (nat_eq (count_types us) k && are_parameters 0 us) refl h
    where
      go : (b : Bool) → (nat_eq (count_types us) k && are_parameters 0 us) ≡ b → cond b (Some m) None ≡ Some n
          → O.app (O.name m) (replace_types (argument ts) O.free us) ≡ O.app (O.name n) ts
      go false is h = cc
      go true is h =
          let two = both (nat_eq (count_types us) k) (are_parameters 0 us) is in
          let sized = same-number (count_types us) k two.0 in
          λ i. O.app (O.name (same-some m n h i)) (parameters-replaced 0 us two.1 (omega (arith, sized, e)) i)

  -- what it gives
  pub name-applied : (θ : O.Scheme Name) (n : Name) → name_of θ ≡ Some n → nat_eq (length θ.variables) (count_types ts) ≡ true → applied θ ts ≡ O.app (O.name n) ts
  name-applied θ n h e = name-given (length θ.variables) θ.body n h (same-number (length θ.variables) (count_types ts) e)
