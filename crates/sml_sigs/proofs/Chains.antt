-- From listed name to listed name.
use Rattle.std.proofs.Common.{◌≡◌, ℕ, zero, suc, Option, Some, None, refl, ap, ◌∙◌}
use Rattle.std.specs.Option.{option_map}
use Rattle.sml_objects.specs.Initial.{Name}
use Rattle.sml_type_maps.specs.Mapped.{last_of, last_or}

-- one step, where there is one
pub step-on : (next : Name → Option Name) (k : ℕ) (n m : Name) → next n ≡ Some m → last_of (suc k) next n ≡ last_of k next m
step-on next k n m h = ap (λ o. last_or n (option_map (last_of k next) o)) h

-- no step, where there is none
pub stays : (next : Name → Option Name) (k : ℕ) (n : Name) → next n ≡ None → last_of k next n ≡ n
stays next zero n h = refl
stays next (suc k) n h = ap (λ o. last_or n (option_map (last_of k next) o)) h
