-- The scopes of a run.
use Rattle.std.specs.Prelude.{◌≡◌, ℕ, Bool, false}
use Rattle.std.proofs.Common.{refl, ap}
use Rattle.sml_objects.specs.Initial.{Name, initial, made, naming}
use Rattle.sml_objects.specs.Names.{Initial, int, word, char, string, bool, exn, real, list, ref}
use Rattle.sml_layers.specs.Explicit.{variable_name}
use Rattle.sml_layers.specs.declared.variable.Variable.{Variable}
use Rattle.sml_core_rules.specs.Scopes.{RunsHaveScopes}

abbrev number_in : Name → ℕ
number_in (initial k) = 0
number_in (made u n a q) = n

abbrev equality_in : Name → Bool
equality_in (initial k) = false
equality_in (made u n a q) = q

variables-apart : (x y : Variable) → variable_name x ≡ variable_name y → x ≡ y
variables-apart x y h = λ i. record { number = ap number_in h i; equality = ap equality_in h i }

not-initial : (k : Initial) (u n a : ℕ) (q : Bool) → ¬ (initial k ≡ made u n a q)
not-initial k u n a q h = cc

made-by-none : (k : Initial) → (naming.attributes (initial k)).maker ≡ 0
unfolding naming
made-by-none int = refl
made-by-none word = refl
made-by-none char = refl
made-by-none string = refl
made-by-none bool = refl
made-by-none exn = refl
made-by-none real = refl
made-by-none list = refl
made-by-none ref = refl

pub runs-have-scopes : RunsHaveScopes
unfolding naming
runs-have-scopes unit h = record {
  counted = h;
  apart = variables-apart;
  carries = λ x. refl;
  is_new = λ x k. not-initial k 0 x.number 0 x.equality;
  initial = made-by-none;
}
