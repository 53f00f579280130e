-- Which names of a run admit equality: as many as can (the Definition, section 4.9).
use Rattle.std.specs.Prelude.{◌≡◌, ◌<◌, ◌-◌, ◌&&◌, ℕ, zero, suc, Bool, true, cond, nat_eq, nat_le, nat_lt, Option, Some, None, List, [], ◌∷◌, length}
use Rattle.std.specs.Prelude.{Vec}
use Rattle.std.specs.Global.{Global}
use Rattle.std.specs.declared.rc.Rc.{Rc}
use Rattle.sml_objects.specs.Equality.{is_reference_name, admits_by}
use Rattle.sml_objects.specs.Initial.{Name, initial, made, attributes_of}
use Rattle.sml_objects.specs.Objects as O
use Rattle.sml_objects.specs.Views.{maker_of, type_of}
use Rattle.sml_objects.specs.declared.objects.MlType.{MlType}
use Rattle.sml_equality.specs.declared.runs.Run.{Run}

-- where a name stands among those of a run
abbrev pub place_in : Run → Name → Option ℕ
place_in r (initial k) = None
place_in r (made u n a q) = cond (nat_eq u (maker_of r.unit) && (nat_le r.first n && nat_lt (n - r.first) r.count)) (Some (n - r.first)) None

abbrev pub kept_or : (ℕ → Bool) → Bool → Option ℕ → Bool
kept_or kept b None = b
kept_or kept b (Some k) = kept k

-- whether a name admits equality, where these of the run do
abbrev pub admits_in : Run → (ℕ → Bool) → Name → Bool
admits_in r kept n = kept_or kept (attributes_of n).equality (place_in r n)

-- whether the type of a constructor's argument does, where each parameter does
abbrev pub type_admits : Run → (ℕ → Bool) → O.MlType Name → Bool
type_admits r kept t = admits_by is_reference_name (λ _. true) (admits_in r kept) t

-- the types of the arguments of a datatype's constructors
abbrev pub Arguments : Type 0
Arguments = List (Option (Rc MlType Global))

abbrev pub argument_admits : Run → (ℕ → Bool) → Option (Rc MlType Global) → Bool
argument_admits r kept None = true
argument_admits r kept (Some t) = type_admits r kept (type_of t.value)

abbrev pub arguments_admit : Run → (ℕ → Bool) → Arguments → Bool
arguments_admit r kept [] = true
arguments_admit r kept (t ∷ ts) = argument_admits r kept t && arguments_admit r kept ts

abbrev pub arguments_at : List (Vec (Option (Rc MlType Global)) Global) → ℕ → Arguments
arguments_at [] k = []
arguments_at (a ∷ ds) zero = a.items
arguments_at (a ∷ ds) (suc k) = arguments_at ds k

-- The datatypes of a set, each with the arguments of its constructors, have arguments that admit equality where the set does.
abbrev pub Respects : Run → (ℕ → Bool) → List (Vec (Option (Rc MlType Global)) Global) → Type 0
Respects r kept ds = (k : ℕ) → k < length ds → kept k ≡ true → arguments_admit r kept (arguments_at ds k) ≡ true

-- the largest set that respects equality: it contains every other
pub record IsLargest (r : Run) (kept : ℕ → Bool) (ds : List (Vec (Option (Rc MlType Global)) Global)) : Type 0 where
  pub respects : Respects r kept ds
  pub largest : (others : ℕ → Bool) → Respects r others ds → (k : ℕ) → k < length ds → others k ≡ true → kept k ≡ true
