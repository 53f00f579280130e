-- What the calls of one kind do with a solver.
use Rattle.std.specs.Prelude.{◌≡◌, ◌↔◌, true, false, Result, Err, OnOk, OnErr}
use Rattle.sml_layers.specs.declared.layer.Layer.{Layer}
use Rattle.sml_graph.specs.declared.demand.Refusal.{Refusal}
use Rattle.sml_graph.specs.declared.demand.Refusal.TheVariants as R
use Rattle.sml_graph.specs.Asked.{Asked, Demand, count, Adds, CanMeet, IsFirstUnmet, PermitsSame}

-- A call returns. Refused, it leaves the solver spent, and this error comes just where the solver was spent before.
pub record Returns {T E : Type 0} (old new : Asked) (result : Result T E) (spent_error : E) : Type 0 where
  pub unit : new.unit ≡ old.unit
  pub kept : OnOk result (new.spent ≡ false)
  pub err : OnErr result (new.spent ≡ true)
  pub spent : result ≡ Err spent_error ↔ old.spent ≡ true

-- A call returns, and the same types are permitted of the same unknowns.
pub record Keeps {T E : Type 0} (old new : Asked) (result : Result T E) (spent_error : E) : Type 0 where
  pub same : OnOk result (PermitsSame old new)
  pub count : count new ≡ count old
  pub returns : Returns old new result spent_error

-- A call makes a demand. Where it is accepted, the types permitted are those before that also meet it, and some do in each layer; where
-- types refuse it, its layer is the first that they can't meet.
pub record Demands (old : Asked) (d : Demand) (new : Asked) (result : Result (Unit {0}) Refusal) : Type 0 where
  pub ok : OnOk result (Adds old d new)
  pub met : OnOk result ((l : Layer) → CanMeet l old d)
  pub unmet : (l : Layer) → result ≡ Err (R.Unmet l) → IsFirstUnmet l old d
  pub labels : result ≡ Err R.Labels → ⊥
  pub count : count new ≡ count old
  pub returns : Returns old new result R.Spent
