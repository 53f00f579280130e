-- Contexts at the beginning of a run.
use Rattle.std.proofs.Common.{◌≡◌, List, [], None, ap, map, refl, sym, arith}
use Rattle.std.specs.Option.{option_map}
use Rattle.sml_objects.specs.Initial.{Name}
use Rattle.sml_objects.specs.Objects.{free}
use Rattle.sml_objects.specs.Views.{type_of}
use Rattle.sml_core_rules.specs.Objects.{Env}
use Rattle.sml_core_rules.specs.Expressions.{at_first}
use Rattle.sml_scopes.specs.Means.{Means}
use Rattle.sml_types.specs.Variables.{place_in}
use Rattle.sml_asks.specs.Solvers.{AreNames}
use Rattle.sml_asks.proofs.Beginning.{solvers-start-anew}
use Rattle.sml_core.specs.declared.context.Context.{Context}
use Rattle.sml_core.specs.Answered.{Begins, unit_of}
use Rattle.sml_core.specs.Bound.{IsAnew}
use Rattle.sml_core.specs.Seen.{AreFunctionsIn, AreValuesIn}

pub begun : (c : Context) (C : Env Name) (ns : List Name) → IsAnew (unit_of c) c.solver → c.rows.items ≡ [] → c.overloaded.items ≡ [] → c.recorder.wanted ≡ None → c.explicit.unknowns.entries ≡ []
    → Means c.scopes C → AreValuesIn 0 ns C → AreFunctionsIn 0 ns C → AreNames (unit_of c) c.new.next ns → Begins C ns c
begun c C ns anew rows overloaded quiet explicit means values functions names = record {
  at = record {
    solver = solvers-start-anew (unit_of c) c.new.next c.solver (at_first ns) (omega arith) anew.unit anew.spent anew.count anew.met names refl refl;
    rows = ap (map (λ r. (r.0, type_of r.1.value))) rows;
    overloaded = overloaded;
    quiet = quiet;
  };
  sees = record {
    means = means;
    values = values;
    functions = functions;
    scoped = λ x. ap (λ es. option_map free (place_in es x)) (sym explicit);
    variables = λ x t is. absurd (let e = is in cc);
    spelled = refl;
  };
}
