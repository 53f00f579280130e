use Rattle.std.proofs.Common.{◌≡◌, drop, map}
use Rattle.serde_json.specs.View.{view}
use Rattle.sml_client.specs.Values.{at_names}
use Rattle.sml_client.proofs.values.value_at.Given as goal

abbrev pub invariant-loop-name : goal.invariant-loop-name
invariant-loop-name l = at_names (map (λ n. n.now) (drop l.name-index l.names)) (view l.found) ≡ at_names (map (λ n. n.now) l.names) (view l.value)
