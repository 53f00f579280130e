use Rattle.std.proofs.Common.{◌≡◌, drop}
use Rattle.serde_json.specs.View.{items_view}
use Rattle.sml_client.specs.Settings.{names_utf8}
use Rattle.sml_client.proofs.settings.offers_utf8.Given as goal

abbrev pub invariant-loop-offered : goal.invariant-loop-offered
invariant-loop-offered l = names_utf8 (items_view (drop l.offered-index l.list)) ≡ names_utf8 (items_view l.list)
