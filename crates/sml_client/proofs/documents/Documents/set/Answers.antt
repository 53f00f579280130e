use Rattle.std.proofs.Common.{rules, Some, cond, ap, ◌∙◌}
use Rattle.std.specs.Prelude.{option_map}
use Rattle.std.specs.Str.{bytes_eq}
use Rattle.std.proofs.lemmas.Map.Text.{btree_map_updates_text}
use Rattle.sml_client.specs.declared.documents.Document.{Document}
use Rattle.sml_client.specs.Documents.{at_path, renewed}
use Rattle.sml_client.proofs.documents.Documents.set.Goals as goal

pub returns-in-Some-clause-set : goal.returns-in-Some-clause-set
returns-in-Some-clause-set c = λ other.
    let path = c.args.path.now in
    let old = c.args.self.now in
    let now : Document = renewed c.args.version c.args.text c.in-Some.document.now in
    btree_map_updates_text path old.open (c.get_mut.follows.lender now) (Some now) ((c.get_mut.follows.holds now).3 (search rules)) other
    ∙ ap (λ o. cond (bytes_eq path other) (option_map (λ d. renewed c.args.version c.args.text d) o) (at_path old other)) c.in-Some.ensures.value
